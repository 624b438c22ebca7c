-- To believe: the versions of the format.
use Rattle.std.specs.Prelude.{ℕ, ℤ, pos, Option, Some, None, if◌then◌else◌}
use Rattle.std.specs.Ordering.{int_eq}
use Rattle.es_reading.specs.declared.version.Version.{Version}
use Rattle.es_reading.specs.declared.version.Version.TheVariants.{One, Two, Three}

abbrev pub number_of_version : Version → ℕ
number_of_version One = 1
number_of_version Two = 2
number_of_version Three = 3

-- the version with this number
abbrev pub version_of : Option ℤ → Option Version
version_of None = None
version_of (Some z) = if int_eq z (pos 1) then Some One else (if int_eq z (pos 2) then Some Two else (if int_eq z (pos 3) then Some Three else None))
