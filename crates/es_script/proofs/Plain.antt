-- Commands that stand behind no `try`.
use Rattle.std.proofs.Common.{◌≡◌, ℕ, Bool, true, false, List, [], ◌∷◌, ◌++◌, length, Some, None, refl, ap, subst}
use Rattle.std.specs.Prelude.{codes}
use Rattle.std.proofs.lemmas.List.{length-map, map-append}
use Rattle.std.specs.Str.{bytes_eq}
use Rattle.std.proofs.lemmas.Slice.Eq.{bytes_eq-Decides}
use Rattle.es_event.specs.declared.command.Command.{Command}
use Rattle.es_reading.specs.declared.version.Version.{Version}
use Rattle.es_reading.specs.declared.version.Version.TheVariants.{One, Two, Three}
use Rattle.es_reading.specs.Forms.{Form, form, is_try}
use Rattle.es_reading.specs.Lines.{and_catch, commands_in, catches_in}
use Rattle.es_script.specs.Taking.{plain}

-- `try` is the word of no command
pub no_try : (v : Version) (w : List ℕ) (n : ℕ) (f : Form) → form v w n ≡ Some f → is_try v w ≡ false
no_try One w n f e = refl
no_try Two w n f e = refl
no_try Three w n f e = by_word (bytes_eq w (codes "try")) refl
  where
    none : (w : List ℕ) → w ≡ codes "try" → form Three w n ≡ Some f → ⊥
    none w is e = let at_try = subst (λ w. form Three w n ≡ Some f) is e in cc

    by_word : (b : Bool) → bytes_eq w (codes "try") ≡ b → b ≡ false
    by_word false is = refl
    by_word true is = absurd (none w ((bytes_eq-Decides w (codes "try")).0 is) e)

-- they catch nothing
pub plain_commands : (cs : List Command) → commands_in (plain cs) ≡ cs
plain_commands [] = refl
plain_commands (c ∷ cs) = ap (λ cs. c ∷ cs) (plain_commands cs)

pub plain_catches : (cs : List Command) → catches_in (plain cs) ≡ []
plain_catches [] = refl
plain_catches (c ∷ cs) = ap (and_catch None) (plain_catches cs)

pub plain_length : (cs : List Command) → length (plain cs) ≡ length cs
plain_length cs = length-map cs (λ c. (None, c))

pub plain_last : (cs : List Command) (c : Command) → plain (cs ++ c ∷ []) ≡ plain cs ++ (None, c) ∷ []
plain_last cs c = map-append (λ c. (None, c)) cs (c ∷ [])
