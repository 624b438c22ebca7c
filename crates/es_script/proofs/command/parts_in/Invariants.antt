use Rattle.std.proofs.Common.{◌≤◌, ℕ, List, ◌++◌, length, map}
use Rattle.json.specs.Token.{Token}
use Rattle.serde_json.specs.Data.{Data}
use Rattle.serde_json.specs.View.{items_of}
use Rattle.es_reading.specs.Part.{part_data}
use Rattle.es_script.specs.Taking.{TakesItems}
use Rattle.es_script.proofs.command.parts_in.Given as goal

-- whatever items are left, those so far come before them
abbrev pub invariant-parts : goal.invariant-parts
invariant-parts l = record {
  taken : (depth : ℕ) (ds : List Data) (r : List Token) → TakesItems depth l.reader (items_of ds) r → TakesItems depth l.fn.reader (items_of (map part_data l.parts.items ++ ds)) r;
  shorter : length l.reader ≤ length l.fn.reader;
}

abbrev pub decreases-parts : goal.decreases-parts
decreases-parts l = length l.reader
