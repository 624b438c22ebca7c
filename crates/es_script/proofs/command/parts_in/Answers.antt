use Rattle.std.proofs.Common.{◌≡◌, ◌<◌, [], ◌∷◌, ◌++◌, length, map, Some, None, sym, ap, ◌∙◌, subst, arith, append-nil}
use Rattle.json.specs.Json.{after_end_array}
use Rattle.serde_json.specs.View.{items_of}
use Rattle.es_reading.specs.Part.{part_data}
use Rattle.es_script.specs.Taking.{TakesItems}
use Rattle.es_script.proofs.Taking.{takes_item, takes_end, map_one}
use Rattle.es_script.proofs.command.parts_in.Goals as goal

pub parts-preserved : goal.parts-preserved
parts-preserved c =
    let l = c.parts in
    let part = c.in_ok-part.part in
    let next = c.part_in.new.reader in
    let unclosed : after_end_array l.reader ≡ None = grind arith in
    let unmoved : c.take_end_array.new.self ≡ l.reader = grind arith in
    let less : length next < length l.reader = rw (← unmoved) c.in_ok-part.ensures.shorter in
    let pushed : c.push.new.self.items ≡ l.parts.items ++ part ∷ [] = grind arith in
    record {
      taken = λ depth ds r t.
          let one = takes_item depth l.reader next r (part_data part) (items_of ds) unclosed less (rw (← unmoved) (c.in_ok-part.ensures.taken depth)) t in
          let all = l.invariant.taken depth (part_data part ∷ ds) r one in
          subst (λ es. TakesItems depth c.args.reader.now (items_of es) r) (sym (ap (λ ps. map part_data ps ++ ds) pushed ∙ map_one part_data l.parts.items part ds)) all;
      shorter = omega (arith, less, l.invariant.shorter);
    }

pub returns-clause-taken : goal.returns-clause-taken
returns-clause-taken c = λ depth.
    let l = c.parts in
    let r = c.take_end_array.new.self in
    let closed : after_end_array l.reader ≡ Some r = grind arith in
    subst (λ es. TakesItems depth c.args.reader.now (items_of es) r) (append-nil (map part_data l.parts.items)) (l.invariant.taken depth [] r (takes_end depth l.reader r closed))
