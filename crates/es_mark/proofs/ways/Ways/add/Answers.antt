use Rattle.std.proofs.Common.{◌≡◌, ◌+◌, ◌∙◌, ap, sym, arith, length, false}
use Rattle.std.proofs.lemmas.List.{length_push}
use Rattle.es_mark.specs.Ways.{has_way}
use Rattle.es_mark.proofs.Adding.{added_one, added_none}
use Rattle.es_mark.proofs.Placing.{among_all, placed_more}
use Rattle.es_mark.proofs.ways.Ways.add.Goals as goal

pub returns-then-is_among-clause-added : goal.returns-then-is_among-clause-added
returns-then-is_among-clause-added c =
    let old = c.args.self.now.list in
    added_none old.items c.args.way.now (sym (c.if-is_among.ensures ∙ among_all old.items c.len.result c.args.way.now.value (omega (arith, c.len.ensures, old.ok.0))))

pub returns-clause-added : goal.returns-clause-added
returns-clause-added c =
    let old = c.args.self.now.list in
    rw c.in_ok-push_copy.ensures.ok
    (added_one old.items c.args.way.now (sym (c.if-is_among.ensures ∙ among_all old.items c.len.result c.args.way.now.value (omega (arith, c.len.ensures, old.ok.0)))))

pub invariant_of-self-2 : goal.invariant_of-self-2
invariant_of-self-2 c =
    let old = c.args.self.now.list in
    let none : has_way old.items c.args.way.now.value ≡ false =
    sym (c.if-is_among.ensures ∙ among_all old.items c.len.result c.args.way.now.value (omega (arith, c.len.ensures, old.ok.0))) in
    let size : c.len-2.result ≡ length old.items + 1 =
    omega (arith, c.len-2.ensures, c.push_copy.new.list.ok.0, ap length c.in_ok-push_copy.ensures.ok, length_push old.items c.args.way.now) in
    record {
      placed =
          rw (c.in_ok-push_copy.ensures.ok, c.number-number.ensures.same)
          (placed_more old.items c.args.self.now.places.items c.args.way.now c.args.self.now.placed c.requires none c.len-2.result size);
    }
