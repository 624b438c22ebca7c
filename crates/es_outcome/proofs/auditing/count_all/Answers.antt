use Rattle.std.proofs.Common.{◌<◌, ◌+◌, map, length, get_or, arith, ap, sym, ◌∙◌, subst}
use Rattle.std.specs.Prelude.{slice_get}
use Rattle.std.proofs.lemmas.List.{length-map}
use Rattle.std.proofs.Math.Seq.{map-set_same}
use Rattle.es_event.specs.Ledger.{table}
use Rattle.es_event.specs.Rows.{held}
use Rattle.es_ledger.specs.Audits.{held_below}
use Rattle.es_ledger.specs.LedgerView.{LedgerView}
use Rattle.es_cluster.specs.Members.{SameRows, rows_of}
use Rattle.es_cluster.proofs.Standing.{cores_length, within}
use Rattle.es_cluster.specs.State.{cores}
use Rattle.es_cluster.proofs.Counting.{one_more}
use Rattle.es_outcome.proofs.Placed.{lent_at}
use Rattle.es_outcome.proofs.auditing.count_all.Goals as goal

pub count_with-count-requires-clause-known : goal.count_with-count-requires-clause-known
count_with-count-requires-clause-known g c =
    let v = c.loop-member.invariant in
    let at = c.loop-member.member-index in
    let below : at < length c.loop-member.members = omega arith in
    let view = (get_or c.loop-member.members at c.member-item.result).now.core in
    let here = ap (λ (l : _). slice_get (cores l) at) (sym v.same) ∙ lent_at c.loop-member.members at c.member-item.result below in
    let number = c.requires.placed at view here in
    let size = sym (length-map c.loop-member.members (λ m. m.now)) ∙ ap (λ (l : _). length l) v.same ∙ length-map c.args.members.now (λ m. m.now) ∙ c.requires.all ∙ sym (ap (λ (l : LedgerView). l.agents) v.ledger) in
    omega (arith, number, below, size)

pub count_with-count-requires-clause-before : goal.count_with-count-requires-clause-before
count_with-count-requires-clause-before g c =
    let v = c.loop-member.invariant in
    let at = c.loop-member.member-index in
    let below : at < length c.loop-member.members = omega arith in
    let view = (get_or c.loop-member.members at c.member-item.result).now.core in
    let here = ap (λ (l : _). slice_get (cores l) at) (sym v.same) ∙ lent_at c.loop-member.members at c.member-item.result below in
    let number = c.requires.placed at view here in
    v.count ∙ ap (λ n. held_below n c.args.ledger.now.history) (sym number) ∙ ap (λ (l : LedgerView). held_below view.number l.history) (sym v.ledger)

pub loop-member-preserved : goal.loop-member-preserved
loop-member-preserved g c =
    let v = c.loop-member.invariant in
    let at = c.loop-member.member-index in
    let below : at < length c.loop-member.members = omega arith in
    let view = (get_or c.loop-member.members at c.member-item.result).now.core in
    let here = ap (λ (l : _). slice_get (cores l) at) (sym v.same) ∙ lent_at c.loop-member.members at c.member-item.result below in
    let number = c.requires.placed at view here in
    let after = c.count_with-count.ensures in
    record {
      same = map-set_same (λ m. m.now) c.loop-member.members at _ c.member-item.result after.same.0 ∙ v.same;
      ledger = after.same.1 ∙ v.ledger;
      count = after.count ∙ ap (λ n. held_below (n + 1) c.loop-member.ledger.history) number ∙ ap (λ (l : LedgerView). held_below (at + 1) l.history) v.ledger;
      rows =
          one_more (λ n b. SameRows (rows_of b) (held n (table c.args.ledger.now.history))) (cores (map (λ m. m.now) c.args.members.now)) at view here
          (subst (λ n. SameRows (rows_of view) (held n (table c.args.ledger.now.history))) number
          (subst (λ (l : LedgerView). SameRows (rows_of view) (held view.number (table l.history))) v.ledger after.rows)) v.rows;
    }

pub returns-clause-rows : goal.returns-clause-rows
returns-clause-rows g c = λ n b is.
    let few = within (cores (map (λ m. m.now) c.args.members.now)) n b is in
    let size = cores_length (map (λ m. m.now) c.args.members.now) ∙ length-map c.args.members.now (λ m. m.now) in
    c.loop-member.invariant.rows n b (omega (arith, few, size)) is
