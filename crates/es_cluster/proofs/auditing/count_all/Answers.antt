use Rattle.std.proofs.Common.{◌<◌, ◌+◌, ◌∙◌, Some, ap, sym, subst, length, arith}
use Rattle.std.specs.Prelude.{slice_get}
use Rattle.es_event.specs.Ledger.{table}
use Rattle.es_event.specs.Rows.{held}
use Rattle.es_ledger.specs.Audits.{held_below}
use Rattle.es_ledger.specs.LedgerView.{LedgerView}
use Rattle.es_cluster.specs.Members.{MemberView, SameRows, rows_of}
use Rattle.es_cluster.specs.State.{cores}
use Rattle.es_cluster.proofs.Counting.{one_more, set_again}
use Rattle.es_cluster.proofs.Standing.{cores_length, found_at, within}
use Rattle.es_cluster.proofs.auditing.count_all.Goals as goal

pub count_with-count-requires-clause-known : goal.count_with-count-requires-clause-known
count_with-count-requires-clause-known g c =
    let v = c.loop-agent.invariant in
    let size = cores_length c.loop-agent.members.items in
    let inside : c.loop-agent.agent < length (cores c.loop-agent.members.items) = omega (arith, c.loop-agent-test.true, c.len-agent-end.ensures, ap (λ (ms : _). length ms) v.same, size) in
    let here = found_at c.loop-agent.members.items c.loop-agent.agent _ inside ∙ ap (λ (m : MemberView). Some m.core) (sym c.index_mut.ensures.value) in
    let placed = c.requires.placed.each c.loop-agent.agent c.index_mut.result.now.core (ap (λ (ms : _). slice_get (cores ms) c.loop-agent.agent) (sym v.same) ∙ here) in
    subst (λ n. c.index_mut.result.now.core.number < n) (sym (ap (λ (l : LedgerView). l.agents) v.ledger)) placed.seated.known

pub count_with-count-requires-clause-before : goal.count_with-count-requires-clause-before
count_with-count-requires-clause-before g c =
    let v = c.loop-agent.invariant in
    let size = cores_length c.loop-agent.members.items in
    let inside : c.loop-agent.agent < length (cores c.loop-agent.members.items) = omega (arith, c.loop-agent-test.true, c.len-agent-end.ensures, ap (λ (ms : _). length ms) v.same, size) in
    let here = found_at c.loop-agent.members.items c.loop-agent.agent _ inside ∙ ap (λ (m : MemberView). Some m.core) (sym c.index_mut.ensures.value) in
    let placed = c.requires.placed.each c.loop-agent.agent c.index_mut.result.now.core (ap (λ (ms : _). slice_get (cores ms) c.loop-agent.agent) (sym v.same) ∙ here) in
    v.count ∙ ap (λ n. held_below n c.args.ledger.now.history) (sym placed.number) ∙ ap (λ (l : LedgerView). held_below c.index_mut.result.now.core.number l.history) (sym v.ledger)

pub loop-agent-preserved : goal.loop-agent-preserved
loop-agent-preserved g c =
    let v = c.loop-agent.invariant in
    let size = cores_length c.loop-agent.members.items in
    let inside : c.loop-agent.agent < length (cores c.loop-agent.members.items) = omega (arith, c.loop-agent-test.true, c.len-agent-end.ensures, ap (λ (ms : _). length ms) v.same, size) in
    let found = found_at c.loop-agent.members.items c.loop-agent.agent _ inside ∙ ap (λ (m : MemberView). Some m.core) (sym c.index_mut.ensures.value) in
    let here = ap (λ (ms : _). slice_get (cores ms) c.loop-agent.agent) (sym v.same) ∙ found in
    let number = (c.requires.placed.each c.loop-agent.agent c.index_mut.result.now.core here).number in
    let after = c.count_with-count.ensures in
    record {
      same =
          set_again c.loop-agent.members.items c.loop-agent.agent c.count_with-count.new.self _ (after.same.0 ∙ c.index_mut.ensures.value) (omega (arith, inside, size)) ∙ v.same;
      ledger = after.same.1 ∙ v.ledger;
      count = after.count ∙ ap (λ n. held_below (n + 1) c.loop-agent.ledger.history) number ∙ ap (λ (l : LedgerView). held_below (c.loop-agent.agent + 1) l.history) v.ledger;
      rows =
          one_more (λ n b. SameRows (rows_of b) (held n (table c.args.ledger.now.history))) (cores c.args.members.now.items) c.loop-agent.agent c.index_mut.result.now.core here
          (subst (λ n. SameRows (rows_of c.index_mut.result.now.core) (held n (table c.args.ledger.now.history))) number
          (subst (λ (l : LedgerView). SameRows (rows_of c.index_mut.result.now.core) (held c.index_mut.result.now.core.number (table l.history))) v.ledger after.rows)) v.rows;
    }

pub returns-clause-rows : goal.returns-clause-rows
returns-clause-rows g c = λ n b is.
    let few = within (cores c.args.members.now.items) n b is in
    let size = cores_length c.args.members.now.items in
    c.loop-agent.invariant.rows n b (omega (arith, few, size, c.loop-agent-test.false, c.len-agent-end.ensures)) is
