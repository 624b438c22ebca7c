use Rattle.std.proofs.Common.{◌≡◌, ◌+◌, ◌*◌, ⊎_elim, [], ◌∷◌, false, length, length-append, Some, None, sym, ap, ◌∙◌, arith}
use Rattle.std.specs.Prelude.{slice_get, slice_index_or}
use Rattle.es_ticket.specs.Stakes.{StakeView}
use Rattle.es_ledger.proofs.Beginning.{got_new, still_false, still_none, new_ties}
use Rattle.es_ledger.proofs.ledger.LedgerCore.new.Goals as goal

pub loop-preserved : goal.loop-preserved
loop-preserved g c =
    let v = c.loop.invariant in
    let d = c.deal.ensures in
    let p = c.push_reserved.ensures in
    let e = c.push_reserved-in-loop.ensures in
    let w = c.push_reserved-in-loop-2.ensures in
    let b = c.push_reserved-in-loop-3.ensures in
    let x : StakeView = c.deal.result in
    record {
      empty = d.table.0;
      dealt = d.table.1 ∙ ap (λ n. n + 1) v.dealt;
      stakes = ap (λ l. length l) p.items ∙ length-append c.loop.stakes.items (x ∷ []) ∙ ap (λ n. n + 1) v.stakes;
      stake_room = (let q = p.capacity in let r = v.stake_room in omega arith);
      each = λ i s is. ⊎_elim
          (λ (was : slice_get c.loop.stakes.items i ≡ Some s). v.each i s was)
          (λ (new : (i ≡ length c.loop.stakes.items) × (x ≡ s)). (sym (ap (λ (y : StakeView). y.agent) new.1) ∙ d.stake.0 ∙ v.dealt ∙ sym v.stakes ∙ sym new.0, sym (ap (λ (y : StakeView). y.rows) new.1) ∙ d.stake.1))
          (got_new c.loop.stakes.items x s i (sym (ap (λ l. slice_get l i) p.items) ∙ is));
      ends = ap (λ l. length l) e.items ∙ length-append c.loop.ended.items (false ∷ []) ∙ ap (λ n. n + 1) v.ends;
      end_room = (let q = e.capacity in let r = v.end_room in omega arith);
      quiet = λ a. ap (λ l. slice_index_or l a false) e.items ∙ still_false c.loop.ended.items a v.quiet;
      waits = ap (λ l. length l) w.items ∙ length-append c.loop.waits.items (None ∷ []) ∙ ap (λ n. n + 1) v.waits;
      wait_room = (let q = w.capacity in let r = v.wait_room in omega arith);
      nobody = λ a. ap (λ l. slice_index_or l a None) w.items ∙ still_none c.loop.waits.items a v.nobody;
      sleeps = ap (λ l. length l) b.items ∙ length-append c.loop.asleep.items (false ∷ []) ∙ ap (λ n. n + 1) v.sleeps;
      sleep_room = (let q = b.capacity in let r = v.sleep_room in omega arith);
      awake = λ a. ap (λ l. slice_index_or l a false) b.items ∙ still_false c.loop.asleep.items a v.awake;
    }

pub invariant_of-ledger : goal.invariant_of-ledger
invariant_of-ledger g c =
    let v = c.loop.invariant in
    let dealt = v.dealt in
    let last = c.loop.auto.counter-end in
    let few = c.requires.few in
    let room = c.in_ok-reserve.ensures.room in
    new_ties _ _ _ (omega (arith, dealt, last, few)) (c.in_ok-reserve.ensures.same ∙ c.new-history.ensures) v.empty c.new-2.ensures (v.ends ∙ sym v.dealt) v.quiet (v.waits ∙ sym v.dealt) v.nobody (c.in_ok-ports.ensures.size ∙ ap (λ m. m * 8) (let e : c.args.agents ≡ _ = omega (arith, dealt, last) in e)) c.in_ok-ports.ensures.empty c.in_ok-ports.ensures.none c.in_ok-waiters.ensures.items (v.sleeps ∙ sym v.dealt) v.awake (omega (arith, dealt, last, room))
