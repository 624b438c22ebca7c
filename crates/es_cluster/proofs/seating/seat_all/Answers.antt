use Rattle.std.proofs.Common.{◌≡◌, suc, List, ◌∷◌, [], arith, ap, sym, ◌∙◌, length, length-append, Some}
use Rattle.std.specs.Prelude.{slice_get}
use Rattle.std.proofs.lemmas.Iterator.Adapters.{YieldsList-from_vec}
use Rattle.std.proofs.lemmas.Iterator.Consumers.{YieldsList-turn}
use Rattle.es_agent.specs.Tickets.{tickets}
use Rattle.es_cluster.specs.Members.{MemberView}
use Rattle.es_cluster.specs.State.{cores}
use Rattle.es_cluster.proofs.Beginning.{got, one_seated, next_last}
use Rattle.es_cluster.proofs.seating.seat_all.Goals as goal

pub new-requires-in-Ok-new-clause-planned : goal.new-requires-in-Ok-new-clause-planned
new-requires-in-Ok-new-clause-planned g c =
    let turn = YieldsList-turn (YieldsList-from_vec c.args.plans.items c.into_iter-plan-iterator.ensures.into_iter_gives.0 (c.into_iter-plan-iterator.ensures.into_iter_gives.1 ∙ c.args.plans.ok.0)) c.loop-plan.yielded c.loop-plan.plan-iterator c.loop-plan.yielded_by c.next.result c.next.new.self c.in-Some.plan c.in-Some.is c.next.ensures.steps in
    let number : c.in-Ok-new.core.number ≡ length c.loop-plan.yielded = ap (λ b. b.number) c.in-Ok-new.ensures ∙ c.len.ensures ∙ c.loop-plan.members.ok.0 ∙ c.loop-plan.invariant.size in
    ap (λ ps. slice_get ps c.in-Ok-new.core.number) (sym c.requires.planned)
    ∙ ap (λ n. slice_get c.args.plans.items n) number
    ∙ got c.args.plans.items (length c.loop-plan.yielded) c.in-Some.plan turn.0 turn.1
    ∙ ap (λ b. Some b.plan) (sym c.in-Ok-new.ensures)

pub new-requires-in-Ok-new-clause-number : goal.new-requires-in-Ok-new-clause-number
new-requires-in-Ok-new-clause-number g c =
    let front = next_last c.loop-plan.stakes.items c.pop.new.self.items c.in-Some-pop.stake c.in-Some-pop.ensures.items in
    let next = (c.loop-plan.invariant.next 0 c.in-Some-pop.stake (ap (λ ss. slice_get ss 0) front)).0 in
    let size = c.loop-plan.invariant.size in
    let number : c.in-Ok-new.core.number ≡ length c.loop-plan.members.items = ap (λ b. b.number) c.in-Ok-new.ensures ∙ c.len.ensures ∙ c.loop-plan.members.ok.0 in
    omega (arith, next, size, number)

pub new-requires-in-Ok-new-clause-empty : goal.new-requires-in-Ok-new-clause-empty
new-requires-in-Ok-new-clause-empty g c =
    let front = next_last c.loop-plan.stakes.items c.pop.new.self.items c.in-Some-pop.stake c.in-Some-pop.ensures.items in
    (ap (λ b. tickets b) c.in-Ok-new.ensures, (c.loop-plan.invariant.next 0 c.in-Some-pop.stake (ap (λ ss. slice_get ss 0) front)).1)

pub loop-plan-preserved : goal.loop-plan-preserved
loop-plan-preserved g c =
    let was = c.loop-plan.invariant in
    let front = next_last c.loop-plan.stakes.items c.pop.new.self.items c.in-Some-pop.stake c.in-Some-pop.ensures.items in
    let long = length-append c.loop-plan.yielded (c.in-Some.plan ∷ []) in
    let short = ap length c.in-Some-pop.ensures.items ∙ length-append c.pop.new.self.items (c.in-Some-pop.stake ∷ []) in
    let more = ap length c.push_reserved.ensures.items ∙ length-append c.loop-plan.members.items (c.new-in-Ok-new.result ∷ []) in
    record {
      seated = ap (λ (ms : List MemberView). cores ms) c.push_reserved.ensures.items
          ∙ one_seated c.loop-plan.members.items c.new-in-Ok-new.result c.len-count.result c.loop-plan.yielded c.in-Some.plan was.seated was.size
          (c.new-in-Ok-new.ensures.0 ∙ c.in-Ok-new.ensures ∙ ap (λ n. record { plan = c.in-Some.plan; number = n; agents = c.len-count.result; over = []; history = [] }) (c.len.ensures ∙ c.loop-plan.members.ok.0));
      size = (let size = was.size in omega (arith, size, long, more));
      stakes = (let stakes = was.stakes in omega (arith, stakes, long, short));
      next = λ i s is. (let was' = was.next (suc i) s (ap (λ ss. slice_get ss (suc i)) front ∙ is) in ((let a = was'.0 in omega (arith, a, long)), was'.1));
      room = (let room = was.room in let capacity = c.push_reserved.ensures.capacity in omega (arith, room, capacity));
    }
