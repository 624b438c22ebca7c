-- What a step of one agent leaves of its work, and what it tells of who moves next.
use Rattle.std.proofs.Common.{◌≡◌, ℕ, zero, suc, Bool, true, false, sym, ◌∙◌, ap, refl, subst, arith, List, [], ◌∷◌, map, Some, Result, Ok, Err, inl, inr}
use Rattle.std.specs.Prelude.{IfOk, slice_get}
use Rattle.std.specs.List.{list_all}
use Rattle.std.specs.Option.{option_map_or}
use Rattle.std.proofs.lemmas.Bool.{and_parts}
use Rattle.es_value.specs.declared.error.NoMemory.{NoMemory}
use Rattle.es_event.proofs.Work.{plan_work, cleanup_work}
use Rattle.es_event.specs.declared.plan.AgentPlan.{AgentPlan}
use Rattle.es_event.specs.Jobs.{callbacks_collect_nothing}
use Rattle.es_event.specs.Order.{is_cleaning_up}
use Rattle.es_event.specs.Runs.{IsRunOver}
use Rattle.es_cluster.specs.declared.member.Progress.{Progress}
use Rattle.es_cluster.specs.declared.member.Progress.TheVariants.{Moved, Waiting, Ended}
use Rattle.es_record.specs.AgentView.{AgentView}
use Rattle.es_event.specs.Waiters.{asleep}
use Rattle.es_cluster.specs.Asked.{plan_left, cleans_at, IsLess, Sweeps, Works, Hears}
use Rattle.es_cluster.specs.Moves.{cleans_quietly, rests}
use Rattle.es_cluster.specs.State.{ClusterView, ArePlaced, AreTied}
use Rattle.es_cluster.specs.Turns.{Turned}
use Rattle.es_cluster.proofs.Resting.{is_idle, idle_rests, less_cleaning, less_next, sweeps}
use Rattle.es_cluster.proofs.Rounds.{hears, sleeping_there}
use Rattle.es_cluster.proofs.Standing.{set_here, within}

all_at : (test : AgentPlan → Bool) (bs : List AgentView) (n : ℕ) (b : AgentView) → list_all test (map (λ b. b.plan) bs) ≡ true → slice_get bs n ≡ Some b → test b.plan ≡ true
all_at test [] n b all is = cc
all_at test (c ∷ bs) zero b all is = let same : c ≡ b = cc in ap (λ b. test b.plan) (sym same) ∙ (and_parts (test c.plan) (list_all test (map (λ b. b.plan) bs)) all).0
all_at test (c ∷ bs) (suc n) b all is = all_at test bs n b (and_parts (test c.plan) (list_all test (map (λ b. b.plan) bs)) all).1 is

works : (p : Progress) (n : ℕ) (old new : ClusterView) → ArePlaced old.agents old.ledger → AreTied old.agents old.ledger → cleans_quietly old ≡ true → (t : Turned p n old new) → IsRunOver t.before.over t.before.plan t.before.history → Works p n old new
works Moved n old new placed tied quiet t run = (by_cleaning (is_cleaning_up t.before.history) refl, swept)
  where
    before : plan_left n old ≡ plan_work t.before.plan t.before.history
    before = ap (λ o. option_map_or (λ b. plan_work b.plan b.history) o 0) t.agent

    found : slice_get new.agents n ≡ Some t.after
    found = ap (λ bs. slice_get bs n) t.agents ∙ set_here old.agents n t.after (within old.agents n t.before t.agent)

    after : plan_left n new ≡ plan_work t.after.plan t.after.history
    after = ap (λ o. option_map_or (λ b. plan_work b.plan b.history) o 0) found

    swept : cleans_at n old ≡ true → Sweeps n new
    swept up = elim (sweeps t.before t.after run (sym (ap (λ o. option_map_or (λ b. is_cleaning_up b.history) o false) t.agent) ∙ up) t.turn) [
      | inl again ↦ inl (ap (λ o. option_map_or (λ b. is_cleaning_up b.history) o false) found ∙ again)
      | inr rest ↦ inr (ap (λ o. option_map_or rests o true) found ∙ rest)
    ]

    by_cleaning : (b : Bool) → is_cleaning_up t.before.history ≡ b → IsLess (cleans_at n old) n old new
    by_cleaning true up =
        let less = less_cleaning t.before t.after (all_at callbacks_collect_nothing old.agents n t.before quiet t.agent) run up t.turn in
        let queue_before = ap (λ o. option_map_or (λ b. cleanup_work b.plan b.history) o 0) t.agent in
        let queue_after = ap (λ o. option_map_or (λ b. cleanup_work b.plan b.history) o 0) found in
        let queue = less.1 in
        let here = ap (λ o. option_map_or (λ b. is_cleaning_up b.history) o false) t.agent ∙ up in
        subst (λ b. IsLess b n old new) (sym here) (after ∙ less.0 ∙ sym before, omega (arith, queue, queue_before, queue_after))
    by_cleaning false still =
        let less = less_next t.before t.after run still t.turn in
        let here = ap (λ o. option_map_or (λ b. is_cleaning_up b.history) o false) t.agent ∙ still in
        let was = before in
        let is = after in
        subst (λ b. IsLess b n old new) (sym here) (omega (arith, less, was, is))
works Waiting n old new placed tied quiet t run = elim t.told [
  | inl on ↦ inl (ap (λ o. option_map_or rests o true) t.agent ∙ idle_rests t.before run (ap is_idle on.1))
  | inr on ↦ inr (ap (asleep new.ledger.history) (sym (placed.each n t.before t.agent).number) ∙ sleeping_there t.before old.ledger new.ledger (tied.each n t.before t.agent) on)
]
works Ended n old new placed tied quiet t run = ap (λ o. option_map_or rests o true) t.agent ∙ idle_rests t.before run (ap is_idle t.turn.0)

pub stepped : (r : Result Progress NoMemory) (n : ℕ) (old new : ClusterView) (b : AgentView) → ArePlaced old.agents old.ledger → AreTied old.agents old.ledger → slice_get old.agents n ≡ Some b → IsRunOver b.over b.plan b.history → cleans_quietly old ≡ true
    → IfOk r (λ p. Turned p n old new) → IfOk r (λ p. Works p n old new) × IfOk r (λ p. Hears p n old new)
stepped (Ok p) n old new b placed tied here run quiet t =
    let same : b ≡ t.before = let found = sym here ∙ t.agent in cc in
    (works p n old new placed tied quiet t (subst (λ b. IsRunOver b.over b.plan b.history) same run), hears p n old new placed tied t)
stepped (Err e) n old new b placed tied here run quiet t = (tt, tt)
