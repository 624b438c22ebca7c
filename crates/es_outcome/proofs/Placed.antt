-- Agents in order, one after the other, and the plans that they have.
use Rattle.std.proofs.Common.{◌≡◌, ℕ, zero, suc, ◌<◌, Bool, true, false, List, [], ◌∷◌, Some, map, length, get_or, refl, sym, ap, ◌∙◌, arith, MutBor}
use Rattle.std.specs.Prelude.{slice_get}
use Rattle.es_event.specs.declared.plan.AgentPlan.{AgentPlan}
use Rattle.es_event.specs.declared.plan.Plan.{Plan}
use Rattle.es_record.specs.AgentView.{AgentView}
use Rattle.es_cluster.proofs.Mover.{over_asks_nothing}
use Rattle.es_cluster.specs.Moves.{is_over}
use Rattle.es_cluster.specs.State.{cores, plans}
use Rattle.es_cluster.specs.Members.{MemberView}
use Rattle.es_rules.specs.Needs.{asks_nothing, need}
use Rattle.es_outcome.specs.Places.{AreAtPlaces, ArePlanned}

-- the same of one that is lent
pub lent_at : (ms : List (MutBor MemberView)) (i : ℕ) (d : MutBor MemberView) → i < length ms → slice_get (cores (map (λ m. m.now) ms)) i ≡ Some (get_or ms i d).now.core
lent_at [] i d within = absurd (omega (arith, within))
lent_at (m ∷ ms) zero d within = refl
lent_at (m ∷ ms) (suc i) d within = lent_at ms i d (omega (arith, within))

-- an agent that does not ask for nothing goes on
pub still_going : (b : AgentView) (closed : Bool) → (need b ≡ asks_nothing → closed ≡ true) → closed ≡ false → is_over b ≡ false
still_going b closed back not_yet = by (is_over b) refl
  where
    by : (o : Bool) → is_over b ≡ o → is_over b ≡ false
    by true is = let clash : false ≡ true = sym not_yet ∙ back (over_asks_nothing b is) in cc
    by false is = is

planned_all : (bs : List AgentView) (ps : List AgentPlan) → length bs ≡ length ps → ((n : ℕ) (b : AgentView) → slice_get bs n ≡ Some b → slice_get ps n ≡ Some b.plan) → plans bs ≡ ps
planned_all [] [] size each = refl
planned_all [] (p ∷ ps) size each = cc
planned_all (b ∷ bs) [] size each = cc
planned_all (b ∷ bs) (p ∷ ps) size each =
    let first : Some p ≡ Some b.plan = each 0 b refl in
    let same : b.plan ≡ p = cc in
    ap (λ q. q ∷ plans bs) same ∙ ap (λ qs. p ∷ qs) (planned_all bs ps (omega (arith, size)) (λ n c is. each (suc n) c is))

-- agents in order, as many as the plan has, have its plans
pub planned : (p : Plan) (bs : List AgentView) → length bs ≡ length p.agents → AreAtPlaces bs → ArePlanned p bs → plans bs ≡ p.agents
planned p bs size placed each = planned_all bs p.agents size (λ n b is. ap (λ k. slice_get p.agents k) (sym (placed n b is)) ∙ each n b is)
