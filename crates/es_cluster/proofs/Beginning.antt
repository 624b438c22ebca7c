-- A cluster before its first event.
use Rattle.std.proofs.Common.{◌≡◌, ℕ, zero, suc, ◌+◌, ◌<◌, true, sym, ◌∙◌, ap, refl, subst, arith, List, [], ◌∷◌, ◌++◌, reverse, length, map, get_or, Some}
use Rattle.std.specs.Prelude.{slice_get}
use Rattle.std.specs.List.{list_all}
use Rattle.std.proofs.lemmas.Bool.{and_parts}
use Rattle.std.proofs.lemmas.List.{map-append, reverse-append}
use Rattle.es_event.specs.declared.plan.AgentPlan.{AgentPlan}
use Rattle.es_event.specs.declared.plan.Plan.{Plan}
use Rattle.es_event.specs.Jobs.{callbacks_collect_nothing}
use Rattle.es_event.specs.Others.{names_others, each_names_others}
use Rattle.es_event.specs.Ledger.{ended}
use Rattle.es_ledger.specs.LedgerView.{LedgerView}
use Rattle.es_match.specs.Patience.{patient, drained_last}
use Rattle.es_match.specs.Deeds.{part}
use Rattle.es_record.specs.AgentView.{AgentView}
use Rattle.es_cluster.specs.Members.{MemberView}
use Rattle.es_cluster.specs.Tied.{IsTied}
use Rattle.es_cluster.specs.Moves.{cleans_quietly}
use Rattle.es_cluster.specs.State.{ClusterView, cores, names_of, plans, first_views, first_state, IsPlaced, ArePlaced, AreTied}

abbrev pub first_view : ℕ → ℕ → AgentPlan → AgentView
first_view agents n p = record { plan = p; number = n; agents = agents; over = []; history = [] }

pub first_plans : (agents n : ℕ) (ps : List AgentPlan) → plans (first_views agents n ps) ≡ ps
first_plans agents n [] = refl
first_plans agents n (p ∷ ps) = ap (λ qs. p ∷ qs) (first_plans agents (n + 1) ps)

-- its plans are those of the plan, so no callback collects where none of the plan's does
pub starts_quiet : (p : Plan) (c : ClusterView) → c ≡ first_state p → list_all callbacks_collect_nothing p.agents ≡ true → cleans_quietly c ≡ true
starts_quiet p c is quiet = ap cleans_quietly is ∙ ap (list_all callbacks_collect_nothing) (first_plans (length p.agents) 0 p.agents) ∙ quiet

-- one more
pub first_more : (agents n : ℕ) (ps : List AgentPlan) (p : AgentPlan) → first_views agents n (ps ++ p ∷ []) ≡ first_views agents n ps ++ first_view agents (n + length ps) p ∷ []
first_more agents n [] p = ap (λ m. first_view agents m p ∷ []) (let same : n ≡ n + 0 = omega arith in same)
first_more agents n (q ∷ ps) p =
    ap (λ bs. first_view agents n q ∷ bs)
    (first_more agents (n + 1) ps p ∙ ap (λ m. first_views agents (n + 1) ps ++ first_view agents m p ∷ []) (let same : n + 1 + length ps ≡ n + suc (length ps) = omega arith in same))

pub one_seated : (ms : List MemberView) (m : MemberView) (agents : ℕ) (ps : List AgentPlan) (p : AgentPlan) → cores ms ≡ first_views agents 0 ps → length ms ≡ length ps → m.core ≡ first_view agents (length ms) p
    → cores (ms ++ m ∷ []) ≡ first_views agents 0 (ps ++ p ∷ [])
one_seated ms m agents ps p before size is =
    map-append (λ m. m.core) ms (m ∷ [])
    ∙ ap (λ bs. bs ++ m.core ∷ []) before
    ∙ ap (λ b. first_views agents 0 ps ++ b ∷ []) (is ∙ ap (λ n. first_view agents n p) size)
    ∙ ap (λ n. first_views agents 0 ps ++ first_view agents n p ∷ []) (let same : length ps ≡ 0 + length ps = omega arith in same)
    ∙ sym (first_more agents 0 ps p)

pub first_length : (agents n : ℕ) (ps : List AgentPlan) → length (first_views agents n ps) ≡ length ps
first_length agents n [] = refl
first_length agents n (p ∷ ps) = ap suc (first_length agents (n + 1) ps)

-- What is at a place

pub got : {X : Type 0} (xs : List X) (i : ℕ) (x : X) → i < length xs → x ≡ get_or xs i x → slice_get xs i ≡ Some x
got [] i x within is = absurd (omega (arith, within))
got (y ∷ xs) zero x within is = ap (λ z. Some z) (sym is)
got (y ∷ xs) (suc i) x within is = got xs i x (omega (arith, within)) is

-- The last first

pub next_last : {X : Type 0} (all left : List X) (x : X) → all ≡ left ++ x ∷ [] → reverse all ≡ x ∷ reverse left
next_last all left x is = ap reverse is ∙ reverse-append left (x ∷ [])

-- What holds of it

first_at : (agents n : ℕ) (ps : List AgentPlan) (i : ℕ) (b : AgentView) → each_names_others agents n ps ≡ true → slice_get (first_views agents n ps) i ≡ Some b
    → (p : AgentPlan) × (b ≡ first_view agents (n + i) p) × (names_others agents (n + i) p ≡ true) × (i < length ps)
first_at agents n [] i b others is = cc
first_at agents n (p ∷ ps) zero b others is =
    let same : n ≡ n + 0 = omega arith in
    let found : b ≡ first_view agents n p = cc in
    (p, found ∙ ap (λ m. first_view agents m p) same, ap (λ m. names_others agents m p) (sym same) ∙ (and_parts (names_others agents n p) (each_names_others agents (n + 1) ps) others).0, omega arith)
first_at agents n (p ∷ ps) (suc i) b others is =
    let rest = first_at agents (n + 1) ps i b (and_parts (names_others agents n p) (each_names_others agents (n + 1) ps) others).1 is in
    let same : n + 1 + i ≡ n + suc i = omega arith in
    (rest.0, rest.1 ∙ ap (λ m. first_view agents m rest.0) same, ap (λ m. names_others agents m rest.0) (sym same) ∙ rest.2, (let r = rest.3 in omega (arith, r)))

placed_view : (agents n : ℕ) (p : AgentPlan) (l : LedgerView) → l.agents ≡ agents → l.history ≡ [] → names_others agents n p ≡ true → n < agents → IsPlaced l n (first_view agents n p)
placed_view agents n p l size none others within = record {
  number = refl;
  seated = record {
    known = subst (λ k. n < k) (sym size) within;
    agents = sym size;
    over = ap (λ h. ended h n) none;
  };
  others = ap (λ k. names_others k n p) size ∙ others;
}

tied_view : (agents n : ℕ) (p : AgentPlan) (l : LedgerView) → l.history ≡ [] → IsTied (first_view agents n p) l.history
tied_view agents n p l none = subst (IsTied (first_view agents n p)) (sym none) (record {
  ties = (refl, refl);
  awaits = λ s is. cc;
  sleeps = λ s is. cc;
  waits_end = refl;
  drains_end = refl;
})

pub first_holds : (ps : List AgentPlan) (bs : List AgentView) (l : LedgerView) → bs ≡ first_views (length ps) 0 ps → l.agents ≡ length ps → l.history ≡ [] → each_names_others (length ps) 0 ps ≡ true → ArePlaced bs l × AreTied bs l
first_holds ps bs l are size none others = subst (λ bs. ArePlaced bs l × AreTied bs l) (sym are) (
  record {
    size = first_length (length ps) 0 ps ∙ sym size;
    each = λ n b is.
        (let at = first_at (length ps) 0 ps n b others is in
        let same : 0 + n ≡ n = omega arith in
        subst (λ b. IsPlaced l n b) (sym (at.1 ∙ ap (λ m. first_view (length ps) m at.0) same))
        (placed_view (length ps) n at.0 l size none (ap (λ m. names_others (length ps) m at.0) (sym same) ∙ at.2) at.3));
  },
  record {
    each = λ n b is.
        (let at = first_at (length ps) 0 ps n b others is in
        subst (λ b. IsTied b l.history) (sym at.1) (tied_view (length ps) (0 + n) at.0 l none));
    strangers = λ a beyond. ap (λ h. part h a) none;
    waits_end = ap patient none;
    drains_end = ap drained_last none;
  },
)

pub first_names : (agents n : ℕ) (ps : List AgentPlan) → names_of (first_views agents n ps) ≡ map (λ p. p.name) ps
first_names agents n [] = refl
first_names agents n (p ∷ ps) = ap (λ ns. p.name ∷ ns) (first_names agents (n + 1) ps)
