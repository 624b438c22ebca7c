-- Where agents share no word, no two accesses race: there is none.
use Rattle.std.proofs.Common.{◌≡◌, ℕ, zero, suc, ◌+◌, ◌==◌, true, sym, ◌∙◌, ap, List, [], ◌∷◌, ◌++◌, append-nil, length, map, Some, None, inl, inr}
use Rattle.std.specs.Prelude.{slice_get}
use Rattle.std.specs.List.{list_all}
use Rattle.std.proofs.lemmas.Bool.{and_parts, cases_Bool, eqb-false, eqb-true}
use Rattle.es_event.specs.declared.plan.AgentPlan.{AgentPlan}
use Rattle.es_event.specs.declared.plan.Plan.{Plan}
use Rattle.es_laws.specs.Races.{has_no_race}
use Rattle.es_cluster.specs.State.{ClusterView, first_state, first_views}
use Rattle.es_cluster.specs.Turns.{AllTurned}
use Rattle.es_theorems.specs.Alone.{GoFar, Goes, Local, Locals, Lore, World, after_event, touched_now}
use Rattle.es_theorems.specs.Messages.{share_no_word, shares_no_word}
use Rattle.es_theorems.specs.Renamed.{local_of, world_of}
use Rattle.es_theorems.proofs.Beyond.{mine, others, touch_of}
use Rattle.es_theorems.proofs.Composing.{from_first}
use Rattle.es_theorems.proofs.Pending.{touch_due}
use Rattle.es_theorems.proofs.Racing.{no_race_by_names}
use Rattle.es_theorems.proofs.Silence.{touches_none}
use Rattle.es_theorems.proofs.Touching.{lore_mine, lore_other}
use Rattle.es_theorems.proofs.Calm.{wordless_calm}

abbrev AreWordless : Locals → Type 0
AreWordless all = (i : ℕ) (a : Local) → slice_get all i ≡ Some a → shares_no_word a.plan ≡ true

-- Steps of such agents

no_touch : (n : ℕ) (w : World) (i : ℕ) (t : World) → AreWordless w.locals → (x : Goes n w i t) → touch_of n w i t x ≡ None
no_touch n w i t wordless x =
    touch_due n w.locals w.words i x.before x.event x.row x.got x.next x.finds ∙ touches_none x.before.over x.before.plan x.before.history (wordless i x.before x.at) x.run.1

still_wordless : (n : ℕ) (w : World) (i : ℕ) (t : World) → AreWordless w.locals → Goes n w i t → AreWordless t.locals
still_wordless n w i t wordless x j a at = elim (cases_Bool (i == j)) [
  | inl here ↦ (
      let same : after_event x.before x.event x.row x.got ≡ a = (let two = sym (mine n w i t x) ∙ (ap (slice_get t.locals) (eqb-true i j here) ∙ at) in cc) in
      ap (λ (a : Local). shares_no_word a.plan) (sym same) ∙ wordless i x.before x.at)
  | inr off ↦ wordless j a (sym (others n w i t x j (eqb-false i j off)) ∙ at)
]

touched_same : (n : ℕ) (w : World) (i : ℕ) (t : World) → AreWordless w.locals → Goes n w i t → (j : ℕ) → (t.lore j).touched ≡ (w.lore j).touched
touched_same n w i t wordless x j = elim (cases_Bool (i == j)) [
  | inl here ↦ (
      let same = eqb-true i j here in
      ap (λ k. (t.lore k).touched) (sym same) ∙ ap (λ (o : Lore). o.touched) (lore_mine n w i t x)
      ∙ (ap (λ q. (w.lore i).touched ++ touched_now (w.lore i).knows w.words q) (no_touch n w i t wordless x) ∙ append-nil (w.lore i).touched)
      ∙ ap (λ k. (w.lore k).touched) same)
  | inr off ↦ ap (λ (o : Lore). o.touched) (lore_other n w i t x j (eqb-false i j off))
]

none_touched : (n k : ℕ) (w end : World) → AreWordless w.locals → GoFar n k w end → (j : ℕ) → (end.lore j).touched ≡ (w.lore j).touched
none_touched n zero w end wordless far j = ap (λ (v : World). (v.lore j).touched) far
none_touched n (suc k) w end wordless (i, mid, x, far) j = none_touched n k mid end (still_wordless n w i mid wordless x) far j ∙ touched_same n w i mid wordless x j

-- A plan

first_wordless : (k agents n : ℕ) (ps : List AgentPlan) → list_all shares_no_word ps ≡ true → AreWordless (map (local_of k []) (first_views agents n ps))
first_wordless k agents n [] shares i a is = cc
first_wordless k agents n (p ∷ ps) shares zero a is =
    let same : local_of k [] (record { plan = p; number = n; agents = agents; over = []; history = [] }) ≡ a = cc in
    ap (λ (a : Local). shares_no_word a.plan) (sym same) ∙ (and_parts (shares_no_word p) (list_all shares_no_word ps) shares).0
first_wordless k agents n (p ∷ ps) shares (suc i) a is = first_wordless k agents (n + 1) ps (and_parts (shares_no_word p) (list_all shares_no_word ps) shares).1 i a is

pub messages_alone : (plan : Plan) (ns : List ℕ) (c : ClusterView) → share_no_word plan ≡ true → AllTurned ns (first_state plan) c → has_no_race c.ledger.history ≡ true
messages_alone plan ns c shares turned =
    let n = length plan.agents in
    let x = from_first plan ns c (wordless_calm plan shares) turned in
    let none = none_touched n x.steps (world_of (first_state plan) (λ b x. 0)) (world_of c x.words) (first_wordless n n 0 plan.agents shares) x.far in
    no_race_by_names n c x.words x.along.number x.along.legal (λ i j p q y z other at_i at_j clash. (let off = ap (λ ts. slice_get ts p) (sym (none i)) ∙ at_i in cc))
