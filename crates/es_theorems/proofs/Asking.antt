-- An agent that asks for a message, finds none and is not told to stay, may skip its job by the agents' own names.
use Rattle.std.proofs.Common.{◌≡◌, ◌≢◌, ℕ, ◌<◌, ◌==◌, ◌&&◌, ◌||◌, not, Bool, true, false, cond, sym, ◌∙◌, ap, refl, subst, ◌∷◌, Option, Some, None}
use Rattle.std.specs.Prelude.{is_some, slice_get}
use Rattle.std.proofs.lemmas.Bool.{eqb-true, and_parts}
use Rattle.es_event.specs.declared.ledger_event.LedgerEvent.TheVariants.{Acted}
use Rattle.es_event.specs.declared.ledger_event.Act.TheVariants.{Passed, Waiting}
use Rattle.es_event.specs.Ledger.{Ledger, ended, waits}
use Rattle.es_event.specs.Waiters.{asleep}
use Rattle.es_event.specs.LegalLedger.{ComesNext, LegalSoFar, has_message, owed, skips}
use Rattle.es_ledger.specs.Turns.{asked, judged, told, waits_for}
use Rattle.es_ledger.specs.declared.turn.Turn.{Turn}
use Rattle.es_ledger.specs.declared.turn.Turn.TheVariants.{Ready, Skip, Stay}
use Rattle.es_match.specs.Cluster.{DeedsMeet}
use Rattle.es_match.specs.Deeds.{Waits}
use Rattle.es_match.specs.Patience.{drained_last, has_drained, may_do, may_stir, patient}
use Rattle.es_record.specs.AgentView.{AgentView}
use Rattle.es_rules.specs.Needs.{asks_message, need}
use Rattle.es_cluster.specs.Tied.{IsTied, came_to}
use Rattle.es_cluster.proofs.Growing.{part_waits}
use Rattle.es_cluster.specs.State.{ClusterView}
use Rattle.es_theorems.specs.Together.{Stands, StandsAt}
use Rattle.es_theorems.specs.Alone.{MaySkip}
use Rattle.es_theorems.specs.Renamed.{locals_of}
use Rattle.es_theorems.proofs.Still.{waits_locals}
use Rattle.es_theorems.proofs.Skipping.{may_skip}
use Rattle.es_theorems.proofs.Calm.{calm_awake}

-- its wait was recorded
abbrev asking : ClusterView → ℕ → ℕ → ClusterView
asking c i s = record { agents = c.agents; ledger = record { agents = c.ledger.agents; history = Acted i (Waiting s) ∷ c.ledger.history }; failed = c.failed }

waits_tied : (l : Ledger) (i s : ℕ) (b mine : AgentView) → waits l i ≡ None → asleep l i ≡ false → has_drained l ≡ false → IsTied b l → (b.number ≡ i → b ≡ mine) → need mine ≡ asks_message s → IsTied b (Acted i (Waiting s) ∷ l)
waits_tied l i s b mine free awake dry tied own asks = record {
  ties = subst (λ p. DeedsMeet b.history p (came_to b)) (sym (part_waits l (Acted i (Waiting s)) i b.number (Waits s) refl refl)) tied.ties;
  awaits = λ t is. awaits t (i == b.number) refl is;
  sleeps = tied.sleeps;
  waits_end = ap (λ w. (may_do w (Waits s) && may_stir (asleep l i) (Waits s)) && patient l) free ∙ ap (λ b. may_stir b (Waits s) && patient l) awake ∙ tied.waits_end;
  drains_end = ap (λ d. (false || not d) && drained_last l) dry ∙ tied.drains_end;
}
  where
    awaits : (t : ℕ) (x : Bool) → (i == b.number) ≡ x → cond x (Some s) (waits l b.number) ≡ Some t → need b ≡ asks_message t
    awaits t true here is = let same : s ≡ t = cc in ap need (own (sym (eqb-true i b.number here))) ∙ asks ∙ ap asks_message same
    awaits t false here is = tied.awaits t is

stands_asking : (c : ClusterView) (i s : ℕ) (b : AgentView) → Stands c → has_drained c.ledger.history ≡ false → slice_get c.agents i ≡ Some b → waits c.ledger.history i ≡ None → asleep c.ledger.history i ≡ false → need b ≡ asks_message s → Stands (asking c i s)
stands_asking c i s b stands dry at free awake asks = record {
  size = stands.size;
  each = λ j a is. (let was : StandsAt c j a = stands.each j a is in record {
    number = was.number;
    tied = waits_tied c.ledger.history i s a b free awake dry was.tied (λ same. mine j a is (sym was.number ∙ same)) asks;
    seated = record { known = was.seated.known; agents = was.seated.agents; over = was.seated.over };
    run = was.run;
    calm = was.calm;
  });
  undrained = refl;
}
  where
    mine : (j : ℕ) (a : AgentView) → slice_get c.agents j ≡ Some a → j ≡ i → a ≡ b
    mine j a is same = let two = sym is ∙ ap (slice_get c.agents) same ∙ at in cc

legal_asking : (n : ℕ) (l : Ledger) (i s : ℕ) (o : Option ℕ) → o ≡ None → i < n → s < n → (i ≢ s) → has_message l s i ≡ false → waits l i ≡ None → ended l i ≡ false → asleep l i ≡ false → ComesNext n l (Acted i (Waiting s)) o
legal_asking n l i s None is known there other none free going awake = (known, there, other, none, free, going, awake)
legal_asking n l i s (Some k) is known there other none free going awake = cc

-- the test by which it does not stay
not_stay : (t : Bool) (l : Ledger) (i s : ℕ) → ((cond {A = Turn × Ledger} t (Skip, Acted i (Passed s) ∷ l) (Stay, l)).0 ≡ Stay → ⊥) → t ≡ true
not_stay true l i s off = refl
not_stay false l i s off = absurd (off refl)

pub skips_here : (c : ClusterView) (i s : ℕ) (b : AgentView) → Stands c → LegalSoFar c.ledger.agents c.ledger.history → has_drained c.ledger.history ≡ false → slice_get c.agents i ≡ Some b → need b ≡ asks_message s → i < c.ledger.agents → s < c.ledger.agents → (i ≢ s)
    → has_message c.ledger.history s i ≡ false → ended c.ledger.history i ≡ false → ((told c.ledger.history c.ledger.agents i s).0 ≡ Stay → ⊥) → MaySkip (locals_of c) i s
skips_here c i s b stands legal dry at asks known there other none going off = by_wait (waits c.ledger.history i) refl
  where
    n : ℕ
    n = c.ledger.agents

    l : Ledger
    l = c.ledger.history

    awake : asleep l i ≡ false
    awake = ap (asleep l) (sym (stands.each i b at).number) ∙ calm_awake b l (stands.each i b at).calm (stands.each i b at).tied

    judge : (judged (asked l i s) n i s).0 ≡ Stay → ⊥
    judge stay = off (ap (λ t. (cond {A = Turn × Ledger} t (Ready, l) (judged (asked l i s) n i s)).0) none ∙ stay)

    skip_of : (m : Ledger) → asked l i s ≡ m → skips m n i s ≡ true
    skip_of m is = (and_parts (waits_for m i s) (skips m n i s) (not_stay (waits_for m i s && skips m n i s) m i s (λ stay. judge (ap (λ m. (judged m n i s).0) is ∙ stay)))).1

    by_wait : (w : Option ℕ) → waits l i ≡ w → MaySkip (locals_of c) i s
    by_wait (Some t) is = may_skip c stands legal dry i s there (skip_of l (ap (λ w. cond (is_some w || asleep l i) l (Acted i (Waiting s) ∷ l)) is))
    by_wait None is =
        let skip : skips (Acted i (Waiting s) ∷ l) n i s ≡ true = skip_of (Acted i (Waiting s) ∷ l) (ap (λ w. cond (is_some w || asleep l i) l (Acted i (Waiting s) ∷ l)) is ∙ ap (λ b. cond b l (Acted i (Waiting s) ∷ l)) awake) in
        subst (λ all. MaySkip all i s) (waits_locals n l i s c.agents)
        (may_skip (asking c i s) (stands_asking c i s b stands dry at is awake asks) (legal_asking n l i s (owed l) stands.undrained known there other none is going awake, legal) dry i s there skip)
