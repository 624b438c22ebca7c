-- What lies in a port, and who waits in vain, by the agents' own names; so who may skip a job by the ledger may skip it by them.
use Rattle.std.proofs.Common.{◌≡◌, ℕ, zero, suc, ◌<◌, ◌||◌, Bool, true, false, sym, ◌∙◌, ap, refl, subst, arith, List, [], ◌∷◌, drop, map, Option, Some, None, inl, inr}
use Rattle.std.specs.Prelude.{is_some, slice_get}
use Rattle.std.specs.Option.{option_map, option_map_or}
use Rattle.es_event.specs.declared.ledger_event.Body.{Body}
use Rattle.es_event.specs.Ledger.{ended, port_of, waits}
use Rattle.es_event.specs.Waiters.{asleep}
use Rattle.es_event.specs.LegalLedger.{LegalSoFar, has_message, is_stuck, skips}
use Rattle.es_event.specs.Order.{due}
use Rattle.es_match.specs.Deeds.{part}
use Rattle.es_match.specs.Patience.{has_drained}
use Rattle.es_ledger.proofs.Emptying.{none_beyond}
use Rattle.es_record.specs.AgentView.{AgentView}
use Rattle.es_rules.specs.Needs.{asks_message, need}
use Rattle.es_rules.proofs.Needs.{message_due}
use Rattle.es_cluster.specs.State.{ClusterView}
use Rattle.es_cluster.proofs.Ended.{there}
use Rattle.es_cluster.proofs.Standing.{within}
use Rattle.es_theorems.specs.Together.{Stands, StandsAt}
use Rattle.es_theorems.specs.Alone.{Letter, LetsWait, Local, Locals, MaySkip, Rests, addressed, is_done, letters, sent_by, times}
use Rattle.es_theorems.specs.Renamed.{got_in, letter_of, local_of, locals_of, sent_in}
use Rattle.es_cluster.proofs.Mover.{settled_at}
use Rattle.es_ledger.proofs.Waking.{awake_unlisted}
use Rattle.es_theorems.proofs.Choosing.{Chosen, Skips, ended_below, skips_is, stuck_is}
use Rattle.es_theorems.proofs.Ports.{is_port}
use Rattle.es_theorems.proofs.Calm.{calm_awake}

-- An agent in its place

pub mapped_at : {X Y : Type 0} (f : X → Y) (xs : List X) (i : ℕ) → slice_get (map f xs) i ≡ option_map f (slice_get xs i)
mapped_at f [] i = refl
mapped_at f (x ∷ xs) zero = refl
mapped_at f (x ∷ xs) (suc i) = mapped_at f xs i

record Placed (c : ClusterView) (i : ℕ) (a : Local) : Type 0 where
  view : AgentView
  at : slice_get c.agents i ≡ Some view
  is : local_of c.ledger.agents c.ledger.history view ≡ a

placed : (c : ClusterView) (i : ℕ) (a : Local) → slice_get (locals_of c) i ≡ Some a → Placed c i a
placed c i a is = by_view (slice_get c.agents i) refl (sym (mapped_at (local_of c.ledger.agents c.ledger.history) c.agents i) ∙ is)
  where
    by_view : (o : Option AgentView) → slice_get c.agents i ≡ o → option_map (local_of c.ledger.agents c.ledger.history) o ≡ Some a → Placed c i a
    by_view None at is = cc
    by_view (Some b) at is = let same : local_of c.ledger.agents c.ledger.history b ≡ a = cc in record { view = b; at = at; is = same }

-- The messages in a port

no_letter : (f : Body → Letter) (ms : List Body) → is_some (slice_get ms 0) ≡ false → map f ms ≡ []
no_letter f [] none = refl
no_letter f (m ∷ ms) none = cc

-- the messages from s, which is there, to r
pub letters_are : (c : ClusterView) → Stands c → LegalSoFar c.ledger.agents c.ledger.history → has_drained c.ledger.history ≡ false → (s r : ℕ) (b : AgentView) → slice_get c.agents r ≡ Some b → (a : AgentView) → slice_get c.agents s ≡ Some a
    → letters (locals_of c) s r (local_of c.ledger.agents c.ledger.history b) ≡ map (letter_of c.ledger.agents c.ledger.history) (port_of c.ledger.history s r)
letters_are c stands legal dry s r b at a there =
    let n = c.ledger.agents in
    let l = c.ledger.history in
    let f = letter_of n l in
    let sent : sent_by (slice_get (locals_of c) s) r ≡ addressed r (sent_in f (part l s)) =
    ap (λ o. sent_by o r) (mapped_at (local_of n l) c.agents s ∙ ap (option_map (local_of n l)) there) ∙ ap (λ k. addressed r (sent_in f (part l k))) (stands.each s a there).number in
    ap (drop (times s (got_in (part l b.number)))) sent ∙ ap (λ k. drop (times s (got_in (part l k))) (addressed r (sent_in f (part l s)))) (stands.each r b at).number ∙ sym (is_port n f l s r legal dry).lies

-- of a sender that is not there nothing is
none_there : (all : Locals) (s r : ℕ) (b : Local) → slice_get all s ≡ None → letters all s r b ≡ []
none_there all s r b none = ap (λ o. drop (times s b.got) (sent_by o r)) none ∙ drop_none (times s b.got)
  where
    drop_none : (k : ℕ) → ◌≡◌ {A = List Letter} (drop k []) []
    drop_none zero = refl
    drop_none (suc k) = refl

-- whether the sender is there or not
pub letters_there : (c : ClusterView) → Stands c → LegalSoFar c.ledger.agents c.ledger.history → has_drained c.ledger.history ≡ false → (s r : ℕ) (b : AgentView) → slice_get c.agents r ≡ Some b
    → letters (locals_of c) s r (local_of c.ledger.agents c.ledger.history b) ≡ map (letter_of c.ledger.agents c.ledger.history) (port_of c.ledger.history s r)
letters_there c stands legal dry s r b at = by_sender (slice_get c.agents s) refl
  where
    f : AgentView → Local
    f = local_of c.ledger.agents c.ledger.history

    by_sender : (o : Option AgentView) → slice_get c.agents s ≡ o → letters (locals_of c) s r (f b) ≡ map (letter_of c.ledger.agents c.ledger.history) (port_of c.ledger.history s r)
    by_sender (Some a) is = letters_are c stands legal dry s r b at a is
    by_sender None is =
        none_there (locals_of c) s r (f b) (mapped_at f c.agents s ∙ ap (option_map f) is)
        ∙ sym (ap (map (letter_of c.ledger.agents c.ledger.history)) (none_beyond c.ledger.agents c.ledger.history s r legal (λ less other. nobody less)))
      where
        nobody : s < c.ledger.agents → ⊥
        nobody less = let found = there c.agents s (let size = stands.size in omega (arith, less, size)) in let clash = sym is ∙ found.1 in cc

-- Who waits in vain

done_is : (c : ClusterView) → Stands c → (s : ℕ) (a : AgentView) → slice_get c.agents s ≡ Some a → is_done (local_of c.ledger.agents c.ledger.history a) ≡ ended c.ledger.history s
done_is c stands s a at = sym (stands.each s a at).seated.over ∙ ap (ended c.ledger.history) (stands.each s a at).number

lets_wait : (c : ClusterView) → Stands c → LegalSoFar c.ledger.agents c.ledger.history → has_drained c.ledger.history ≡ false → (s r : ℕ) (b : AgentView) → slice_get c.agents r ≡ Some b → has_message c.ledger.history s r ≡ false → ended c.ledger.history s ≡ false
    → LetsWait (locals_of c) s r (local_of c.ledger.agents c.ledger.history b)
lets_wait c stands legal dry s r b at none going = by_sender (slice_get c.agents s) refl
  where
    f : AgentView → Local
    f = local_of c.ledger.agents c.ledger.history

    by_sender : (o : Option AgentView) → slice_get c.agents s ≡ o → LetsWait (locals_of c) s r (f b)
    by_sender None is =
        let off : slice_get (locals_of c) s ≡ None = mapped_at f c.agents s ∙ ap (option_map f) is in
        (none_there (locals_of c) s r (f b) off, ap (λ o. option_map_or is_done o false) off)
    by_sender (Some a) is = (
      letters_are c stands legal dry s r b at a is ∙ no_letter (letter_of c.ledger.agents c.ledger.history) (port_of c.ledger.history s r) none,
      ap (λ o. option_map_or is_done o false) (mapped_at f c.agents s ∙ ap (option_map f) is) ∙ done_is c stands s a is ∙ going,
    )

rests_there : (c : ClusterView) → Stands c → LegalSoFar c.ledger.agents c.ledger.history → has_drained c.ledger.history ≡ false → (j : ℕ) (b : AgentView) → slice_get c.agents j ≡ Some b → (ended c.ledger.history j || is_stuck c.ledger.history j) ≡ true
    → Rests (locals_of c) j (local_of c.ledger.agents c.ledger.history b)
rests_there c stands legal dry j b at is = by_end (ended c.ledger.history j) refl is
  where
    by_end : (e : Bool) → ended c.ledger.history j ≡ e → (e || is_stuck c.ledger.history j) ≡ true → Rests (locals_of c) j (local_of c.ledger.agents c.ledger.history b)
    by_end true e is = inl (done_is c stands j b at ∙ e)
    by_end false e is =
        let was : StandsAt c j b = stands.each j b at in
        let stuck = stuck_is c.ledger.history j (awake_unlisted c.ledger.agents c.ledger.history j legal (ap (asleep c.ledger.history) (sym was.number) ∙ calm_awake b c.ledger.history was.calm was.tied)) is in
        let asks : need b ≡ asks_message stuck.sender = was.tied.awaits stuck.sender (ap (λ k. waits c.ledger.history k) was.number ∙ stuck.waiting) in
        inr (stuck.sender, message_due b (due b.plan b.history) stuck.sender asks, lets_wait c stands legal dry stuck.sender j b at stuck.none stuck.going)

-- who skips by the ledger may skip here
pub may_skip : (c : ClusterView) → Stands c → LegalSoFar c.ledger.agents c.ledger.history → has_drained c.ledger.history ≡ false → (i s : ℕ) → s < c.ledger.agents → skips c.ledger.history c.ledger.agents i s ≡ true → MaySkip (locals_of c) i s
may_skip c stands legal dry i s known is = by_over (skips_is c.ledger.history c.ledger.agents i s is)
  where
    f : AgentView → Local
    f = local_of c.ledger.agents c.ledger.history

    within_all : (j : ℕ) (b : AgentView) → slice_get c.agents j ≡ Some b → j < c.ledger.agents
    within_all j b at = let less = within c.agents j b at in let size = stands.size in omega (arith, less, size)

    by_over : (over : Bool) × Skips c.ledger.history c.ledger.agents i s over → MaySkip (locals_of c) i s
    by_over (true, x) =
        let a = there c.agents s (let size = stands.size in omega (arith, known, size)) in
        inl (ap (λ o. option_map_or is_done o false) (mapped_at f c.agents s ∙ ap (option_map f) a.1) ∙ done_is c stands s a.0 a.1 ∙ x.ends)
    by_over (false, x) =
        let chosen : Chosen c.ledger.history c.ledger.agents i = x.chosen refl in
        inr (record {
          rest = λ j a is. (let p = placed c j a is in subst (Rests (locals_of c) j) p.is (rests_there c stands legal dry j p.view p.at (settled_at c.ledger.history c.ledger.agents j chosen.stuck (within_all j p.view p.at))));
          lower = λ j a is less. (let p = placed c j a is in ap is_done (sym p.is) ∙ done_is c stands j p.view p.at ∙ ended_below c.ledger.history i j chosen.lower less);
        })
