-- A turn of an agent that waits, or has ended, changes nothing by the agents' own names.
use Rattle.std.proofs.Common.{◌≡◌, ◌||◌, ℕ, Bool, true, false, cond, sym, ◌∙◌, ap, refl, subst, arith, List, [], ◌∷◌, ◌++◌, map}
use Rattle.std.specs.Prelude.{is_some, slice_set}
use Rattle.es_event.specs.declared.ledger_event.Body.{Body}
use Rattle.es_event.specs.declared.ledger_event.Body.TheVariants.{Plain, Block}
use Rattle.es_event.specs.declared.ledger_event.LedgerEvent.TheVariants.{Acted}
use Rattle.es_event.specs.declared.ledger_event.Act.TheVariants.{Waiting as WaitingEvent}
use Rattle.es_event.specs.Ledger.{Ledger, waits}
use Rattle.es_event.specs.Waiters.{asleep}
use Rattle.es_ledger.specs.LedgerView.{LedgerView}
use Rattle.es_ledger.specs.Turns.{told}
use Rattle.es_ledger.specs.declared.turn.Turn.{Turn}
use Rattle.es_ledger.specs.declared.turn.Turn.TheVariants.{Stay}
use Rattle.es_match.specs.Deeds.{Deed, Posts, Waits, part}
use Rattle.es_record.specs.AgentView.{AgentView}
use Rattle.es_cluster.proofs.Growing.{part_waits}
use Rattle.es_cluster.proofs.Hearing.{where_stay}
use Rattle.es_cluster.specs.declared.member.Progress.TheVariants.{Waiting, Ended}
use Rattle.es_cluster.specs.State.{ClusterView}
use Rattle.es_cluster.specs.Turns.{Turned}
use Rattle.es_cluster.specs.Turned.{WaitsOn}
use Rattle.es_cluster.proofs.Standing.{set_same}
use Rattle.es_theorems.specs.Alone.{Letter, Words, World}
use Rattle.es_theorems.specs.Renamed.{HasWords, got_in, letter_of, local_of, lore_of, name, posted_in, renamed, sent_in, world_of}

sent_same : (f g : Body → Letter) (ds : List Deed) → ((m : Body) → f m ≡ g m) → sent_in f ds ≡ sent_in g ds
sent_same f g [] same = refl
sent_same f g (d ∷ ds) same = ap (λ x. x ++ sent_in f ds) (one d) ∙ ap (λ x. posted_in g d ++ x) (sent_same f g ds same)
  where
    one : (d : Deed) → posted_in f d ≡ posted_in g d
    one (Posts r m) = ap (λ x. (r, x) ∷ []) (same m)
    one _ = refl

waits_letter : (n : ℕ) (l : Ledger) (a s : ℕ) (m : Body) → letter_of n (Acted a (WaitingEvent s) ∷ l) m ≡ letter_of n l m
waits_letter n l a s (Plain v) = refl
waits_letter n l a s (Block b k) = refl

waits_local : (n : ℕ) (l : Ledger) (a s : ℕ) (b : AgentView) → local_of n (Acted a (WaitingEvent s) ∷ l) b ≡ local_of n l b
waits_local n l a s b =
    let same : part (Acted a (WaitingEvent s) ∷ l) b.number ≡ part l b.number = part_waits l (Acted a (WaitingEvent s)) a b.number (Waits s) refl refl in
    ap (λ p. record { plan = b.plan; over = renamed (name n l) b.over; history = b.history; sent = sent_in (letter_of n (Acted a (WaitingEvent s) ∷ l)) p; got = got_in p }) same
    ∙ ap (λ x. record { plan = b.plan; over = renamed (name n l) b.over; history = b.history; sent = x; got = got_in (part l b.number) }) (sent_same (letter_of n (Acted a (WaitingEvent s) ∷ l)) (letter_of n l) (part l b.number) (waits_letter n l a s))

pub waits_locals : (n : ℕ) (l : Ledger) (a s : ℕ) (bs : List AgentView) → map (local_of n (Acted a (WaitingEvent s) ∷ l)) bs ≡ map (local_of n l) bs
waits_locals n l a s [] = refl
waits_locals n l a s (b ∷ bs) = ap (λ x. x ∷ map (local_of n (Acted a (WaitingEvent s) ∷ l)) bs) (waits_local n l a s b) ∙ ap (λ xs. local_of n l b ∷ xs) (waits_locals n l a s bs)

-- what is the same after a recorded wait is the same after a turn that waits
told_same : {A : Type 0} (f : Ledger → A) (l m : Ledger) (k a s : ℕ) → f (Acted a (WaitingEvent s) ∷ l) ≡ f l → ◌≡◌ {A = Turn × Ledger} (Stay, m) (told l k a s) → f m ≡ f l
told_same f l m k a s same is = ap f (where_stay l m k a s is) ∙ at (is_some (waits l a) || asleep l a)
  where
    at : (t : Bool) → f (cond t l (Acted a (WaitingEvent s) ∷ l)) ≡ f l
    at true = refl
    at false = same

-- the agents, what they know, and the words
abbrev standing : ℕ → Ledger → List AgentView → Words → World
standing n l bs words = record { locals = map (local_of n l) bs; lore = lore_of n l; words = words }

pub waits_still : (i : ℕ) (c d : ClusterView) (words : Words) → (turn : Turned Waiting i c d) → WaitsOn turn.before c.ledger d.ledger → world_of d words ≡ world_of c words
waits_still i c d words turn on =
    let agents : d.agents ≡ c.agents = turn.agents ∙ ap (λ b. slice_set c.agents i b) turn.turn.1 ∙ set_same c.agents i turn.before turn.agent in
    ap (λ n. standing n d.ledger.history d.agents words) turn.number ∙ ap (λ bs. standing c.ledger.agents d.ledger.history bs words) agents
    ∙ told_same (λ l. standing c.ledger.agents l c.agents words) c.ledger.history d.ledger.history c.ledger.agents turn.before.number on.0
    (ap (λ all. record { locals = all; lore = lore_of c.ledger.agents c.ledger.history; words = words }) (waits_locals c.ledger.agents c.ledger.history turn.before.number on.0 c.agents)) on.2

pub waits_words : (n i : ℕ) (c d : ClusterView) (words : Words) → (turn : Turned Waiting i c d) → WaitsOn turn.before c.ledger d.ledger → HasWords n c.ledger.history words → HasWords n d.ledger.history words
waits_words n i c d words turn on holds =
    subst (λ l. HasWords n l words) (sym (where_stay c.ledger.history d.ledger.history c.ledger.agents turn.before.number on.0 on.2)) (at (is_some (waits c.ledger.history turn.before.number) || asleep c.ledger.history turn.before.number))
  where
    at : (t : Bool) → HasWords n (cond t c.ledger.history (Acted turn.before.number (WaitingEvent on.0) ∷ c.ledger.history)) words
    at true = holds
    at false = record { named_so = λ b x some less. holds.named_so b x some (omega (arith, less)); others = λ k x none. holds.others k x (λ b some less same. none b some (omega (arith, less)) same) }

pub ends_still : (i : ℕ) (c d : ClusterView) (words : Words) → Turned Ended i c d → world_of d words ≡ world_of c words
ends_still i c d words turn =
    let agents : d.agents ≡ c.agents = turn.agents ∙ ap (λ b. slice_set c.agents i b) turn.turn.1 ∙ set_same c.agents i turn.before turn.agent in
    ap (λ l. standing l.agents l.history d.agents words) turn.told ∙ ap (λ bs. standing c.ledger.agents c.ledger.history bs words) agents

pub ends_words : (n i : ℕ) (c d : ClusterView) (words : Words) → Turned Ended i c d → HasWords n c.ledger.history words → HasWords n d.ledger.history words
ends_words n i c d words turn holds = subst (λ (l : LedgerView). HasWords n l.history words) (sym turn.told) holds
