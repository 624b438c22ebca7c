-- In a legal history the registry of each cell is one, and what a cell is made with was made. In a run no registry is emptied,
-- and a new registration is live.
use Rattle.std.proofs.Common.{◌≡◌, ℕ, ◌<◌, ◌≤◌, true, ◌∙◌, ap, refl, subst, List, [], ◌∷◌, Option, Some, None}
use Rattle.std.specs.Prelude.{is_some}
use Rattle.std.specs.Option.{option_and_then}
use Rattle.es_value.specs.declared.value.Value.{Value}
use Rattle.es_event.specs.declared.event.Event.{Event}
use Rattle.es_event.specs.declared.event.Event.TheVariants.{Did}
use Rattle.es_event.specs.declared.event.Refusal.TheVariants.{NotAFinalizationRegistry}
use Rattle.es_event.specs.declared.command.Command.{Command}
use Rattle.es_event.specs.declared.command.Command.TheVariants.{Register}
use Rattle.es_event.specs.Commands.{first, second, third, fourth, Kind, ordinary, weakref_to, weak_map, weak_set, registry_of, shared_buffer}
use Rattle.es_event.specs.History.{History}
use Rattle.es_event.specs.Identities.{identity, made, kind}
use Rattle.es_event.specs.Jobs.{Receivers}
use Rattle.es_event.specs.Registrations.{callback_in, callback, Cell, registers_by, cell}
use Rattle.es_event.specs.Sharing.{Buffers}
use Rattle.es_event.specs.Rules.{is_registry, kind_of, of_held_weakly, of_other, of_token, tests, first_refusal}
use Rattle.es_event.specs.Heard.{heard_by}
use Rattle.es_event.specs.Legal.{LegalBy}
use Rattle.es_event.proofs.Accepted.{is_accepted, first_holds}
use Rattle.es_event.proofs.Cells.{made_by, cell_either}
use Rattle.es_event.proofs.Maps.{kind_same}
use Rattle.es_event.proofs.Objects.{held_made, object_within, made_within}

-- Registries

a_kind : (k : Option Kind) → is_registry k ≡ true → is_some k ≡ true
a_kind None e = cc
a_kind (Some k) e = refl

-- a registry stays one
pub registry_stays : (over : Buffers) (into : Receivers) (e : Event) (h : History) → LegalBy over into (e ∷ h) → (r : ℕ) → is_registry (kind h r) ≡ true → is_registry (kind (e ∷ h) r) ≡ true
registry_stays over into e h l r is = ap is_registry (kind_same over into e h l r (a_kind (kind h r) is)) ∙ is

-- what registers is given a registry
registry_test : (over : Buffers) (h : History) (c : Command) (vs : List Value) (k : Cell) → registers_by c vs ≡ Some k → first_refusal (tests over h c vs) ≡ None → is_registry (kind_of h (first vs)) ≡ true
registry_test over h (Register q y v t) vs k e f =
    (first_holds (is_registry (kind_of h (first vs))) NotAFinalizationRegistry (of_held_weakly (second vs) ∷ of_other (second vs) (third vs) ∷ of_token (fourth vs) ∷ []) f).0
registry_test over h _ vs k e f = cc

pub cell_registry : (over : Buffers) (into : Receivers) (h : History) → LegalBy over into h → (n : ℕ) (k : Cell) → cell h n ≡ Some k → is_registry (kind h k.registry) ≡ true
cell_registry over into [] l n k e = cc
cell_registry over into (Did (c, vs, r) ∷ h) l n k e =
    registry_stays over into (Did (c, vs, r)) h l k.registry
    (cell_either (is_registry (kind h k.registry) ≡ true) (Did (c, vs, r)) h n k
    (λ s t. subst (λ w. is_registry (kind_of h w) ≡ true) (made_by c vs r k s).registry
    (registry_test over h c vs k s (is_accepted over h c vs (heard_by c r) r l.0.1)))
    (λ before. cell_registry over into h l.1 n k before) e)
cell_registry over into (x ∷ h) l n k e = registry_stays over into x h l k.registry (cell_registry over into h l.1 n k e)

called : (k : Option Kind) → is_registry k ≡ true → (c : ℕ) × (option_and_then callback_in k ≡ Some c)
called None e = cc
called (Some ordinary) e = cc
called (Some (weakref_to v)) e = cc
called (Some weak_map) e = cc
called (Some weak_set) e = cc
called (Some (registry_of c)) e = (c, refl)
called (Some shared_buffer) e = cc

pub callback_of : (over : Buffers) (into : Receivers) (h : History) → LegalBy over into h → (n : ℕ) (k : Cell) → cell h n ≡ Some k → (c : ℕ) × (callback h k.registry ≡ Some c)
callback_of over into h l n k e = called (kind h k.registry) (cell_registry over into h l n k e)

-- What a cell is made with was made

pub registry_within : (over : Buffers) (into : Receivers) (h : History) → LegalBy over into h → (n : ℕ) (k : Cell) → cell h n ≡ Some k → (0 < k.registry) × (k.registry ≤ made h)
registry_within over into h l n k e = object_within over into h l k.registry ((held_made over into h l).registries n k e)

pub watched_within : (over : Buffers) (into : Receivers) (h : History) → LegalBy over into h → (n : ℕ) (k : Cell) → cell h n ≡ Some k → (0 < k.target) × (k.target ≤ made h)
watched_within over into h l n k e = let target = (held_made over into h l).watched n k e in made_within over into h l target.value k.target target.had target.is

pub holding_within : (over : Buffers) (into : Receivers) (h : History) → LegalBy over into h → (n : ℕ) (k : Cell) (i : ℕ) → cell h n ≡ Some k → identity k.held ≡ Some i → (0 < i) × (i ≤ made h)
holding_within over into h l n k i e is = made_within over into h l k.held i ((held_made over into h l).holdings n k e) is

pub token_within : (over : Buffers) (into : Receivers) (h : History) → LegalBy over into h → (n : ℕ) (k : Cell) (t : ℕ) → cell h n ≡ Some k → k.token ≡ Some t → (0 < t) × (t ≤ made h)
token_within over into h l n k t e is = let token = (held_made over into h l).tokens n k t e is in made_within over into h l token.value t token.had token.is

-- In a run
