-- What is reached with what derefs gave is what a chain of steps leads to, and is in each closed set that has it.
use Rattle.std.proofs.Common.{◌≡◌, ℕ, true, sym, ◌∙◌, List, ◌++◌, inl, inr}
use Rattle.std.proofs.lemmas.Bool.{or_cases, or_left, or_right}
use Rattle.es_event.specs.History.{History}
use Rattle.es_event.specs.Identities.{is_in}
use Rattle.es_event.specs.Jobs.{Receivers}
use Rattle.es_event.specs.WeakRefs.{kept}
use Rattle.es_event.specs.Reach.{IsClosed}
use Rattle.es_event.specs.Late.{IsReachedWith}
use Rattle.es_event.proofs.Closure.{Closing, rules_of, closing_of, closing_closed}
use Rattle.es_event.proofs.Lists.{in_both}
use Rattle.es_laws.specs.Later.{LedToWith, by_giving, by_variable, by_keeping, by_registry, by_cell, by_property, by_entry}

-- each closed set that has these has what is reached with them
pub in_each : (P : ℕ → Type 0) (into : Receivers) (p : History) (more : List ℕ) (i : ℕ) → IsClosed into p P → ((j : ℕ) → is_in more j ≡ true → P j) → IsReachedWith into p more i → P i
in_each P into p more i closed has r =
    let all : Closing P (rules_of into p) (kept p ++ more) = closing_of P into p closed (kept p ++ more) (λ j e.
    elim (or_cases (is_in (kept p) j) (is_in more j) (sym (in_both (kept p) more j) ∙ e)) [ inl a ↦ closed.kept j a | inr b ↦ has j b ]) in
    all.only i (r (is_in all.list)
    (closing_closed P into p (kept p ++ more) all (λ j e. in_both (kept p) more j ∙ or_left (is_in (kept p) j) (is_in more j) e))
    (λ j e. all.grows j (in_both (kept p) more j ∙ or_right (is_in (kept p) j) (is_in more j) e)))

led_closed : (into : Receivers) (p : History) (more : List ℕ) → IsClosed into p (LedToWith into p more)
led_closed into p more = record {
  variables = by_variable;
  kept = by_keeping;
  registries = by_registry;
  cells = by_cell;
  properties = by_property;
  entries = by_entry;
}

pub reached_led : (into : Receivers) (p : History) (more : List ℕ) (i : ℕ) → IsReachedWith into p more i → LedToWith into p more i
reached_led into p more i r = in_each (LedToWith into p more) into p more i (led_closed into p more) by_giving r

led_in : (P : ℕ → Type 0) (into : Receivers) (p : History) (more : List ℕ) → IsClosed into p P → ((j : ℕ) → is_in more j ≡ true → P j) → (i : ℕ) → LedToWith into p more i → P i
led_in P into p more c has i (by_giving j e) = has i e
led_in P into p more c has i (by_variable x j e) = c.variables x i e
led_in P into p more c has i (by_keeping j e) = c.kept i e
led_in P into p more c has i (by_registry r n e) = c.registries i n e
led_in P into p more c has i (by_cell n d j e present f) = c.cells n d i e present f
led_in P into p more c has i (by_property o k v j l e f) = c.properties o k v i (led_in P into p more c has o l) e f
led_in P into p more c has i (by_entry w k v j a b e f) = c.entries w k v i (led_in P into p more c has w a) (led_in P into p more c has k b) e f

pub led_reached : (into : Receivers) (p : History) (more : List ℕ) (i : ℕ) → LedToWith into p more i → IsReachedWith into p more i
led_reached into p more i l = λ m c has. led_in (λ j. m j ≡ true) into p more c has i l
