-- Where an agent asks for a message, what it does by the ledger is what it hears by the agents' own names.
use Rattle.std.proofs.Common.{◌≡◌, ℕ, false, sym, ◌∙◌, ap, refl, subst, List, [], ◌∷◌, map, Option, Some, None, inl, inr}
use Rattle.std.specs.Prelude.{is_some, slice_get}
use Rattle.std.specs.Option.{option_map, option_map_or}
use Rattle.es_value.specs.declared.value.Value.{Value}
use Rattle.es_event.specs.declared.event.Event.{Event}
use Rattle.es_event.specs.declared.event.Event.TheVariants.{Received, Refused, Skipped}
use Rattle.es_event.specs.declared.event.Refusal.TheVariants.{TooManyValues}
use Rattle.es_event.specs.declared.ledger_event.Body.{Body}
use Rattle.es_event.specs.declared.ledger_event.Body.TheVariants.{Plain, Block}
use Rattle.es_event.specs.declared.row.Row.{Row}
use Rattle.es_event.specs.Identities.{made}
use Rattle.es_event.specs.Ledger.{Ledger, front, port_of}
use Rattle.es_event.specs.Rows.{row}
use Rattle.es_match.specs.Deeds.{Deed, Passes, Spends, words_in}
use Rattle.es_theorems.proofs.Messages.{Receives, Refuses, Says, next_words}
use Rattle.es_theorems.specs.Alone.{Hears, Letter, Local, Locals, MaySkip}
use Rattle.es_theorems.specs.Renamed.{got_in, letter_of, name, renamed_row, sent_in}
use Rattle.es_theorems.specs.Steps.{AreSilent, Does, is_quiet, takes}

-- the first message of a port
front_port : (ms : List Body) (m : Body) → slice_get ms 0 ≡ Some m → (rest : List Body) × (ms ≡ m ∷ rest)
front_port [] m is = cc
front_port (x ∷ ms) m is = let same : x ≡ m = cc in (ms, ap (λ x. x ∷ ms) same)

-- a message that is received
says_letter : (all : Locals) (n : ℕ) (l : Ledger) (i s : ℕ) (a : Local) (body : Body) (ms : List Letter) (v : Value) (r : Option Row) → front l s i ≡ Some body → Says body (next_words l s i) (made a.history) v r
    → Hears all i s a (letter_of n l body ∷ ms) (Received s v) (option_map (renamed_row (name n l)) r) (s ∷ [])
says_letter all n l i s a (Plain u) ms v r is says = (ap (λ v. Received s v) says.0, ap (option_map (renamed_row (name n l))) says.1, refl)
says_letter all n l i s a (Block b k) ms v r is says =
    let words : next_words l s i ≡ words_in l (Block b k) = ap (λ o. option_map_or (words_in l) o 0) is in
    (inl (ap (λ v. Received s v) says.0, ap (option_map (renamed_row (name n l))) says.1 ∙ ap (λ w. Some (row 0 (name n l b) w)) words), refl)

pub record HearsSo (all : Locals) (n : ℕ) (l : Ledger) (i s : ℕ) (a : Local) (e : Event) (r : Option Row) (ds : List Deed) : Type 0 where
  pub hears : Hears all i s a (map (letter_of n l) (port_of l s i)) e (option_map (renamed_row (name n l)) r) (got_in ds)
  pub sends : (f : Body → Letter) → sent_in f ds ≡ []
  pub does : Does n l i a.over e ds

pub received : (all : Locals) (n : ℕ) (l : Ledger) (i s : ℕ) (a : Local) (v : Value) (r : Option Row) (ds : List Deed) → Receives l i s (made a.history) v r ds → HearsSo all n l i s a (Received s v) r ds
received all n l i s a v r ds x =
    let port = front_port (port_of l s i) x.body x.front_is in
    let heard = says_letter all n l i s a x.body (map (letter_of n l) port.0) v r x.front_is x.says in
    record {
      hears = subst (λ ms. Hears all i s a (map (letter_of n l) ms) (Received s v) (option_map (renamed_row (name n l)) r) (got_in ds)) (sym port.1)
          (subst (λ ds. Hears all i s a (letter_of n l x.body ∷ map (letter_of n l) port.0) (Received s v) (option_map (renamed_row (name n l)) r) (got_in ds)) (sym x.deeds) heard);
      sends = λ f. ap (sent_in f) x.deeds;
      does = takes s (front l s i) (next_words l s i) [] x.deeds tt refl refl;
    }

-- one that finds no room
pub declined : (all : Locals) (n : ℕ) (l : Ledger) (i s : ℕ) (a : Local) (r : Option Row) (ds : List Deed) → r ≡ None → Refuses l i s ds → HearsSo all n l i s a (Refused TooManyValues) r ds
declined all n l i s a r ds none x =
    let port = front_port (port_of l s i) (Block x.block x.serial) x.front_is in
    record {
      hears = subst (λ ms. Hears all i s a (map (letter_of n l) ms) (Refused TooManyValues) (option_map (renamed_row (name n l)) r) (got_in ds)) (sym port.1)
          (inr (refl, ap (option_map (renamed_row (name n l))) none), ap got_in x.deeds);
      sends = λ f. ap (sent_in f) x.deeds;
      does = takes s (front l s i) (next_words l s i) (Spends x.serial ∷ []) x.deeds (refl, tt) refl refl;
    }

-- none, so the job is skipped
pub skipped : (all : Locals) (n : ℕ) (l : Ledger) (i s j : ℕ) (a : Local) (r : Option Row) (ds : List Deed) → r ≡ None → ds ≡ Passes s ∷ [] → is_some (slice_get (port_of l s i) 0) ≡ false → MaySkip all i s → HearsSo all n l i s a (Skipped j s) r ds
skipped all n l i s j a r ds none deeds empty may = record {
  hears = subst (λ ms. Hears all i s a (map (letter_of n l) ms) (Skipped j s) (option_map (renamed_row (name n l)) r) (got_in ds)) (sym (no_port (port_of l s i) empty)) ((j, refl), ap (option_map (renamed_row (name n l))) none, ap got_in deeds, may);
  sends = λ f. ap (sent_in f) deeds;
  does = is_quiet (subst AreSilent (sym deeds) (refl, tt)) refl refl;
}
  where
    no_port : (ms : List Body) → is_some (slice_get ms 0) ≡ false → ms ≡ []
    no_port [] off = refl
    no_port (m ∷ ms) off = cc
