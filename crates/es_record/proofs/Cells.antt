-- What an agent's table of cells tells is what its history says of registrations.
use Rattle.std.proofs.Common.{◌≡◌, ℕ, zero, suc, ◌+◌, ◌<◌, ◌≤◌, ◌==◌, ◌&&◌, Bool, true, false, cond, sym, ◌∙◌, ap, refl, subst, arith, List, map, Option, Some, None, Bor}
use Rattle.std.specs.Prelude.{is_some}
use Rattle.std.specs.List.{list_any, find, count_by, range_with_len}
use Rattle.std.specs.Option.{option_map, option_map_or, option_and_then, option_copied}
use Rattle.std.proofs.lemmas.Bool.{and_parts, false≢true}
use Rattle.std.proofs.lemmas.List.Sums.{sum_by-cons}
use Rattle.es_event.specs.History.{History}
use Rattle.es_event.specs.Registrations.{Cell, Fate, live, awaiting, unregistered, taken, same_fate, is_present, has_token as has_token_said, is_under, is_of, registered, registrations, cell, fate, first_awaiting, finds_token, tally}
use Rattle.es_event.proofs.Cells.{has_cell}
use Rattle.es_event.proofs.Counting.{found_passes}
use Rattle.es_event.specs.Jobs.{job, cleaning}
use Rattle.es_event.specs.Order.{queue, due}
use Rattle.es_record.specs.NextCell.{FindsNextCell}
use Rattle.es_registry.specs.declared.slot.Cell.{Cell as KeptCell}
use Rattle.es_registry.specs.declared.slot.Slot.{Slot}
use Rattle.es_registry.specs.Slots.{has_token, awaits, cell_of, is_live, is_awaiting, is_unregistered, is_taken}
use Rattle.es_registry.specs.Registries.{RegistriesView, oldest}
use Rattle.es_tables.specs.Tables.{slot_said}
use Rattle.es_tables.proofs.Numbered.{any_map, find_map}
use Rattle.es_tables.proofs.Slots.{slots, slot_at}

and_false : (b : Bool) → false ≡ (b && false)
and_false true = refl
and_false false = refl

-- Tokens

token_slot : (r t n : ℕ) (f : Fate) (k : Option Cell) → has_token r t (slot_at n f k) ≡ (is_present f && option_map_or (has_token_said r t) k false)
token_slot r t n f None = and_false (is_present f)
token_slot r t n live (Some c) = refl
token_slot r t n awaiting (Some c) = refl
token_slot r t n unregistered (Some c) = refl
token_slot r t n taken (Some c) = refl

pub finds_said : (h : History) (cells : List Slot) (r t : ℕ) → cells ≡ slots h → list_any (has_token r t) cells ≡ finds_token h r t
finds_said h cells r t says =
    ap (list_any (has_token r t)) says
    ∙ any_map (has_token r t) (slot_said h) (λ n. is_present (fate h n) && is_under h r t n) (λ n. token_slot r t n (fate h n) (cell h n)) (registrations h)

-- The oldest that awaits its cleanup

awaits_slot : (r n : ℕ) (f : Fate) (k : Option Cell) → awaits r (slot_at n f k) ≡ (option_map_or (λ c. c.registry == r) k false && same_fate f awaiting)
awaits_slot r n f None = refl
awaits_slot r n live (Some c) = refl
awaits_slot r n awaiting (Some c) = refl
awaits_slot r n unregistered (Some c) = and_false (c.registry == r)
awaits_slot r n taken (Some c) = and_false (c.registry == r)

pub oldest_is : (h : History) (t : RegistriesView) (r : ℕ) → t.cells ≡ slots h → oldest t r ≡ option_and_then cell_of (option_map (slot_said h) (first_awaiting h r))
oldest_is h t r says =
    ap (λ cs. option_and_then cell_of (find (awaits r) cs)) says
    ∙ ap (option_and_then cell_of) (find_map (awaits r) (slot_said h) (is_of h r awaiting) (λ n. awaits_slot r n (fate h n) (cell h n)) (registrations h))

awaiting_is : (f : Fate) → same_fate f awaiting ≡ true → f ≡ awaiting
awaiting_is live e = cc
awaiting_is awaiting e = refl
awaiting_is unregistered e = cc
awaiting_is taken e = cc

-- what a cell that awaits its cleanup is: its number is the first that does, and it holds what was registered
pub record IsOldest (h : History) (r : ℕ) (c : KeptCell) : Type 0 where
  pub first : first_awaiting h r ≡ Some c.registration
  pub held : option_map (λ c. c.held) (cell h c.registration) ≡ Some c.held
  pub awaits : fate h c.registration ≡ awaiting

oldest_at : (h : History) (r n : ℕ) (f : Fate) (k : Option Cell) (o : KeptCell) → first_awaiting h r ≡ Some n → fate h n ≡ f → cell h n ≡ k → f ≡ awaiting → option_map_or (λ c. c.registry == r) k false ≡ true
    → cell_of (slot_at n f k) ≡ Some o → IsOldest h r o
oldest_at h r n f None o first is at awaiting' of e = absurd (false≢true of)
oldest_at h r n f (Some c) o first is at awaiting' of e =
    let kept : ◌≡◌ {A = Option KeptCell} (Some (record { registration = n; held = c.held })) (Some o) = sym (ap (λ f. cell_of (slot_at n f (Some c))) awaiting') ∙ e in
    let same : record { registration = n; held = c.held } ≡ o = cc in
    subst (IsOldest h r) same (record { first = first; held = ap (option_map (λ c. c.held)) at; awaits = is ∙ awaiting' })

oldest_from : (h : History) (r : ℕ) (q : Option ℕ) (o : KeptCell) → first_awaiting h r ≡ q → option_and_then cell_of (option_map (slot_said h) q) ≡ Some o → IsOldest h r o
oldest_from h r None o first e = cc
oldest_from h r (Some n) o first e =
    let passes = and_parts (option_map_or (λ c. c.registry == r) (cell h n) false) (same_fate (fate h n) awaiting) (found_passes (is_of h r awaiting) (registrations h) n first) in
    oldest_at h r n (fate h n) (cell h n) o first refl refl (awaiting_is (fate h n) passes.1) passes.0 e

pub oldest_said : (h : History) (t : RegistriesView) (r : ℕ) (o : KeptCell) → t.cells ≡ slots h → Some o ≡ oldest t r → IsOldest h r o
oldest_said h t r o says e = oldest_from h r (first_awaiting h r) o refl (sym (e ∙ oldest_is h t r says))

some_oldest : (h : History) (r : ℕ) (q : Option ℕ) → first_awaiting h r ≡ q → is_some (option_and_then cell_of (option_map (slot_said h) q)) ≡ is_some q
some_oldest h r None first = refl
some_oldest h r (Some n) first =
    let passes = and_parts (option_map_or (λ c. c.registry == r) (cell h n) false) (same_fate (fate h n) awaiting) (found_passes (is_of h r awaiting) (registrations h) n first) in
    at (cell h n) passes.0 (fate h n) (awaiting_is (fate h n) passes.1)
  where
    at : (k : Option Cell) → option_map_or (λ c. c.registry == r) k false ≡ true → (f : Fate) → f ≡ awaiting → is_some (cell_of (slot_at n f k)) ≡ true
    at None of f is = absurd (false≢true of)
    at (Some c) of f is = ap (λ f. is_some (cell_of (slot_at n f (Some c)))) is

pub copied_some : {A : Type 0} (o : Option (Bor A)) → is_some (option_copied o) ≡ is_some o
copied_some None = refl
copied_some (Some x) = refl

pub is_awaited : (h : History) (t : RegistriesView) (r : ℕ) → t.cells ≡ slots h → is_some (oldest t r) ≡ is_some (first_awaiting h r)
is_awaited h t r says = ap is_some (oldest_is h t r says) ∙ some_oldest h r (first_awaiting h r) refl

none_is : (o : Option ℕ) → is_some o ≡ false → o ≡ None
none_is None e = refl
none_is (Some n) e = cc

pub none_awaits : (h : History) (t : RegistriesView) (r : ℕ) → t.cells ≡ slots h → oldest t r ≡ None → first_awaiting h r ≡ None
none_awaits h t r says none = none_is (first_awaiting h r) (sym (is_awaited h t r says) ∙ ap is_some none)

-- The cell that the running cleanup job takes next

pub next_found : (h : History) (t : RegistriesView) (r : ℕ) → t.cells ≡ slots h → cleaning h ≡ Some r → (o : Option KeptCell) → o ≡ oldest t r → FindsNextCell h o
next_found h t r says runs None is = ap (option_and_then (first_awaiting h)) runs ∙ none_awaits h t r says (sym is)
next_found h t r says runs (Some c) is =
    let found = oldest_said h t r c says is in
    record { number = ap (option_and_then (first_awaiting h)) runs ∙ found.first; held = found.held; awaits = found.awaits }

-- a cleanup job that is due is of the first registry of the queue

-- Totals

count_numbered : (p : Slot → Bool) (f : ℕ → Slot) (q : ℕ → Bool) (a n : ℕ) → ((i : ℕ) → a ≤ i → i < a + n → p (f i) ≡ q i) → count_by p (map f (range_with_len a n)) ≡ count_by q (range_with_len a n)
count_numbered p f q a zero each = refl
count_numbered p f q a (suc n) each =
    sum_by-cons (λ s. cond (p s) 1 0) (f a) (map f (range_with_len (a + 1) n))
    ∙ (ap (λ b. cond b 1 0 + count_by p (map f (range_with_len (a + 1) n))) (each a (omega arith) (omega arith))
    ∙ (ap (λ m. cond (q a) 1 0 + m) (count_numbered p f q (a + 1) n (λ i l m. each i (omega (arith, l)) (omega (arith, m))))
    ∙ sym (sum_by-cons (λ i. cond (q i) 1 0) a (range_with_len (a + 1) n))))

counted : (h : History) (cells : List Slot) (p : Slot → Bool) (f : Fate) → ((n : ℕ) (g : Fate) (c : Cell) → p (slot_at n g (Some c)) ≡ same_fate g f) → cells ≡ slots h → count_by p cells ≡ tally h f
counted h cells p f each says =
    ap (count_by p) says
    ∙ count_numbered p (slot_said h) (λ n. same_fate (fate h n) f) 1 (registered h) (λ n l m.
    let at = has_cell h n l (omega (arith, m)) in
    ap (λ k. p (slot_at n (fate h n) k)) at.1 ∙ each n (fate h n) at.0)

live_slot : (n : ℕ) (g : Fate) (c : Cell) → is_live (slot_at n g (Some c)) ≡ same_fate g live
live_slot n live c = refl
live_slot n awaiting c = refl
live_slot n unregistered c = refl
live_slot n taken c = refl

awaiting_slot : (n : ℕ) (g : Fate) (c : Cell) → is_awaiting (slot_at n g (Some c)) ≡ same_fate g awaiting
awaiting_slot n live c = refl
awaiting_slot n awaiting c = refl
awaiting_slot n unregistered c = refl
awaiting_slot n taken c = refl

unregistered_slot : (n : ℕ) (g : Fate) (c : Cell) → is_unregistered (slot_at n g (Some c)) ≡ same_fate g unregistered
unregistered_slot n live c = refl
unregistered_slot n awaiting c = refl
unregistered_slot n unregistered c = refl
unregistered_slot n taken c = refl

taken_slot : (n : ℕ) (g : Fate) (c : Cell) → is_taken (slot_at n g (Some c)) ≡ same_fate g taken
taken_slot n live c = refl
taken_slot n awaiting c = refl
taken_slot n unregistered c = refl
taken_slot n taken c = refl

pub live_said : (h : History) (cells : List Slot) → cells ≡ slots h → count_by is_live cells ≡ tally h live
live_said h cells says = counted h cells is_live live live_slot says

pub awaiting_said : (h : History) (cells : List Slot) → cells ≡ slots h → count_by is_awaiting cells ≡ tally h awaiting
awaiting_said h cells says = counted h cells is_awaiting awaiting awaiting_slot says

pub unregistered_said : (h : History) (cells : List Slot) → cells ≡ slots h → count_by is_unregistered cells ≡ tally h unregistered
unregistered_said h cells says = counted h cells is_unregistered unregistered unregistered_slot says

pub taken_said : (h : History) (cells : List Slot) → cells ≡ slots h → count_by is_taken cells ≡ tally h taken
taken_said h cells says = counted h cells is_taken taken taken_slot says
