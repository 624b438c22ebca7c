-- The registries that an emptying puts last in the cleanup queue.
use Rattle.std.proofs.Common.{◌≡◌, ℕ, suc, ◌+◌, ◌<◌, ◌==◌, ◌&&◌, not, Bool, true, false, cond, sym, ◌∙◌, ap, refl, subst, arith, nat_lt, List, [], ◌∷◌, Option, Some, None, inl, inr}
use Rattle.std.specs.Prelude.{slice_index}
use Rattle.std.specs.List.{list_any, range_with_len}
use Rattle.std.specs.List.Sorted.{IsStrictlyIncreasing}
use Rattle.std.specs.Option.{option_map_or}
use Rattle.std.proofs.lemmas.Bool.{eqb-true, lt-ltb, and_parts, and_from, or_cases, false≢true}
use Rattle.es_event.specs.Sharing.{Buffers}
use Rattle.es_event.specs.History.{History}
use Rattle.es_event.specs.Identities.{is_in, made}
use Rattle.es_event.specs.Jobs.{Receivers}
use Rattle.es_event.specs.Order.{loses as loses_said, queues, queue}
use Rattle.es_event.specs.Registrations.{Cell, Fate, live, awaiting, unregistered, taken, same_fate, cell, fate, is_of, registrations}
use Rattle.es_event.specs.Legal.{is_rising, LegalBy}
use Rattle.es_event.proofs.Registries.{registry_within}
use Rattle.es_event.proofs.Rising.{same_rising, rising_numbers, in_numbers, in_filter}
use Rattle.es_registry.specs.Slots.{is_this, is_losing}
use Rattle.es_registry.specs.Registries.{Joins, loses}
use Rattle.es_tables.specs.Tables.{TablesView, Says, slot_said}
use Rattle.es_tables.proofs.Numbered.{any_map}
use Rattle.es_tables.proofs.Slots.{slots, slot_at}

-- What loses its target

losing_live : (d b : Bool) (q r : ℕ) → (q == r) ≡ d → is_this r (cond b (Some q) None) ≡ ((d && true) && b)
losing_live d true q r e = e ∙ both d
  where
    both : (d : Bool) → d ≡ ((d && true) && true)
    both true = refl
    both false = refl
losing_live true false q r e = refl
losing_live false false q r e = refl

none_of : (d b : Bool) → false ≡ ((d && false) && b)
none_of true b = refl
none_of false b = refl

losing_slot : (ids : List ℕ) (r n : ℕ) (f : Fate) (k : Option Cell)
    → is_losing ids r (slot_at n f k) ≡ ((option_map_or (λ c. c.registry == r) k false && same_fate f live) && option_map_or (λ c. is_in ids c.target) k false)
losing_slot ids r n f None = refl
losing_slot ids r n live (Some c) = losing_live (c.registry == r) (is_in ids c.target) c.registry r refl
losing_slot ids r n awaiting (Some c) = none_of (c.registry == r) (is_in ids c.target)
losing_slot ids r n unregistered (Some c) = none_of (c.registry == r) (is_in ids c.target)
losing_slot ids r n taken (Some c) = none_of (c.registry == r) (is_in ids c.target)

loses_slots : (h : History) (ids : List ℕ) (r : ℕ) → loses ids r (slots h) ≡ loses_said h ids r
loses_slots h ids r = any_map (is_losing ids r) (slot_said h) (λ n. is_of h r live n && option_map_or (λ c. is_in ids c.target) (cell h n) false) (λ n. losing_slot ids r n (fate h n) (cell h n)) (registrations h)

-- A registry of which a cell loses its target was made

some_passes : (p : ℕ → Bool) (xs : List ℕ) → list_any p xs ≡ true → (n : ℕ) × (p n ≡ true)
some_passes p [] e = absurd (false≢true e)
some_passes p (x ∷ xs) e = elim (or_cases (p x) (list_any p xs) e) [ inl a ↦ (x, a) | inr b ↦ some_passes p xs b ]

of_cell : (k : Option Cell) (r : ℕ) → option_map_or (λ c. c.registry == r) k false ≡ true → (c : Cell) × (k ≡ Some c) × (c.registry ≡ r)
of_cell None r e = absurd (false≢true e)
of_cell (Some c) r e = (c, refl, eqb-true c.registry r e)

loser_made : (over : Buffers) (into : Receivers) (h : History) (ids : List ℕ) (r : ℕ) → LegalBy over into h → loses_said h ids r ≡ true → is_in (range_with_len 1 (made h)) r ≡ true
loser_made over into h ids r legal e =
    let found = some_passes (λ n. is_of h r live n && option_map_or (λ c. is_in ids c.target) (cell h n) false) (registrations h) e in
    let of = (and_parts (option_map_or (λ c. c.registry == r) (cell h found.0) false) (same_fate (fate h found.0) live)
    (and_parts (is_of h r live found.0) (option_map_or (λ c. is_in ids c.target) (cell h found.0) false) found.1).0).0 in
    let at = of_cell (cell h found.0) r of in
    let bounds = registry_within over into h legal found.0 at.0 at.1 in
    in_numbers 1 (made h) r (omega (arith, bounds.0, at.2)) (omega (arith, bounds.1, at.2))

-- Rising lists

rises : (is : List ℕ) → IsStrictlyIncreasing is → is_rising is ≡ true
rises [] e = refl
rises (i ∷ []) e = refl
rises (i ∷ j ∷ js) e = and_from (nat_lt i j) (is_rising (j ∷ js)) (lt-ltb i j (e 0 (omega arith))) (rises (j ∷ js) (λ k l. let next : suc k + 1 ≡ suc (k + 1) = omega arith in subst (λ n. slice_index (j ∷ js) k < slice_index (i ∷ j ∷ js) n) next (e (suc k) (omega (arith, l)))))

pub joined : (over : Buffers) (into : Receivers) (h : History) (s : TablesView) (ids more : List ℕ) → LegalBy over into h → Says into h s → Joins s.registries ids more → more ≡ queues h ids (queue h)
joined over into h s ids more legal says joins =
    let p : ℕ → Bool = λ r. loses_said h ids r && not (is_in (queue h) r) in
    let exactly : (r : ℕ) → is_in more r ≡ p r = λ r.
    joins.exactly r ∙ (ap (λ cs. loses ids r cs && not (is_in s.registries.queue r)) says.cells
    ∙ (ap (λ b. b && not (is_in s.registries.queue r)) (loses_slots h ids r)
    ∙ ap (λ q. loses_said h ids r && not (is_in q r)) says.queue)) in
    same_rising more (queues h ids (queue h)) (rises more joins.rising) (rising_numbers p 1 (made h))
    (λ r m. let passes = sym (exactly r) ∙ m in
    in_filter p (range_with_len 1 (made h)) r
    ∙ and_from (p r) (is_in (range_with_len 1 (made h)) r) passes (loser_made over into h ids r legal (and_parts (loses_said h ids r) (not (is_in (queue h) r)) passes).0))
    (λ r m. exactly r ∙ (and_parts (p r) (is_in (range_with_len 1 (made h)) r) (sym (in_filter p (range_with_len 1 (made h)) r) ∙ m)).0)
