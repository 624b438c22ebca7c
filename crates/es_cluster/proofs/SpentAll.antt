-- The tickets of a rack are spent: the deeds, and that they meet a collection and a closing.
use Rattle.std.proofs.Common.{◌≡◌, ℕ, ◌+◌, ◌<◌, ◌==◌, Bool, true, false, cond, sym, ◌∙◌, ap, refl, subst, arith, List, [], ◌∷◌, ◌++◌, map, append-nil, append_assoc, Option, Some, None, eq-eqb}
use Rattle.std.specs.Option.{option_map_or, option_map}
use Rattle.std.specs.Prelude.{if◌then◌else◌}
use Rattle.es_event.specs.declared.ledger_event.LedgerEvent.TheVariants.{Spent}
use Rattle.es_event.specs.declared.row.Row.{Row}
use Rattle.es_event.specs.Ledger.{Ledger, waits, holder_of}
use Rattle.es_match.specs.Asks.{to_empty, to_close}
use Rattle.es_match.specs.Patience.{may_do, has_drained}
use Rattle.es_match.specs.Counts.{count}
use Rattle.es_match.specs.Deeds.{Deed, Spends, Ends, deed}
use Rattle.es_match.specs.Meets.{Tickets, after, spends, ends, serials_of, within, beyond, some_if}
use Rattle.es_match.proofs.Counting.{Off, some_struck}
use Rattle.es_record.specs.AgentView.{AgentView}
use Rattle.es_cluster.specs.Tied.{AreDeedsOf}
use Rattle.es_cluster.specs.Turned.{spent}
use Rattle.es_cluster.specs.Midway.{Midway}
use Rattle.es_cluster.proofs.Midway.{does}

-- the deeds, the oldest first
abbrev pub all_spent : List (ℕ × Row) → List Deed
all_spent [] = []
all_spent (t ∷ ts) = all_spent ts ++ Spends t.1.serial ∷ []

owner_spends : (o : Option (ℕ × Row)) (s n : ℕ) (d : Deed) → option_map {U = ℕ × Deed} (λ p. (p.0, Spends s)) o ≡ Some (n, d) → d ≡ Spends s
owner_spends None s n d is = cc
owner_spends (Some p) s n d is = sym (ap (λ o. option_map_or (λ q. q.1) o d) is)

-- midway through a collection or a closing
pub spends_all : (b : AgentView) (l : Ledger) (ds : List Deed) (ts : List (ℕ × Row)) → Midway b l ds → AreDeedsOf b.number (map (λ t. Spent t.1.serial) ts) l → waits l b.number ≡ None → has_drained l ≡ false
    → Midway b (spent ts l) (ds ++ all_spent ts) × (waits (spent ts l) b.number ≡ None) × (has_drained (spent ts l) ≡ false)
spends_all b l ds [] mid are free none = (subst (Midway b l) (sym (append-nil ds)) mid, free, none)
spends_all b l ds (t ∷ ts) mid are free none =
    let before = spends_all b l ds ts mid are.1 free none in
    let d = are.0.0 in
    let is : deed (spent ts l) (Spent t.1.serial) ≡ Some (b.number, Spends t.1.serial) = are.0.1 ∙ ap (λ d. Some (b.number, d)) (owner_spends (holder_of (spent ts l) t.1.serial) t.1.serial b.number d are.0.1) in (
      subst (Midway b (spent (t ∷ ts) l)) (append_assoc ds (all_spent ts) (Spends t.1.serial ∷ []))
          (does b (spent ts l) (spent (t ∷ ts) l) (ds ++ all_spent ts) (Spent t.1.serial) (Spends t.1.serial) before.0 refl is refl refl (ap (λ w. may_do w (Spends t.1.serial)) before.1) before.2),
      before.1,
      before.2,
    )

-- Each serial is spent once, in whatever order

none_counted : (ns : List ℕ) → ((s : ℕ) → count s ns ≡ 0) → ns ≡ []
none_counted [] none = refl
none_counted (n ∷ ns) none = let a = none n in let b = eq-eqb n n refl in absurd (first a b)
  where
    first : (if n == n then 1 else 0) + count n ns ≡ 0 → (n == n) ≡ true → ⊥
    first a b = let c = ap (λ t. cond {A = ℕ} t 1 0) b in omega (arith, a, c)

spends_counted : (closing : Bool) (ns ms : List ℕ) (rest : List Deed) → ((s : ℕ) → count s ns ≡ count s ms) → spends closing ns (map Spends ms ++ rest) ≡ ends closing rest
spends_counted closing ns [] rest same = ap (λ ns. spends closing ns rest) (none_counted ns same)
spends_counted closing [] (m ∷ ms) rest same = absurd (let a = same m in let b = ap (λ t. cond {A = ℕ} t 1 0) (eq-eqb m m refl) in omega (arith, a, b))
spends_counted closing (n ∷ ns) (m ∷ ms) rest same =
    let here : 0 < count m (n ∷ ns) = (let a = same m in let b = ap (λ t. cond {A = ℕ} t 1 0) (eq-eqb m m refl) in omega (arith, a, b)) in
    let off : Off m (n ∷ ns) = some_struck m (n ∷ ns) here in
    ap (λ o. option_map_or (λ ls. spends closing ls (map Spends ms ++ rest)) o false) off.struck
    ∙ spends_counted closing off.left ms rest (λ s. let a = same s in let b = off.counts s in omega (arith, a, b))

abbrev backwards : List (ℕ × Row) → List ℕ
backwards [] = []
backwards (t ∷ ts) = backwards ts ++ t.1.serial ∷ []

deeds_of : (ts : List (ℕ × Row)) → all_spent ts ≡ map Spends (backwards ts)
deeds_of [] = refl
deeds_of (t ∷ ts) = ap (λ ds. ds ++ Spends t.1.serial ∷ []) (deeds_of ts) ∙ sym (map_last (backwards ts) t.1.serial)
  where
    map_last : (ns : List ℕ) (n : ℕ) → map Spends (ns ++ n ∷ []) ≡ map Spends ns ++ Spends n ∷ []
    map_last [] n = refl
    map_last (m ∷ ns) n = ap (λ ds. Spends m ∷ ds) (map_last ns n)

count_backwards : (s : ℕ) (ts : List (ℕ × Row)) → count s (serials_of ts) ≡ count s (backwards ts)
count_backwards s [] = refl
count_backwards s (t ∷ ts) = let a = count_last (backwards ts) t.1.serial in let b = count_backwards s ts in omega (arith, a, b)
  where
    count_last : (ns : List ℕ) (n : ℕ) → count s (ns ++ n ∷ []) ≡ count s ns + (if n == s then 1 else 0)
    count_last [] n = omega arith
    count_last (m ∷ ns) n = let c = count_last ns n in omega (arith, c)

spent_all : (closing : Bool) (ts : List (ℕ × Row)) (rest : List Deed) → spends closing (serials_of ts) (all_spent ts ++ rest) ≡ ends closing rest
spent_all closing ts rest = ap (λ ds. spends closing (serials_of ts) (ds ++ rest)) (deeds_of ts) ∙ spends_counted closing (serials_of ts) (backwards ts) rest (λ s. count_backwards s ts)

pub empty_met : (ts : Tickets) (ids : List ℕ) → after ts (to_empty ids) (all_spent (within ids ts)) ≡ Some (beyond ids ts)
empty_met ts ids =
    ap (λ ds. some_if (spends false (serials_of (within ids ts)) ds) (beyond ids ts)) (sym (append-nil (all_spent (within ids ts))))
    ∙ ap (λ b. some_if b (beyond ids ts)) (spent_all false (within ids ts) [])

pub close_met : (ts : Tickets) → after ts to_close (all_spent ts ++ Ends ∷ []) ≡ Some []
close_met ts = ap (λ b. some_if b []) (spent_all true ts (Ends ∷ []))
