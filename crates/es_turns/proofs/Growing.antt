-- How a ledger's history grows, and what is kept of its blocks.
use Rattle.std.proofs.Common.{◌≡◌, ℕ, zero, suc, ◌+◌, ◌-◌, ◌<◌, ◌≤◌, sym, ◌∙◌, ap, refl, subst, arith, List, [], ◌∷◌, ◌++◌, append_assoc, length, drop, take, reverse, get_or, Option, Some, None, take-append-drop, take_all, length-append, length-drop}
use Rattle.std.specs.Option.{option_map_or}
use Rattle.std.proofs.lemmas.List.{reverse-append, reverse-reverse, length-reverse, take_more}
use Rattle.es_event.specs.declared.ledger_event.LedgerEvent.{LedgerEvent}
use Rattle.es_event.specs.declared.ledger_event.LedgerEvent.TheVariants.{Spent, Drained}
use Rattle.es_event.specs.declared.ledger_event.Body.{Body}
use Rattle.es_event.specs.declared.ledger_event.Body.TheVariants.{Plain, Block}
use Rattle.es_event.specs.Ledger.{Ledger, opened, opens, port_of}
use Rattle.es_ledger.specs.Draining.{after_drain, drained_below, drained_each, drained_one, drained_to}
use Rattle.es_turns.specs.Known.{Says, so_far}
use Rattle.es_turns.specs.declared.blocks.Blocks.{Blocks}

-- Of the history

-- the one is the other with events on top
abbrev pub IsLater : (old new : Ledger) → Type 0
IsLater old new = (es : List LedgerEvent) × (new ≡ es ++ old)

pub not_shorter : (old new : Ledger) → IsLater old new → length old ≤ length new
not_shorter old new later =
    let all = ap length later.1 in
    let both = length-append later.0 old in
    omega (arith, all, both)

first_of : (xs ys : List LedgerEvent) → take (length xs) (xs ++ ys) ≡ xs
first_of [] ys = refl
first_of (x ∷ xs) ys = ap (λ l. x ∷ l) (first_of xs ys)

-- what it was when it had as many events as the older one
pub so_far_is : (old new : Ledger) → IsLater old new → so_far (length old) new ≡ old
so_far_is old new later =
    ap (λ l. so_far (length old) l) later.1
    ∙ ap (λ l. reverse (take (length old) l)) (reverse-append later.0 old)
    ∙ ap (λ n. reverse (take n (reverse old ++ reverse later.0))) (sym (length-reverse old))
    ∙ ap reverse (first_of (reverse old) (reverse later.0))
    ∙ reverse-reverse old

-- all of the rest
pub rest_all : (n : ℕ) (events : List LedgerEvent) → take (length events - n) (drop n events) ≡ drop n events
rest_all n events = let left = length-drop n events in take_all (length events - n) (drop n events) (omega (arith, left))

-- with the rest of its events on top it is the whole
pub rest_on : (n : ℕ) (l : Ledger) (events : List LedgerEvent) → reverse events ≡ l → reverse (drop n events) ++ so_far n l ≡ l
rest_on n l events is =
    let all = sym (reverse-reverse events) ∙ ap reverse is in
    ap (λ es. reverse (drop n events) ++ reverse (take n es)) (sym all)
    ∙ sym (reverse-append (take n events) (drop n events))
    ∙ ap reverse (take-append-drop n events)
    ∙ is

-- one more of its events, the oldest first
pub one_more : (events : List LedgerEvent) (l : Ledger) (i : ℕ) (e : LedgerEvent) → i < length events → e ≡ get_or events i e → reverse (take (i + 1) events) ++ l ≡ e ∷ (reverse (take i events) ++ l)
one_more events l i e within is =
    ap (λ es. reverse es ++ l) (take_more events i e within ∙ ap (λ x. take i events ++ x ∷ []) (sym is)) ∙ ap (λ es. es ++ l) (reverse-append (take i events) (e ∷ []))

-- Of blocks

one_block : (o : Option (ℕ × ℕ)) → option_map_or (λ p. 1) o 0 ≤ 1
one_block None = omega arith
one_block (Some p) = omega arith

-- an event opens one block at most
pub few_opened : (l : Ledger) → opened l ≤ length l
few_opened [] = omega arith
few_opened (e ∷ l) =
    let one = one_block (opens e) in
    let rest = few_opened l in
    omega (arith, one, rest)

-- what is written of the history is not more than it, and what was kept of blocks says what it said then
pub ready : (old new : Ledger) (n : ℕ) (b : Blocks) → IsLater old new → n ≡ length old → Says old b → (n ≤ length new) × Says (so_far n new) b
ready old new n b later written says =
    let within = not_shorter old new later in
    (omega (arith, written, within), subst (λ l. Says l b) (sym (ap (λ n. so_far n new) written ∙ so_far_is old new later)) says)

-- there is room for the number of those that the rest of the events opens
pub countable : (l : Ledger) (n m : ℕ) (events : List LedgerEvent) (b : Blocks) → reverse events ≡ l → n ≤ length events → length events < m → Says (so_far n l) b → b.opened + length (drop n events) < m
countable l n m events b is within room says =
    let few = few_opened (so_far n l) in
    let number = says.opened in
    let whole = ap length (rest_on n l events is) in
    let parts = length-append (reverse (drop n events)) (so_far n l) in
    let turned = length-reverse (drop n events) in
    let all = sym (length-reverse events) ∙ ap length is in
    omega (arith, few, number, whole, parts, turned, all, room)

-- After the last event

further : (a b c : Ledger) → IsLater a b → IsLater b c → IsLater a c
further a b c first next = (next.0 ++ first.0, next.1 ∙ ap (λ l. next.0 ++ l) first.1 ∙ sym (append_assoc next.0 first.0 a))

one_drained : (l : Ledger) (s r : ℕ) (m : Body) → IsLater l (drained_one l s r m)
one_drained l s r (Plain v) = (Drained s r ∷ [], refl)
one_drained l s r (Block b k) = (Spent k ∷ Drained s r ∷ [], refl)

each_drained : (l : Ledger) (s r : ℕ) (ms : List Body) → IsLater l (drained_each l s r ms)
each_drained l s r [] = ([], refl)
each_drained l s r (m ∷ ms) = further l (drained_one l s r m) (drained_each (drained_one l s r m) s r ms) (one_drained l s r m) (each_drained (drained_one l s r m) s r ms)

to_drained : (l : Ledger) (r n : ℕ) → IsLater l (drained_to l r n)
to_drained l r zero = ([], refl)
to_drained l r (suc n) =
    let before = drained_to l r n in
    further l before (drained_each before n r (port_of before n r)) (to_drained l r n) (each_drained before n r (port_of before n r))

below_drained : (l : Ledger) (n m : ℕ) → IsLater l (drained_below l n m)
below_drained l n zero = ([], refl)
below_drained l n (suc m) = further l (drained_below l n m) (drained_to (drained_below l n m) m n) (below_drained l n m) (to_drained (drained_below l n m) m n)

pub drained_later : (l : Ledger) (n : ℕ) → IsLater l (after_drain l n)
drained_later l n = below_drained l n n
