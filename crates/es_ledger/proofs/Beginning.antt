-- A ledger without events.
use Rattle.std.proofs.Common.{◌≡◌, ◌⊎◌, ⊎_elim, inl, inr, ℕ, zero, suc, ◌<◌, ◌≤◌, List, [], ◌∷◌, ◌++◌, ◌==◌, ◌*◌, ◌+◌, Bool, true, false, cond, Option, Some, None, refl, sym, ap, ◌∙◌, subst, arith, length}
use Rattle.std.specs.Prelude.{slice_get, slice_index_or, map}
use Rattle.es_event.specs.Ledger.{Ledger}
use Rattle.es_ledger.specs.Blocks.{no_block, block_at, tickets_at}
use Rattle.es_ledger.specs.Letters.{body_of}
use Rattle.es_ledger.specs.Ports.{QueueView, no_queue}
use Rattle.es_event.specs.declared.waiter.Waiter.{Waiter}
use Rattle.es_ledger.specs.Ties.{left, waiting, AreNamed, Mail, Sleepers, Columns, LedgerTies}

-- the last of a list, or one before it
pub got_new : {A : Type 0} (xs : List A) (x s : A) (i : ℕ) → slice_get (xs ++ x ∷ []) i ≡ Some s → (slice_get xs i ≡ Some s) ⊎ ((i ≡ length xs) × (x ≡ s))
got_new [] x s zero e = inr (refl, (cc))
got_new [] x s (suc i) e = absurd (cc)
got_new (y ∷ ys) x s zero e = inl e
got_new (y ∷ ys) x s (suc i) e = ⊎_elim (λ t. inl t) (λ t. inr (ap suc t.0, t.1)) (got_new ys x s i e)

-- what each place has that is one, each place has with one more
pub still_none : (xs : List (Option ℕ)) (a : ℕ) → ((b : ℕ) → slice_index_or xs b None ≡ None) → slice_index_or (xs ++ None ∷ []) a None ≡ None
still_none [] zero each = refl
still_none [] (suc a) each = refl
still_none (x ∷ xs) zero each = each 0
still_none (x ∷ xs) (suc a) each = still_none xs a (λ b. each (suc b))

pub still_false : (xs : List Bool) (a : ℕ) → ((b : ℕ) → slice_index_or xs b false ≡ false) → slice_index_or (xs ++ false ∷ []) a false ≡ false
still_false [] zero each = refl
still_false [] (suc a) each = refl
still_false (x ∷ xs) zero each = each 0
still_false (x ∷ xs) (suc a) each = still_false xs a (λ b. each (suc b))

left_all : (n : ℕ) → left [] n ≡ n
left_all zero = refl
left_all (suc n) = let rest = left_all n in omega (arith, rest)

none_at : (b : ℕ) → block_at [] b ≡ no_block
none_at b = by_test (b == 0)
  where
    by_test : (s : Bool) → cond s no_block no_block ≡ no_block
    by_test true = refl
    by_test false = refl

-- nobody waits, and the ports are empty

none_waits : (n : ℕ) → waiting [] n ≡ 0
none_waits zero = refl
none_waits (suc n) = let rest = none_waits n in omega (arith, rest)

new_mail : {L : Type 0} (n : ℕ) (l : Ledger) (ws : List (Option ℕ)) (qs : List (QueueView L))
    → length qs ≡ n * 8 → ((i : ℕ) → (slice_index_or qs i no_queue).letters ≡ []) → length ws ≡ n → ((a : ℕ) → slice_index_or ws a None ≡ None) → Mail n [] ws qs
new_mail n l ws qs size empty long quiet = record {
  columns = size;
  ports = λ s r sender receiver. ap (map body_of) (empty (s * 8 + r));
  named = λ s r sender receiver. subst (AreNamed []) (sym (empty (s * 8 + r))) tt;
  agents = long;
  awaited = λ a below. quiet a;
  senders = λ a s below is. cc;
}

new_sleepers : (n : ℕ) (ws : List Waiter) (bs : List Bool) → ws ≡ [] → length bs ≡ n → ((a : ℕ) → slice_index_or bs a false ≡ false) → Sleepers n [] ws bs
new_sleepers n ws bs none long awake = record { lists = none; agents = long; each = λ a below. awake a }

pub new_ties : {L : Type 0} (n : ℕ) (l : Ledger) (k : Columns L)
    → n < 9 → l ≡ [] → k.lines ≡ [] → k.blocks ≡ [] → length k.ends ≡ n → ((a : ℕ) → slice_index_or k.ends a false ≡ false)
    → length k.waits ≡ n → ((a : ℕ) → slice_index_or k.waits a None ≡ None) → length k.queues ≡ n * 8 → ((i : ℕ) → (slice_index_or k.queues i no_queue).letters ≡ []) → k.messages ≡ 0
    → k.listed ≡ [] → length k.sleeping ≡ n → ((a : ℕ) → slice_index_or k.sleeping a false ≡ false)
    → n ≤ k.places → LedgerTies n l k
new_ties n l k few none no_lines no_blocks agents_are quiet waits_are nobody size empty no_messages unlisted sleepers_are awake room =
    subst (λ l. LedgerTies n l k) (sym none) (record {
      few = few;
      legal = (tt, refl);
      tabled = no_lines;
      made = ap (λ all. length all) no_blocks;
      tickets = λ b. ap (λ all. tickets_at all b) no_blocks ∙ ap (λ k. k.tickets) (none_at b);
      sizes = λ b some. absurd (omega (arith, some));
      words = λ b i some. absurd (omega (arith, some));
      agents = agents_are;
      over = λ a below. quiet a;
      mail = new_mail n l k.waits k.queues size empty waits_are nobody;
      sleepers = new_sleepers n k.listed k.sleeping unlisted sleepers_are awake;
      room = let all = left_all n in let waits = none_waits n in omega (arith, all, waits, no_messages, room);
    })
