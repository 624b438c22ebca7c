-- Ledgers that tell the same still do after the same event, and after a wait of one alone.
use Rattle.std.specs.Prelude.{slice_get, is_some, nat_lt, nat_le, codes, decimal, reverse, ◌&&◌, ◌==◌}
use Rattle.std.specs.List.{range_with_len}
use Rattle.std.proofs.Common.{◌≡◌, ℕ, ◌+◌, ◌||◌, Bool, false, cond, sym, ◌∙◌, ap, refl, arith, List, [], ◌∷◌, ◌++◌, Option, None, Some}
use Rattle.std.specs.Prelude.{count_by}
use Rattle.std.proofs.lemmas.List.Sums.{sum_by-cons}
use Rattle.std.specs.Option.{option_and_then, option_map, option_map_or}
use Rattle.es_event.specs.declared.ledger_event.Body.{Body}
use Rattle.es_event.specs.declared.ledger_event.Body.TheVariants.{Plain, Block}
use Rattle.es_event.specs.declared.ledger_event.LedgerEvent.{LedgerEvent}
use Rattle.es_event.specs.declared.ledger_event.LedgerEvent.TheVariants.{Posted, Taken, Accessed, Acted}
use Rattle.es_event.specs.declared.ledger_event.Act.{Act}
use Rattle.es_event.specs.declared.ledger_event.Act.TheVariants.{Waiting, Slept, Notified}
use Rattle.es_event.specs.declared.waiter.Waiter.{Waiter}
use Rattle.es_event.specs.declared.row.Entry.{Entry}
use Rattle.es_event.specs.declared.row.Holder.TheVariants.{Agent, Port}
use Rattle.es_event.specs.Access.{written}
use Rattle.es_event.specs.Rows.{count_of, unspent, line_of, row, held_by}
use Rattle.es_event.specs.Ledger.{Ledger, opened, word, opens, newest_size, issues, queued, front, posted_line, serial_in, moved_if, table, table_after, by_agent, holder_of, writes, written_by, newest_word, is_end_of}
use Rattle.es_event.specs.Waiters.{asleep, asleep_after, block_by, waiter, waiters, waiters_after, without_first}
use Rattle.es_event.specs.LegalLedger.{has_message}
use Rattle.es_event.specs.Totals.{is_posted, is_taken, is_drained, released}
use Rattle.es_event.specs.declared.outcome.Outcome.{Outcome}
use Rattle.es_event.specs.Report.{agents_text, cluster_text, report}
use Rattle.es_theorems.specs.Alike.{Alike, SameEnd}

-- With itself, and from both sides

pub same : (l : Ledger) → Alike l l
same l = record { opened = refl; serials = refl; sizes = λ b. refl; ports = λ s r. refl; tables = refl; words = λ b i. refl; waiters = refl; asleep = λ a. refl; ends = λ a. refl; posted = refl; taken = refl; drained = refl }

pub turned : (l m : Ledger) → Alike l m → Alike m l
turned l m a = record {
  opened = sym a.opened;
  serials = sym a.serials;
  sizes = λ b. sym (a.sizes b);
  ports = λ s r. sym (a.ports s r);
  tables = sym a.tables;
  words = λ b i. sym (a.words b i);
  waiters = sym a.waiters;
  asleep = λ n. sym (a.asleep n);
  ends = λ n. sym (a.ends n);
  posted = sym a.posted;
  taken = sym a.taken;
  drained = sym a.drained;
}

pub through : (l m k : Ledger) → Alike l m → Alike m k → Alike l k
through l m k a b = record {
  opened = a.opened ∙ b.opened;
  serials = a.serials ∙ b.serials;
  sizes = λ n. a.sizes n ∙ b.sizes n;
  ports = λ s r. a.ports s r ∙ b.ports s r;
  tables = a.tables ∙ b.tables;
  words = λ n i. a.words n i ∙ b.words n i;
  waiters = a.waiters ∙ b.waiters;
  asleep = λ n. a.asleep n ∙ b.asleep n;
  ends = λ n. a.ends n ∙ b.ends n;
  posted = a.posted ∙ b.posted;
  taken = a.taken ∙ b.taken;
  drained = a.drained ∙ b.drained;
}

-- What follows from them

pub same_front : (l m : Ledger) (s r : ℕ) → Alike l m → front l s r ≡ front m s r
same_front l m s r a = ap (λ q. slice_get q 0) (a.ports s r)

pub same_message : (l m : Ledger) (s r : ℕ) → Alike l m → has_message l s r ≡ has_message m s r
same_message l m s r a = ap is_some (same_front l m s r a)

pub same_holder : (l m : Ledger) (s : ℕ) → Alike l m → holder_of l s ≡ holder_of m s
same_holder l m s a = ap (λ t. option_and_then by_agent (line_of s t)) a.tables

-- After the same event

same_line : (l m : Ledger) (a r : ℕ) (b : Body) → Alike l m → posted_line l a r b ≡ posted_line m a r b
same_line l m a r (Plain v) alike = refl
same_line l m a r (Block b s) alike = ap (λ n. held_by (Port a r) (row s b n) ∷ []) (alike.sizes b)

same_table : (l m : Ledger) (e : LedgerEvent) (t : List Entry) → Alike l m → table_after l e t ≡ table_after m e t
same_table l m (Posted a r b) t alike = ap (λ x. t ++ x) (same_line l m a r b alike)
same_table l m (Taken s r) t alike = ap (λ o. moved_if (option_and_then serial_in o) (Agent r) t) (same_front l m s r alike)
same_table l m _ t alike = refl

same_written : (l m : Ledger) (s i w : ℕ) → Alike l m → written_by l s i w ≡ written_by m s i w
same_written l m s i w alike = ap (λ o. option_map (λ p. (p.1.block, i, w)) o) (same_holder l m s alike)

same_writes : (l m : Ledger) (e : LedgerEvent) → Alike l m → writes l e ≡ writes m e
same_writes l m (Accessed s i done old) alike = by_written (written done old)
  where
    by_written : (o : Option ℕ) → option_and_then (written_by l s i) o ≡ option_and_then (written_by m s i) o
    by_written None = refl
    by_written (Some w) = same_written l m s i w alike
same_writes l m _ alike = refl

same_block : (l m : Ledger) (s : ℕ) → Alike l m → block_by l s ≡ block_by m s
same_block l m s alike = ap (λ o. option_map_or (λ p. p.1.block) o 0) (same_holder l m s alike)

same_lists : (l m : Ledger) (a : ℕ) (d : Act) (ws : List Waiter) → Alike l m → waiters_after l a d ws ≡ waiters_after m a d ws
same_lists l m a (Slept s i w) ws alike = ap (λ b. ws ++ waiter a b i ∷ []) (same_block l m s alike)
same_lists l m a (Notified s i n k) ws alike = ap (λ b. without_first b i n ws) (same_block l m s alike)
same_lists l m a _ ws alike = refl

same_waiters : (l m : Ledger) (e : LedgerEvent) → Alike l m → waiters (e ∷ l) ≡ waiters (e ∷ m)
same_waiters l m (Acted a d) alike = same_lists l m a d (waiters l) alike ∙ ap (waiters_after m a d) alike.waiters
same_waiters l m _ alike = alike.waiters

same_asleep : (l m : Ledger) (e : LedgerEvent) (n : ℕ) → Alike l m → asleep (e ∷ l) n ≡ asleep (e ∷ m) n
same_asleep l m (Acted a d) n alike = ap (asleep_after a d n) (alike.asleep n)
same_asleep l m _ n alike = alike.asleep n

counted : (p : LedgerEvent → Bool) (l m : Ledger) (e : LedgerEvent) → count_by p l ≡ count_by p m → count_by p (e ∷ l) ≡ count_by p (e ∷ m)
counted p l m e is = sum_by-cons (λ e. cond {A = ℕ} (p e) 1 0) e l ∙ ap (λ n. cond {A = ℕ} (p e) 1 0 + n) is ∙ sym (sum_by-cons (λ e. cond {A = ℕ} (p e) 1 0) e m)

pub after_one : (l m : Ledger) (e : LedgerEvent) → Alike l m → Alike (e ∷ l) (e ∷ m)
after_one l m e a = record {
  opened = ap (λ n. option_map_or (λ p. 1) (opens e) 0 + n) a.opened;
  serials = ap (λ n. issues e + n) a.serials;
  sizes = λ b. ap (newest_size (opens e) b) (a.sizes b);
  ports = λ s r. ap (queued e s r) (a.ports s r);
  tables = same_table l m e (table l) a ∙ ap (table_after m e) a.tables;
  words = λ b i. ap (λ o. newest_word o b i (word l b i)) (same_writes l m e a) ∙ ap (newest_word (writes m e) b i) (a.words b i);
  waiters = same_waiters l m e a;
  asleep = λ n. same_asleep l m e n a;
  ends = λ n. ap (λ b. is_end_of e n || b) (a.ends n);
  posted = counted is_posted l m e a.posted;
  taken = counted is_taken l m e a.taken;
  drained = counted is_drained l m e a.drained;
}

uncounted : (p : LedgerEvent → Bool) (l : Ledger) (a s : ℕ) → p (Acted a (Waiting s)) ≡ false → count_by p (Acted a (Waiting s) ∷ l) ≡ count_by p l
uncounted p l a s is = sum_by-cons (λ e. cond {A = ℕ} (p e) 1 0) (Acted a (Waiting s)) l ∙ ap (λ b. cond {A = ℕ} b 1 0 + count_by p l) is ∙ (let none : 0 + count_by p l ≡ count_by p l = omega arith in none)

-- a wait tells nothing of these
pub after_wait : (l : Ledger) (a s : ℕ) → Alike (Acted a (Waiting s) ∷ l) l
after_wait l a s = record { opened = omega arith; serials = omega arith; sizes = λ b. refl; ports = λ s r. refl; tables = refl; words = λ b i. refl; waiters = refl; asleep = λ n. refl; ends = λ n. refl; posted = uncounted is_posted l a s refl; taken = uncounted is_taken l a s refl; drained = uncounted is_drained l a s refl }

-- What a report says of it

abbrev pub released_in : ℕ → List Entry → ℕ
released_in n t = count_by (λ b. (nat_lt 0 b && nat_le b n) && (count_of (unspent t) b == 0)) (range_with_len 1 n)

same_released : (l m : Ledger) → Alike l m → released l ≡ released m
same_released l m a = ap (λ n. released_in n (table l)) a.opened ∙ ap (released_in (opened m)) a.tables

pub same_text : (l m : Ledger) → Alike l m → cluster_text l ≡ cluster_text m
same_text l m a = λ i.
    codes "cluster\nblocks " ++ decimal (a.opened i)
    ++ codes " released " ++ decimal (same_released l m a i)
    ++ codes "\nmessages posted " ++ decimal (a.posted i)
    ++ codes " taken " ++ decimal (a.taken i)
    ++ codes " drained " ++ decimal (a.drained i) ++ codes "\n"

-- so two outcomes that are the same but for waits have one report
pub same_report : (o q : Outcome) → SameEnd o q → report o ≡ report q
same_report o q same = λ i. agents_text (same.names i) (same.histories i) ++ same_text (reverse o.ledger) (reverse q.ledger) same.ledgers i
