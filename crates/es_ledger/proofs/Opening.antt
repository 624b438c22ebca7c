-- A block is opened: it is the next one, its words are 0, and nothing was written into it before.
use Rattle.std.proofs.Common.{◌≡◌, ℕ, zero, suc, ◌+◌, ◌<◌, ◌≤◌, ◌==◌, ◌&&◌, List, [], ◌∷◌, ◌++◌, Option, Some, None, Bool, true, false, cond, refl, sym, ap, ◌∙◌, subst, arith, length, length-append, zero-add, eq-eqb}
use Rattle.std.proofs.lemmas.Bool.{eqb-true, false≢true}
use Rattle.std.specs.Prelude.{slice_index_or}
use Rattle.es_event.specs.declared.ledger_event.LedgerEvent.{LedgerEvent}
use Rattle.es_event.specs.declared.ledger_event.LedgerEvent.TheVariants.{Opened, Accessed}
use Rattle.es_event.specs.declared.row.Holder.TheVariants.{Agent}
use Rattle.es_event.specs.declared.row.Row.{Row}
use Rattle.es_event.specs.Access.{written}
use Rattle.es_event.specs.Rows.{row, held_by}
use Rattle.es_event.specs.Ledger.{Ledger, opened, serials, size, table, rows, count, word, written_by, writes, newest_word, holder_of}
use Rattle.es_event.specs.LegalLedger.{LegalSoFar}
use Rattle.es_ledger.specs.declared.blocks.Counted.{Counted}
use Rattle.es_ledger.specs.Blocks.{block_at}
use Rattle.es_ledger.specs.Ties.{left, waiting, Columns, LedgerTies}
use Rattle.es_ledger.proofs.Kept.{pushed_here, pushed_there}
use Rattle.es_ledger.proofs.After.{spent_count, opened_count, opened_length}
use Rattle.es_ledger.proofs.Made.{block_made}
use Rattle.std.proofs.lemmas.List.{length-replicate, get_or-replicate}
use Rattle.std.specs.Prelude.{replicate, nat_lt}
use Rattle.std.specs.Option.{option_and_then, option_map}
use Rattle.std.proofs.lemmas.List.{length-map}
use Rattle.std.proofs.lemmas.List.FromFn.{length-range_with_len}
use Rattle.es_ledger.proofs.Numbered.{numbered}
use Rattle.es_ledger.proofs.Tying.{next_legal, left_same, words_in}
use Rattle.es_ledger.proofs.Mail.{mail_same, sleepers_same, waiting_same}
use Rattle.std.proofs.lemmas.Bool.Decides.{nat_tests}

-- Nothing is written into a block that was not made

zero_or : (m : ℕ) → (0 < m → ⊥) → m ≡ 0
zero_or zero never = refl
zero_or (suc m) never = absurd (never (omega arith))

holder_made : (n : ℕ) (l : Ledger) (s : ℕ) (p : ℕ × Row) → LegalSoFar n l → holder_of l s ≡ Some p → p.1.block ≤ opened l
holder_made n l s p legal is =
    let counts = spent_count n l s p.0 p.1 legal is p.1.block in
    let here : ◌≡◌ {A = ℕ} (cond (p.1.block == p.1.block) 1 0) 1 = ap (λ s. cond s 1 0) (eq-eqb p.1.block p.1.block refl) in
    (block_made n l p.1.block legal (omega (arith, counts, here))).1

written_made : (n : ℕ) (l : Ledger) (s i w : ℕ) (q : ℕ × ℕ × ℕ) (o : Option (ℕ × Row)) → LegalSoFar n l → holder_of l s ≡ o
    → option_map (λ p. (p.1.block, i, w)) o ≡ Some q → q.0 ≤ opened l
written_made n l s i w q None legal is e = cc
written_made n l s i w q (Some p) legal is e =
    let same : p.1.block ≡ q.0 = ap (λ o. first o) e in
    subst (λ b. b ≤ opened l) same (holder_made n l s p legal is)
  where
    first : Option (ℕ × ℕ × ℕ) → ℕ
    first None = 0
    first (Some q) = q.0

writes_made : (n : ℕ) (l : Ledger) (e : LedgerEvent) (q : ℕ × ℕ × ℕ) → LegalSoFar n l → writes l e ≡ Some q → q.0 ≤ opened l
writes_made n l (Accessed s i m old) q legal is = by_written (written m old) is
  where
    by_written : (o : Option ℕ) → option_and_then (written_by l s i) o ≡ Some q → q.0 ≤ opened l
    by_written None e = cc
    by_written (Some w) e = written_made n l s i w q (holder_of l s) legal refl e
writes_made n l _ q legal is = cc

opened_more : (e : LedgerEvent) (l : Ledger) → opened l ≤ opened (e ∷ l)
opened_more e l = omega arith

pub unwritten : (n : ℕ) (l : Ledger) → LegalSoFar n l → (b i : ℕ) → opened l < b → word l b i ≡ 0
unwritten n [] legal b i past = refl
unwritten n (e ∷ l) legal b i past =
    let more = opened_more e l in
    by_write (writes l e) refl (unwritten n l legal.1 b i (omega (arith, more, past)))
  where
    by_test : (q : ℕ × ℕ × ℕ) → q.0 ≤ opened l → (s : Bool) → (q.0 == b) ≡ s → word l b i ≡ 0 → cond (s && (q.1 == i)) q.2 (word l b i) ≡ 0
    by_test q made true is before = let same = eqb-true q.0 b is in let more = opened_more e l in absurd (omega (arith, made, same, more, past))
    by_test q made false is before = before

    by_write : (o : Option (ℕ × ℕ × ℕ)) → writes l e ≡ o → word l b i ≡ 0 → newest_word o b i (word l b i) ≡ 0
    by_write None is before = before
    by_write (Some q) is before = by_test q (writes_made n l e q legal.1 is) (q.0 == b) refl before

-- One more block

abbrev pub zeros : ℕ → List ℕ
zeros w = replicate w 0

abbrev pub fresh : ℕ → Counted
fresh w = record { words = Some (zeros w); tickets = 1 }

each_zero : (w j : ℕ) → ◌≡◌ {A = ℕ} (slice_index_or (zeros w) j 0) 0
each_zero w j = by_test (nat_lt j w) refl
  where
    beyond : (l : List ℕ) (i : ℕ) → length l ≤ i → ◌≡◌ {A = ℕ} (slice_index_or l i 0) 0
    beyond [] i e = refl
    beyond (x ∷ xs) zero e = absurd (omega (arith, e))
    beyond (x ∷ xs) (suc i) e = beyond xs i (omega (arith, e))

    by_test : (s : Bool) → nat_lt j w ≡ s → ◌≡◌ {A = ℕ} (slice_index_or (zeros w) j 0) 0
    by_test true is = get_or-replicate w j 0 0 (grind (arith, nat_tests, is))
    by_test false is =
        let long : length (zeros w) ≡ w = length-replicate w 0 in
        let past : w ≤ j = grind (arith, nat_tests, is) in
        beyond (zeros w) j (omega (arith, long, past))

pub opened_ties : {L : Type 0} (n : ℕ) (l : Ledger) (k : Columns L) (more a w : ℕ)
    → LedgerTies n l k → a < n → length (rows l) + left l n + waiting l n + k.messages + 1 ≤ more
    → LedgerTies n (Opened (opened l + 1) w (serials l + 1) a ∷ l) (record k { lines = k.lines ++ held_by (Agent a) (row (serials l + 1) (opened l + 1) w) ∷ []; blocks = k.blocks ++ fresh w ∷ []; places = more })
opened_ties n l k more a w ties below room = record {
  few = ties.few;
  legal = next_legal n l (Opened (opened l + 1) w (serials l + 1) a) ties.legal (refl, refl, below) refl;
  tabled = ap (λ t. t ++ held_by (Agent a) (row (serials l + 1) (opened l + 1) w) ∷ []) ties.tabled;
  made = let long = length-append k.blocks (fresh w ∷ []) in let made = ties.made in omega (arith, long, made);
  tickets = λ c. seen (λ k. k.tickets) c (opened l + 1 == c) refl ∙ counted c (opened l + 1 == c) refl ∙ sym (opened_count l (opened l + 1) w (serials l + 1) a c);
  sizes = λ c some. seen (λ k. length (words_in k)) c (opened l + 1 == c) refl ∙ sized c (opened l + 1 == c) refl (subst (λ m. 0 < m) (opened_count l (opened l + 1) w (serials l + 1) a c) some);
  words = λ c j some. seen (λ k. slice_index_or (words_in k) j 0) c (opened l + 1 == c) refl ∙ worded c j (opened l + 1 == c) refl (subst (λ m. 0 < m) (opened_count l (opened l + 1) w (serials l + 1) a c) some);
  agents = ties.agents;
  over = ties.over;
  mail = mail_same n l k.waits k.queues (Opened (opened l + 1) w (serials l + 1) a) ties.mail (λ s r. refl) (λ c. refl);
  sleepers = sleepers_same n l (Opened (opened l + 1) w (serials l + 1) a ∷ l) k.listed k.sleeping ties.sleepers refl (λ c. refl);
  room =
      let one_more = opened_length l (opened l + 1) w (serials l + 1) a in
      let agents_left = left_same (Opened (opened l + 1) w (serials l + 1) a) l n (λ c. refl) in
      let waits = waiting_same l (Opened (opened l + 1) w (serials l + 1) a) n (λ c. refl) (λ c. refl) in
      omega (arith, room, one_more, agents_left, waits);
}
  where
    seen : {A : Type 0} (f : Counted → A) (c : ℕ) (s : Bool) → (opened l + 1 == c) ≡ s → f (block_at (k.blocks ++ fresh w ∷ []) c) ≡ f (cond s (fresh w) (block_at k.blocks c))
    seen f c true is = let same = eqb-true (opened l + 1) c is in let made = ties.made in ap f (pushed_here k.blocks (fresh w) c (omega (arith, same, made)))
    seen f c false is = ap f (pushed_there k.blocks (fresh w) c (λ e. absurd (false≢true (sym is ∙ eq-eqb (opened l + 1) c (let made = ties.made in omega (arith, e, made))))))

    none_yet : (c : ℕ) → opened l + 1 ≡ c → count l c ≡ 0
    none_yet c same = zero_or (count l c) (λ some. let within = (block_made n l c ties.legal.0 some).1 in absurd (omega (arith, within, same)))

    counted : (c : ℕ) (s : Bool) → (opened l + 1 == c) ≡ s → (cond s (fresh w) (block_at k.blocks c)).tickets ≡ cond s 1 0 + count l c
    counted c true is = let none = none_yet c (eqb-true (opened l + 1) c is) in omega (arith, none)
    counted c false is = ties.tickets c ∙ sym (zero-add (count l c))

    sized : (c : ℕ) (s : Bool) → (opened l + 1 == c) ≡ s → 0 < cond s 1 0 + count l c → length (words_in (cond s (fresh w) (block_at k.blocks c))) ≡ cond s w (size l c)
    sized c true is some = length-replicate w 0
    sized c false is some = ties.sizes c (omega (arith, some))

    worded : (c j : ℕ) (s : Bool) → (opened l + 1 == c) ≡ s → 0 < cond s 1 0 + count l c → slice_index_or (words_in (cond s (fresh w) (block_at k.blocks c))) j 0 ≡ word l c j
    worded c j true is some = each_zero w j ∙ sym (unwritten n l ties.legal.0 c j (let same = eqb-true (opened l + 1) c is in omega (arith, same)))
    worded c j false is some = ties.words c j (omega (arith, some))

-- Numbers

pub table_length : (n : ℕ) (l : Ledger) → LegalSoFar n l → length (table l) ≡ serials l
table_length n l legal = sym (length-map (table l) (λ e. e.row.serial)) ∙ ap (λ ks. length ks) (numbered n l legal) ∙ length-range_with_len 1 (serials l)

-- the next line is that of the next serial, and the next block the next one
pub next_row : {L : Type 0} (n : ℕ) (l : Ledger) (k : Columns L) (b w : ℕ)
    → LedgerTies n l k → b ≡ length k.blocks → row (length k.lines + 1) (b + 1) w ≡ row (serials l + 1) (opened l + 1) w
next_row n l k b w ties is =
    let lined : length k.lines ≡ serials l = ap (λ t. length t) ties.tabled ∙ table_length n l ties.legal.0 in
    ap (λ m. row (m + 1) (b + 1) w) lined ∙ ap (λ m. row (serials l + 1) (m + 1) w) (is ∙ ties.made)
