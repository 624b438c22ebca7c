-- A message is posted, and taken.
use Rattle.std.proofs.Common.{◌≡◌, ◌≢◌, ℕ, suc, ◌+◌, ◌-◌, ◌<◌, ◌≤◌, ◌==◌, List, [], ◌∷◌, ◌++◌, Option, Some, None, Bool, true, false, cond, refl, sym, ap, ◌∙◌, subst, arith, length, length-set, length-append, append-nil, zero-add, eq-eqb}
use Rattle.std.proofs.lemmas.Bool.{eqb-true, false≢true}
use Rattle.std.proofs.lemmas.Bool.Decides.{nat_tests}
use Rattle.std.proofs.lemmas.List.Sums.{sum_by_push, sum_by-cons}
use Rattle.std.specs.Prelude.{slice_set, slice_get, slice_index_or, is_some, nat_lt, map}
use Rattle.std.specs.List.{Contains}
use Rattle.std.specs.Option.{option_and_then, option_map}
use Rattle.es_value.specs.Values.{identity}
use Rattle.es_value.specs.declared.value.Value.{Value}
use Rattle.es_event.specs.declared.ledger_event.Body.TheVariants.{Plain as PlainBody, Block as BlockBody}
use Rattle.es_event.specs.declared.ledger_event.LedgerEvent.TheVariants.{Posted, Taken}
use Rattle.es_event.specs.declared.row.Row.{Row}
use Rattle.es_event.specs.declared.row.Entry.{Entry}
use Rattle.es_event.specs.declared.row.Holder.TheVariants.{Agent, Port}
use Rattle.es_event.specs.Rows.{row, held, held_by, in_port, unspent, count_of, is_somebody, line_of}
use Rattle.es_event.specs.Ledger.{Ledger, opened, serials, size, table, rows, count, waits as awaits, serial_in, moved_if}
use Rattle.es_event.specs.LegalLedger.{LegalSoFar, has_message}
use Rattle.es_ledger.specs.declared.blocks.Counted.{Counted}
use Rattle.es_ledger.specs.declared.message.Letter.{Letter}
use Rattle.es_ledger.specs.declared.message.Letter.TheVariants.{Plain, Block}
use Rattle.es_ledger.specs.Blocks.{block_at, tickets_at, words_at, gained}
use Rattle.es_ticket.specs.Stakes.{StakeView}
use Rattle.es_ledger.specs.Letters.{body_of, Received}
use Rattle.es_ledger.specs.Handing.{LiesIn, Handed}
use Rattle.es_ledger.specs.Ports.{QueueView, letters_at}
use Rattle.es_ledger.specs.Ties.{left, waiting, row_at, Mail, Columns, LedgerTies}
use Rattle.es_ledger.proofs.Lines.{rows_append, holder_at}
use Rattle.es_ledger.proofs.Numbered.{numbered, none_next}
use Rattle.es_ledger.proofs.Kept.{set_here, set_there}
use Rattle.es_ledger.proofs.Made.{block_made, block_there}
use Rattle.es_ledger.proofs.Mail.{mail_posted, mail_popped, set_wait, sleepers_same, waiting_one, waiting_same}
use Rattle.es_ledger.proofs.Opening.{table_length}
use Rattle.es_ledger.proofs.Plain.{ArePlain, all_plain}
use Rattle.es_ledger.proofs.Tying.{next_legal, left_same, still_ties, words_in, rows_short, in_history}
use Rattle.es_ledger.proofs.Lain.{front_is, ticket_line, in_port_of, made_line, taken_unspent, counted_in}

-- A value is posted

pub posted_plain_ties : {L : Type 0} (n : ℕ) (l : Ledger) (k : Columns L) (queues : List (QueueView L)) (number more s r : ℕ) (v : Value)
    → LedgerTies n l k → s < n → r < n → s ≢ r
    → length queues ≡ length k.queues → letters_at queues s r ≡ letters_at k.queues s r ++ Plain v ∷ [] → ((t u : ℕ) → u < 8 → (t ≡ s → u ≡ r → ⊥) → letters_at queues t u ≡ letters_at k.queues t u)
    → number ≡ k.messages + 1 → length (rows l) + left l n + waiting l n + k.messages + 2 ≤ more + 1 → identity v ≡ None
    → LedgerTies n (Posted s r (PlainBody v) ∷ l) (record k { queues = queues; messages = number; places = more })
posted_plain_ties n l k queues number more s r v ties sender receiver apart columns here others next room plain =
    let same : table l ++ [] ≡ table l = append-nil (table l) in
    let tickets : length (unspent (table l ++ [])) ≡ length (rows l) = ap (λ t. length (unspent t)) same in
    let waits = waiting_same l (Posted s r (PlainBody v)) n (λ a. refl) (λ a. refl) in
    still_ties n l k _ (Posted s r (PlainBody v)) ties (sender, receiver, apart, plain) refl
    (ties.tabled ∙ sym same) (zero-add (opened l)) (λ b. refl) (λ b. refl) (λ b. ap (λ t. count_of (unspent t) b) same) (λ b i. refl)
    refl refl (mail_posted n l k.waits k.queues queues s r (Plain v) ties.mail ties.few columns here others tt) (sleepers_same n l (Posted s r (PlainBody v) ∷ l) k.listed k.sleeping ties.sleepers refl (λ c. refl))
    (omega (arith, tickets, waits, next, room))

-- A block is posted

-- one ticket more is seen at this block alone
gained_seen : (blocks : List Counted) (b c : ℕ) → 0 < b → b ≤ length blocks
    → block_at (gained blocks b) c ≡ cond (b == c) (record { words = (block_at blocks b).words; tickets = tickets_at blocks b + 1 }) (block_at blocks c)
gained_seen blocks b c positive within = by_test (b == c) refl
  where
    new : Counted
    new = record { words = (block_at blocks b).words; tickets = tickets_at blocks b + 1 }

    by_test : (s : Bool) → (b == c) ≡ s → block_at (gained blocks b) c ≡ cond s new (block_at blocks c)
    by_test true is = subst (λ d. block_at (gained blocks b) d ≡ new) (eqb-true b c is) (set_here blocks b new positive within)
    by_test false is = set_there blocks b c new positive (λ same. absurd (false≢true (sym is ∙ eq-eqb b c same)))

posted_count : (l : Ledger) (s r b k c : ℕ) → count (Posted s r (BlockBody b k) ∷ l) c ≡ cond (b == c) 1 0 + count l c
posted_count l s r b k c =
    let f = λ (x : Row). cond {A = ℕ} (x.block == c) 1 0 in
    omega (arith, ap (λ l. count_of l c) (rows_append is_somebody (table l) (held_by (Port s r) (row k b (size l b)) ∷ [])), sum_by_push f (rows l) (row k b (size l b)))

posted_length : (l : Ledger) (s r b k : ℕ) → length (rows (Posted s r (BlockBody b k) ∷ l)) ≡ suc (length (rows l))
posted_length l s r b k =
    omega (arith, ap length (rows_append is_somebody (table l) (held_by (Port s r) (row k b (size l b)) ∷ [])), length-append (rows l) (row k b (size l b) ∷ []))

-- the next serial's row is found
row_next : (k : ℕ) (t : List Entry) (e : Entry) → holder_at k t ≡ None → e.row.serial ≡ k → row_at k (t ++ e ∷ []) ≡ Some e.row
row_next k t e none is = in_last t none
  where
    here : row_at k (e ∷ []) ≡ Some e.row
    here = ap (λ b. option_map (λ (y : Entry). y.row) (cond b (Some e) None)) (eq-eqb e.row.serial k is)

    in_last : (t : List Entry) → holder_at k t ≡ None → row_at k (t ++ e ∷ []) ≡ Some e.row
    in_last [] none = here
    in_last (x ∷ xs) none = step (x.row.serial == k) none (in_last xs)
      where
        step : (b : Bool) → option_map (λ e. e.holder) (cond b (Some x) (line_of k xs)) ≡ None → (holder_at k xs ≡ None → row_at k (xs ++ e ∷ []) ≡ Some e.row) → option_map (λ e. e.row) (cond b (Some x) (line_of k (xs ++ e ∷ []))) ≡ Some e.row
        step true none ih = cc
        step false none ih = ih none

-- the row that the ledger's table gives to the message's ticket
pub posted_row : {L : Type 0} (n : ℕ) (l : Ledger) (k : Columns L) (a : ℕ) (mine : List Row) (r : Row)
    → LedgerTies n l k → Contains mine r → mine ≡ held a k.lines → row (length k.lines + 1) r.block r.words ≡ row (serials l + 1) r.block (size l r.block)
posted_row n l k a mine r ties has told =
    let lined : length k.lines ≡ serials l = ap (λ t. length t) ties.tabled ∙ table_length n l ties.legal.0 in
    let there = block_there n l a r ties.legal.0 (in_history mine a k.lines l r has told ties.tabled) in
    ap (λ m. row (m + 1) r.block r.words) lined ∙ ap (λ w. row (serials l + 1) r.block w) there.1

-- fewer tickets than the table has k.lines
pub tickets_few : {L : Type 0} (n : ℕ) (l : Ledger) (k : Columns L) (b : ℕ)
    → LedgerTies n l k → tickets_at k.blocks b ≤ length k.lines
tickets_few n l k b ties =
    let all = ties.tickets b in
    let short = rows_short is_somebody (table l) in
    let few = count_short (rows l) in
    let tabled : length k.lines ≡ length (table l) = ap (λ t. length t) ties.tabled in
    omega (arith, all, short, few, tabled)
  where
    count_short : (rs : List Row) → count_of rs b ≤ length rs
    count_short [] = omega arith
    count_short (x ∷ xs) =
        let rest = count_short xs in
        let all = sum_by-cons (λ (y : Row). cond {A = ℕ} (y.block == b) 1 0) x xs in
        let one = at_most (x.block == b) in
        omega (arith, rest, all, one)
      where
        at_most : (s : Bool) → cond {A = ℕ} s 1 0 ≤ 1
        at_most true = omega arith
        at_most false = omega arith

pub posted_block_ties : {L : Type 0} (n : ℕ) (l : Ledger) (k : Columns L) (queues : List (QueueView L)) (number more s r : ℕ) (x : Row)
    → LedgerTies n l k → s < n → r < n → s ≢ r → Contains (held s (table l)) x
    → length queues ≡ length k.queues → letters_at queues s r ≡ letters_at k.queues s r ++ Block (row (serials l + 1) x.block (size l x.block)) ∷ []
    → ((t u : ℕ) → u < 8 → (t ≡ s → u ≡ r → ⊥) → letters_at queues t u ≡ letters_at k.queues t u)
    → number ≡ k.messages + 1 → length (rows l) + left l n + waiting l n + k.messages + 3 ≤ more + 1
    → LedgerTies n (Posted s r (BlockBody x.block (serials l + 1)) ∷ l) (record k { lines = k.lines ++ held_by (Port s r) (row (serials l + 1) x.block (size l x.block)) ∷ []; blocks = gained k.blocks x.block; queues = queues; messages = number; places = more })
posted_block_ties n l k queues number more s r x ties sender receiver apart has columns here others next room =
    let there = block_there n l s x ties.legal.0 has in
    let number = block_made n l x.block ties.legal.0 there.0 in
    let within : x.block ≤ length k.blocks = subst (λ m. x.block ≤ m) (sym ties.made) number.1 in
    let ticket : Row = row (serials l + 1) x.block (size l x.block) in
    record {
      few = ties.few;
      legal = next_legal n l (Posted s r (BlockBody x.block (serials l + 1))) ties.legal (sender, receiver, apart, (refl, some_test (count_of (held s (table l)) x.block) (counted_in (held s (table l)) x has))) refl;
      tabled = ap (λ t. t ++ held_by (Port s r) ticket ∷ []) ties.tabled;
      made = length-set k.blocks (x.block - 1) _ ∙ ties.made ∙ sym (zero-add (opened l));
      tickets = λ c. ap (λ k. k.tickets) (gained_seen k.blocks x.block c number.0 within) ∙ counted c (x.block == c) refl ∙ sym (posted_count l s r x.block (serials l + 1) c);
      sizes = λ c some.
          ap (λ k. length (words_in k)) (gained_seen k.blocks x.block c number.0 within)
          ∙ ap (λ ws. length ws) (worded c (x.block == c) refl) ∙ ties.sizes c (before there.0 c (x.block == c) refl (subst (λ m. 0 < m) (posted_count l s r x.block (serials l + 1) c) some));
      words = λ c j some.
          ap (λ k. slice_index_or (words_in k) j 0) (gained_seen k.blocks x.block c number.0 within)
          ∙ ap (λ ws. slice_index_or ws j 0) (worded c (x.block == c) refl) ∙ ties.words c j (before there.0 c (x.block == c) refl (subst (λ m. 0 < m) (posted_count l s r x.block (serials l + 1) c) some));
      agents = ties.agents;
      over = ties.over;
      mail = mail_posted n l k.waits k.queues queues s r (Block ticket) ties.mail ties.few columns here others
          (row_next (serials l + 1) (table l) (held_by (Port s r) ticket) (none_next l (serials l + 1) (numbered n l ties.legal.0) refl) refl);
      sleepers = sleepers_same n l (Posted s r (BlockBody x.block (serials l + 1)) ∷ l) k.listed k.sleeping ties.sleepers refl (λ c. refl);
      room =
          let one_more = posted_length l s r x.block (serials l + 1) in
          let agents_left = left_same (Posted s r (BlockBody x.block (serials l + 1))) l n (λ c. refl) in
          let waits = waiting_same l (Posted s r (BlockBody x.block (serials l + 1))) n (λ c. refl) (λ c. refl) in
          omega (arith, room, next, one_more, agents_left, waits);
    }
  where
    some_test : (m : ℕ) → 0 < m → nat_lt 0 m ≡ true
    some_test m some = grind (arith, nat_tests, some)

    counted : (c : ℕ) (t : Bool) → (x.block == c) ≡ t → (cond t (record { words = (block_at k.blocks x.block).words; tickets = tickets_at k.blocks x.block + 1 }) (block_at k.blocks c)).tickets ≡ cond t 1 0 + count l c
    counted c true is = let same = eqb-true x.block c is in let all = ties.tickets x.block in let moved : count l x.block ≡ count l c = ap (count l) same in omega (arith, all, moved)
    counted c false is = ties.tickets c ∙ sym (zero-add (count l c))

    worded : (c : ℕ) (t : Bool) → (x.block == c) ≡ t → words_in (cond t (record { words = (block_at k.blocks x.block).words; tickets = tickets_at k.blocks x.block + 1 }) (block_at k.blocks c)) ≡ words_at k.blocks c
    worded c true is = ap (words_at k.blocks) (eqb-true x.block c is)
    worded c false is = refl

    before : 0 < count l x.block → (c : ℕ) (t : Bool) → (x.block == c) ≡ t → 0 < cond t 1 0 + count l c → 0 < count l c
    before there c true is some = subst (λ d. 0 < count l d) (eqb-true x.block c is) there
    before there c false is some = omega (arith, some)

-- A message is taken

-- an empty port has none
pub none_there : {L : Type 0} (n : ℕ) (l : Ledger) (k : Columns L) (s r : ℕ)
    → LedgerTies n l k → s < n → r < n → letters_at k.queues s r ≡ [] → has_message l s r ≡ false
none_there n l k s r ties sender receiver none =
    let few = ties.few in ap (λ p. is_some (slice_get p 0)) (sym (ties.mail.ports s r sender (omega (arith, few, receiver))) ∙ ap (map body_of) none)

-- a letter's ticket lies in its port
pub letter_lies : {L : Type 0} (n : ℕ) (l : Ledger) (k : Columns L) (s r : ℕ) (x : Letter L) (rest : List (Letter L))
    → LedgerTies n l k → s < n → r < n → letters_at k.queues s r ≡ x ∷ rest → LiesIn (in_port s r k.lines) x
letter_lies n l k s r (Plain v) rest ties sender receiver is = tt
letter_lies n l k s r (Block t) rest ties sender receiver is =
    let few = ties.few in
    let line = ticket_line n l k.waits k.queues s r t rest ties.legal.0 ties.mail sender (omega (arith, few, receiver)) is in
    subst (λ ls. Contains (in_port s r ls) t) (sym ties.tabled) (in_port_of t.serial s r t (table l) line)

-- and has the words of its block
pub letter_words : {L : Type 0} (n : ℕ) (l : Ledger) (k : Columns L) (s r : ℕ) (t : Row) (rest : List (Letter L))
    → LedgerTies n l k → s < n → r < n → letters_at k.queues s r ≡ Block t ∷ rest → t ≡ row t.serial t.block (size l t.block)
letter_words n l k s r t rest ties sender receiver is =
    let few = ties.few in
    let line = ticket_line n l k.waits k.queues s r t rest ties.legal.0 ties.mail sender (omega (arith, few, receiver)) is in
    ap (λ w. row t.serial t.block w) (made_line n l t.serial (held_by (Port s r) t) ties.legal.0 line).2

-- what the table has afterwards
taken_tickets : {L : Type 0} (n : ℕ) (l : Ledger) (ws : List (Option ℕ)) (qs : List (QueueView L)) (s r : ℕ) (x : Letter L) (rest : List (Letter L))
    → LegalSoFar n l → Mail n l ws qs → s < n → r < 8 → letters_at qs s r ≡ x ∷ rest → unspent (moved_if (serial_in (body_of x)) (Agent r) (table l)) ≡ unspent (table l)
taken_tickets n l ws qs s r (Plain v) rest legal mail sender receiver is = refl
taken_tickets n l ws qs s r (Block t) rest legal mail sender receiver is = taken_unspent n l s r r t legal (ticket_line n l ws qs s r t rest legal mail sender receiver is)

pub taken_ties : {L : Type 0} (n : ℕ) (l : Ledger) (k : Columns L) (queues : List (QueueView L)) (number more s r : ℕ) (x : Letter L)
    → LedgerTies n l k → s < n → r < n
    → length queues ≡ length k.queues → letters_at k.queues s r ≡ x ∷ letters_at queues s r → ((t u : ℕ) → u < 8 → (t ≡ s → u ≡ r → ⊥) → letters_at queues t u ≡ letters_at k.queues t u)
    → k.messages ≡ 1 + number → k.places ≤ more + 1
    → LedgerTies n (Taken s r ∷ l) (record k { lines = moved_if (serial_in (body_of x)) (Agent r) k.lines; waits = slice_set k.waits r None; queues = queues; messages = number; places = more })
taken_ties n l k queues number more s r x ties sender receiver columns here others one last =
    let few = ties.few in
    let column : r < 8 = omega (arith, few, receiver) in
    let at_front = front_is n l k.waits k.queues s r x (letters_at queues s r) ties.mail sender column here in
    let tickets = taken_tickets n l k.waits k.queues s r x (letters_at queues s r) ties.legal.0 ties.mail sender column here in
    let moves : moved_if (serial_in (body_of x)) (Agent r) (table l) ≡ table (Taken s r ∷ l) = ap (λ o. moved_if (option_and_then serial_in o) (Agent r) (table l)) (sym at_front) in
    let all : unspent (table (Taken s r ∷ l)) ≡ unspent (table l) = ap unspent (sym moves) ∙ tickets in
    let long : length (rows (Taken s r ∷ l)) ≡ length (rows l) = ap (λ rs. length rs) all in
    let waits = waiting_one l (Taken s r) n r None receiver (λ c. refl) (λ c. refl) in
    let room = ties.room in
    still_ties n l k _ (Taken s r) ties (ap is_some at_front) refl
    (ap (moved_if (serial_in (body_of x)) (Agent r)) ties.tabled ∙ moves) (zero-add (opened l)) (λ b. refl) (λ b. refl) (λ b. ap (λ rs. count_of rs b) all) (λ b i. refl)
    refl refl (mail_popped n l k.waits (slice_set k.waits r None) k.queues queues s r x (Taken s r) ties.mail columns here others (λ t u. refl) (length-set k.waits r None)
    (λ c within. set_wait l k.waits r None c n ties.mail.agents receiver (ties.mail.awaited c within) (r == c) refl)
    (λ c t within is. still c t (r == c) is)) (sleepers_same n l (Taken s r ∷ l) k.listed k.sleeping ties.sleepers refl (λ c. refl))
    (omega (arith, long, waits, room, one, last))
  where
    still : (c t : ℕ) (b : Bool) → cond b None (awaits l c) ≡ Some t → awaits l c ≡ Some t
    still c t true is = cc
    still c t false is = is

-- what the receiver gets
pub received : {L : Type 0} (n : ℕ) (l : Ledger) (k : Columns L) (s r : ℕ) (x : Letter L) (rest : List (Letter L)) (before after : StakeView)
    → LedgerTies n l k → s < n → r < n → letters_at k.queues s r ≡ x ∷ rest → Handed x before after → Received l x before after
received n l k s r (Plain v) rest before after ties sender receiver is handed =
    (plain_first (letters_at k.queues s r) is (subst ArePlain (sym (ties.mail.ports s r sender (below_8 r n receiver ties.few))) (all_plain n l ties.legal.0 s r)), handed)
  where
    plain_first : {L : Type 0} (q : List (Letter L)) {rest : List (Letter L)} → q ≡ Plain v ∷ rest → ArePlain (map body_of q) → identity v ≡ None
    plain_first q same are = (subst (λ q. ArePlain (map body_of q)) same are).0

    below_8 : (r n : ℕ) → r < n → n < 9 → r < 8
    below_8 r n a b = omega (arith, a, b)
received n l k s r (Block t) rest before after ties sender receiver is handed = (letter_words n l k s r t rest ties sender receiver is, handed)
