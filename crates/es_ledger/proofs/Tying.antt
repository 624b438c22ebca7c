-- What a ledger keeps goes on saying what its history says, one event after another.
use Rattle.std.proofs.Common.{◌≡◌, ℕ, zero, suc, ◌+◌, ◌-◌, ◌<◌, ◌≤◌, ◌==◌, ◌||◌, ◌&&◌, List, [], ◌∷◌, Option, Some, None, Bool, true, false, cond, refl, sym, ap, ◌∙◌, subst, arith, length, length-set, zero-add, eq-eqb, ne_eqb}
use Rattle.std.proofs.lemmas.Bool.{eqb-true, false≢true}
use Rattle.std.proofs.lemmas.List.{get_or-set_same, get_or-set_other}
use Rattle.std.specs.Prelude.{slice_set, slice_index_or, unwrap_or, is_some, IsTrue, ◌↔◌}
use Rattle.std.specs.List.{Contains}
use Rattle.es_event.specs.declared.access.Change.{Change}
use Rattle.es_event.specs.declared.ledger_event.LedgerEvent.{LedgerEvent}
use Rattle.es_event.specs.declared.ledger_event.LedgerEvent.TheVariants.{Spent, Accessed}
use Rattle.es_event.specs.declared.row.Entry.{Entry}
use Rattle.es_event.specs.declared.row.Holder.TheVariants.{Nobody}
use Rattle.es_event.specs.declared.row.Row.{Row}
use Rattle.es_event.specs.declared.row.Holder.{Holder}
use Rattle.es_event.specs.Access.{IsStorable, written}
use Rattle.es_event.specs.Rows.{held, moved, unspent, count_of, rows_by, is_somebody}
use Rattle.es_event.specs.Ledger.{Ledger, opened, size, table, rows, count, word, holder_of, waits as awaits, port_of, ended, is_end_of, written_by, writes, newest_word}
use Rattle.es_event.specs.LegalLedger.{MayCome, ComesNext, LegalLedger, Reaches, owed}
use Rattle.es_ledger.specs.declared.blocks.Counted.{Counted}
use Rattle.es_ledger.specs.Blocks.{no_block, block_at, tickets_at, words_at, rewritten, with_written, with_less, lost}
use Rattle.es_block.specs.Words.{with_word}
use Rattle.std.specs.Option.{option_and_then, option_map}
use Rattle.es_event.specs.Waiters.{asleep, waiters}
use Rattle.es_ledger.specs.Ties.{left, waiting, Mail, Sleepers, Columns, LedgerTies}
use Rattle.es_ledger.proofs.Kept.{set_here, set_there}
use Rattle.es_ledger.proofs.After.{holder_here, spent_count, spent_length}
use Rattle.es_ledger.proofs.Made.{block_made, block_there}
use Rattle.es_ledger.proofs.Mail.{mail_same, sleepers_same, waiting_same, waiting_few}

-- Agents that have not ended

pub left_same : (e : LedgerEvent) (l : Ledger) (n : ℕ) → ((a : ℕ) → is_end_of e a ≡ false) → left (e ∷ l) n ≡ left l n
left_same e l zero none = refl
left_same e l (suc n) none = ap (λ b. cond (b || ended l n) 0 1 + left (e ∷ l) n) (none n) ∙ ap (λ m. cond (ended l n) 0 1 + m) (left_same e l n none)

-- One more event

pub next_legal : (n : ℕ) (l : Ledger) (e : LedgerEvent) → LegalLedger n l → MayCome n l e → owed (e ∷ l) ≡ None → LegalLedger n (e ∷ l)
next_legal n l e legal may none = ((subst (ComesNext n l e) (sym legal.1) may, legal.0), none)

-- an event that makes no block and k.ends nobody, after which there are as many tickets of each block
pub quiet_ties : {L : Type 0} (n : ℕ) (l : Ledger) (k m : Columns L) (e : LedgerEvent)
    → LedgerTies n l k → MayCome n l e → owed (e ∷ l) ≡ None
    → m.lines ≡ table (e ∷ l) → opened (e ∷ l) ≡ opened l → ((b : ℕ) → size (e ∷ l) b ≡ size l b) → ((a : ℕ) → is_end_of e a ≡ false)
    → ((b : ℕ) → count (e ∷ l) b ≡ count l b)
    → length m.blocks ≡ length k.blocks → ((b : ℕ) → tickets_at m.blocks b ≡ tickets_at k.blocks b) → ((b : ℕ) → 0 < count l b → length (words_at m.blocks b) ≡ length (words_at k.blocks b))
    → ((b i : ℕ) → 0 < count l b → slice_index_or (words_at m.blocks b) i 0 ≡ word (e ∷ l) b i)
    → m.ends ≡ k.ends → Mail n (e ∷ l) m.waits m.queues → Sleepers n (e ∷ l) m.listed m.sleeping
    → length (rows (e ∷ l)) + left l n + waiting (e ∷ l) n + m.messages ≤ m.places
    → LedgerTies n (e ∷ l) m
quiet_ties n l k m e ties may none tabled made sized quiet counted long tickets lengths words ends mail sleepers room = record {
  few = ties.few;
  legal = next_legal n l e ties.legal may none;
  tabled = tabled;
  made = long ∙ ties.made ∙ sym made;
  tickets = λ b. tickets b ∙ ties.tickets b ∙ sym (counted b);
  sizes = λ b some. let before : 0 < count l b = subst (λ c. 0 < c) (counted b) some in lengths b before ∙ ties.sizes b before ∙ sym (sized b);
  words = λ b i some. words b i (subst (λ c. 0 < c) (counted b) some);
  agents = ap (λ bs. length bs) ends ∙ ties.agents;
  over = λ a below. ap (λ bs. slice_index_or bs a false) ends ∙ ties.over a below ∙ sym (ap (λ b. b || ended l a) (quiet a));
  mail = mail;
  sleepers = sleepers;
  room = let agents_left = left_same e l n quiet in omega (arith, room, agents_left);
}

-- one that writes no word
pub still_ties : {L : Type 0} (n : ℕ) (l : Ledger) (k m : Columns L) (e : LedgerEvent)
    → LedgerTies n l k → MayCome n l e → owed (e ∷ l) ≡ None
    → m.lines ≡ table (e ∷ l) → opened (e ∷ l) ≡ opened l → ((b : ℕ) → size (e ∷ l) b ≡ size l b) → ((a : ℕ) → is_end_of e a ≡ false)
    → ((b : ℕ) → count (e ∷ l) b ≡ count l b) → ((b i : ℕ) → word (e ∷ l) b i ≡ word l b i)
    → m.blocks ≡ k.blocks → m.ends ≡ k.ends → Mail n (e ∷ l) m.waits m.queues → Sleepers n (e ∷ l) m.listed m.sleeping
    → length (rows (e ∷ l)) + left l n + waiting (e ∷ l) n + m.messages ≤ m.places
    → LedgerTies n (e ∷ l) m
still_ties n l k m e ties may none tabled made sized quiet counted worded blocks ends mail sleepers room =
    quiet_ties n l k m e ties may none tabled made sized quiet counted
    (ap (λ bs. length bs) blocks) (λ b. ap (λ bs. tickets_at bs b) blocks) (λ b some. ap (λ bs. length (words_at bs b)) blocks)
    (λ b i some. ap (λ bs. slice_index_or (words_at bs b) i 0) blocks ∙ ties.words b i some ∙ sym (worded b i)) ends mail sleepers room

-- Words

-- the words of a block

abbrev pub words_in : Counted → List ℕ
words_in k = unwrap_or k.words []

-- block b with another word at an index
abbrev pub new_block : List Counted → ℕ → ℕ → ℕ → Counted
new_block blocks b i w = record { words = Some (with_word (words_at blocks b) i w); tickets = tickets_at blocks b }

module _ (blocks : List Counted) (b i w : ℕ) where
  seen : (c : ℕ) → 0 < b → b ≤ length blocks → block_at (slice_set blocks (b - 1) (new_block blocks b i w)) c ≡ cond (b == c) (new_block blocks b i w) (block_at blocks c)
  seen c positive within = by_test (b == c) refl
    where
      by_test : (s : Bool) → (b == c) ≡ s → block_at (slice_set blocks (b - 1) (new_block blocks b i w)) c ≡ cond s (new_block blocks b i w) (block_at blocks c)
      by_test true is = subst (λ d. block_at (slice_set blocks (b - 1) (new_block blocks b i w)) d ≡ new_block blocks b i w) (eqb-true b c is) (set_here blocks b (new_block blocks b i w) positive within)
      by_test false is = set_there blocks b c (new_block blocks b i w) positive (λ same. absurd (false≢true (sym is ∙ eq-eqb b c same)))

  tickets_kept : (c : ℕ) (s : Bool) → (b == c) ≡ s → (cond s (new_block blocks b i w) (block_at blocks c)).tickets ≡ tickets_at blocks c
  tickets_kept c true is = ap (tickets_at blocks) (eqb-true b c is)
  tickets_kept c false is = refl

  length_kept : (c : ℕ) (s : Bool) → (b == c) ≡ s → length (words_in (cond s (new_block blocks b i w) (block_at blocks c))) ≡ length (words_at blocks c)
  length_kept c true is = length-set (words_at blocks b) i w ∙ ap (λ d. length (words_at blocks d)) (eqb-true b c is)
  length_kept c false is = refl

  word_there : (c j before : ℕ) → slice_index_or (words_at blocks c) j 0 ≡ before → b ≡ c → i < length (words_at blocks b) → (s : Bool) → (i == j) ≡ s
      → slice_index_or (with_word (words_at blocks b) i w) j 0 ≡ cond s w before
  word_there c j before old same long true is =
      subst (λ k. slice_index_or (with_word (words_at blocks b) i w) k 0 ≡ w) (eqb-true i j is) (get_or-set_same (words_at blocks b) i w 0 long)
  word_there c j before old same long false is =
      get_or-set_other (words_at blocks b) i j w 0 (λ e. absurd (false≢true (sym is ∙ eq-eqb i j (sym e)))) ∙ ap (λ d. slice_index_or (words_at blocks d) j 0) same ∙ old

  word_kept : (c j before : ℕ) → slice_index_or (words_at blocks c) j 0 ≡ before → i < length (words_at blocks b) → (s : Bool) → (b == c) ≡ s
      → slice_index_or (words_in (cond s (new_block blocks b i w) (block_at blocks c))) j 0 ≡ cond (s && (i == j)) w before
  word_kept c j before old long true is = word_there c j before old (eqb-true b c is) long (i == j) refl
  word_kept c j before old long false is = old

-- a write, of a word or of a sum
pub written_ties : {L : Type 0} (n : ℕ) (l : Ledger) (k : Columns L) (more a i w : ℕ) (r : Row) (e : LedgerEvent)
    → LedgerTies n l k → Contains (held a (table l)) r → i < r.words
    → MayCome n l e → owed (e ∷ l) ≡ None → table (e ∷ l) ≡ table l → opened (e ∷ l) ≡ opened l → ((b : ℕ) → size (e ∷ l) b ≡ size l b) → ((c : ℕ) → is_end_of e c ≡ false)
    → ((s r : ℕ) → port_of (e ∷ l) s r ≡ port_of l s r) → ((c : ℕ) → awaits (e ∷ l) c ≡ awaits l c) → waiters (e ∷ l) ≡ waiters l → ((c : ℕ) → asleep (e ∷ l) c ≡ asleep l c)
    → writes l e ≡ Some (r.block, i, w)
    → length (rows l) + left l n + waiting l n + k.messages ≤ more
    → LedgerTies n (e ∷ l) (record k { blocks = rewritten k.blocks r.block (with_word (words_at k.blocks r.block) i w); places = more })
written_ties n l k more a i w r e ties has inside may none tabled made sized quiet ported waited lists slept wrote room =
    let b = r.block in
    let there = block_there n l a r ties.legal.0 has in
    let number = block_made n l b ties.legal.0 there.0 in
    let within : b ≤ length k.blocks = subst (λ m. b ≤ m) (sym ties.made) number.1 in
    let long : i < length (words_at k.blocks b) = subst (λ m. i < m) (there.1 ∙ sym (ties.sizes b there.0)) inside in
    let tickets : length (rows (e ∷ l)) ≡ length (rows l) = ap (λ t. length (unspent t)) tabled in
    let waits = waiting_same l e n waited slept in
    quiet_ties n l k _ e ties may none (ties.tabled ∙ sym tabled) made sized quiet
    (λ c. ap (λ t. count_of (unspent t) c) tabled)
    (length-set k.blocks (b - 1) (new_block k.blocks b i w))
    (λ c. ap (λ k. k.tickets) (seen k.blocks b i w c number.0 within) ∙ tickets_kept k.blocks b i w c (b == c) refl)
    (λ c some. ap (λ k. length (words_in k)) (seen k.blocks b i w c number.0 within) ∙ length_kept k.blocks b i w c (b == c) refl)
    (λ c j some.
    ap (λ k. slice_index_or (words_in k) j 0) (seen k.blocks b i w c number.0 within)
    ∙ word_kept k.blocks b i w c j (word l c j) (ties.words c j some) long (b == c) refl
    ∙ sym (ap (λ p. newest_word p c j (word l c j)) wrote))
    refl (mail_same n l k.waits k.queues e ties.mail ported waited) (sleepers_same n l (e ∷ l) k.listed k.sleeping ties.sleepers lists slept)
    (omega (arith, room, tickets, waits))

-- A ticket is spent

less_tickets : (k : Counted) → (with_less k).tickets ≡ k.tickets - 1
less_tickets k = by_test (k.tickets == 1) refl
  where
    by_test : (s : Bool) → (k.tickets == 1) ≡ s → (cond s no_block (record { words = k.words; tickets = k.tickets - 1 })).tickets ≡ k.tickets - 1
    by_test true is = let one = eqb-true k.tickets 1 is in omega (arith, one)
    by_test false is = refl

less_words : (k : Counted) → 1 < k.tickets → (with_less k).words ≡ k.words
less_words k more = ap (λ s. (cond s no_block (record { words = k.words; tickets = k.tickets - 1 })).words) (ne_eqb k.tickets 1 (λ one. absurd (omega (arith, one, more))))

lost_seen : (blocks : List Counted) (b c : ℕ) → 0 < b → b ≤ length blocks → block_at (lost blocks b) c ≡ cond (b == c) (with_less (block_at blocks c)) (block_at blocks c)
lost_seen blocks b c positive within = by_test (b == c) refl
  where
    by_test : (s : Bool) → (b == c) ≡ s → block_at (lost blocks b) c ≡ cond s (with_less (block_at blocks c)) (block_at blocks c)
    by_test true is = subst (λ d. block_at (lost blocks b) d ≡ with_less (block_at blocks d)) (eqb-true b c is) (set_here blocks b (with_less (block_at blocks b)) positive within)
    by_test false is = set_there blocks b c (with_less (block_at blocks b)) positive (λ same. absurd (false≢true (sym is ∙ eq-eqb b c same)))

-- one ticket less, by one event or two
pub less_ties : {L : Type 0} (n : ℕ) (l later : Ledger) (k m : Columns L) (b : ℕ)
    → LedgerTies n l k → 0 < count l b → ((c : ℕ) → count l c ≡ cond (b == c) 1 0 + count later c)
    → LegalLedger n later → m.lines ≡ table later → opened later ≡ opened l → ((c : ℕ) → size later c ≡ size l c) → ((c i : ℕ) → word later c i ≡ word l c i) → ((a : ℕ) → ended later a ≡ ended l a)
    → m.blocks ≡ lost k.blocks b → m.ends ≡ k.ends → Mail n later m.waits m.queues → Sleepers n later m.listed m.sleeping → length (rows later) + left later n + waiting later n + m.messages ≤ m.places
    → LedgerTies n later m
less_ties n l later k m b ties there counts legal tabled made sized worded over blocks ends mail sleepers room =
    let number = block_made n l b ties.legal.0 there in
    let within : b ≤ length k.blocks = subst (λ m. b ≤ m) (sym ties.made) number.1 in
    record {
      few = ties.few;
      legal = legal;
      tabled = tabled;
      made = ap (λ bs. length bs) blocks ∙ length-set k.blocks (b - 1) (with_less (block_at k.blocks b)) ∙ ties.made ∙ sym made;
      tickets = λ c. ap (λ bs. tickets_at bs c) blocks ∙ ap (λ k. k.tickets) (lost_seen k.blocks b c number.0 within) ∙ tickets_less c (count later c) (b == c) (ties.tickets c ∙ counts c);
      sizes = λ c some.
          ap (λ bs. length (words_at bs c)) blocks ∙ ap (λ k. length (words_in k)) (lost_seen k.blocks b c number.0 within)
          ∙ words_less (λ ws. length ws) c (count later c) (b == c) (ties.tickets c ∙ counts c) some ∙ ties.sizes c (before c (count later c) (b == c) (counts c) some) ∙ sym (sized c);
      words = λ c j some.
          ap (λ bs. slice_index_or (words_at bs c) j 0) blocks ∙ ap (λ k. slice_index_or (words_in k) j 0) (lost_seen k.blocks b c number.0 within)
          ∙ words_less (λ ws. slice_index_or ws j 0) c (count later c) (b == c) (ties.tickets c ∙ counts c) some ∙ ties.words c j (before c (count later c) (b == c) (counts c) some) ∙ sym (worded c j);
      agents = ap (λ bs. length bs) ends ∙ ties.agents;
      over = λ a below. ap (λ bs. slice_index_or bs a false) ends ∙ ties.over a below ∙ sym (over a);
      mail = mail;
      sleepers = sleepers;
      room = room;
    }
  where
    tickets_less : (c m : ℕ) (s : Bool) → tickets_at k.blocks c ≡ cond s 1 0 + m → (cond s (with_less (block_at k.blocks c)) (block_at k.blocks c)).tickets ≡ m
    tickets_less c m true e = let less = less_tickets (block_at k.blocks c) in omega (arith, e, less)
    tickets_less c m false e = omega (arith, e)

    words_less : {A : Type 0} (f : List ℕ → A) (c m : ℕ) (s : Bool) → tickets_at k.blocks c ≡ cond s 1 0 + m → 0 < m
        → f (words_in (cond s (with_less (block_at k.blocks c)) (block_at k.blocks c))) ≡ f (words_at k.blocks c)
    words_less f c m true e some = ap (λ ws. f (unwrap_or ws [])) (less_words (block_at k.blocks c) (omega (arith, e, some)))
    words_less f c m false e some = refl

    before : (c m : ℕ) (s : Bool) → count l c ≡ cond s 1 0 + m → 0 < m → 0 < count l c
    before c m true e some = omega (arith, e, some)
    before c m false e some = omega (arith, e, some)

pub spent_ties : {L : Type 0} (n : ℕ) (l : Ledger) (k : Columns L) (more a : ℕ) (r : Row)
    → LedgerTies n l k → Contains (held a (table l)) r → k.places ≤ more + 1
    → LedgerTies n (Spent r.serial ∷ l) (record k { lines = moved r.serial Nobody k.lines; blocks = lost k.blocks r.block; places = more })
spent_ties n l k more a r ties has room =
    let holder = holder_here n l a r ties.legal.0 has in
    let there = block_there n l a r ties.legal.0 has in
    let fewer = spent_length n l r.serial a r ties.legal.0 holder in
    let agents_left = left_same (Spent r.serial) l n (λ c. refl) in
    let waits = waiting_same l (Spent r.serial) n (λ c. refl) (λ c. refl) in
    let all = ties.room in
    less_ties n l (Spent r.serial ∷ l) k _ r.block ties there.0
    (spent_count n l r.serial a r ties.legal.0 holder)
    (next_legal n l (Spent r.serial) ties.legal (ap is_some holder) refl)
    (ap (moved r.serial Nobody) ties.tabled) (zero-add (opened l)) (λ c. refl) (λ c i. refl) (λ c. refl)
    refl refl (mail_same n l k.waits k.queues (Spent r.serial) ties.mail (λ s r. refl) (λ c. refl)) (sleepers_same n l (Spent r.serial ∷ l) k.listed k.sleeping ties.sleepers refl (λ c. refl))
    (omega (arith, room, fewer, agents_left, waits, all))

-- What an agent's stake has is held in the history

pub in_history : (mine : List Row) (a : ℕ) (lines : List Entry) (l : Ledger) (r : Row) → Contains mine r → mine ≡ held a lines → lines ≡ table l → Contains (held a (table l)) r
in_history mine a lines l r has told tabled = subst (λ t. Contains (held a t) r) tabled (subst (λ rs. Contains rs r) told has)

-- and so its block is there
pub stake_there : {L : Type 0} (n : ℕ) (l : Ledger) (k : Columns L) (a : ℕ) (mine : List Row) (r : Row)
    → LedgerTies n l k → Contains mine r → mine ≡ held a k.lines → 0 < count l r.block
stake_there n l k a mine r ties has told = (block_there n l a r ties.legal.0 (in_history mine a k.lines l r has told ties.tabled)).0

-- with its ticket counted, and each index below its number of words
pub stake_counted : {L : Type 0} (n : ℕ) (l : Ledger) (k : Columns L) (a : ℕ) (mine : List Row) (r : Row)
    → LedgerTies n l k → Contains mine r → mine ≡ held a k.lines → 0 < tickets_at k.blocks r.block
stake_counted n l k a mine r ties has told =
    subst (λ m. 0 < m) (sym (ties.tickets r.block)) (stake_there n l k a mine r ties has told)

pub stake_inside : {L : Type 0} (n : ℕ) (l : Ledger) (k : Columns L) (a i : ℕ) (mine : List Row) (r : Row)
    → LedgerTies n l k → Contains mine r → mine ≡ held a k.lines → i < r.words → i < length (words_at k.blocks r.block)
stake_inside n l k a i mine r ties has told inside =
    let there = block_there n l a r ties.legal.0 (in_history mine a k.lines l r has told ties.tabled) in
    subst (λ m. i < m) (there.1 ∙ sym (ties.sizes r.block there.0)) inside

-- there is room for the spending of a ticket
pub stake_room : {L : Type 0} (n : ℕ) (l : Ledger) (k : Columns L) (a : ℕ) (mine : List Row) (r : Row)
    → LedgerTies n l k → Contains mine r → mine ≡ held a k.lines → 0 < k.places
stake_room n l k a mine r ties has told =
    let holder = holder_here n l a r ties.legal.0 (in_history mine a k.lines l r has told ties.tabled) in
    let some = spent_length n l r.serial a r ties.legal.0 holder in
    let room = ties.room in
    omega (arith, some, room)

-- the block is released where it had one ticket
pub spent_last : {L : Type 0} (n : ℕ) (l : Ledger) (k : Columns L) (a : ℕ) (mine : List Row) (r : Row) (released : Bool)
    → LedgerTies n l k → Contains mine r → mine ≡ held a k.lines
    → IsTrue released ↔ (tickets_at k.blocks r.block ≡ 1) → IsTrue released ↔ (count (Spent r.serial ∷ l) r.block ≡ 0)
spent_last n l k a mine r released ties has told last =
    let holder = holder_here n l a r ties.legal.0 (in_history mine a k.lines l r has told ties.tabled) in
    let counts = spent_count n l r.serial a r ties.legal.0 holder r.block in
    let here : ◌≡◌ {A = ℕ} (cond (r.block == r.block) 1 0) 1 = ap (λ s. cond s 1 0) (eq-eqb r.block r.block refl) in
    let kept = ties.tickets r.block in
    (λ is. let one = last.0 is in omega (arith, one, counts, here, kept), λ none. last.1 (omega (arith, none, counts, here, kept)))

-- What a call reserves is enough: a place for each ticket that was ever made, one for each agent, and more

pub rows_short : (test : Holder → Bool) (t : List Entry) → length (rows_by test t) ≤ length t
rows_short test [] = omega arith
rows_short test (e ∷ es) = by_test (test e.holder) (rows_short test es)
  where
    by_test : (s : Bool) → length (rows_by test es) ≤ length es → length (cond s (e.row ∷ rows_by test es) (rows_by test es)) ≤ suc (length es)
    by_test true short = omega (arith, short)
    by_test false short = omega (arith, short)

left_few : (l : Ledger) (n : ℕ) → left l n ≤ n
left_few l zero = omega arith
left_few l (suc n) = by_test (ended l n) (left_few l n)
  where
    by_test : (s : Bool) → left l n ≤ n → cond s 0 1 + left l n ≤ suc n
    by_test true few = omega (arith, few)
    by_test false few = omega (arith, few)

pub reserved_room : {L : Type 0} (n : ℕ) (l : Ledger) (k : Columns L) (made len got more extra : ℕ)
    → LedgerTies n l k → made ≡ length k.lines → len ≡ length k.ends → made + len + len + len + k.messages + extra ≤ got → got ≤ more + 1
    → length (rows l) + left l n + waiting l n + k.messages + extra ≤ more + 1
reserved_room n l k made len got more extra ties is_made is_len room last =
    let short = rows_short is_somebody (table l) in
    let tabled : length k.lines ≡ length (table l) = ap (λ t. length t) ties.tabled in
    let few = left_few l n in
    let waits = waiting_few l n in
    let agents = ties.agents in
    omega (arith, is_made, is_len, room, last, short, tabled, few, waits, agents)

-- A word is read, written, or added to

pub accessed_ties : {L : Type 0} (n : ℕ) (l : Ledger) (k : Columns L) (more a i : ℕ) (m : Change) (r : Row)
    → LedgerTies n l k → Contains (held a (table l)) r → i < r.words → IsStorable m → length (rows l) + left l n + waiting l n + k.messages ≤ more
    → LedgerTies n (Accessed r.serial i m (word l r.block i) ∷ l) (record k { blocks = with_written k.blocks r.block i (written m (word l r.block i)); places = more })
accessed_ties n l k more a i m r ties has inside storable room = by_written (written m (word l r.block i)) refl
  where
    e : LedgerEvent
    e = Accessed r.serial i m (word l r.block i)

    holder : holder_of l r.serial ≡ Some (a, r)
    holder = holder_here n l a r ties.legal.0 has

    may : MayCome n l e
    may = subst (λ o. Reaches o i (λ q. (word l r.block i ≡ word l q.block i) × IsStorable m)) (sym holder) (inside, (refl, storable))

    by_written : (o : Option ℕ) → written m (word l r.block i) ≡ o → LedgerTies n (e ∷ l) (record k { blocks = with_written k.blocks r.block i o; places = more })
    by_written None is =
        still_ties n l k _ e ties may refl
        ties.tabled (zero-add (opened l)) (λ b. refl) (λ b. refl) (λ b. refl)
        (λ b j. ap (λ o. newest_word (option_and_then (written_by l r.serial i) o) b j (word l b j)) is)
        refl refl (mail_same n l k.waits k.queues e ties.mail (λ s r. refl) (λ a. refl)) (sleepers_same n l (e ∷ l) k.listed k.sleeping ties.sleepers refl (λ c. refl)) room
    by_written (Some w) is =
        written_ties n l k more a i w r e ties has inside may refl
        refl (zero-add (opened l)) (λ b. refl) (λ c. refl) (λ s r. refl) (λ c. refl) refl (λ c. refl)
        (ap (option_and_then (written_by l r.serial i)) is ∙ ap (λ o. option_map (λ p. (p.1.block, i, w)) o) holder) room
