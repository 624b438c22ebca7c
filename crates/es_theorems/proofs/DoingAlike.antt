-- An agent's turn that asks for no message, by the agents' own names: what it opens, posts, accesses and hears is what its event says.
use Rattle.std.proofs.Common.{◌≡◌, ℕ, ◌+◌, ◌≤◌, ◌==◌, ◌&&◌, Bool, true, false, cond, sym, ◌∙◌, ap, refl, subst, arith, List, [], ◌∷◌, ◌++◌, Option, Some, None, eq-eqb}
use Rattle.std.specs.Prelude.{unsigned_abs}
use Rattle.std.specs.Option.{option_map, option_map_or}
use Rattle.std.proofs.lemmas.Bool.{and_parts}
use Rattle.es_value.specs.declared.value.Value.{Value}
use Rattle.es_value.specs.declared.value.Value.TheVariants.{Object}
use Rattle.es_event.specs.declared.access.Change.{Change}
use Rattle.es_event.specs.declared.atomic.AtomicParts.{AtomicParts}
use Rattle.es_event.specs.declared.command.Command.{Command}
use Rattle.es_event.specs.declared.command.Command.TheVariants.{SharedArrayBuffer, Atomic, Post}
use Rattle.es_event.specs.declared.event.Answer.{Answer}
use Rattle.es_event.specs.declared.event.Event.{Event}
use Rattle.es_event.specs.declared.event.Event.TheVariants.{JobBegun, CleanupBegun, Received, Did, Refused, Emptied, Taken, JobEnded, Skipped, Closed}
use Rattle.es_event.specs.declared.event.Refusal.{Refusal}
use Rattle.es_event.specs.declared.ledger_event.Body.{Body}
use Rattle.es_event.specs.declared.ledger_event.LedgerEvent.TheVariants.{Opened}
use Rattle.es_event.specs.declared.row.Entry.{Entry}
use Rattle.es_event.specs.declared.row.Row.{Row}
use Rattle.es_event.specs.Access.{change_by, is_of_sleep}
use Rattle.es_event.specs.Commands.{first}
use Rattle.es_event.specs.Numbers.{access_of, index_of}
use Rattle.es_event.specs.Follows.{Permits}
use Rattle.es_event.specs.Identities.{made}
use Rattle.es_event.specs.Jobs.{receivers}
use Rattle.es_event.specs.Ledger.{Ledger, holder_of, opened, serials, size, table, word}
use Rattle.es_event.specs.LegalLedger.{LegalSoFar}
use Rattle.es_event.specs.Order.{Due, receive, run, due}
use Rattle.es_event.specs.Rows.{line_of, row}
use Rattle.es_event.specs.Heard.{a_word, silence}
use Rattle.es_event.specs.Runs.{heard}
use Rattle.es_event.specs.Sharing.{Buffers, block_of, blocks_opened, row_at, row_of}
use Rattle.es_event.proofs.Entries.{inner}
use Rattle.es_match.specs.Deeds.{Accesses, Deed, Posts, Ends, Spends, part}
use Rattle.es_ledger.proofs.Made.{IsMade}
use Rattle.es_match.specs.Asks.{given, nothing as asks_nothing, to_refuse, wants_room, asks_word}
use Rattle.es_match.specs.Cluster.{DeedsMeet}
use Rattle.es_match.specs.Meets.{after, has_ticket, is_access, is_one, is_post, is_ticket, serials_of, ticket_in, within}
use Rattle.es_ticket.specs.Stakes.{at}
use Rattle.es_record.specs.AgentView.{AgentView, with_row}
use Rattle.es_agent.specs.Tickets.{tickets}
use Rattle.es_agent.proofs.Racks.{ticket_named}
use Rattle.es_cluster.specs.Tied.{came_to}
use Rattle.es_cluster.proofs.Asking.{at_command, at_row}
use Rattle.es_cluster.specs.State.{ClusterView}
use Rattle.es_theorems.specs.Alike.{Alike}
use Rattle.es_theorems.specs.Doing.{did}
use Rattle.es_theorems.specs.Move.{asked_by}
use Rattle.es_theorems.specs.Settled.{block_at, body_for, deeds_of, serial_at, word_at}
use Rattle.es_theorems.proofs.Commands.{Settles, no_row, none_more, settles, some_if_true}
use Rattle.es_theorems.proofs.Holding.{held_line, held_new}
use Rattle.es_theorems.specs.Found.{AreSpends}
use Rattle.es_theorems.proofs.Playing.{spends_so}
use Rattle.es_theorems.specs.Alone.{Finds, Letter, Local, Locals, Words, hears_at, letter, named, opened_row, over_block, plain, posted_by, touch_by}
use Rattle.es_theorems.specs.Renamed.{HasWords, got_in, letter_of, local_of, locals_of, name, opens_in, renamed, renamed_row, sent_in}
use Rattle.es_theorems.specs.Steps.{AreSilent, AtTurn, Does, HasCome, HasLine, IsOver, Keeps, Means, is_quiet, posts, touches}
use Rattle.es_theorems.proofs.Learning.{held_opened}
use Rattle.es_theorems.proofs.Names.{name_stays, no_name}
use Rattle.es_theorems.proofs.Opened.{line_held, row_over}
use Rattle.es_theorems.proofs.Opening.{opened_name}
use Rattle.es_theorems.proofs.Others.{size_stays}
use Rattle.es_theorems.proofs.PlayingAlike.{AllTheirs, plays}
use Rattle.es_theorems.proofs.Renaming.{block_renamed, row_renamed}
use Rattle.es_theorems.proofs.Weighing.{deeds_weight, opened_weight}
use Rattle.es_theorems.proofs.Calm.{did_is_calm, task_access}

-- What an event opens, posts and accesses, and what it hears

record Says (n : ℕ) (c : ClusterView) (words : Words) (i : ℕ) (m : Ledger) (b : AgentView) (e : Event) (r : Option Row) (ds : List Deed) : Type 0 where
  row : option_map (renamed_row (name n m)) r ≡ opened_row n i b.history e
  got : got_in ds ≡ []
  sends : sent_in (letter_of n m) ds ≡ posted_by (renamed (name n c.ledger.history) b.over) e
  comes : HasCome m b.history e r
  hears : heard e ≡ hears_at words (touch_by (renamed (name n c.ledger.history) b.over) e)
  does : Does n c.ledger.history i (renamed (name n c.ledger.history) b.over) e ds

-- deeds that neither post nor take, and access no word
record NoLetter (ds : List Deed) : Type 0 where
  silent : AreSilent ds
  got : got_in ds ≡ []
  sends : (f : Body → Letter) → sent_in f ds ≡ []

spends_none : (ds : List Deed) → AreSpends ds → NoLetter ds
spends_none [] are = record { silent = tt; got = refl; sends = λ f. refl }
spends_none (Spends s ∷ ds) are = let rest = spends_none ds are in record { silent = (refl, rest.silent); got = rest.got; sends = rest.sends }
spends_none (Ends ∷ ds) are = record { silent = (refl, subst AreSilent (sym are) tt); got = ap got_in are; sends = λ f. ap (sent_in f) are }
spends_none (_ ∷ ds) are = absurd are

no_deeds : (ds : List Deed) → ds ≡ [] → NoLetter ds
no_deeds ds none = record { silent = subst AreSilent (sym none) tt; got = ap got_in none; sends = λ f. ap (sent_in f) none }

-- one that opens nothing and posts nothing
says_nothing : (n : ℕ) (c : ClusterView) (words : Words) (i : ℕ) (m : Ledger) (b : AgentView) (e : Event) (r : Option Row) (ds : List Deed) → r ≡ None → NoLetter ds → opened_row n i b.history e ≡ None → posted_by (renamed (name n c.ledger.history) b.over) e ≡ [] → touch_by (renamed (name n c.ledger.history) b.over) e ≡ None → heard e ≡ silence → Says n c words i m b e r ds
says_nothing n c words i m b e r ds none x opens sent touch still = record {
  row = ap (option_map (renamed_row (name n m))) none ∙ sym opens;
  got = x.got;
  sends = x.sends (letter_of n m) ∙ sym sent;
  comes = subst (HasCome m b.history e) (sym none) tt;
  hears = still ∙ sym (ap (hears_at words) touch);
  does = is_quiet x.silent touch sent;
}

-- A block is opened

says_opens : (n : ℕ) (c : ClusterView) (words : Words) (i : ℕ) (m : Ledger) (b : AgentView) (to : List ℕ) (w : ℕ) (vs : List Value) (a : Answer) (r : Option Row) (ds : List Deed) → AtTurn n c i m b (Did (SharedArrayBuffer to w, vs, a)) r ds
    → Settles c.ledger.history (tickets b) (made b.history) (SharedArrayBuffer to w) vs a r ds → Says n c words i m b (Did (SharedArrayBuffer to w, vs, a)) r ds
says_opens n c words i m b to w vs a r ds x s = record {
  row = ap (option_map (renamed_row (name n m))) s.row ∙ ap (λ k. Some (row 0 k w)) its_name;
  got = ap got_in s.deeds;
  sends = ap (sent_in (letter_of n m)) s.deeds;
  comes = subst (HasCome m b.history (Did (SharedArrayBuffer to w, vs, a))) (sym s.row) ((omega (arith, more), sym its_size, its_line), omega arith);
  hears = refl;
  does = is_quiet (subst AreSilent (sym s.deeds) (refl, tt)) refl refl;
}
  where
    l : Ledger
    l = c.ledger.history

    alike : Alike m (did i (deeds_of l (tickets b) (SharedArrayBuffer to w) vs) l)
    alike = subst (λ ds. Alike m (did i ds l)) s.deeds x.alike

    more : opened m ≡ opened l + 1
    more = let one = alike.opened in omega (arith, one)

    its_size : size m (opened l + 1) ≡ w
    its_size = alike.sizes (opened l + 1) ∙ ap (λ t. cond t w (size l (opened l + 1))) (eq-eqb (opened l + 1) (opened l + 1) refl)

    its_line : HasLine m (row (serials l + 1) (opened l + 1) w)
    its_line =
        subst (λ t. option_map (λ (e : Entry). e.row) (line_of (serials l + 1) t) ≡ Some (row (serials l + 1) (opened l + 1) w)) (sym alike.tables)
        (line_held (Opened (opened l + 1) w (serials l + 1) i ∷ l) (serials l + 1) i (row (serials l + 1) (opened l + 1) w) refl (held_new n l (opened l + 1) w (serials l + 1) i x.along.legal refl))

    earlier : opens_in (part l i) ≡ blocks_opened b.history
    earlier =
        let was = x.along.stands.each i b x.here in
        deeds_weight 1 0 0 b.history (part l i) (came_to b) (subst (λ n. DeedsMeet b.history (part l n) (came_to b)) was.number was.tied.ties) ∙ opened_weight b.history

    its_name : name n m (opened l + 1) ≡ named n i (blocks_opened b.history)
    its_name =
        ap (λ m. name n m (opened l + 1)) x.grows.1
        ∙ opened_name n i x.grows.0 l x.grows.2 (subst (λ m. LegalSoFar n m) x.grows.1 x.legal) (ap opened (sym x.grows.1) ∙ more)
        ∙ ap (named n i) earlier

-- A message is posted

-- the block of a buffer that is posted
record Posted (b : AgentView) (o : ℕ) : Type 0 where
  row : Row
  at : row_at b.over o ≡ Some row
  block : block_at (tickets b) (Object o) ≡ row.block
  serial : serial_at (tickets b) (Object o) ≡ row.serial

posted_row : (b : AgentView) (l : Ledger) (o : ℕ) (test : Row → Bool) → Keeps l b → has_ticket (tickets b) (Object o) test ≡ true → Posted b o
posted_row b l o test keeps has = by_row (row_at (tickets b) o) refl has
  where
    by_row : (r : Option Row) → row_at (tickets b) o ≡ r → option_map_or test r false ≡ true → Posted b o
    by_row None is has = cc
    by_row (Some r) is has = record {
      row = r;
      at = sym (ticket_named b o r keeps.rising (sym is ∙ at_row (tickets b) o));
      block = ap (λ o. option_map_or (λ r. r.block) o 0) is;
      serial = ap (λ o. option_map_or (λ r. r.serial) o 0) is;
    }

carried : (n : ℕ) (m l : Ledger) (b : AgentView) (q : ℕ) (v : Value) → Keeps l b → ((k : ℕ) → k ≤ opened l → name n m k ≡ name n l k) → ((k : ℕ) → k ≤ opened l → size m k ≡ size l k)
    → is_one (is_post (tickets b) q v) (Posts q (body_for l (tickets b) v) ∷ []) ≡ true → letter_of n m (body_for l (tickets b) v) ≡ letter (renamed (name n l) b.over) v
carried n m l b q (Object o) keeps names sizes met =
    let its = posted_row b l o _ keeps (and_parts (q == q) _ met).1 in
    let over : IsOver l its.row = row_over l b.over o its.row keeps.over its.at in
    ap (λ k. over_block (row 0 (name n m k) (size m k))) its.block
    ∙ ap (λ k. over_block (row 0 k (size m its.row.block))) (names its.row.block over.0)
    ∙ ap (λ w. over_block (row 0 (name n l its.row.block) w)) (sizes its.row.block over.0 ∙ sym over.1)
    ∙ sym (ap (λ q. option_map_or over_block q (plain (Object o))) (row_renamed (name n l) b.over o ∙ ap (option_map (renamed_row (name n l))) its.at))
carried n m l b q _ keeps names sizes met = refl

says_posts : (n : ℕ) (c : ClusterView) (words : Words) (i : ℕ) (m : Ledger) (b : AgentView) (q : ℕ) (y : List ℕ) (vs : List Value) (a : Answer) (r : Option Row) (ds : List Deed) → AtTurn n c i m b (Did (Post q y, vs, a)) r ds
    → Settles c.ledger.history (tickets b) (made b.history) (Post q y) vs a r ds → Says n c words i m b (Did (Post q y, vs, a)) r ds
says_posts n c words i m b q y vs a r ds x s = record {
  row = ap (option_map (renamed_row (name n m))) s.row;
  got = ap got_in s.deeds;
  sends = ap (sent_in (letter_of n m)) s.deeds ∙ ap (λ k. (q, k) ∷ []) (carried n m l b q (first vs) (x.along.each i b x.here) names sizes met);
  comes = subst (HasCome m b.history (Did (Post q y, vs, a))) (sym s.row) tt;
  hears = refl;
  does = posts q (body_for c.ledger.history (tickets b) (first vs)) (letter (renamed (name n c.ledger.history) b.over) (first vs)) s.deeds refl refl;
}
  where
    l : Ledger
    l = c.ledger.history

    legal : LegalSoFar n (x.grows.0 ++ l)
    legal = subst (λ m. LegalSoFar n m) x.grows.1 x.legal

    names : (k : ℕ) → k ≤ opened l → name n m k ≡ name n l k
    names k less = ap (λ m. name n m k) x.grows.1 ∙ name_stays n x.grows.0 l legal k less

    sizes : (k : ℕ) → k ≤ opened l → size m k ≡ size l k
    sizes k less = ap (λ m. size m k) x.grows.1 ∙ size_stays n x.grows.0 l legal k less

    met : is_one (is_post (tickets b) q (first vs)) (Posts q (body_for l (tickets b) (first vs)) ∷ []) ≡ true
    met = subst (λ ds. is_one (is_post (tickets b) q (first vs)) ds ≡ true) s.deeds (some_if_true _ _ x.moved.left x.moved.met)

-- A word is accessed

-- the buffer by which it is
record Buffer (l : Ledger) (b : AgentView) (v : Value) : Type 0 where
  row : Row
  at : row_of b.over v ≡ Some row
  serial : serial_at (tickets b) v ≡ row.serial
  over : IsOver l row

buffer_of : (b : AgentView) (l : Ledger) (v : Value) (test : Row → Bool) → Keeps l b → has_ticket (tickets b) v test ≡ true → Buffer l b v
buffer_of b l (Object o) test keeps has = let its = posted_row b l o test keeps has in record { row = its.row; at = its.at; serial = its.serial; over = row_over l b.over o its.row keeps.over its.at }
buffer_of b l _ test keeps has = cc

says_touches : (n : ℕ) (c : ClusterView) (words : Words) (i : ℕ) (m : Ledger) (b : AgentView) (k : AtomicParts) (vs : List Value) (a : Answer) (r : Option Row) (ds : List Deed) → HasWords n c.ledger.history words → AtTurn n c i m b (Did (Atomic k, vs, a)) r ds
    → Settles c.ledger.history (tickets b) (made b.history) (Atomic k) vs a r ds → Says n c words i m b (Did (Atomic k, vs, a)) r ds
says_touches n c words i m b k vs a r ds holds x s = record {
  row = ap (option_map (renamed_row (name n m))) s.row;
  got = ap got_in s.deeds;
  sends = ap (sent_in (letter_of n m)) s.deeds;
  comes = subst (HasCome m b.history (Did (Atomic k, vs, a))) (sym s.row) tt;
  hears = s.hears ∙ ap (λ w. cond (access_of k vs).gives_word (a_word w) silence) (its_word ∙ sym (holds.named_so owner.0.block index its_made.0 its_made.1) ∙ ap (λ d. words d index) its_name);
  does = touches serial index change (word_at l serial index) (record { block = block_of (renamed (name n l) b.over) (first vs); index = index; access = access_of k vs }) s.deeds refl refl
      (record { row = owner.0; holder = owner.1; block = its_name; index = refl; change = refl; old_is = its_word });
}
  where
    l : Ledger
    l = c.ledger.history

    serial : ℕ
    serial = serial_at (tickets b) (first vs)

    index : ℕ
    index = unsigned_abs (index_of k vs)

    change : Change
    change = change_by (access_of k vs).edit (word_at l serial index)

    calm : is_of_sleep k.operation ≡ false
    calm = did_is_calm (with_row r b).over b.plan b.history (Atomic k) vs a x.never x.moved.next.permitted

    met : is_access (tickets b) (first vs) (index_of k vs) (access_of k vs) (given a) (Accesses serial index change (word_at l serial index)) ≡ true
    met = subst (λ ds. is_one (is_access (tickets b) (first vs) (index_of k vs) (access_of k vs) (given a)) ds ≡ true) s.deeds (some_if_true _ _ x.moved.left (ap (λ t. after (tickets b) (asks_word (first vs) (index_of k vs) t (given a)) ds) (sym (task_access k vs calm)) ∙ x.moved.met))

    its : Buffer l b (first vs)
    its = buffer_of b l (first vs) _ (x.along.each i b x.here) (and_parts (is_ticket (tickets b) (first vs) serial) _ met).0

    owner : (q : Row) × (holder_of l serial ≡ Some (i, q))
    owner = (subst (λ ds. AllTheirs i ds l) s.deeds (plays n c i m b (Did (Atomic k, vs, a)) r ds x).theirs).0

    its_made : IsMade l owner.0
    its_made = held_opened n l serial i owner.0 x.along.legal owner.1

    same_row : owner.0 ≡ its.row
    same_row = inner
        (sym (ap (option_map (λ e. e.row)) (held_line (line_of serial (table l)) i owner.0 owner.1))
        ∙ ap (λ k. option_map (λ (e : Entry). e.row) (line_of k (table l))) its.serial ∙ its.over.2)

    its_word : word_at l serial index ≡ word l owner.0.block index
    its_word = ap (λ o. option_map_or (λ p. word l p.1.block index) o 0) owner.1

    its_name : name n l owner.0.block ≡ block_of (renamed (name n l) b.over) (first vs)
    its_name =
        ap (λ (r : Row). name n l r.block) same_row
        ∙ ap (λ o. name n l (option_map_or (λ r. r.block) o 0)) (sym its.at)
        ∙ sym (block_renamed (name n l) b.over (first vs) (no_name n l x.along.legal))

-- A command

says_did : (n : ℕ) (c : ClusterView) (words : Words) (i : ℕ) (m : Ledger) (b : AgentView) (k : Command) (vs : List Value) (a : Answer) (r : Option Row) (ds : List Deed) → HasWords n c.ledger.history words → AtTurn n c i m b (Did (k, vs, a)) r ds
    → Settles c.ledger.history (tickets b) (made b.history) k vs a r ds → Says n c words i m b (Did (k, vs, a)) r ds
says_did n c words i m b (SharedArrayBuffer to w) vs a r ds holds x s = says_opens n c words i m b to w vs a r ds x s
says_did n c words i m b (Post q y) vs a r ds holds x s = says_posts n c words i m b q y vs a r ds x s
says_did n c words i m b (Atomic k) vs a r ds holds x s = says_touches n c words i m b k vs a r ds holds x s
says_did n c words i m b k vs a r ds holds x s = says_nothing n c words i m b (Did (k, vs, a)) r ds s.row (no_deeds ds s.deeds) refl refl refl refl

-- Whatever comes

-- an event that asks nothing
quiet : (n : ℕ) (c : ClusterView) (words : Words) (i : ℕ) (m : Ledger) (b : AgentView) (e : Event) (r : Option Row) (ds : List Deed) → AtTurn n c i m b e r ds → asked_by b e ≡ asks_nothing → opened_row n i b.history e ≡ None → posted_by (renamed (name n c.ledger.history) b.over) e ≡ [] → touch_by (renamed (name n c.ledger.history) b.over) e ≡ None → heard e ≡ silence → Says n c words i m b e r ds
quiet n c words i m b e r ds x asks opens sent touch still =
    says_nothing n c words i m b e r ds (no_row (made b.history) r (sym (ap (λ q. ticket_in q ds) asks) ∙ x.moved.came))
    (no_deeds ds (none_more ds (some_if_true _ (tickets b) x.moved.left (ap (λ q. after (tickets b) q ds) (sym asks) ∙ x.moved.met)))) opens sent touch still

refused_at : (b : AgentView) (over : Buffers) (d : Due) (code : Refusal) → due b.plan b.history ≡ d → ((k s : ℕ) → d ≡ receive k s → ⊥) → Permits over (receivers b.plan.jobs) b.history d (Refused code) → asked_by b (Refused code) ≡ asks_nothing
refused_at b over (run x c) code at none p = ap (λ t. cond (t && wants_room code) to_refuse asks_nothing) (at_command b.plan b.history x c at)
refused_at b over (receive k s) code at none p = absurd (none k s refl)
refused_at b over _ code at none p = absurd p

never : (over : Buffers) (b : AgentView) (d : Due) (t : ℕ) (v : Value) → ((k s : ℕ) → d ≡ receive k s → ⊥) → Permits over (receivers b.plan.jobs) b.history d (Received t v) → ⊥
never over b (receive k s) t v none p = none k s refl
never over b (run x c) t v none p = p
never over b _ t v none p = p

never_skips : (over : Buffers) (b : AgentView) (d : Due) (j t : ℕ) → ((k s : ℕ) → d ≡ receive k s → ⊥) → Permits over (receivers b.plan.jobs) b.history d (Skipped j t) → ⊥
never_skips over b (receive k s) j t none p = none k s refl
never_skips over b (run x c) j t none p = p
never_skips over b _ j t none p = p

says : (n : ℕ) (c : ClusterView) (words : Words) (i : ℕ) (m : Ledger) (b : AgentView) (e : Event) (r : Option Row) (ds : List Deed) → HasWords n c.ledger.history words → AtTurn n c i m b e r ds → ((k s : ℕ) → due b.plan b.history ≡ receive k s → ⊥) → Says n c words i m b e r ds
says n c words i m b (Did (k, vs, a)) r ds holds x none =
    says_did n c words i m b k vs a r ds holds x (settles i c.ledger.history (tickets b) x.moved.left (made b.history) k vs a r ds (did_is_calm (with_row r b).over b.plan b.history k vs a x.never x.moved.next.permitted) x.moved.met x.moved.came x.moved.fit)
says n c words i m b (Refused code) r ds holds x none = quiet n c words i m b (Refused code) r ds x (refused_at b (with_row r b).over (due b.plan b.history) code refl none x.moved.next.permitted) refl refl refl refl
says n c words i m b (Emptied ids) r ds holds x none =
    says_nothing n c words i m b (Emptied ids) r ds (no_row (made b.history) r x.moved.came) (spends_none ds (spends_so false (serials_of (within ids (tickets b))) ds (some_if_true _ _ x.moved.left x.moved.met)).1) refl refl refl refl
says n c words i m b Closed r ds holds x none = says_nothing n c words i m b Closed r ds (no_row (made b.history) r x.moved.came) (spends_none ds (spends_so true (serials_of (tickets b)) ds (some_if_true _ _ x.moved.left x.moved.met)).1) refl refl refl refl
says n c words i m b (JobBegun j) r ds holds x none = quiet n c words i m b (JobBegun j) r ds x refl refl refl refl refl
says n c words i m b (CleanupBegun q) r ds holds x none = quiet n c words i m b (CleanupBegun q) r ds x refl refl refl refl refl
says n c words i m b (Taken q v) r ds holds x none = quiet n c words i m b (Taken q v) r ds x refl refl refl refl refl
says n c words i m b JobEnded r ds holds x none = quiet n c words i m b JobEnded r ds x refl refl refl refl refl
says n c words i m b (Received t v) r ds holds x none = absurd (never (with_row r b).over b (due b.plan b.history) t v none x.moved.next.permitted)
says n c words i m b (Skipped j t) r ds holds x none = absurd (never_skips (with_row r b).over b (due b.plan b.history) j t none x.moved.next.permitted)

silent : (n : ℕ) (all : Locals) (words : Words) (i : ℕ) (a : Local) (d : Due) (e : Event) (r : Option Row) (got : List ℕ) → ((k s : ℕ) → d ≡ receive k s → ⊥) → (r ≡ opened_row n i a.history e) × (got ≡ []) × (heard e ≡ hears_at words (touch_by a.over e)) → Finds n all words i a d e r got
silent n all words i a (receive k s) e r got none x = absurd (none k s refl)
silent n all words i a _ e r got none x = x

pub means_alone : (n : ℕ) (c : ClusterView) (words : Words) (i : ℕ) (m : Ledger) (b : AgentView) (e : Event) (r : Option Row) (ds : List Deed) → HasWords n c.ledger.history words → AtTurn n c i m b e r ds → ((k s : ℕ) → due b.plan b.history ≡ receive k s → ⊥) → Means n c words i m b e r ds
means_alone n c words i m b e r ds holds x none =
    let said = says n c words i m b e r ds holds x none in
    record {
      finds = silent n (locals_of c) words i (local_of n c.ledger.history b) (due b.plan b.history) e (option_map (renamed_row (name n m)) r) (got_in ds) none (said.row, said.got, said.hears);
      sends = said.sends;
      comes = said.comes;
      does = said.does;
    }
