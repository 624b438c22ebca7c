-- An agent's turn that asks for a message, by the agents' own names: what it takes, refuses or skips is what it hears.
use Rattle.std.proofs.Common.{◌≡◌, ◌≢◌, ℕ, ◌<◌, ◌&&◌, true, false, cond, sym, ◌∙◌, ap, refl, subst, arith, List, [], ◌∷◌, ◌++◌, map, Option, Some, None}
use Rattle.std.specs.Option.{option_map, option_map_or}
use Rattle.es_value.specs.declared.value.Value.{Value}
use Rattle.es_event.specs.declared.event.Event.{Event}
use Rattle.es_event.specs.declared.event.Event.TheVariants.{Received, Refused, Skipped}
use Rattle.es_event.specs.declared.event.Refusal.{Refusal}
use Rattle.es_event.specs.declared.event.Refusal.TheVariants.{TooManyValues}
use Rattle.es_event.specs.declared.ledger_event.Body.{Body}
use Rattle.es_event.specs.declared.ledger_event.Body.TheVariants.{Plain, Block}
use Rattle.es_event.specs.declared.ledger_event.LedgerEvent.{LedgerEvent}
use Rattle.es_event.specs.declared.row.Row.{Row}
use Rattle.es_event.specs.Follows.{Permits}
use Rattle.es_event.specs.History.{History}
use Rattle.es_event.specs.Identities.{made}
use Rattle.es_event.specs.Jobs.{job, receivers}
use Rattle.es_event.specs.Ledger.{Ledger, ended, front, port_of, size}
use Rattle.es_event.specs.LegalLedger.{LegalSoFar}
use Rattle.es_event.specs.Order.{due, phase, receive}
use Rattle.es_event.specs.Rows.{row}
use Rattle.es_event.specs.Sharing.{Buffers}
use Rattle.es_match.specs.Deeds.{Deed, part, words_in}
use Rattle.es_match.specs.Asks.{between_jobs, nothing, to_refuse, wants_room}
use Rattle.es_match.specs.Cluster.{awaited, is_refusal_asked}
use Rattle.es_match.specs.Meets.{after, refused_in, ticket_in}
use Rattle.es_ledger.specs.Turns.{told}
use Rattle.es_ledger.specs.declared.turn.Turn.TheVariants.{Stay}
use Rattle.es_record.specs.AgentView.{AgentView, with_row}
use Rattle.es_rules.specs.Needs.{asks_message, need, need_of}
use Rattle.es_agent.specs.Tickets.{tickets}
use Rattle.es_cluster.proofs.Asking.{at_message, awaited_at}
use Rattle.es_cluster.specs.State.{ClusterView}
use Rattle.es_theorems.specs.Move.{asked_by}
use Rattle.es_theorems.specs.Together.{StandsAt}
use Rattle.es_theorems.proofs.Commands.{no_row, some_if_true}
use Rattle.es_theorems.proofs.Messages.{Receives, Says, Skips, next_words, receives, refuses, skips}
use Rattle.es_theorems.specs.Alone.{Finds, Hears, Local, Locals, MaySkip, Words, letters, posted_by}
use Rattle.es_theorems.specs.Renamed.{got_in, letter_of, local_of, locals_of, name, renamed, renamed_row}
use Rattle.es_theorems.specs.Steps.{AtTurn, HasCome, HasLine, Means}
use Rattle.es_theorems.proofs.Asking.{skips_here}
use Rattle.es_theorems.proofs.Beyond.{waiting_goes}
use Rattle.es_theorems.proofs.Letters.{HearsSo, declined, received, skipped}
use Rattle.es_theorems.proofs.Names.{grown, name_stays}
use Rattle.es_theorems.proofs.Opened.{front_opened, line_in_front, line_later}
use Rattle.es_theorems.proofs.Others.{size_stays}
use Rattle.es_theorems.proofs.Passing.{passes_known}
use Rattle.es_theorems.proofs.Skipping.{letters_there}

-- What comes is over a block of before

abbrev over_more : AgentView → Option Row → Buffers
over_more b r = (with_row r b).over

come_later : (n : ℕ) (es : List LedgerEvent) (l : Ledger) → LegalSoFar n (es ++ l) → (h : History) (e : Event) (r : Option Row) → HasCome l h e r → HasCome (es ++ l) h e r
come_later n es l legal h e None come = tt
come_later n es l legal h e (Some q) come = ((let more = grown es l in let less = come.0.0 in omega (arith, more, less), come.0.1 ∙ sym (size_stays n es l legal q.block come.0.0), line_later es l q come.0.2), come.1)

row_stays : (n : ℕ) (es : List LedgerEvent) (l : Ledger) → LegalSoFar n (es ++ l) → (h : History) (e : Event) (r : Option Row) → HasCome l h e r → option_map (renamed_row (name n (es ++ l))) r ≡ option_map (renamed_row (name n l)) r
row_stays n es l legal h e None come = refl
row_stays n es l legal h e (Some q) come = ap (λ k. Some (row 0 k q.words)) (name_stays n es l legal q.block come.0.0)

-- What it hears

finish : (n : ℕ) (c : ClusterView) (words : Words) (i : ℕ) (m : Ledger) (b : AgentView) (e : Event) (r : Option Row) (ds : List Deed) (k s : ℕ) → n ≡ c.ledger.agents → AtTurn n c i m b e r ds → due b.plan b.history ≡ receive k s
    → HearsSo (locals_of c) n c.ledger.history i s (local_of n c.ledger.history b) e r ds → HasCome c.ledger.history b.history e r → posted_by (renamed (name n c.ledger.history) b.over) e ≡ [] → Means n c words i m b e r ds
finish n c words i m b e r ds k s size x at so come posts = record {
  finds = subst (λ d. Finds n all words i a d e (option_map (renamed_row (name n m)) r) (got_in ds)) (sym at)
      (subst (λ q. Hears all i s a (letters all s i a) e q (got_in ds)) (sym row_same) (subst (λ ms. Hears all i s a ms e (option_map (renamed_row (name n l)) r) (got_in ds)) (sym there) so.hears));
  sends = so.sends (letter_of n m) ∙ sym posts;
  comes = subst (λ m. HasCome m b.history e r) (sym x.grows.1) (come_later n x.grows.0 l legal b.history e r come);
  does = so.does;
}
  where
    l : Ledger
    l = c.ledger.history

    all : Locals
    all = locals_of c

    a : Local
    a = local_of n l b

    legal : LegalSoFar n (x.grows.0 ++ l)
    legal = subst (LegalSoFar n) x.grows.1 x.legal

    row_same : option_map (renamed_row (name n m)) r ≡ option_map (renamed_row (name n l)) r
    row_same = ap (λ m. option_map (renamed_row (name n m)) r) x.grows.1 ∙ row_stays n x.grows.0 l legal b.history e r come

    there : letters all s i a ≡ map (letter_of n l) (port_of l s i)
    there =
        subst (λ n. letters all s i (local_of n l b) ≡ map (letter_of n l) (port_of l s i)) (sym size)
        (letters_there c x.along.stands (subst (λ n. LegalSoFar n l) size x.along.legal) x.along.dry s i b x.here)

-- A message that is received

its_come : (n : ℕ) (l : Ledger) (s i t : ℕ) (h : History) (body : Body) (v : Value) (r : Option Row) → LegalSoFar n l → front l s i ≡ Some body → Says body (next_words l s i) (made h) v r → HasCome l h (Received t v) r
its_come n l s i t h (Plain u) v r legal is says = subst (HasCome l h (Received t v)) (sym says.1) tt
its_come n l s i t h (Block b k) v r legal is says =
    let words : next_words l s i ≡ size l b = ap (λ o. option_map_or (words_in l) o 0) is in
    subst (HasCome l h (Received t v)) (sym says.1)
    ((front_opened n l s i b k legal is, words, subst (λ w. HasLine l (row k b w)) (sym words) (line_in_front n l s i b k legal is)), subst (λ v. made h < made (Received t v ∷ h)) (sym says.0) (omega arith))

means_received : (n : ℕ) (c : ClusterView) (words : Words) (i : ℕ) (m : Ledger) (b : AgentView) (t : ℕ) (v : Value) (r : Option Row) (ds : List Deed) (k s : ℕ) → n ≡ c.ledger.agents → AtTurn n c i m b (Received t v) r ds → due b.plan b.history ≡ receive k s → t ≡ s
    → Means n c words i m b (Received t v) r ds
means_received n c words i m b t v r ds k s size x at same =
    let l = c.ledger.history in
    let x0 = receives (over_more b r) b.history i l (tickets b) x.moved.left t v r ds x.moved.next.lawful x.moved.met x.moved.came x.moved.fit in
    let its : Receives l i s (made b.history) v r ds = subst (λ s. Receives l i s (made b.history) v r ds) same x0 in
    let so = received (locals_of c) n l i s (local_of n l b) v r ds its in
    finish n c words i m b (Received t v) r ds k s size x at (subst (λ t. HearsSo (locals_of c) n l i s (local_of n l b) (Received t v) r ds) (sym same) so) (its_come n l s i t b.history its.body v r x.along.legal its.front_is its.says) refl

-- One that finds no room

means_refused : (n : ℕ) (c : ClusterView) (words : Words) (i : ℕ) (m : Ledger) (b : AgentView) (code : Refusal) (r : Option Row) (ds : List Deed) (k s : ℕ) → n ≡ c.ledger.agents → AtTurn n c i m b (Refused code) r ds → due b.plan b.history ≡ receive k s → code ≡ TooManyValues
    → Means n c words i m b (Refused code) r ds
means_refused n c words i m b code r ds k s size x at same =
    let l = c.ledger.history in
    let between : between_jobs b.history ≡ true = at_message b.over b.plan b.history k s (x.along.stands.each i b x.here).run.1 at in
    let asks : asked_by b (Refused code) ≡ to_refuse = ap (λ t. cond (t && wants_room code) to_refuse nothing) between ∙ ap (λ code. cond (wants_room code) to_refuse nothing) same in
    let sender : refused_in to_refuse ds ≡ s ∷ [] =
    ap (λ q. refused_in q ds) (sym asks) ∙ x.moved.sender ∙ ap (λ q. cond (is_refusal_asked q) (awaited b.plan (job b.history)) []) asks ∙ awaited_at b.plan b.history k s at in
    let its = refuses i l s ds (some_if_true _ _ x.moved.left (ap (λ q. after (tickets b) q ds) (sym asks) ∙ x.moved.met)) sender x.moved.fit in
    let none : r ≡ None = no_row (made b.history) r (sym (ap (λ q. ticket_in q ds) asks) ∙ x.moved.came) in
    let so = declined (locals_of c) n l i s (local_of n l b) r ds none its in
    finish n c words i m b (Refused code) r ds k s size x at (subst (λ code. HearsSo (locals_of c) n l i s (local_of n l b) (Refused code) r ds) (sym same) so) (subst (HasCome l b.history (Refused code)) (sym none) tt) refl

-- None

means_skipped : (n : ℕ) (c : ClusterView) (words : Words) (i : ℕ) (m : Ledger) (b : AgentView) (j t : ℕ) (r : Option Row) (ds : List Deed) (k s : ℕ) → n ≡ c.ledger.agents → AtTurn n c i m b (Skipped j t) r ds → due b.plan b.history ≡ receive k s → t ≡ s
    → Means n c words i m b (Skipped j t) r ds
means_skipped n c words i m b j t r ds k s size x at same =
    finish n c words i m b (Skipped j t) r ds k s size x at
    (subst (λ t. HearsSo (locals_of c) n l i s (local_of n l b) (Skipped j t) r ds) (sym same) (skipped (locals_of c) n l i s j (local_of n l b) r ds none its.deeds its.none may))
    (subst (HasCome l b.history (Skipped j t)) (sym none) tt) refl
  where
    l : Ledger
    l = c.ledger.history

    its : Skips l i s ds
    its = subst (λ s. Skips l i s ds) same (skips i l t ds (some_if_true _ _ x.moved.left x.moved.met) x.moved.fit)

    none : r ≡ None
    none = no_row (made b.history) r x.moved.came

    was : StandsAt c i b
    was = x.along.stands.each i b x.here

    asks : need b ≡ asks_message s
    asks = ap (need_of b) at

    aims : (s < n) × (i ≢ s)
    aims = passes_known n m i s (part l i) x.legal (x.part_is ∙ ap (λ ds. part l i ++ ds) its.deeds)

    going : ended l i ≡ false
    going = ap (ended l) (sym was.number) ∙ was.seated.over ∙ waiting_goes b.plan b.history (phase b.history) k s at

    stays : (told l c.ledger.agents i s).0 ≡ Stay → ⊥
    stays is = x.told s asks (ap (λ i. (told l c.ledger.agents i s).0) was.number ∙ is)

    may : MaySkip (locals_of c) i s
    may =
        skips_here c i s b x.along.stands (subst (λ n. LegalSoFar n l) size x.along.legal) x.along.dry x.here asks (subst (λ i. i < c.ledger.agents) was.number was.seated.known) (subst (λ n. s < n) size aims.0) aims.1 its.none going stays

-- Where a message is due

by_event : (n : ℕ) (c : ClusterView) (words : Words) (i : ℕ) (m : Ledger) (b : AgentView) (e : Event) (r : Option Row) (ds : List Deed) (k s : ℕ) → n ≡ c.ledger.agents → AtTurn n c i m b e r ds → due b.plan b.history ≡ receive k s
    → Permits (over_more b r) (receivers b.plan.jobs) b.history (receive k s) e → Means n c words i m b e r ds
by_event n c words i m b (Received t v) r ds k s size x at p = means_received n c words i m b t v r ds k s size x at p.0
by_event n c words i m b (Refused code) r ds k s size x at p = means_refused n c words i m b code r ds k s size x at p.0
by_event n c words i m b (Skipped j t) r ds k s size x at p = means_skipped n c words i m b j t r ds k s size x at p.1
by_event n c words i m b _ r ds k s size x at p = absurd p

pub means_message : (n : ℕ) (c : ClusterView) (words : Words) (i : ℕ) (m : Ledger) (b : AgentView) (e : Event) (r : Option Row) (ds : List Deed) (k s : ℕ) → AtTurn n c i m b e r ds → due b.plan b.history ≡ receive k s → Means n c words i m b e r ds
means_message n c words i m b e r ds k s x at =
    by_event n c words i m b e r ds k s (sym x.along.number) x at (subst (λ d. Permits (over_more b r) (receivers b.plan.jobs) b.history d e) at x.moved.next.permitted)
