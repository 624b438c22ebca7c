-- What is kept says what the history says, after each event; or two accesses race.
use Rattle.std.proofs.Common.{◌≡◌, ◌≢◌, ℕ, ◌+◌, ◌<◌, ◌≤◌, ◌^◌, ◌==◌, ◌&&◌, ◌||◌, max, nat_eq, Bool, true, false, cond, sym, ◌∙◌, ap, refl, subst, arith, List, [], ◌∷◌, ◌++◌, drop, map, Option, Some, None, is_some, eq-eqb, eqb-true}
use Rattle.std.specs.Prelude.{nat_lt, slice_get}
use Rattle.std.specs.Option.{option_and_then, option_map_or}
use Rattle.std.specs.HashMap.{get}
use Rattle.std.proofs.lemmas.Bool.{and_parts}
use Rattle.std.proofs.lemmas.Bool.Decides.{nat_tests}
use Rattle.std.specs.declared.alloc.Global.{Global}
use Rattle.std.specs.declared.collections.VecDeque.{VecDeque}
use Rattle.es_event.specs.declared.access.Change.{Change}
use Rattle.es_event.specs.declared.ledger_event.Body.{Body}
use Rattle.es_event.specs.declared.ledger_event.LedgerEvent.{LedgerEvent}
use Rattle.es_event.specs.declared.ledger_event.LedgerEvent.TheVariants.{Opened, Posted, Taken, Spent, Accessed, Drained}
use Rattle.es_event.specs.declared.row.Row.{Row}
use Rattle.es_event.specs.declared.row.Holder.TheVariants.{Nobody}
use Rattle.es_event.specs.Access.{written}
use Rattle.es_event.specs.Ledger.{Ledger, front, holder_of, is_at, port_of, serial_in, table}
use Rattle.es_event.specs.LegalLedger.{LegalSoFar}
use Rattle.es_laws.specs.Memory.{WordAccess, access_by, accessed, accesses, is_write}
use Rattle.es_laws.specs.Races.{Mark as Marked, MarkedAccess, first_of, known, mark_of, marked, marked_after, marks_of}
use Rattle.es_races.specs.declared.clock.Clock.{Clock}
use Rattle.es_races.specs.declared.pass.Pass.{Pass}
use Rattle.es_races.specs.declared.ports.Message.{Message}
use Rattle.es_races.specs.declared.race.Mark.{Mark}
use Rattle.es_races.specs.declared.tickets.Ticket.{Ticket}
use Rattle.es_races.specs.declared.words.Word.{Word}
use Rattle.es_races.specs.Pass.{Carry, Has, IsUnknown, Map, Says, Sound, Stands, raise_if, add_posted, add_ticket, count_in, hand_some, hand_ticket, highest, known_in, made_by, meets, newest_at, newest_in, pair_eq, queue_in, ticket_in}
use Rattle.es_races.specs.Verdict.{race_among, race_at, said}
use Rattle.es_ledger.proofs.Within.{holder_within}
use Rattle.es_races.proofs.Holding.{ticket_at, added, few_senders, handed, posted, taken}
use Rattle.es_races.proofs.Knowing.{IsFirst, carry_first, carry_last, carry_rest, few_made, has_same, joined, made_one, none_knew, raised, told_less}
use Rattle.es_races.proofs.Racing.{AllMarked, IsIn, IsMarked, free_more, races}

-- Tickets

pub opened_says : (l : Ledger) (b w s a : ℕ) (old : Pass) (t : Map ℕ Ticket) → Stands (Opened b w s a) l old → ((q : ℕ) → ticket_in t q ≡ add_ticket s (record { block = b; holder = Some a }) q (ticket_in old.tickets q))
    → Says (Opened b w s a ∷ l) (record old { tickets = t })
opened_says l b w s a old t stands tickets = let says = stands.says in record {
  tickets = λ q. tickets q ∙ ap (add_ticket s (record { block = b; holder = Some a }) q) (says.tickets q) ∙ sym (added (table l) _ q);
  ports = says.ports;
  sound = says.sound;
}

pub spent_says : (l : Ledger) (s : ℕ) (old : Pass) (t : Map ℕ Ticket) → Stands (Spent s) l old → ((q : ℕ) → ticket_in t q ≡ hand_ticket s None q (ticket_in old.tickets q)) → Says (Spent s ∷ l) (record old { tickets = t })
spent_says l s old t stands tickets = let says = stands.says in record {
  tickets = λ q. tickets q ∙ ap (hand_ticket s None q) (says.tickets q) ∙ sym (handed s Nobody (table l) q);
  ports = says.ports;
  sound = says.sound;
}

-- Messages

turned : (s r t u : ℕ) → (nat_eq s t && nat_eq r u) ≡ is_at t u s r
turned s r t u = grind (arith, nat_tests)

abbrev Ports : Type 0
Ports = Map (ℕ × ℕ) (VecDeque Message Global)

carry_posted : (m : Message) (k : List Marked) (body : Body) (b : Bool) (ms : List Message) (ks : List (List Marked)) (bs : List Body) → Carry ms ks bs → (b ≡ true → Has (count_in m.clock) k) → m.serial ≡ serial_in body
    → Carry (cond b (ms ++ m ∷ []) ms) (cond b (ks ++ k ∷ []) ks) (cond b (bs ++ body ∷ []) bs)
carry_posted m k body true ms ks bs carry has serial = carry_last m k body carry (has refl) serial
carry_posted m k body false ms ks bs carry has serial = carry

carry_taken : (b : Bool) (ms : List Message) (ks : List (List Marked)) (bs : List Body) → Carry ms ks bs → Carry (cond b (drop 1 ms) ms) (cond b (drop 1 ks) ks) (cond b (drop 1 bs) bs)
carry_taken true ms ks bs carry = carry_rest carry
carry_taken false ms ks bs carry = carry

pub posted_says : (l : Ledger) (a r : ℕ) (body : Body) (m : Message) (old : Pass) (t : Map ℕ Ticket) (p : Ports) → Stands (Posted a r body) l old → ((j : ℕ) → count_in m.clock j ≡ known_in old.known a j) → m.serial ≡ serial_in body
    → ((q : ℕ) → ticket_in t q ≡ add_posted body q (ticket_in old.tickets q)) → ((s u : ℕ) → queue_in p s u ≡ cond (nat_eq a s && nat_eq r u) (queue_in old.ports s u ++ m ∷ []) (queue_in old.ports s u))
    → Says (Posted a r body ∷ l) (record old { tickets = t; ports = p })
posted_says l a r body m old t p stands clock serial tickets ports = let says = stands.says in record {
  tickets = λ q. tickets q ∙ ap (add_posted body q) (says.tickets q) ∙ sym (posted l a r body q);
  ports = λ s u.
      let is = ports s u ∙ ap (λ b. cond b (queue_in old.ports s u ++ m ∷ []) (queue_in old.ports s u)) (turned a r s u) in
      subst (λ ms. Carry ms ((known (Posted a r body ∷ l)).carried s u) (port_of (Posted a r body ∷ l) s u)) (sym is)
      (carry_posted m ((known l).knows s) body (is_at s u a r) (queue_in old.ports s u) ((known l).carried s u) (port_of l s u) (says.ports s u) (knew s u) serial);
  sound = says.sound;
}
  where
    knew : (s u : ℕ) → is_at s u a r ≡ true → Has (count_in m.clock) ((known l).knows s)
    knew s u at =
        let sender = few_senders stands.agents l a r body stands.legal in
        let few : a < 8 = omega (arith, sender, stands.few) in
        let same : s ≡ a = eqb-true s a (and_parts (s == a) (u == r) at).0 in
        subst (λ s. Has (count_in m.clock) ((known l).knows s)) (sym same) (has_same (known_in old.known a) (count_in m.clock) ((known l).knows a) (stands.says.sound.agents a few) clock)

taken_out : (l : Ledger) (s r t u : ℕ) (old : Pass) (p : Ports) → Says l old → ((t u : ℕ) → queue_in p t u ≡ cond (nat_eq s t && nat_eq r u) (drop 1 (queue_in old.ports t u)) (queue_in old.ports t u))
    → Carry (queue_in p t u) (cond (is_at t u s r) (drop 1 ((known l).carried t u)) ((known l).carried t u)) (cond (is_at t u s r) (drop 1 (port_of l t u)) (port_of l t u))
taken_out l s r t u old p says ports =
    let is = ports t u ∙ ap (λ b. cond b (drop 1 (queue_in old.ports t u)) (queue_in old.ports t u)) (turned s r t u) in
    subst (λ ms. Carry ms (cond (is_at t u s r) (drop 1 ((known l).carried t u)) ((known l).carried t u)) (cond (is_at t u s r) (drop 1 (port_of l t u)) (port_of l t u))) (sym is)
    (carry_taken (is_at t u s r) (queue_in old.ports t u) ((known l).carried t u) (port_of l t u) (says.ports t u))

pub drained_says : (l : Ledger) (s r : ℕ) (old : Pass) (p : Ports) → Stands (Drained s r) l old → ((t u : ℕ) → queue_in p t u ≡ cond (nat_eq s t && nat_eq r u) (drop 1 (queue_in old.ports t u)) (queue_in old.ports t u))
    → Says (Drained s r ∷ l) (record old { ports = p })
drained_says l s r old p stands ports = let says = stands.says in record {
  tickets = says.tickets;
  ports = λ t u. taken_out l s r t u old p says ports;
  sound = says.sound;
}

-- Receipts

abbrev Clocks : Type 0
Clocks = List Clock

knows_more : (l : Ledger) (s r a : ℕ) (m : Message) (old : Pass) (ks : Clocks) → Says l old → a < 8 → Has (count_in m.clock) (first_of ((known l).carried s r))
    → ((a j : ℕ) → a < 8 → j < 8 → known_in ks a j ≡ cond (r == a) (max (known_in old.known r j) (count_in m.clock j)) (known_in old.known a j))
    → Has (known_in ks a) (cond (r == a) (first_of ((known l).carried s r) ++ (known l).knows a) ((known l).knows a)) × (known_in ks a a ≡ made_by a (accesses l))
knows_more l s r a m old ks says few has clocks = case_of (r == a) refl (clocks a)
  where
    case_of : (b : Bool) → (r == a) ≡ b → ((j : ℕ) → a < 8 → j < 8 → known_in ks a j ≡ cond b (max (known_in old.known r j) (count_in m.clock j)) (known_in old.known a j))
        → Has (known_in ks a) (cond b (first_of ((known l).carried s r) ++ (known l).knows a) ((known l).knows a)) × (known_in ks a a ≡ made_by a (accesses l))
    case_of true at clock =
        let same : r ≡ a = eqb-true r a at in
        let most : (j : ℕ) → j < 8 → known_in ks a j ≡ max (known_in old.known a j) (count_in m.clock j)
        = λ j small. clock j few small ∙ ap (λ r. max (known_in old.known r j) (count_in m.clock j)) same in
        let own = says.sound.own a few in
        let least = told_less l a s r (count_in m.clock) few has in
        let this = most a few in
        (joined (known_in old.known a) (count_in m.clock) (known_in ks a) (first_of ((known l).carried s r)) ((known l).knows a) (says.sound.agents a few) has most, omega (arith, own, least, this))
    case_of false at clock =
        ((λ j n small. says.sound.agents a few j n small ∙ ap (nat_lt n) (sym (clock j few small))), clock a few few ∙ says.sound.own a few)

pub taken_says : (l : Ledger) (s r : ℕ) (m : Message) (old : Pass) (t : Map ℕ Ticket) (p : Ports) (ks : Clocks) → Stands (Taken s r) l old → slice_get (queue_in old.ports s r) 0 ≡ Some m
    → ((q : ℕ) → ticket_in t q ≡ hand_some m.serial (Some r) q (ticket_in old.tickets q)) → ((t u : ℕ) → queue_in p t u ≡ cond (nat_eq s t && nat_eq r u) (drop 1 (queue_in old.ports t u)) (queue_in old.ports t u))
    → ((a j : ℕ) → a < 8 → j < 8 → known_in ks a j ≡ cond (r == a) (max (known_in old.known r j) (count_in m.clock j)) (known_in old.known a j))
    → Says (Taken s r ∷ l) (record old { tickets = t; ports = p; known = ks })
taken_says l s r m old t p ks stands front_is tickets ports clocks = let says = stands.says in record {
  tickets = λ q. tickets q ∙ ap (hand_some m.serial (Some r) q) (says.tickets q) ∙ ap (λ o. hand_some o (Some r) q (ticket_at q (table l))) first.1 ∙ sym (taken l s r q);
  ports = λ t u. taken_out l s r t u old p says ports;
  sound = record {
    newest = says.sound.newest;
    agents = λ a few. (knows_more l s r a m old ks says few first.0 clocks).0;
    own = λ a few. (knows_more l s r a m old ks says few first.0 clocks).1;
    none = says.sound.none;
  };
}
  where
    first : IsFirst (Some m) ((known l).carried s r) (front l s r)
    first = subst (λ o. IsFirst o ((known l).carried s r) (front l s r)) front_is (carry_first (stands.says.ports s r))

-- where there is no message, which is not so
pub untaken_says : (l : Ledger) (s r : ℕ) (old : Pass) (p : Ports) → Stands (Taken s r) l old → slice_get (queue_in old.ports s r) 0 ≡ None
    → ((t u : ℕ) → queue_in p t u ≡ cond (nat_eq s t && nat_eq r u) (drop 1 (queue_in old.ports t u)) (queue_in old.ports t u)) → Says (Taken s r ∷ l) (record old { ports = p })
untaken_says l s r old p stands none ports = let says = stands.says in record {
  tickets = λ q. says.tickets q ∙ ap (λ o. hand_some (option_and_then serial_in o) (Some r) q (ticket_at q (table l))) (sym first.1) ∙ sym (taken l s r q);
  ports = λ t u. taken_out l s r t u old p says ports;
  sound = record {
    newest = says.sound.newest;
    agents = λ a few. subst (Has (known_in old.known a)) (sym (nothing (r == a) ((known l).knows a))) (says.sound.agents a few);
    own = says.sound.own;
    none = says.sound.none;
  };
}
  where
    first : IsFirst None ((known l).carried s r) (front l s r)
    first = subst (λ o. IsFirst o ((known l).carried s r) (front l s r)) none (carry_first (stands.says.ports s r))

    nothing : (b : Bool) (ms : List Marked) → cond b (first_of ((known l).carried s r) ++ ms) ms ≡ ms
    nothing true ms = ap (λ ks. ks ++ ms) first.0
    nothing false ms = refl

-- Accesses

in_front : (z y : MarkedAccess) (ys : List MarkedAccess) → IsIn y (z ∷ ys) → IsMarked z → AllMarked ys → IsMarked y
in_front z y ys IsIn.here this rest = this
in_front z y ys (IsIn.later at) this rest = rest y at

marked_next : (n : ℕ) (e : LedgerEvent) (l : Ledger) → n < 9 → LegalSoFar n l → AllMarked (marked l) → AllMarked (marked (e ∷ l))
marked_next n (Accessed s i m w) l few legal before = case_of (holder_of l s) refl
  where
    case_of : (o : Option (ℕ × Row)) → holder_of l s ≡ o → AllMarked (map (marked_after l) (access_by o i m w) ++ marked l)
    case_of None at = before
    case_of (Some p) at = λ y among.
        let agent = holder_within n l s p.0 p.1 legal at in
        in_front _ y (marked l) among (record { own = refl; few = omega (arith, agent, few) }) before
marked_next n _ l few legal before = before

all_marked : (n : ℕ) (l : Ledger) → n < 9 → LegalSoFar n l → AllMarked (marked l)
all_marked n [] few legal = λ y among. elim among [ ]
all_marked n (e ∷ l) few legal = marked_next n e l few legal.1 (all_marked n l few legal.1)

-- after these accesses, which come after l
abbrev SoundAfter : Ledger → List WordAccess → Map (ℕ × ℕ) Word → Clocks → Type 0
SoundAfter l xs ws ks = Sound (λ c. marks_of c (accesses l) xs ++ (known l).knows c) (xs ++ accesses l) (map (marked_after l) xs ++ marked l) ws ks

-- a word's highest number after an access that may be to it
noted : (p t e : Bool) (new this here top k : ℕ) → (p ≡ true → this ≡ top) → here ≡ top → new ≡ cond p (raise_if (t && e) k this) here → new ≡ raise_if ((t && p) && e) k top
noted true true e new this here top k same is now = now ∙ ap (raise_if e k) (same refl)
noted true false e new this here top k same is now = now ∙ same refl
noted false true e new this here top k same is now = now ∙ is
noted false false e new this here top k same is now = now ∙ is

module _ (l : Ledger) (s i w : ℕ) (m : Change) (a b : ℕ) (r : Row) (old : Pass) (stands : Stands (Accessed s i m w) l old) (holder : holder_of l s ≡ Some (a, r)) (block : r.block ≡ b) where
  abbrev this : WordAccess
  this = record { agent = a; block = b; index = i; change = m; old = w }

  -- the one access of the event
  one : accessed l (Accessed s i m w) ≡ this ∷ []
  one = ap (λ o. access_by o i m w) holder ∙ ap (λ b. record { agent = a; block = b; index = i; change = m; old = w } ∷ []) block

  few_agent : a < 8
  few_agent = let small = holder_within stands.agents l s a r stands.legal.1 holder in omega (arith, small, stands.few)

  made : known_in old.known a a ≡ made_by a (accesses l)
  made = stands.says.sound.own a few_agent

  pub small_count : known_in old.known a a + 1 < 2 ^ 64
  small_count = let most = few_made a l in omega (arith, made, most, stands.short)

  pub race_told : (found : Mark) (number : ℕ) (writes : Bool) (newest known_now : Clock) → writes ≡ is_some (written m w) → ((j : ℕ) → count_in newest j ≡ newest_at old.words writes b i j) → ((j : ℕ) → count_in known_now j ≡ known_in old.known a j)
      → number ≡ count_in known_now a → IsUnknown newest known_now a found → race_at (Accessed s i m w ∷ l) (said found) (a, number) ≡ true
  race_told found number writes newest known_now is newest_is known_is number_is unknown =
      let count : number ≡ made_by a (accesses l) = number_is ∙ known_is a ∙ made in
      let top : highest (meets (is_write this) b i) found.agent (marked l) ≡ found.number + 1
      = ap (λ t. highest (meets t b i) found.agent (marked l)) (sym is) ∙ sym (stands.says.sound.newest writes b i found.agent unknown.few) ∙ sym (newest_is found.agent) ∙ unknown.newest_one in
      let less : known_in old.known a found.agent ≤ found.number = omega (arith, known_is found.agent, unknown.unknown) in
      subst (λ k. race_at (Accessed s i m w ∷ l) (said found) (a, k) ≡ true) (sym count)
      (subst (λ xs. race_among (map (marked_after l) xs ++ marked l) (said found) (a, made_by a (accesses l)) ≡ true) (sym one)
      (races (marked_after l this) (marked l) (known_in old.known a) found.agent found.number (stands.says.sound.agents a few_agent) (all_marked stands.agents l stands.few stands.legal.1) unknown.few unknown.other top less
      (none_knew l a (made_by a (accesses l)) (omega arith))))

  pub access_says : (writes : Bool) (ws : Map (ℕ × ℕ) Word) (ks : Clocks) → writes ≡ is_some (written m w) → ((j : ℕ) → j < 8 → a ≢ j → newest_at old.words writes b i j ≤ known_in old.known a j)
      → ((v : Bool) (d k j : ℕ) → j < 8 → newest_at ws v d k j ≡ cond (pair_eq (b, i) (d, k)) (raise_if ((v || writes) && (a == j)) (known_in old.known a a + 1) (newest_at old.words v b i j)) (newest_at old.words v d k j))
      → ((c j : ℕ) → c < 8 → j < 8 → known_in ks c j ≡ cond (a == c) (raise_if (a == j) (known_in old.known a a + 1) (known_in old.known a j)) (known_in old.known c j))
      → Says (Accessed s i m w ∷ l) (record old { words = ws; known = ks })
  access_says writes ws ks is known_before words clocks = let says = stands.says in record {
    tickets = says.tickets;
    ports = says.ports;
    sound = subst (λ xs. SoundAfter l xs ws ks) (sym one) (record {
      newest = word_next;
      agents = λ c few. knows_next c (a == c) refl few;
      own = λ c few. own_next c (a == c) refl few (clocks c c few few);
      none = free_more (marked_after l this) (marked l) (known_in old.known a) (says.sound.agents a few_agent) (all_marked stands.agents l stands.few stands.legal.1)
          (λ j few other. subst (λ n. n ≤ known_in old.known a j) (says.sound.newest writes b i j few ∙ ap (λ t. highest (meets t b i) j (marked l)) is) (known_before j few other)) says.sound.none;
    });
  }
    where
      same_word : (v : Bool) (d k j : ℕ) → pair_eq (b, i) (d, k) ≡ true → newest_at old.words v b i j ≡ newest_at old.words v d k j
      same_word v d k j at =
          let parts = and_parts (nat_eq b d) (nat_eq i k) at in
          ap (λ d. newest_at old.words v d i j) (eqb-true b d parts.0) ∙ ap (λ k. newest_at old.words v d k j) (eqb-true i k parts.1)

      word_next : (v : Bool) (d k j : ℕ) → j < 8 → newest_at ws v d k j ≡ raise_if (meets v d k this && (a == j)) (made_by a (accesses l) + 1) (highest (meets v d k) j (marked l))
      word_next v d k j few =
          let here = stands.says.sound.newest v d k j few in
          noted (pair_eq (b, i) (d, k)) (v || writes) (a == j) _ _ _ _ _ (λ at. same_word v d k j at ∙ here) here (words v d k j few)
          ∙ ap (λ x. raise_if (((v || x) && pair_eq (b, i) (d, k)) && (a == j)) (known_in old.known a a + 1) (highest (meets v d k) j (marked l))) is
          ∙ ap (λ x. raise_if (meets v d k this && (a == j)) (x + 1) (highest (meets v d k) j (marked l))) made

      knows_next : (c : ℕ) (t : Bool) → (a == c) ≡ t → c < 8 → Has (known_in ks c) (cond t (mark_of (accesses l) this ∷ []) [] ++ (known l).knows c)
      knows_next c true at few =
          subst (λ c. Has (known_in ks c) ((a, made_by a (accesses l)) ∷ (known l).knows c)) (eqb-true a c at)
          (raised (known_in old.known a) (known_in ks a) a (made_by a (accesses l)) ((known l).knows a) (stands.says.sound.agents a few_agent) made
          (λ j small. clocks a j few_agent small ∙ ap (λ b. cond b (raise_if (a == j) (known_in old.known a a + 1) (known_in old.known a j)) (known_in old.known a j)) (eq-eqb a a refl)))
      knows_next c false at few = λ j n small.
          stands.says.sound.agents c few j n small
          ∙ ap (nat_lt n) (sym (clocks c j few small ∙ ap (λ b. cond b (raise_if (a == j) (known_in old.known a a + 1) (known_in old.known a j)) (known_in old.known c j)) at))

      own_next : (c : ℕ) (t : Bool) → (a == c) ≡ t → c < 8 → known_in ks c c ≡ cond (a == c) (raise_if (a == c) (known_in old.known a a + 1) (known_in old.known a c)) (known_in old.known c c)
          → known_in ks c c ≡ made_by c (this ∷ accesses l)
      own_next c true at few is =
          let own = rw at at is in
          let more = made_one c this (accesses l) in
          let counted : ◌≡◌ {A = ℕ} (cond (a == c) 1 0) 1 = ap (λ b. cond {A = ℕ} b 1 0) at in
          let same : known_in old.known a c ≡ known_in old.known a a = ap (known_in old.known a) (sym (eqb-true a c at)) in
          let made_same : made_by a (accesses l) ≡ made_by c (accesses l) = ap (λ c. made_by c (accesses l)) (eqb-true a c at) in
          omega (arith, own, more, counted, same, made_same, made)
      own_next c false at few is =
          let own = rw at at is in
          let more = made_one c this (accesses l) in
          let counted : ◌≡◌ {A = ℕ} (cond (a == c) 1 0) 0 = ap (λ b. cond {A = ℕ} b 1 0) at in
          let before = stands.says.sound.own c few in
          omega (arith, own, more, counted, before)

-- the words after what is kept of one was put back
pub word_put : (old new : Map (ℕ × ℕ) Word) (b i : ℕ) (word more : Word) (a count : ℕ) (writes : Bool) → ((q : ℕ × ℕ) → get pair_eq new q ≡ cond (pair_eq (b, i) q) (Some more) (get pair_eq old q))
    → ((v : Bool) (j : ℕ) → count_in (newest_in word v) j ≡ newest_at old v b i j)
    → ((v : Bool) (j : ℕ) → j < 8 → count_in (newest_in more v) j ≡ raise_if ((v || writes) && (a == j)) count (count_in (newest_in word v) j))
    → (v : Bool) (d k j : ℕ) → j < 8 → newest_at new v d k j ≡ cond (pair_eq (b, i) (d, k)) (raise_if ((v || writes) && (a == j)) count (newest_at old v b i j)) (newest_at old v d k j)
word_put old new b i word more a count writes updates before raised v d k j few =
    ap (λ o. option_map_or (λ w. count_in (newest_in w v) j) o 0) (updates (d, k)) ∙ by_test (pair_eq (b, i) (d, k))
  where
    here : count_in (newest_in more v) j ≡ raise_if ((v || writes) && (a == j)) count (newest_at old v b i j)
    here = raised v j few ∙ ap (raise_if ((v || writes) && (a == j)) count) (before v j)

    by_test : (t : Bool) → option_map_or (λ w. count_in (newest_in w v) j) (cond t (Some more) (get pair_eq old (d, k))) 0
        ≡ cond t (raise_if ((v || writes) && (a == j)) count (newest_at old v b i j)) (newest_at old v d k j)
    by_test true = here
    by_test false = refl

-- through a ticket that nobody holds nothing is accessed
pub unheld_says : (l : Ledger) (s i w : ℕ) (m : Change) (old : Pass) → Stands (Accessed s i m w) l old → holder_of l s ≡ None → Says (Accessed s i m w ∷ l) old
unheld_says l s i w m old stands nobody = let says = stands.says in record {
  tickets = says.tickets;
  ports = says.ports;
  sound = subst (λ xs. SoundAfter l xs old.words old.known) (sym none) says.sound;
}
  where
    none : accessed l (Accessed s i m w) ≡ []
    none = ap (λ o. access_by o i m w) nobody
