-- A buffer object that a request names has a ticket, whose block has a word at the request's index; and a value that is posted has no identity.
use Rattle.std.proofs.Common.{◌≡◌, ℕ, ◌+◌, ◌<◌, ◌==◌, ◌||◌, Bool, true, false, cond, not, sym, ◌∙◌, ap, refl, subst, List, [], ◌∷◌, ◌++◌, reverse, Option, Some, None, inl, inr}
use Rattle.std.specs.Prelude.{ℤ, pos, negsuc, is_some, unsigned_abs, map}
use Rattle.std.specs.Option.{option_map, option_map_or, option_and_then}
use Rattle.std.specs.List.{filter}
use Rattle.std.proofs.lemmas.Bool.{cases_Bool, eqb-true, false≢true, ltb-true}
use Rattle.std.proofs.lemmas.List.{reverse-append}
use Rattle.es_value.specs.declared.value.Value.{Value}
use Rattle.es_value.specs.declared.value.Value.TheVariants.{Object, Symbol}
use Rattle.es_event.specs.declared.access.Task.{Task}
use Rattle.es_event.specs.declared.command.Command.{Command}
use Rattle.es_event.specs.declared.command.Command.TheVariants.{SharedArrayBuffer, Atomic, Post}
use Rattle.es_event.specs.declared.event.Event.{Event}
use Rattle.es_event.specs.declared.event.Event.TheVariants.{Received, Did}
use Rattle.es_event.specs.declared.event.Refusal.TheVariants.{NotPostable}
use Rattle.es_event.specs.declared.plan.AgentPlan.{AgentPlan}
use Rattle.es_event.specs.declared.row.Row.{Row}
use Rattle.es_event.specs.Numbers.{task_of, index_of, index_read, words_read}
use Rattle.es_event.specs.Commands.{reads, Kind, kind_made, opens_words}
use Rattle.es_event.specs.History.{History}
use Rattle.es_event.specs.Identities.{identity, object_of, made, kind, born, is_gone}
use Rattle.es_event.specs.Jobs.{Receivers, receivers}
use Rattle.es_event.specs.Variables.{var}
use Rattle.es_event.specs.Sharing.{Buffers, row_at, words_of, is_index}
use Rattle.es_event.specs.Rules.{Test, is_buffer, kind_of, of_buffer, of_number, of_index, room_for_post, is_postable, refusal, first_refusal}
use Rattle.es_event.specs.Legal.{values_of, HasWords, Arrives, Lawful, LegalBy}
use Rattle.es_event.specs.Order.{Phase, between, handed, inside, stopped, ended, phase, due_at, due}
use Rattle.es_event.specs.Runs.{IsRunOver}
use Rattle.es_event.proofs.Accepted.{first_holds, word_holds}
use Rattle.es_event.proofs.Alive.{reached_not_gone}
use Rattle.es_event.proofs.Births.{birth, received, born_next}
use Rattle.es_event.proofs.LookBacks.{at_either}
use Rattle.es_ticket.specs.Stakes.{at}
use Rattle.es_record.specs.AgentView.{AgentView}
use Rattle.es_rules.specs.Needs.{Request, for_block, for_post, for_buffer_post, for_word, at_word, posts_to, asked, Need, asks_ledger, asks_nothing, need_of, need}
use Rattle.es_rules.proofs.Needs.{ledger_due, not_refused}
use Rattle.es_cluster.proofs.Asking.{word_asked}
use Rattle.es_agent.specs.Tickets.{is_ended, tickets}

-- The table has each buffer object that was made

words_made : (c : Command) (vs : List Value) → is_buffer (kind_made c vs) ≡ true → (n : ℕ) × (opens_words c ≡ Some n)
words_made (SharedArrayBuffer to n) vs b = (n, refl)
words_made _ vs b = cc

some_mapped : (n : ℕ) (r : Option Row) → option_map (λ r. r.words) r ≡ Some n → is_some r ≡ true
some_mapped n None e = cc
some_mapped n (Some r) e = refl

born_there : (over : Buffers) (into : Receivers) (h : History) (e : Event) (q : ℕ × Option Kind) → Lawful over into h e → born e ≡ Some q → is_buffer q.1 ≡ true → is_some (row_at over q.0) ≡ true
born_there over into h (Received t v) q lawful s b = (subst (Arrives over h) (received v q s).1 lawful).1
born_there over into h (Did (c, vs, r)) q lawful s b =
    let is = birth c vs r q s in
    let kd : is_buffer (kind_made c vs) ≡ true = ap is_buffer (is.2 ∙ sym is.1) ∙ b in
    let words = words_made c vs kd in
    let number = born_next over into h (Did (c, vs, r)) q lawful s in
    some_mapped words.0 (row_at over q.0) (subst (λ i. option_map (λ r. r.words) (row_at over i) ≡ Some words.0) number (subst (λ o. HasWords over (made h + 1) o) words.1 lawful.3))
born_there over into h _ q lawful s b = cc

pub buffer_there : (over : Buffers) (into : Receivers) (h : History) → LegalBy over into h → (o : ℕ) → is_buffer (kind h o) ≡ true → is_some (row_at over o) ≡ true
buffer_there over into [] l o is = cc
buffer_there over into (e ∷ h) l o is =
    at_either (λ k. is_buffer k ≡ true → is_some (row_at over o) ≡ true) (λ i j. i == j) o (born e) (kind h o)
    (λ q s t b. subst (λ i. is_some (row_at over i) ≡ true) (eqb-true q.0 o t) (born_there over into h e q l.0 s b))
    (λ b. buffer_there over into h l.1 o b) is

-- Its ticket

some_last : (xs : Buffers) (t : ℕ × Row) (o : ℕ) → is_some (at o (xs ++ t ∷ [])) ≡ (is_some (at o xs) || (t.0 == o))
some_last [] t o = elim (cases_Bool (t.0 == o)) [
  | inl e ↦ rw e refl
  | inr e ↦ rw e refl
]
some_last (x ∷ xs) t o = elim (cases_Bool (x.0 == o)) [
  | inl e ↦ rw e refl
  | inr e ↦ rw e (some_last xs t o)
]

or_either : (a b : Bool) → a ≡ true → (a || b) ≡ true
or_either a b e = rw e refl

or_second : (a b : Bool) → b ≡ true → (a || b) ≡ true
or_second true b e = refl
or_second false b e = e

some_reversed : (ts : Buffers) (o : ℕ) → is_some (row_at ts o) ≡ true → is_some (at o (reverse ts)) ≡ true
some_reversed [] o h = cc
some_reversed (t ∷ ts) o h =
    ap (λ l. is_some (at o l)) (reverse-append (t ∷ []) ts) ∙ some_last (reverse ts) t o
    ∙ one (t.0 == o) h (some_reversed ts o)
  where
    one : (b : Bool) → is_some (cond b (Some t.1) (row_at ts o)) ≡ true → (is_some (row_at ts o) ≡ true → is_some (at o (reverse ts)) ≡ true) → (is_some (at o (reverse ts)) || b) ≡ true
    one true h ih = or_second (is_some (at o (reverse ts))) true refl
    one false h ih = or_either (is_some (at o (reverse ts))) false (ih h)

found_still : (h : History) (o : ℕ) (ts : Buffers) → is_gone h o ≡ false → at o (filter (λ t. not (is_gone h t.0)) ts) ≡ at o ts
found_still h o [] g = refl
found_still h o (t ∷ ts) g = one (is_gone h t.0) (t.0 == o) refl refl (found_still h o ts g)
  where
    rest : List (ℕ × Row)
    rest = filter (λ t. not (is_gone h t.0)) ts

    one : (g c : Bool) → is_gone h t.0 ≡ g → (t.0 == o) ≡ c → at o rest ≡ at o ts → at o (cond (not g) (t ∷ rest) rest) ≡ cond c (Some t.1) (at o ts)
    one true true is same ih = let clash : is_gone h t.0 ≡ false = subst (λ i. is_gone h i ≡ false) (sym (eqb-true t.0 o same)) g in absurd (not_both (is_gone h t.0) is clash)
      where
        not_both : (b : Bool) → b ≡ true → b ≡ false → ⊥
        not_both b e f = let h : true ≡ false = sym e ∙ f in cc
    one true false is same ih = ih
    one false true is same ih = rw same refl
    one false false is same ih = rw same ih

pub ticket_there : (b : AgentView) (o : ℕ) → is_ended (phase b.history) ≡ false → is_gone b.history o ≡ false → is_some (row_at b.over o) ≡ true → is_some (at o (tickets b)) ≡ true
ticket_there b o open' there row =
    ap (λ c. is_some (at o (cond c [] (filter (λ t. not (is_gone b.history t.0)) (reverse b.over))))) open'
    ∙ ap is_some (found_still b.history o (reverse b.over) there)
    ∙ some_reversed b.over o row

-- an agent that asks for something has not closed
open_at : (b : AgentView) (plan : AgentPlan) (h : History) (p : Phase) (n : Need) → (asks_nothing ≡ n → ⊥) → need_of b (due_at plan h p) ≡ n → is_ended p ≡ false
open_at b plan h between n some e = refl
open_at b plan h handed n some e = refl
open_at b plan h inside n some e = refl
open_at b plan h stopped n some e = refl
open_at b plan h ended n some e = absurd (some e)

pub open_for : (b : AgentView) (n : Need) → (asks_nothing ≡ n → ⊥) → need b ≡ n → is_ended (phase b.history) ≡ false
open_for b n some is = open_at b b.plan b.history (phase b.history) n some is

-- What a request names

-- a variable holds the buffer object
pub record Aimed (into : Receivers) (h : History) (o : ℕ) : Type 0 where
  pub name : List ℕ
  pub holds : var into h name ≡ Object o
  pub buffer : is_buffer (kind h o) ≡ true

-- the buffer object that the request names
abbrev pub aim : Request → Option ℕ
aim (for_block n) = None
aim (for_post a v) = None
aim (for_buffer_post a o) = Some o
aim (for_word o i a) = Some o

-- and the index
abbrev pub place : Request → Option ℕ
place (for_block n) = None
place (for_post a v) = None
place (for_buffer_post a o) = None
place (for_word o i a) = Some i

at_object : (v : Value) (o : ℕ) → object_of v ≡ Some o → v ≡ Object o
at_object (Object i) o e = let same : i ≡ o = cc in ap Object same
at_object _ o e = cc

mapped : (f : ℕ → Request) (q : Option ℕ) (r : Request) → option_map f q ≡ Some r → (o : ℕ) × (q ≡ Some o) × (f o ≡ r)
mapped f None r e = cc
mapped f (Some o) r e = (o, refl, cc)

pub aimed_at : (into : Receivers) (h : History) (x : List ℕ) (o : ℕ) → object_of (var into h x) ≡ Some o → is_buffer (kind_of h (var into h x)) ≡ true → Aimed into h o
aimed_at into h x o e b = record { name = x; holds = at_object (var into h x) o e; buffer = ap (λ q. is_buffer (option_and_then (kind h) q)) (sym e) ∙ b }

-- an access: the value is a buffer object, and its block has a word there
word_aimed : (over : Buffers) (into : Receivers) (h : History) (x : List ℕ) (n : Test) (j : ℤ) (ts : List Test) (a : Task) (r : Request) (o : ℕ)
    → at_word (var into h x) j a ≡ Some r → first_refusal (of_buffer h (var into h x) ∷ n ∷ of_index over (var into h x) j ∷ ts) ≡ None → aim r ≡ Some o → Aimed into h o
word_aimed over into h x n j ts a r o is none e =
    let m = mapped (λ o. for_word o (unsigned_abs j) a) (object_of (var into h x)) r is in
    let here : ◌≡◌ {A = Option ℕ} (Some m.0) (Some o) = ap aim m.2 ∙ e in
    let same : m.0 ≡ o = cc in
    aimed_at into h x o (m.1 ∙ ap Some same) (word_holds over h (var into h x) n j ts none).0

post_aimed : (into : Receivers) (h : History) (x : List ℕ) (a : ℕ) (v : Value) (r : Request) (o : ℕ) → var into h x ≡ v → Some (posts_to a v) ≡ Some r → is_postable h v ≡ true → aim r ≡ Some o → Aimed into h o
post_aimed into h x a (Object i) r o holds is may e =
    let m : for_buffer_post a i ≡ r = cc in
    let here : ◌≡◌ {A = Option ℕ} (Some i) (Some o) = ap aim m ∙ e in
    let same : i ≡ o = cc in
    record { name = x; holds = holds ∙ ap Object same; buffer = ap (λ i. is_buffer (kind h i)) (sym same) ∙ may }
post_aimed into h x a v r o holds is may e =
    let m : for_post a v ≡ r = cc in
    let none : ◌≡◌ {A = Option ℕ} None (Some o) = ap aim m ∙ e in cc

command_aims : (over : Buffers) (into : Receivers) (h : History) (c : Command) (r : Request) (o : ℕ) → asked c (values_of into h (reads c)) ≡ Some r → refusal over h c (values_of into h (reads c)) ≡ None → aim r ≡ Some o → Aimed into h o
command_aims over into h (Atomic c) r o is none e =
    let vs = values_of into h (reads (Atomic c)) in
    word_aimed over into h c.buffer (of_number (index_read c vs)) (index_of c vs) (map of_number (words_read c vs)) (task_of c vs) r o is none e
command_aims over into h (Post a y) r o is none e = post_aimed into h y a (var into h y) r o refl is (first_holds _ NotPostable (room_for_post h ∷ []) none).0 e
command_aims over into h (SharedArrayBuffer to n) r o is none e =
    let m : for_block n ≡ r = cc in
    let none : ◌≡◌ {A = Option ℕ} None (Some o) = ap aim m ∙ e in cc
command_aims over into h _ r o is none e = cc

-- the buffer object has a ticket
pub aims_at_ticket : (b : AgentView) (r : Request) (o : ℕ) → IsRunOver b.over b.plan b.history → need b ≡ asks_ledger r → aim r ≡ Some o → is_some (at o (tickets b)) ≡ true
aims_at_ticket b r o run is e =
    let into = receivers b.plan.jobs in
    let command = ledger_due b (due b.plan b.history) r is in
    let vs = values_of into b.history (reads command.0) in
    let parts = not_refused (refusal b.over b.history command.0 vs) (asked command.0 vs) r command.3 in
    let aimed = command_aims b.over into b.history command.0 r o parts.1 parts.0 e in
    ticket_there b o (open_for b (asks_ledger r) (λ f. cc) is)
    (reached_not_gone b.plan b.history o (b.over, run.0, run.1) (λ m closed. closed.variables aimed.name o (ap identity aimed.holds)))
    (buffer_there b.over into b.history run.0 o aimed.buffer)

-- Indexes

index_within : (j : ℤ) (words : ℕ) → is_index j words ≡ true → unsigned_abs j < words
index_within (pos i) words e = ltb-true i words e
index_within (negsuc i) words e = cc

word_placed : (over : Buffers) (h : History) (v : Value) (n : Test) (j : ℤ) (ts : List Test) (a : Task) (r : Request) (o i : ℕ) → at_word v j a ≡ Some r → first_refusal (of_buffer h v ∷ n ∷ of_index over v j ∷ ts) ≡ None → aim r ≡ Some o → place r ≡ Some i
    → (w : Row) → Some w ≡ row_at over o → i < w.words
word_placed over h v n j ts a r o i is none aims places w here =
    let m = mapped (λ o. for_word o (unsigned_abs j) a) (object_of v) r is in
    let first : ◌≡◌ {A = Option ℕ} (Some m.0) (Some o) = ap aim m.2 ∙ aims in
    let second : ◌≡◌ {A = Option ℕ} (Some (unsigned_abs j)) (Some i) = ap place m.2 ∙ places in
    let same : m.0 ≡ o = cc in
    let index : unsigned_abs j ≡ i = cc in
    let inside = (word_holds over h v n j ts none).1 in
    let words : words_of over v ≡ w.words = ap (λ q. option_map_or (λ r. r.words) (option_and_then (row_at over) q) 0) (m.1 ∙ ap Some same) ∙ ap (λ q. option_map_or (λ r. r.words) q 0) (sym here) in
    subst (λ i. i < w.words) index (index_within j w.words (ap (is_index j) (sym words) ∙ inside))

command_places : (over : Buffers) (into : Receivers) (h : History) (c : Command) (r : Request) (o i : ℕ) → asked c (values_of into h (reads c)) ≡ Some r → refusal over h c (values_of into h (reads c)) ≡ None
    → aim r ≡ Some o → place r ≡ Some i → (w : Row) → Some w ≡ row_at over o → i < w.words
command_places over into h (Atomic c) r o i is none aims places =
    let vs = values_of into h (reads (Atomic c)) in
    word_placed over h (var into h c.buffer) (of_number (index_read c vs)) (index_of c vs) (map of_number (words_read c vs)) (task_of c vs) r o i is none aims places
command_places over into h (Post a y) r o i is none aims places = absurd (no_place a (var into h y) r i is places)
  where
    no_place : (a : ℕ) (v : Value) (r : Request) (i : ℕ) → Some (posts_to a v) ≡ Some r → place r ≡ Some i → ⊥
    no_place a (Object o) r i is places = let m : for_buffer_post a o ≡ r = cc in let none : ◌≡◌ {A = Option ℕ} None (Some i) = ap place m ∙ places in cc
    no_place a v r i is places = let m : for_post a v ≡ r = cc in let none : ◌≡◌ {A = Option ℕ} None (Some i) = ap place m ∙ places in cc
command_places over into h (SharedArrayBuffer to n) r o i is none aims places =
    let m : for_block n ≡ r = cc in
    let none : ◌≡◌ {A = Option ℕ} None (Some o) = ap aim m ∙ aims in cc
command_places over into h _ r o i is none aims places = cc

-- and its block has a word at the index
pub aims_inside : (b : AgentView) (r : Request) (o i : ℕ) → need b ≡ asks_ledger r → aim r ≡ Some o → place r ≡ Some i → (w : Row) → Some w ≡ row_at b.over o → i < w.words
aims_inside b r o i is aims places =
    let into = receivers b.plan.jobs in
    let command = ledger_due b (due b.plan b.history) r is in
    let vs = values_of into b.history (reads command.0) in
    let parts = not_refused (refusal b.over b.history command.0 vs) (asked command.0 vs) r command.3 in
    command_places b.over into b.history command.0 r o i parts.1 parts.0 aims places

-- Values that are posted

plain_post : (h : History) (a b : ℕ) (v w : Value) → Some (posts_to a v) ≡ Some (for_post b w) → is_postable h v ≡ true → identity w ≡ None
plain_post h a b (Object o) w is may = cc
plain_post h a b (Symbol i) w is may = cc
plain_post h a b v w is may = let same : v ≡ w = cc in ap identity (sym same)

command_posts : (over : Buffers) (into : Receivers) (h : History) (c : Command) (a : ℕ) (w : Value) → asked c (values_of into h (reads c)) ≡ Some (for_post a w) → refusal over h c (values_of into h (reads c)) ≡ None → identity w ≡ None
command_posts over into h (Post b y) a w is none = plain_post h b a (var into h y) w is (first_holds _ NotPostable (room_for_post h ∷ []) none).0
command_posts over into h (Atomic c) a w is none =
    let vs = values_of into h (reads (Atomic c)) in
    absurd (false≢true (word_asked (var into h c.buffer) (index_of c vs) (task_of c vs) (for_post a w) is))
command_posts over into h _ a w is none = cc

-- a value that is posted has no identity
pub posts_plain : (b : AgentView) (a : ℕ) (v : Value) → need b ≡ asks_ledger (for_post a v) → identity v ≡ None
posts_plain b a v is =
    let into = receivers b.plan.jobs in
    let command = ledger_due b (due b.plan b.history) (for_post a v) is in
    let vs = values_of into b.history (reads command.0) in
    let parts = not_refused (refusal b.over b.history command.0 vs) (asked command.0 vs) (for_post a v) command.3 in
    command_posts b.over into b.history command.0 a v parts.1 parts.0
