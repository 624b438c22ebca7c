-- A step that asks nobody asks nothing of the ledger, or what its tickets tell.
use Rattle.std.proofs.Common.{◌≡◌, ℕ, ◌==◌, ◌&&◌, Bool, true, false, cond, sym, ◌∙◌, ap, refl, List, [], ◌∷◌, Option, Some, None}
use Rattle.std.specs.Prelude.{pos, is_some, map}
use Rattle.std.specs.Option.{option_map, option_map_or, option_and_then}
use Rattle.std.proofs.lemmas.Bool.Decides.{Decides-int_eq}
use Rattle.es_value.specs.Values.{identity, is_same}
use Rattle.es_value.specs.declared.value.Value.{Value}
use Rattle.es_value.specs.declared.value.Value.TheVariants.{Boolean, Number, Object}
use Rattle.es_event.specs.declared.command.Command.{Command}
use Rattle.es_event.specs.declared.command.Command.TheVariants.{SharedArrayBuffer, Length, SameBlock, Atomic, Post}
use Rattle.es_event.specs.declared.event.Answer.{Answer}
use Rattle.es_event.specs.declared.event.Event.{Event}
use Rattle.es_event.specs.declared.event.Event.TheVariants.{JobBegun, CleanupBegun, Did, Refused, Emptied, Taken, JobEnded}
use Rattle.es_event.specs.declared.event.Refusal.{Refusal}
use Rattle.es_event.specs.declared.event.Refusal.TheVariants.{NotASharedArrayBuffer}
use Rattle.es_event.specs.declared.row.Row.{Row}
use Rattle.es_event.specs.Commands.{reads}
use Rattle.es_event.specs.History.{History}
use Rattle.es_event.specs.Identities.{object_of, kind}
use Rattle.es_event.specs.Jobs.{receivers}
use Rattle.es_event.specs.Variables.{var}
use Rattle.es_event.specs.Sharing.{row_at, words_of, block_of}
use Rattle.es_event.specs.Numbers.{index_of, index_read, words_read}
use Rattle.es_event.specs.Rules.{is_buffer, kind_of, of_index, of_number, of_buffer, refusal, first_refusal, tests, result}
use Rattle.es_event.specs.Heard.{Heard, heard_by}
use Rattle.es_event.specs.Legal.{values_of, Lawful}
use Rattle.es_event.specs.Order.{Due, begin, receive, run, clean, take_cell, finish, end_job, close, nothing, phase, due}
use Rattle.es_event.specs.Follows.{Permits, refused_now}
use Rattle.es_event.proofs.Coming.{IsDoneFor, itself, caught, done_so}
use Rattle.es_event.specs.Runs.{IsRunOver}
use Rattle.es_event.proofs.Accepted.{first_holds, is_accepted, is_result}
use Rattle.es_event.proofs.Alive.{reached_not_gone}
use Rattle.es_match.specs.Asks.{nothing as asks_nothing, to_refuse, to_measure, to_compare, asks_did, between_jobs, asks, wants_room}
use Rattle.es_match.specs.Meets.{after, has_ticket, is_number, some_if}
use Rattle.es_ticket.specs.Stakes.{at}
use Rattle.es_record.specs.AgentView.{AgentView, IsNext}
use Rattle.es_rules.specs.Needs.{Request, asked, unless_refused, asks_nobody, need, need_of}
use Rattle.es_rules.proofs.Needs.{local_command}
use Rattle.es_agent.specs.Tickets.{is_ended, tickets}
use Rattle.es_agent.proofs.Racks.{open_before}
use Rattle.es_cluster.proofs.Aims.{aimed_at, buffer_there, ticket_there}
use Rattle.es_cluster.proofs.Asking.{object_at, has_this, at_command}

-- each of the agent's tickets names what its buffer object is over
abbrev pub AreNamed : AgentView → Type 0
AreNamed b = (o : ℕ) (r : Row) → Some r ≡ at o (tickets b) → Some r ≡ row_at b.over o

-- A variable that holds a buffer object

record Buffer (b : AgentView) (v : Value) : Type 0 where
  object : ℕ
  row : Row
  is : v ≡ Object object
  here : Some row ≡ at object (tickets b)
  over : Some row ≡ row_at b.over object

some_row : (q : Option Row) → is_some q ≡ true → (r : Row) × (Some r ≡ q)
some_row None e = cc
some_row (Some r) e = (r, refl)

object_there : (h : History) (q : Option ℕ) → is_buffer (option_and_then (kind h) q) ≡ true → (o : ℕ) × (q ≡ Some o)
object_there h None e = cc
object_there h (Some o) e = (o, refl)

buffer_in : (b : AgentView) (x : List ℕ) → IsRunOver b.over b.plan b.history → AreNamed b → is_ended (phase b.history) ≡ false → is_buffer (kind_of b.history (var (receivers b.plan.jobs) b.history x)) ≡ true
    → Buffer b (var (receivers b.plan.jobs) b.history x)
buffer_in b x history named going is =
    let into = receivers b.plan.jobs in
    let object = object_there b.history (object_of (var into b.history x)) is in
    let aimed = aimed_at into b.history x object.0 object.1 is in
    let there = ticket_there b object.0 going (reached_not_gone b.plan b.history object.0 (b.over, history.0, history.1) (λ m closed. closed.variables aimed.name object.0 (ap identity aimed.holds)))
    (buffer_there b.over into b.history history.0 object.0 aimed.buffer) in
    let row = some_row (at object.0 (tickets b)) there in
    record { object = object.0; row = row.0; is = object_at (var into b.history x) object.0 object.1; here = row.1; over = named object.0 row.0 row.1 }

words_are : (b : AgentView) (v : Value) (r : Buffer b v) → words_of b.over v ≡ r.row.words
words_are b v r = ap (words_of b.over) r.is ∙ ap (λ q. option_map_or (λ r. r.words) q 0) (sym r.over)

block_is : (b : AgentView) (v : Value) (r : Buffer b v) → block_of b.over v ≡ r.row.block
block_is b v r = ap (block_of b.over) r.is ∙ ap (λ q. option_map_or (λ r. r.block) q 0) (sym r.over)

has_row : (b : AgentView) (v : Value) (r : Buffer b v) (test : Row → Bool) → test r.row ≡ true → has_ticket (tickets b) v test ≡ true
has_row b v r test is = ap (λ v. has_ticket (tickets b) v test) r.is ∙ has_this (tickets b) r.object r.row test r.here is

measured : (b : AgentView) (v : Value) → Buffer b v → after (tickets b) (to_measure v (Number (pos (words_of b.over v)))) [] ≡ Some (tickets b)
measured b v r = ap (λ t. some_if t (tickets b)) (has_row b v r (λ q. is_number (Number (pos (words_of b.over v))) q.words) ((Decides-int_eq (pos (words_of b.over v)) (pos r.row.words)).1 (ap pos (words_are b v r))))

same_bool : (a b : Bool) → a ≡ b → is_same (Boolean a) (Boolean b) ≡ true
same_bool true true e = refl
same_bool false false e = refl
same_bool true false e = cc
same_bool false true e = cc

compared : (b : AgentView) (u v : Value) → Buffer b u → Buffer b v → after (tickets b) (to_compare u v (Boolean (block_of b.over u == block_of b.over v))) [] ≡ Some (tickets b)
compared b u v r q =
    let answer = block_of b.over u == block_of b.over v in
    let same : answer ≡ (r.row.block == q.row.block) = ap (λ m. m == block_of b.over v) (block_is b u r) ∙ ap (λ m. r.row.block == m) (block_is b v q) in
    ap (λ t. some_if t (tickets b))
    (has_row b u r (λ x. has_ticket (tickets b) v (λ y. is_same (Boolean answer) (Boolean (x.block == y.block))))
    (has_row b v q (λ y. is_same (Boolean answer) (Boolean (r.row.block == y.block))) (same_bool answer (r.row.block == q.row.block) same)))

-- A command that asks for nothing

no_request : (f : Option Refusal) (q : Option Request) → f ≡ None → unless_refused f q ≡ None → q ≡ None
no_request None q e is = is
no_request (Some code) q e is = cc

no_object : (h : History) (v : Value) (f : ℕ → Request) → is_buffer (kind_of h v) ≡ true → option_map f (object_of v) ≡ None → ⊥
no_object h (Object o) f is none = cc
no_object h v f is none = cc

did_met : (b : AgentView) (c : Command) → IsRunOver b.over b.plan b.history → AreNamed b → is_ended (phase b.history) ≡ false
    → first_refusal (tests b.over b.history c (values_of (receivers b.plan.jobs) b.history (reads c))) ≡ None → asked c (values_of (receivers b.plan.jobs) b.history (reads c)) ≡ None → (w : Heard)
    → after (tickets b) (asks_did c (values_of (receivers b.plan.jobs) b.history (reads c)) (result b.over b.history c (values_of (receivers b.plan.jobs) b.history (reads c)) w)) [] ≡ Some (tickets b)
did_met b (Length to x) history named going none silent w = measured b _ (buffer_in b x history named going (first_holds _ NotASharedArrayBuffer [] none).0)
did_met b (SameBlock to x y) history named going none silent w =
    let first = first_holds _ NotASharedArrayBuffer (of_buffer b.history (var (receivers b.plan.jobs) b.history y) ∷ []) none in
    compared b _ _ (buffer_in b x history named going first.0) (buffer_in b y history named going (first_holds _ NotASharedArrayBuffer [] first.1).0)
did_met b (SharedArrayBuffer to n) history named going none silent w = cc
did_met b (Atomic a) history named going none silent w =
    let value = var (receivers b.plan.jobs) b.history a.buffer in
    let vs = values_of (receivers b.plan.jobs) b.history (reads (Atomic a)) in
    let behind = of_number (index_read a vs) ∷ of_index b.over value (index_of a vs) ∷ map of_number (words_read a vs) in
    absurd (no_object b.history value _ (first_holds _ NotASharedArrayBuffer behind none).0 silent)
did_met b (Post a y) history named going none silent w = cc
did_met b c history named going none silent w = refl

did_itself : (b : AgentView) (x : Option (List ℕ)) (c : Command) (vs : List Value) (r : Answer) → need_of b (run x c) ≡ asks_nobody → IsRunOver b.over b.plan b.history → AreNamed b → is_ended (phase b.history) ≡ false
    → Lawful b.over (receivers b.plan.jobs) b.history (Did (c, vs, r)) → after (tickets b) (asks_did c vs r) [] ≡ Some (tickets b)
did_itself b x c vs r is history named going lawful =
    let into = receivers b.plan.jobs in
    let accepted = is_accepted b.over b.history c vs (heard_by c r) r lawful.1 in
    let answer = is_result b.over b.history c vs (heard_by c r) r lawful.1 in
    let values = lawful.0 in
    let nothing = no_request _ (asked c (values_of into b.history (reads c))) (ap (refusal b.over b.history c) (sym values) ∙ accepted) (local_command b x c is).1 in
    ap (λ r. after (tickets b) (asks_did c vs r) []) (sym answer)
    ∙ ap (λ vs. after (tickets b) (asks_did c vs (result b.over b.history c vs (heard_by c r))) []) values
    ∙ did_met b c history named going (ap (refusal b.over b.history c) (sym values) ∙ accepted) nothing (heard_by c r)

-- the command itself, or the assignment that catches its refusal, which asks for nothing
done_met : (b : AgentView) (x : Option (List ℕ)) (c d : Command) (vs : List Value) (r : Answer) → need_of b (run x c) ≡ asks_nobody → IsRunOver b.over b.plan b.history → AreNamed b → is_ended (phase b.history) ≡ false
    → Lawful b.over (receivers b.plan.jobs) b.history (Did (d, vs, r)) → IsDoneFor c d → after (tickets b) (asks_did d vs r) [] ≡ Some (tickets b)
done_met b x c _ vs r is history named going lawful itself = did_itself b x c vs r is history named going lawful
done_met b x c _ vs r is history named going lawful (caught y t) = refl

command_met : (b : AgentView) (x : Option (List ℕ)) (c : Command) (e : Event) → need_of b (run x c) ≡ asks_nobody → due b.plan b.history ≡ run x c → IsRunOver b.over b.plan b.history → AreNamed b → is_ended (phase b.history) ≡ false
    → Lawful b.over (receivers b.plan.jobs) b.history e → Permits b.over (receivers b.plan.jobs) b.history (run x c) e → after (tickets b) (asks (between_jobs b.history) e) [] ≡ Some (tickets b)
command_met b x c (Did (d, vs, r)) is here history named going lawful p = done_met b x c d vs r is history named going lawful (done_so (refused_now b.over (receivers b.plan.jobs) b.history c) x c d p)
command_met b x c (Refused code) is here history named going lawful p = ap (λ t. after (tickets b) (cond (t && wants_room code) to_refuse asks_nothing) []) (at_command b.plan b.history x c here)
command_met b x c (Emptied ids) is here history named going lawful p = let clash : true ≡ false = sym p.0 ∙ (local_command b x c is).0 in cc
command_met b x c _ is here history named going lawful p = absurd p

local_at : (b : AgentView) (d : Due) (e : Event) → need_of b d ≡ asks_nobody → due b.plan b.history ≡ d → IsRunOver b.over b.plan b.history → AreNamed b → is_ended (phase b.history) ≡ false
    → Lawful b.over (receivers b.plan.jobs) b.history e → Permits b.over (receivers b.plan.jobs) b.history d e → after (tickets b) (asks (between_jobs b.history) e) [] ≡ Some (tickets b)
local_at b (run x c) e is here history named going lawful p = command_met b x c e is here history named going lawful p
local_at b (begin n) (JobBegun j) is here history named going lawful p = refl
local_at b (clean r) (CleanupBegun q) is here history named going lawful p = refl
local_at b (take_cell n) (Taken m held) is here history named going lawful p = refl
local_at b end_job JobEnded is here history named going lawful p = refl
local_at b (receive n s) e is here history named going lawful p = cc
local_at b (finish q) e is here history named going lawful p = cc
local_at b close e is here history named going lawful p = cc
local_at b nothing e is here history named going lawful p = cc
local_at b _ _ is here history named going lawful p = absurd p

pub local_met : (b : AgentView) (e : Event) → need b ≡ asks_nobody → IsNext b e → IsRunOver b.over b.plan b.history → AreNamed b → after (tickets b) (asks (between_jobs b.history) e) [] ≡ Some (tickets b)
local_met b e is next history named = local_at b (due b.plan b.history) e is refl history named (open_before b e next) next.lawful next.permitted
