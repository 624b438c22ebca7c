-- The events of what is answered come next.
use Rattle.std.proofs.Common.{◌≡◌, ℕ, ◌+◌, ◌<◌, ◌^◌, Bool, true, false, sym, ◌∙◌, ap, refl, subst, arith, List, [], ◌∷◌, Option, Some, None, Ok, Err, eq-eqb, cond}
use Rattle.std.specs.Prelude.{pos, nat_lt, is_some, is_none, unsigned_abs, drop}
use Rattle.std.specs.Option.{option_map}
use Rattle.es_value.specs.declared.value.Value.{Value}
use Rattle.es_value.specs.declared.value.Value.TheVariants.{Number, Text, Object, Symbol}
use Rattle.es_value.specs.Limits.{most_identities}
use Rattle.es_event.specs.declared.access.Edit.{Edit}
use Rattle.es_event.specs.declared.access.WaitResult.{WaitResult}
use Rattle.es_event.specs.declared.access.Task.{Task}
use Rattle.es_event.specs.declared.atomic.AtomicParts.{AtomicParts}
use Rattle.es_event.specs.declared.atomic.Operation.{Operation}
use Rattle.es_event.specs.declared.command.Command.{Command}
use Rattle.es_event.specs.declared.command.Command.TheVariants.{Let, SharedArrayBuffer, Atomic, Post, Collect, CollectLater}
use Rattle.es_event.specs.declared.event.Answer.{Answer}
use Rattle.es_event.specs.declared.event.Answer.TheVariants.{Nothing, Gives}
use Rattle.es_event.specs.declared.event.Event.TheVariants.{Received, Did, Refused, Skipped}
use Rattle.es_event.specs.declared.event.Refusal.{Refusal}
use Rattle.es_event.specs.declared.event.Refusal.TheVariants.{TooManyValues, CollectionOpen}
use Rattle.es_event.specs.declared.literal.Literal.{Literal}
use Rattle.es_event.specs.declared.row.Row.{Row}
use Rattle.es_event.specs.Report.{refusal_text}
use Rattle.es_event.specs.Commands.{reads, first, makes, collects, opens_words}
use Rattle.es_event.specs.History.{History}
use Rattle.es_event.specs.Identities.{identity, object_of, made}
use Rattle.es_event.specs.Jobs.{receivers}
use Rattle.es_event.specs.Access.{given_to, wait_text}
use Rattle.es_event.specs.Heard.{silence, wait_in, heard_at, heard_by}
use Rattle.es_event.specs.Numbers.{access_of, after_operand, index_of, task_by, task_of, word_at as word_of_numbers, words_read}
use Rattle.es_event.specs.Sharing.{Buffers, row_at}
use Rattle.es_event.specs.Later.{snapshot, collects_now}
use Rattle.es_event.specs.Rules.{refusal, first_refusal, result, refuse_or, completion, answer_at}
use Rattle.es_event.specs.Legal.{values_of, HasWords, Arrives}
use Rattle.es_event.specs.Order.{receive, run, due, RunsNow}
use Rattle.es_event.specs.Follows.{HasRoom, Permits, done_for, refused_now}
use Rattle.es_event.proofs.Extending.{refuses_so}
use Rattle.es_event.proofs.Next.{its_own_word, done_itself}
use Rattle.es_record.specs.AgentView.{AgentView, IsNext, with_buffer}
use Rattle.es_rules.specs.Needs.{Request, for_block, for_post, for_buffer_post, for_word, posts_to, gives_word, gives_wait_result, gives_nothing, asked, unless_refused, request, Need, asks_copy, asks_ledger, asks_message, need_of, need, TakesTicket, TakesWord, TakesWaitResult, TakesDone}
use Rattle.es_rules.specs.Giving.{MayGive}
use Rattle.es_rules.proofs.Needs.{ledger_due, ledger_command, copy_due, message_due, not_refused}

-- A command that asks for nothing

none_asked : (f : Option Refusal) (n : ℕ) (a r : Answer) → unless_refused f (Some (for_block n)) ≡ None → refuse_or f a ≡ Ok r → ⊥
none_asked None n a r e done = cc
none_asked (Some code) n a r e done = cc

no_words : (b : AgentView) (c : Command) (r : Answer) → request b c ≡ None → completion b.over b.history c (values_of (receivers b.plan.jobs) b.history (reads c)) silence ≡ Ok r → HasWords b.over (made b.history + 1) (opens_words c)
no_words b (SharedArrayBuffer to n) r none e = absurd (none_asked (refusal b.over b.history (SharedArrayBuffer to n) []) n (result b.over b.history (SharedArrayBuffer to n) [] silence) r none e)
no_words b _ r none e = tt

-- a collection that was done is none: while one is open, another is refused
none_done : (o : Option History) (a r : Answer) → is_none o ≡ false → refuse_or (first_refusal ((is_none o, CollectionOpen) ∷ [])) a ≡ Ok r → ⊥
none_done None a r e done = cc
none_done (Some p) a r e done = cc

no_collection : (over : Buffers) (h : History) (c : Command) (vs : List Value) (r : Answer) → collects_now h c ≡ false → completion over h c vs silence ≡ Ok r → collects c ≡ false
no_collection over h Collect vs r e done = absurd (none_done (snapshot h) Nothing r e done)
no_collection over h _ vs r e done = refl

not_refused_so : (f : Option Refusal) (a r : Answer) → refuse_or f a ≡ Ok r → f ≡ None
not_refused_so None a r e = refl
not_refused_so (Some code) a r e = cc

-- the due command, which is not refused, is what is done
permits_done : (b : AgentView) (over : Buffers) (c : Command) (vs : List Value) (r : Answer) → RunsNow (due b.plan b.history) c → refused_now over (receivers b.plan.jobs) b.history c ≡ None
    → Permits over (receivers b.plan.jobs) b.history (due b.plan b.history) (Did (c, vs, r))
permits_done b over c vs r is none = subst (λ d. Permits over (receivers b.plan.jobs) b.history d (Did (c, vs, r))) (sym is.1) (done_itself over (receivers b.plan.jobs) b.history is.0 c none)

pub local_done : (b : AgentView) (c : Command) (vs : List Value) (r : Answer) → RunsNow (due b.plan b.history) c → collects_now b.history c ≡ false → request b c ≡ None
    → vs ≡ values_of (receivers b.plan.jobs) b.history (reads c) → completion b.over b.history c vs silence ≡ Ok r → IsNext b (Did (c, vs, r))
local_done b c vs r is empties_nothing none said e = record {
  lawful = (said, its_own_word b.over b.history c vs r e, no_collection b.over b.history c vs r empties_nothing e, no_words b c r none (subst (λ vs. completion b.over b.history c vs silence ≡ Ok r) said e));
  permitted = permits_done b b.over c vs r is (subst (λ vs. refusal b.over b.history c vs ≡ None) said (not_refused_so (refusal b.over b.history c vs) (result b.over b.history c vs silence) r e));
}

pub refuses_due : (b : AgentView) (c : Command) (vs : List Value) (code : Refusal) → vs ≡ values_of (receivers b.plan.jobs) b.history (reads c)
    → completion b.over b.history c vs silence ≡ Err code → refused_now b.over (receivers b.plan.jobs) b.history c ≡ Some code
refuses_due b c vs code said e = subst (λ vs. refusal b.over b.history c vs ≡ Some code) said (refuses_so (refusal b.over b.history c vs) (result b.over b.history c vs silence) code e)

-- a refusal that nothing catches
pub refused_next : (b : AgentView) (c : Command) (code : Refusal) → due b.plan b.history ≡ run None c → refused_now b.over (receivers b.plan.jobs) b.history c ≡ Some code → IsNext b (Refused code)
refused_next b c code is refused = record { lawful = tt; permitted = subst (λ d. Permits b.over (receivers b.plan.jobs) b.history d (Refused code)) (sym is) (refl, refused) }

-- one that is caught: its text is assigned
pub caught_next : (b : AgentView) (x : List ℕ) (c : Command) (code : Refusal) → due b.plan b.history ≡ run (Some x) c → refused_now b.over (receivers b.plan.jobs) b.history c ≡ Some code
    → IsNext b (Did (Let x (Literal.Text (refusal_text code)), [], Gives (Value.Text (refusal_text code))))
caught_next b x c code is refused = record {
  lawful = (refl, refl, refl, tt);
  permitted = subst (λ d. Permits b.over (receivers b.plan.jobs) b.history d (Did (Let x (Literal.Text (refusal_text code)), [], Gives (Value.Text (refusal_text code))))) (sym is)
      (ap (λ o. done_for o (Some x) c) (sym refused));
}

-- A word

abbrev is_word : Request → Bool
is_word (for_block n) = false
is_word (for_post a v) = false
is_word (for_buffer_post a o) = false
is_word (for_word o i t) = gives_word t

abbrev is_waited : Request → Bool
is_waited (for_block n) = false
is_waited (for_post a v) = false
is_waited (for_buffer_post a o) = false
is_waited (for_word o i t) = gives_wait_result t

abbrev is_done : Request → Bool
is_done (for_block n) = false
is_done (for_post a v) = true
is_done (for_buffer_post a o) = true
is_done (for_word o i t) = gives_nothing t

mapped_is : (test : Request → Bool) (f : ℕ → Request) (o : Option ℕ) (r : Request) (t : Bool) → ((i : ℕ) → test (f i) ≡ t) → option_map f o ≡ Some r → test r ≡ t
mapped_is test f None r t each e = cc
mapped_is test f (Some i) r t each e = let same : f i ≡ r = cc in ap test (sym same) ∙ each i

some_is : (test : Request → Bool) (q r : Request) (t : Bool) → test q ≡ t → Some q ≡ Some r → test r ≡ t
some_is test q r t is e = let same : q ≡ r = cc in ap test (sym same) ∙ is

posts_no_word : (a : ℕ) (v : Value) → is_word (posts_to a v) ≡ false
posts_no_word a (Object o) = refl
posts_no_word a _ = refl

posts_no_wait : (a : ℕ) (v : Value) → is_waited (posts_to a v) ≡ false
posts_no_wait a (Object o) = refl
posts_no_wait a _ = refl

-- what is asked for by a command on a word
access_is : (test : Request → Bool) (a : AtomicParts) (vs : List Value) (r : Request) (t : Bool) → ((o : ℕ) → test (for_word o (unsigned_abs (index_of a vs)) (task_of a vs)) ≡ t) → asked (Atomic a) vs ≡ Some r → test r ≡ t
access_is test a vs r t each is = mapped_is test (λ o. for_word o (unsigned_abs (index_of a vs)) (task_of a vs)) (object_of (first vs)) r t each is

both_ways : (b : Bool) → b ≡ true → b ≡ false → ⊥
both_ways b t f = let e : true ≡ false = sym t ∙ f in cc

-- what a task at a word gives is what the command answers that heard it; e, w and ns are what it would write, sleep at and count
abbrev task_with : Operation → Edit → ℕ → List Value → Task
task_with o e w ns = task_by o (record { edit = e; gives_word = is_some (given_to o) }) w ns

word_answered : (o : Operation) (e : Edit) (w : ℕ) (ns : List Value) (n : ℕ) → gives_word (task_with o e w ns) ≡ true → n < 2 ^ 32 → answer_at o (heard_at o (Gives (Number (pos n)))) ≡ Gives (Number (pos n))
word_answered (Operation.Load to) e w ns n gives small = ap (λ n. Gives (Number (pos n))) (omega (arith, small))
word_answered (Operation.Store k) e w ns n gives small = cc
word_answered (Operation.Modify to how k) e w ns n gives small = ap (λ n. Gives (Number (pos n))) (omega (arith, small))
word_answered (Operation.CompareExchange to x y) e w ns n gives small = ap (λ n. Gives (Number (pos n))) (omega (arith, small))
word_answered (Operation.Wait to k) e w ns n gives small = cc
word_answered (Operation.Notify to c) e w ns n gives small = ap (λ n. Gives (Number (pos n))) (omega (arith, small))

wait_told : (r : WaitResult) → wait_in (Gives (Text (wait_text r))) ≡ r
wait_told WaitResult.Woken = refl
wait_told WaitResult.NotEqual = refl
wait_told WaitResult.TimedOut = refl

wait_answered : (o : Operation) (e : Edit) (w : ℕ) (ns : List Value) (r : WaitResult) → gives_wait_result (task_with o e w ns) ≡ true → answer_at o (heard_at o (Gives (Text (wait_text r)))) ≡ Gives (Text (wait_text r))
wait_answered (Operation.Load to) e w ns r gives = cc
wait_answered (Operation.Store k) e w ns r gives = cc
wait_answered (Operation.Modify to how k) e w ns r gives = cc
wait_answered (Operation.CompareExchange to x y) e w ns r gives = cc
wait_answered (Operation.Wait to k) e w ns r gives = ap (λ r. Gives (Text (wait_text r))) (wait_told r)
wait_answered (Operation.Notify to c) e w ns r gives = cc

nothing_answered : (o : Operation) (e : Edit) (w : ℕ) (ns : List Value) → gives_nothing (task_with o e w ns) ≡ true → answer_at o (heard_at o Nothing) ≡ Nothing
nothing_answered (Operation.Load to) e w ns gives = cc
nothing_answered (Operation.Store k) e w ns gives = refl
nothing_answered (Operation.Modify to how k) e w ns gives = cc
nothing_answered (Operation.CompareExchange to x y) e w ns gives = cc
nothing_answered (Operation.Wait to k) e w ns gives = cc
nothing_answered (Operation.Notify to c) e w ns gives = cc

-- the edit, the word and the values by which a command's task is made
abbrev edit_at : AtomicParts → List Value → Edit
edit_at a vs = (access_of a vs).edit

abbrev number_word : AtomicParts → List Value → ℕ
number_word a vs = word_of_numbers 0 (words_read a vs)

abbrev counted : AtomicParts → List Value → List Value
counted a vs = after_operand a.index (drop 1 vs)

-- a command that asks for a word may be done with what is given there
abbrev MayBe : Buffers → History → Command → List Value → Answer → Type 0
MayBe over h c vs r = (completion over h c vs (heard_by c r) ≡ Ok r) × (opens_words c ≡ None)

word_gives : (over : Buffers) (h : History) (c : Command) (vs : List Value) (r : Request) (w : ℕ) → asked c vs ≡ Some r → is_word r ≡ true → refusal over h c vs ≡ None → w < 2 ^ 32 → MayBe over h c vs (Gives (Number (pos w)))
word_gives over h (Atomic a) vs r w is word none small =
    let gives : gives_word (task_of a vs) ≡ true = sym (access_is is_word a vs r (gives_word (task_of a vs)) (λ o. refl) is) ∙ word in
    (ap (λ f. refuse_or f (answer_at a.operation (heard_at a.operation (Gives (Number (pos w)))))) none ∙ ap Ok (word_answered a.operation (edit_at a vs) (number_word a vs) (counted a vs) w gives small), refl)
word_gives over h (SharedArrayBuffer to n) vs r w is word none small = absurd (both_ways (is_word r) word (some_is is_word (for_block n) r false refl is))
word_gives over h (Post a y) vs r w is word none small = absurd (both_ways (is_word r) word (some_is is_word (posts_to a (first vs)) r false (posts_no_word a (first vs)) is))
word_gives over h _ vs r w is word none small = cc

wait_gives : (over : Buffers) (h : History) (c : Command) (vs : List Value) (r : Request) (d : WaitResult) → asked c vs ≡ Some r → is_waited r ≡ true → refusal over h c vs ≡ None → MayBe over h c vs (Gives (Text (wait_text d)))
wait_gives over h (Atomic a) vs r d is rest none =
    let gives : gives_wait_result (task_of a vs) ≡ true = sym (access_is is_waited a vs r (gives_wait_result (task_of a vs)) (λ o. refl) is) ∙ rest in
    (ap (λ f. refuse_or f (answer_at a.operation (heard_at a.operation (Gives (Text (wait_text d)))))) none ∙ ap Ok (wait_answered a.operation (edit_at a vs) (number_word a vs) (counted a vs) d gives), refl)
wait_gives over h (SharedArrayBuffer to n) vs r d is rest none = absurd (both_ways (is_waited r) rest (some_is is_waited (for_block n) r false refl is))
wait_gives over h (Post a y) vs r d is rest none = absurd (both_ways (is_waited r) rest (some_is is_waited (posts_to a (first vs)) r false (posts_no_wait a (first vs)) is))
wait_gives over h _ vs r d is rest none = cc

done_gives : (over : Buffers) (h : History) (c : Command) (vs : List Value) (r : Request) → asked c vs ≡ Some r → is_done r ≡ true → refusal over h c vs ≡ None → MayBe over h c vs Nothing
done_gives over h (Atomic a) vs r is done none =
    let silent : gives_nothing (task_of a vs) ≡ true = sym (access_is is_done a vs r (gives_nothing (task_of a vs)) (λ o. refl) is) ∙ done in
    (ap (λ f. refuse_or f (answer_at a.operation (heard_at a.operation Nothing))) none ∙ ap Ok (nothing_answered a.operation (edit_at a vs) (number_word a vs) (counted a vs) silent), refl)
done_gives over h (Post a y) vs r is done none = (ap (λ f. refuse_or f Nothing) none, refl)
done_gives over h (SharedArrayBuffer to n) vs r is done none = absurd (both_ways (is_done r) done (some_is is_done (for_block n) r false refl is))
done_gives over h _ vs r is done none = cc

-- the due command, which asked for this, may be done with an answer
may_be : (b : AgentView) (r : Request) (q : Answer) → need b ≡ asks_ledger r
    → ((c : Command) (vs : List Value) → asked c vs ≡ Some r → refusal b.over b.history c vs ≡ None → MayBe b.over b.history c vs q) → MayGive b q
may_be b r q is each =
    let at = ledger_due b (due b.plan b.history) r is in
    let vs = values_of (receivers b.plan.jobs) b.history (reads at.0) in
    let open' = not_refused (refusal b.over b.history at.0 vs) (asked at.0 vs) r at.3 in
    let gives = each at.0 vs open'.1 open'.0 in
    record { command = at.0; is_due = at.1; gives = gives.0; no_collection = at.2; no_block = gives.1 }

word_at : (b : AgentView) (w : ℕ) (n : Need) → need b ≡ n → TakesWord n → w < 2 ^ 32 → MayGive b (Gives (Number (pos w)))
word_at b w (asks_ledger (for_word o i t)) is takes small = may_be b (for_word o i t) (Gives (Number (pos w))) is (λ c vs asks none. word_gives b.over b.history c vs (for_word o i t) w asks takes none small)
word_at b w _ is takes small = absurd takes

pub may_give_word : (b : AgentView) (w : ℕ) → TakesWord (need b) → w < 2 ^ 32 → MayGive b (Gives (Number (pos w)))
may_give_word b w takes small = word_at b w (need b) refl takes small

wait_at : (b : AgentView) (d : WaitResult) (n : Need) → need b ≡ n → TakesWaitResult n → MayGive b (Gives (Text (wait_text d)))
wait_at b d (asks_ledger (for_word o i t)) is takes = may_be b (for_word o i t) (Gives (Text (wait_text d))) is (λ c vs asks none. wait_gives b.over b.history c vs (for_word o i t) d asks takes none)
wait_at b d _ is takes = absurd takes

pub may_give_wait_result : (b : AgentView) (d : WaitResult) → TakesWaitResult (need b) → MayGive b (Gives (Text (wait_text d)))
may_give_wait_result b d takes = wait_at b d (need b) refl takes

done_may : (b : AgentView) (r : Request) → need b ≡ asks_ledger r → is_done r ≡ true → MayGive b Nothing
done_may b r is done = may_be b r Nothing is (λ c vs asks none. done_gives b.over b.history c vs r asks done none)

done_at : (b : AgentView) (n : Need) → need b ≡ n → TakesDone n → MayGive b Nothing
done_at b (asks_ledger (for_post a v)) is takes = done_may b (for_post a v) is refl
done_at b (asks_ledger (for_buffer_post a o)) is takes = done_may b (for_buffer_post a o) is refl
done_at b (asks_ledger (for_word o i t)) is takes = done_may b (for_word o i t) is takes
done_at b _ is takes = absurd takes

pub may_give_nothing : (b : AgentView) → TakesDone (need b) → MayGive b Nothing
may_give_nothing b takes = done_at b (need b) refl takes

-- the due command done with an answer that it may give comes next
pub done_next : (b : AgentView) (r : Answer) (c : Command) → MayGive b r → RunsNow (due b.plan b.history) c → IsNext b (Did (c, values_of (receivers b.plan.jobs) b.history (reads c), r))
done_next b r c may is =
    let same_due : run may.is_due.0 may.command ≡ run is.0 c = sym may.is_due.1 ∙ is.1 in
    let same : may.command ≡ c = cc in
    subst (λ c. IsNext b (Did (c, values_of (receivers b.plan.jobs) b.history (reads c), r))) same (record {
      lawful = (refl, may.gives, may.no_collection, subst (λ o. HasWords b.over (made b.history + 1) o) (sym may.no_block) tt);
      permitted = permits_done b b.over may.command (values_of (receivers b.plan.jobs) b.history (reads may.command)) r may.is_due
          (not_refused_so (refused_now b.over (receivers b.plan.jobs) b.history may.command) (result b.over b.history may.command (values_of (receivers b.plan.jobs) b.history (reads may.command)) (heard_by may.command r)) r may.gives);
    })

-- A ticket

abbrev is_block : Request → Bool
is_block (for_block n) = true
is_block (for_post a v) = false
is_block (for_buffer_post a o) = false
is_block (for_word o i t) = false

posts_no_block : (a : ℕ) (v : Value) → is_block (posts_to a v) ≡ false
posts_no_block a (Object o) = refl
posts_no_block a _ = refl

-- a block is asked for by the command that makes a buffer object
block_asked : (c : Command) (n : ℕ) (vs : List Value) → asked c vs ≡ Some (for_block n) → (to : List ℕ) × (c ≡ SharedArrayBuffer to n)
block_asked (SharedArrayBuffer to m) n vs e = let same : m ≡ n = cc in (to, ap (λ n. SharedArrayBuffer to n) same)
block_asked (Atomic a) n vs e = absurd (both_ways true refl (access_is is_block a vs (for_block n) false (λ o. refl) e))
block_asked (Post a y) n vs e = absurd (both_ways true refl (some_is is_block (posts_to a (first vs)) (for_block n) false (posts_no_block a (first vs)) e))
block_asked _ n vs e = cc

buffer_next : (b : AgentView) (to : List ℕ) (n : ℕ) (row : Row) → RunsNow (due b.plan b.history) (SharedArrayBuffer to n) → refusal b.over b.history (SharedArrayBuffer to n) [] ≡ None → row.words ≡ n
    → IsNext (with_buffer row b) (Did (SharedArrayBuffer to n, [], Gives (Object (made b.history + 1))))
buffer_next b to n row is none words = record {
  lawful = (refl, ap (λ f. refuse_or f (Gives (Object (made b.history + 1)))) none, refl, ap (λ t. option_map (λ r. r.words) (cond t (Some row) (row_at b.over (made b.history + 1)))) (eq-eqb (made b.history + 1) (made b.history + 1) refl) ∙ ap Some words);
  permitted = permits_done b (with_buffer row b).over (SharedArrayBuffer to n) [] (Gives (Object (made b.history + 1))) is none;
}

buffer_of : (b : AgentView) (c : Command) (n : ℕ) (row : Row) → RunsNow (due b.plan b.history) c → request b c ≡ Some (for_block n) → row.words ≡ n → IsNext (with_buffer row b) (Did (c, [], Gives (Object (made b.history + 1))))
buffer_of b c n row is asks words =
    let vs = values_of (receivers b.plan.jobs) b.history (reads c) in
    let open' = not_refused (refusal b.over b.history c vs) (asked c vs) (for_block n) asks in
    let from = block_asked c n vs open'.1 in
    subst (λ c. IsNext (with_buffer row b) (Did (c, [], Gives (Object (made b.history + 1))))) (sym from.1)
    (buffer_next b from.0 n row (subst (λ c. RunsNow (due b.plan b.history) c) from.1 is) (subst (λ c. refusal b.over b.history c (values_of (receivers b.plan.jobs) b.history (reads c)) ≡ None) from.1 open'.0) words)

ticket_at : (b : AgentView) (x : Option (List ℕ)) (c : Command) (row : Row) (n : Need) → need_of b (run x c) ≡ n → TakesTicket n row → RunsNow (due b.plan b.history) c → IsNext (with_buffer row b) (Did (c, [], Gives (Object (made b.history + 1))))
ticket_at b x c row (asks_ledger (for_block n)) asks takes is = buffer_of b c n row is (ledger_command b x c (for_block n) asks).1 takes
ticket_at b x c row (asks_message s) asks takes is = let f = message_due b (run x c) s asks in let g : run x c ≡ receive f.0 s = f.1 in cc
ticket_at b x c row _ asks takes is = absurd takes

-- the command that asked for the block, done with the new buffer object, comes next over a table that has it
pub block_next : (b : AgentView) (c : Command) (row : Row) → TakesTicket (need b) row → RunsNow (due b.plan b.history) c → IsNext (with_buffer row b) (Did (c, [], Gives (Object (made b.history + 1))))
block_next b c row takes is = ticket_at b is.0 c row (need_of b (run is.0 c)) refl (subst (λ d. TakesTicket (need_of b d) row) is.1 takes) is

makes_at : (b : AgentView) (x : Option (List ℕ)) (c : Command) (row : Row) (n : Need) → need_of b (run x c) ≡ n → TakesTicket n row → makes c ≡ 1
makes_at b x c row (asks_ledger (for_block n)) asks takes =
    let vs = values_of (receivers b.plan.jobs) b.history (reads c) in
    let from = block_asked c n vs (not_refused (refusal b.over b.history c vs) (asked c vs) (for_block n) (ledger_command b x c (for_block n) asks).1).1 in
    subst (λ c. makes c ≡ 1) (sym from.1) refl
makes_at b x c row (asks_message s) asks takes = let f = message_due b (run x c) s asks in let g : run x c ≡ receive f.0 s = f.1 in cc
makes_at b x c row _ asks takes = absurd takes

-- which makes one identity
pub block_makes : (b : AgentView) (c : Command) (row : Row) → TakesTicket (need b) row → RunsNow (due b.plan b.history) c → makes c ≡ 1
block_makes b c row takes is = makes_at b is.0 c row (need_of b (run is.0 c)) refl (subst (λ d. TakesTicket (need_of b d) row) is.1 takes)

-- and so does a receipt of a buffer object, where there is room
pub buffer_received : (b : AgentView) (n s : ℕ) (row : Row) → due b.plan b.history ≡ receive n s → nat_lt (made b.history) most_identities ≡ true → IsNext (with_buffer row b) (Received s (Object (made b.history + 1)))
buffer_received b n s row is room = record {
  lawful = (refl, ap (λ t. is_some (cond t (Some row) (row_at b.over (made b.history + 1)))) (eq-eqb (made b.history + 1) (made b.history + 1) refl));
  permitted = subst (λ d. Permits (with_buffer row b).over (receivers b.plan.jobs) b.history d (Received s (Object (made b.history + 1)))) (sym is) (refl, room);
}

-- Messages

-- a value without an identity may be received
plain_arrives : (over : Buffers) (h : History) (v : Value) → identity v ≡ None → Arrives over h v × HasRoom h (object_of v)
plain_arrives over h (Object o) none = cc
plain_arrives over h (Symbol i) none = cc
plain_arrives over h _ none = (none, tt)

pub value_received : (b : AgentView) (n s : ℕ) (v : Value) → due b.plan b.history ≡ receive n s → identity v ≡ None → IsNext b (Received s v)
value_received b n s v is plain =
    let arrives = plain_arrives b.over b.history v plain in
    record {
      lawful = arrives.0;
      permitted = subst (λ d. Permits b.over (receivers b.plan.jobs) b.history d (Received s v)) (sym is) (refl, arrives.1);
    }

pub message_refused : (b : AgentView) (n s : ℕ) → due b.plan b.history ≡ receive n s → nat_lt (made b.history) most_identities ≡ false → IsNext b (Refused TooManyValues)
message_refused b n s is full = record {
  lawful = tt;
  permitted = subst (λ d. Permits b.over (receivers b.plan.jobs) b.history d (Refused TooManyValues)) (sym is) (refl, full);
}

pub job_skipped : (b : AgentView) (n s : ℕ) → due b.plan b.history ≡ receive n s → IsNext b (Skipped n s)
job_skipped b n s is = record {
  lawful = tt;
  permitted = subst (λ d. Permits b.over (receivers b.plan.jobs) b.history d (Skipped n s)) (sym is) (refl, refl);
}

-- Later collections

-- where a copy is asked for, the command that opens a later collection comes next
unopened_done : (o : Option History) → o ≡ None → refuse_or (first_refusal ((is_none o, CollectionOpen) ∷ [])) Nothing ≡ Ok Nothing
unopened_done None e = refl
unopened_done (Some p) e = cc

pub opening_is : (b : AgentView) (c : Command) → need b ≡ asks_copy → RunsNow (due b.plan b.history) c → c ≡ CollectLater
opening_is b c asks is =
    let at = copy_due b (due b.plan b.history) asks in
    let same : run is.0 c ≡ run at.0.0 CollectLater = sym is.1 ∙ at.0.1 in
    cc

pub opening_next : (b : AgentView) → need b ≡ asks_copy → IsNext b (Did (CollectLater, [], Nothing))
opening_next b asks =
    let at = copy_due b (due b.plan b.history) asks in
    record {
      lawful = (refl, unopened_done (snapshot b.history) at.1, refl, tt);
      permitted = permits_done b b.over CollectLater [] Nothing at.0 (not_refused_so (first_refusal ((is_none (snapshot b.history), CollectionOpen) ∷ [])) Nothing Nothing (unopened_done (snapshot b.history) at.1));
    }
