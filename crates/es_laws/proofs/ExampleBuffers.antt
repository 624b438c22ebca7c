-- Shared memory: what an agent reads in the words of its buffers, whether two buffers are over one block, and what is refused.
use Rattle.std.proofs.Common.{◌≡◌, ℕ, zero, suc, arith, ap, true, false, refl, List, [], ◌∷◌, Some, None, reverse, codes, rules}
use Rattle.std.specs.Prelude.{ℤ, pos, negsuc}
use Rattle.std.specs.Fmt.{digits}
use Rattle.std.specs.Option.{option_map}
use Rattle.es_value.specs.declared.value.Value.{Value}
use Rattle.es_value.specs.declared.value.Value.TheVariants.{Undefined, Boolean, Number, Object, Symbol as SymbolValue}
use Rattle.es_event.specs.declared.command.Command.TheVariants.{New, Same, Say, Set, Get, Keys, WeakRef, Deref, WeakMap, WeakMapSet, WeakMapGet, WeakMapHas, WeakSetAdd, Register, FinalizationRegistry, WeakSet, SharedArrayBuffer, Length, SameBlock, Post}
use Rattle.es_event.specs.declared.event.Answer.TheVariants.{Nothing, Gives, Listed}
use Rattle.es_event.specs.declared.event.Event.{Event}
use Rattle.es_event.specs.declared.event.Event.TheVariants.{JobBegun, Received, Did, Refused, JobEnded, Closed}
use Rattle.es_event.specs.declared.event.Refusal.TheVariants.{NotAWeakRef, NotAWeakMap, NotAWeakSet, NotAFinalizationRegistry, NotASharedArrayBuffer, IndexOutOfRange, NotPostable, TooManyValues, TooManyBlocks, TooManyPosts}
use Rattle.es_event.specs.declared.plan.AgentPlan.{AgentPlan}
use Rattle.es_event.specs.Rows.{row}
use Rattle.es_event.specs.History.{History}
use Rattle.es_event.specs.Identities.{made}
use Rattle.es_event.specs.Sharing.{Buffers, row_at, words_of, block_of, AgreeSoFar, blocks_opened, messages_posted}
use Rattle.es_event.specs.Rules.{refusal}
use Rattle.es_event.specs.Runs.{IsWholeRun}
use Rattle.es_event.specs.Report.{agent_text, line}
use Rattle.es_event.proofs.Examples.{load, store, add, job_of, job_on, plan_of, plan_with, plan_waiting}
use Rattle.es_laws.proofs.Letters.{b, m, n, o, p, r, s, u, w, x, y, z}
use Rattle.es_laws.proofs.Worked.{IsWorked}

-- Variables

-- a property's key
-- one that is never assigned
-- Events

abbrev pub said : List ℕ → Value → Event
said from v = Did (Say from, v ∷ [], Nothing)

-- a buffer over a new block of so many words
abbrev pub made_buffer : List ℕ → ℕ → ℕ → Event
made_buffer to words i = Did (SharedArrayBuffer to words, [], Gives (Object i))

abbrev pub loaded : List ℕ → List ℕ → ℤ → ℕ → ℕ → Event
loaded to from i buffer word = Did (load to from i, Object buffer ∷ [], Gives (Number (pos word)))

abbrev pub made_new : List ℕ → ℕ → Event
made_new to i = Did (New to, [], Gives (Object i))

-- A word is 32 bits: the least number below 0 is the greatest word, and an addition begins at 0 again

abbrev pub one_word : Buffers
one_word = (1, row 1 1 1) ∷ []

abbrev pub plan_words : AgentPlan
plan_words = plan_of ((SharedArrayBuffer b 1 ∷ store b (pos 0) (negsuc 0) ∷ load x b (pos 0) ∷ Say x ∷ add y b (pos 0) (pos 2) ∷ Say y ∷ load z b (pos 0) ∷ Say z ∷ []) ∷ [])

abbrev pub begun_words : History
begun_words = JobBegun 1 ∷ []

abbrev pub made_words : History
made_words = made_buffer b 1 1 ∷ begun_words

abbrev pub stored : History
stored = Did (store b (pos 0) (negsuc 0), Object 1 ∷ [], Nothing) ∷ made_words

abbrev pub said_first : History
said_first =
    said x (Number (pos 4294967295))
    ∷ loaded x b (pos 0) 1 4294967295 ∷ stored

abbrev pub closed_words : History
closed_words =
    Closed ∷ JobEnded ∷ said z (Number (pos 1))
    ∷ loaded z b (pos 0) 1 1
    ∷ said y (Number (pos 4294967295))
    ∷ Did (add y b (pos 0) (pos 2), Object 1 ∷ [], Gives (Number (pos 4294967295))) ∷ said_first

pub worked_words : IsWorked one_word plan_words closed_words (codes "agent a\nsay 4294967295\nsay 4294967295\nsay 1\nend live 0 awaiting 0 unregistered 0 taken 0\n")
unfolding digits
worked_words = record { whole = (search rules, search rules); report = refl }

-- A block of no words

abbrev pub no_word : Buffers
no_word = (1, row 1 1 0) ∷ []

abbrev pub plan_empty : AgentPlan
plan_empty = plan_of ((SharedArrayBuffer b 0 ∷ Length n b ∷ Say n ∷ load x b (pos 0) ∷ []) ∷ [])

abbrev pub made_empty : History
made_empty = made_buffer b 0 1 ∷ JobBegun 1 ∷ []

abbrev pub said_length : History
said_length = said n (Number (pos 0)) ∷ Did (Length n b, Object 1 ∷ [], Gives (Number (pos 0))) ∷ made_empty

abbrev pub closed_empty : History
closed_empty = Closed ∷ JobEnded ∷ Refused IndexOutOfRange ∷ said_length

pub worked_empty : IsWorked no_word plan_empty closed_empty (codes "agent a\nsay 0\nerror RangeError: index\nend live 0 awaiting 0 unregistered 0 taken 0\n")
unfolding digits
worked_empty = record { whole = (search rules, search rules); report = refl }

-- A buffer, and one that is received: over one block, or over two

abbrev pub one_block : Buffers
one_block = (2, row 5 1 3) ∷ (1, row 1 1 3) ∷ []

abbrev pub two_blocks : Buffers
two_blocks = (2, row 5 2 3) ∷ (1, row 1 1 3) ∷ []

abbrev pub plan_same : AgentPlan
plan_same = plan_waiting (job_of (SharedArrayBuffer b 3 ∷ []) ∷ job_on 1 m (SameBlock x b m ∷ Say x ∷ SameBlock y m m ∷ Say y ∷ []) ∷ [])

abbrev pub begun_other : History
begun_other =
    JobBegun 2
    ∷ Received 1 (Object 2) ∷ JobEnded ∷ made_buffer b 3 1 ∷ JobBegun 1 ∷ []

abbrev pub compared : Value → History
compared v = said x v ∷ Did (SameBlock x b m, Object 1 ∷ Object 2 ∷ [], Gives v) ∷ begun_other

-- a buffer is over its own block
abbrev pub closed_same : Value → History
closed_same v = Closed ∷ JobEnded ∷ said y (Boolean true) ∷ Did (SameBlock y m m, Object 2 ∷ Object 2 ∷ [], Gives (Boolean true)) ∷ compared v

abbrev pub closed_one : History
closed_one = closed_same (Boolean true)

abbrev pub closed_two : History
closed_two = closed_same (Boolean false)

pub worked_one : IsWorked one_block plan_same closed_one (codes "agent a\nsay true\nsay true\nend live 0 awaiting 0 unregistered 0 taken 0\n")
unfolding digits
worked_one = record { whole = (search rules, search rules); report = refl }

pub worked_two : IsWorked two_blocks plan_same closed_two (codes "agent a\nsay false\nsay true\nend live 0 awaiting 0 unregistered 0 taken 0\n")
unfolding digits
worked_two = record { whole = (search rules, search rules); report = refl }

-- What is refused: an object that is no buffer, undefined, an index below 0, and one that is the number of words

abbrev pub two_words : Buffers
two_words = (2, row 1 1 2) ∷ []

abbrev pub plan_refused : AgentPlan
plan_refused =
    plan_of
    ((New o ∷ load x o (pos 0) ∷ [])
    ∷ (load x u (pos 0) ∷ [])
    ∷ (SharedArrayBuffer b 2 ∷ load x b (negsuc 0) ∷ [])
    ∷ (load x b (pos 1) ∷ store b (pos 2) (pos 7) ∷ [])
    ∷ (add x b (pos 2) (pos 7) ∷ [])
    ∷ (Length x o ∷ [])
    ∷ (SameBlock x b o ∷ [])
    ∷ (SameBlock x o b ∷ [])
    ∷ [])

abbrev pub made_ordinary : History
made_ordinary = made_new o 1 ∷ JobBegun 1 ∷ []

abbrev pub refused_undefined : History
refused_undefined =
    JobEnded ∷ Refused NotASharedArrayBuffer ∷ JobBegun 2
    ∷ JobEnded ∷ Refused NotASharedArrayBuffer ∷ made_ordinary

abbrev pub made_second : History
made_second = made_buffer b 2 2 ∷ JobBegun 3 ∷ refused_undefined

abbrev pub refused_below : History
refused_below = JobEnded ∷ Refused IndexOutOfRange ∷ made_second

-- the last word is there, and the one after it is not
abbrev pub loaded_last : History
loaded_last = loaded x b (pos 1) 2 9 ∷ JobBegun 4 ∷ refused_below

abbrev pub refused_add : History
refused_add =
    JobEnded ∷ Refused IndexOutOfRange ∷ JobBegun 5
    ∷ JobEnded ∷ Refused IndexOutOfRange ∷ loaded_last

abbrev pub closed_refused : History
closed_refused =
    Closed
    ∷ JobEnded ∷ Refused NotASharedArrayBuffer ∷ JobBegun 8
    ∷ JobEnded ∷ Refused NotASharedArrayBuffer ∷ JobBegun 7
    ∷ JobEnded ∷ Refused NotASharedArrayBuffer ∷ JobBegun 6 ∷ refused_add

pub whole_refused : IsWholeRun plan_refused closed_refused
whole_refused = (two_words, search rules, search rules)

pub reported_refused : agent_text plan_refused.name (reverse refused_below) ≡ codes "agent a\nerror TypeError: not a SharedArrayBuffer\nerror TypeError: not a SharedArrayBuffer\nerror RangeError: index\nend live 0 awaiting 0 unregistered 0 taken 0\n"
unfolding digits
reported_refused = refl

-- A buffer is an object: it has properties, and WeakRefs aim at it; it is of no other kind

abbrev pub three_words : Buffers
three_words = (1, row 1 1 3) ∷ []

abbrev pub plan_object : AgentPlan
plan_object =
    plan_of
    ((SharedArrayBuffer b 3 ∷ Set b p b ∷ Get y b p ∷ Keys b ∷ Say y ∷ WeakRef w b ∷ Deref x w ∷ Same z x b ∷ Say z ∷ [])
    ∷ (WeakMapGet y b b ∷ [])
    ∷ (Deref y b ∷ [])
    ∷ (WeakSetAdd b b ∷ [])
    ∷ (Register b o u None ∷ [])
    ∷ (Length n w ∷ [])
    ∷ (WeakMap m ∷ WeakMapSet m b b ∷ WeakMapHas y m b ∷ Say y ∷ [])
    ∷ [])

abbrev pub made_object : History
made_object = made_buffer b 3 1 ∷ JobBegun 1 ∷ []

abbrev pub has_property : History
has_property = Did (Set b p b, Object 1 ∷ Object 1 ∷ [], Nothing) ∷ made_object

abbrev pub said_same : History
said_same =
    JobEnded ∷ said z (Boolean true) ∷ Did (Same z x b, Object 1 ∷ Object 1 ∷ [], Gives (Boolean true))
    ∷ Did (Deref x w, Object 2 ∷ [], Gives (Object 1)) ∷ Did (WeakRef w b, Object 1 ∷ [], Gives (Object 2))
    ∷ said y (Object 1) ∷ Did (Keys b, Object 1 ∷ [], Listed (p ∷ [])) ∷ Did (Get y b p, Object 1 ∷ [], Gives (Object 1)) ∷ has_property

abbrev pub begun_weakmap : History
begun_weakmap = JobBegun 2 ∷ said_same

abbrev pub begun_deref : History
begun_deref = JobBegun 3 ∷ JobEnded ∷ Refused NotAWeakMap ∷ begun_weakmap

abbrev pub begun_weakset : History
begun_weakset = JobBegun 4 ∷ JobEnded ∷ Refused NotAWeakRef ∷ begun_deref

abbrev pub begun_register : History
begun_register = JobBegun 5 ∷ JobEnded ∷ Refused NotAWeakSet ∷ begun_weakset

abbrev pub begun_length : History
begun_length = JobBegun 6 ∷ JobEnded ∷ Refused NotAFinalizationRegistry ∷ begun_register

abbrev pub closed_object : History
closed_object =
    Closed ∷ JobEnded ∷ said y (Boolean true)
    ∷ Did (WeakMapHas y m b, Object 3 ∷ Object 1 ∷ [], Gives (Boolean true)) ∷ Did (WeakMapSet m b b, Object 3 ∷ Object 1 ∷ Object 1 ∷ [], Nothing)
    ∷ Did (WeakMap m, [], Gives (Object 3)) ∷ JobBegun 7 ∷ JobEnded ∷ Refused NotASharedArrayBuffer ∷ begun_length

pub whole_object : IsWholeRun plan_object closed_object
whole_object = (three_words, search rules, search rules)

pub reported_object : agent_text plan_object.name (reverse said_same) ≡ codes "agent a\nkeys p\nsay object 1\nsay true\nend live 0 awaiting 0 unregistered 0 taken 0\n"
unfolding digits
reported_object = refl

-- No object of another kind is a buffer

abbrev pub plan_kinds : AgentPlan
plan_kinds = plan_with [] ((WeakMap m ∷ Length n m ∷ []) ∷ (WeakSet s ∷ Length n s ∷ []) ∷ (FinalizationRegistry r 1 ∷ Length n r ∷ []) ∷ [])

abbrev pub closed_kinds : History
closed_kinds =
    Closed ∷ JobEnded ∷ Refused NotASharedArrayBuffer
    ∷ Did (FinalizationRegistry r 1, [], Gives (Object 3)) ∷ JobBegun 3 ∷ JobEnded ∷ Refused NotASharedArrayBuffer
    ∷ Did (WeakSet s, [], Gives (Object 2)) ∷ JobBegun 2 ∷ JobEnded ∷ Refused NotASharedArrayBuffer
    ∷ Did (WeakMap m, [], Gives (Object 1)) ∷ JobBegun 1 ∷ []

pub whole_kinds : IsWholeRun plan_kinds closed_kinds
whole_kinds = ([], search rules, search rules)

-- Tables

-- the newest line of an object counts
newest_line : row_at ((1, row 2 2 2) ∷ (1, row 1 1 1) ∷ []) 1 ≡ Some (row 2 2 2)
newest_line = refl

-- an object that the table lacks has no words, and is over no block
no_line : row_at one_word 2 ≡ None
no_line = refl

no_words_without_a_line : words_of one_word (Object 2) ≡ 0
no_words_without_a_line = refl

no_block_without_a_line : block_of one_word (Object 2) ≡ 0
no_block_without_a_line = refl

-- two tables agree where they say the same of what was made so far
agree_so_far : AgreeSoFar [] one_word two_words
agree_so_far zero m = refl
agree_so_far (suc k) m = absurd (omega arith)

-- and not where they differ in that
disagree : AgreeSoFar made_words one_word no_word → ⊥
disagree agree = let words = ap (option_map (λ l. l.words)) (agree 1 (omega arith)) in cc

-- The order of the tests

-- a number is no buffer, whatever the index
buffer_comes_first : (over : Buffers) (h : History) → refusal over h (load x n (negsuc 0)) (Number (pos 1) ∷ []) ≡ Some NotASharedArrayBuffer
buffer_comes_first over h = refl

buffer_comes_first_at_a_store : (over : Buffers) (h : History) → refusal over h (store n (negsuc 0) (pos 1)) (Undefined ∷ []) ≡ Some NotASharedArrayBuffer
buffer_comes_first_at_a_store over h = refl

buffer_comes_first_at_an_add : (over : Buffers) (h : History) → refusal over h (add x n (negsuc 0) (pos 1)) (SymbolValue 1 ∷ []) ≡ Some NotASharedArrayBuffer
buffer_comes_first_at_an_add over h = refl

-- The limits of blocks and messages

-- the last block is opened
room_for_one_more_block : (h : History) → blocks_opened h ≡ 255 → made h ≡ 300 → refusal [] h (SharedArrayBuffer b 1) [] ≡ None
room_for_one_more_block h e f = rw e (rw f refl)

-- and no further one
no_room_for_a_block : (h : History) → blocks_opened h ≡ 256 → made h ≡ 300 → refusal [] h (SharedArrayBuffer b 1) [] ≡ Some TooManyBlocks
no_room_for_a_block h e f = rw e (rw f refl)

-- the room for another identity is asked for first
values_come_first : (h : History) → blocks_opened h ≡ 256 → made h ≡ 1000000 → refusal [] h (SharedArrayBuffer b 1) [] ≡ Some TooManyValues
values_come_first h e f = rw e (rw f refl)

no_room_for_a_buffer : (h : History) → blocks_opened h ≡ 0 → made h ≡ 1000000 → refusal [] h (SharedArrayBuffer b 1) [] ≡ Some TooManyValues
no_room_for_a_buffer h e f = rw e (rw f refl)

-- the last message is posted
room_for_one_more_message : (h : History) → messages_posted h ≡ 9999 → refusal [] h (Post 1 u) (Undefined ∷ []) ≡ None
room_for_one_more_message h e = rw e refl

-- and no further one
no_room_for_a_message : (h : History) → messages_posted h ≡ 10000 → refusal [] h (Post 1 u) (Undefined ∷ []) ≡ Some TooManyPosts
no_room_for_a_message h e = rw e refl

-- that a symbol outside the registry cannot be posted is asked before whether there is room
value_comes_first : (h : History) → messages_posted h ≡ 10000 → refusal [] h (Post 1 s) (SymbolValue 1 ∷ []) ≡ Some NotPostable
value_comes_first h e = refl

line_of_too_many_blocks : line (Refused TooManyBlocks) ≡ codes "error limit: blocks\n"
line_of_too_many_blocks = refl

line_of_too_many_posts : line (Refused TooManyPosts) ≡ codes "error limit: posts\n"
line_of_too_many_posts = refl
