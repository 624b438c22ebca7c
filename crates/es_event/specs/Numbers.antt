-- To believe: what a value is as a number, where a command takes an index or a word (ToIntegerOrInfinity, ToNumber,
-- StringToNumber), as far as whole numbers of this project go.
use Rattle.std.specs.Prelude.{ℕ, ℤ, pos, negsuc, neg_ℤ, ◌+◌, ◌-◌, ◌*◌, ◌==◌, ◌&&◌, List, [], ◌∷◌, length, reverse, slice_index_or, drop, nat_lt, nat_le, Option, Some, None, Result, Ok, Err, is_some, if◌then◌else◌}
use Rattle.std.specs.Char.{is_ascii_digit}
use Rattle.std.specs.Option.{option_map, option_map_or}
use Rattle.es_value.specs.declared.value.Value.{Value}
use Rattle.es_value.specs.declared.value.Value.TheVariants.{Undefined, Boolean, Number, Text, Registered, Object, Symbol as SymbolValue}
use Rattle.es_event.specs.declared.event.Refusal.{Refusal}
use Rattle.es_event.specs.declared.event.Refusal.TheVariants.{NotANumber, TextIsNoWhole}
use Rattle.es_event.specs.declared.access.Access.{Access}
use Rattle.es_event.specs.declared.access.Task.{Task}
use Rattle.es_event.specs.declared.atomic.Operation.{Operation}
use Rattle.es_event.specs.declared.atomic.AtomicParts.{AtomicParts}
use Rattle.es_event.specs.declared.operand.Operand.{Operand}
use Rattle.es_value.specs.Limits.{most_agents}
use Rattle.es_value.specs.Values.{is_same}
use Rattle.es_event.specs.Commands.{first}
use Rattle.es_event.specs.Access.{to_uint32, operands_of, given_to, edit_of}

-- Texts

-- a text without the blanks before it; of all blanks a text of this project has the space alone
abbrev pub after_blanks : List ℕ → List ℕ
after_blanks [] = []
after_blanks (c ∷ cs) = if c == 32 then after_blanks cs else c ∷ cs

abbrev pub before_blanks : List ℕ → List ℕ
before_blanks t = reverse (after_blanks (reverse t))

-- without blanks at both ends
abbrev pub trimmed : List ℕ → List ℕ
trimmed t = before_blanks (after_blanks t)

-- the number that digits write after those of n
abbrev pub digits_after : ℕ → List ℕ → Option ℕ
digits_after n [] = Some n
digits_after n (c ∷ cs) = if is_ascii_digit c then digits_after (n * 10 + (c - 48)) cs else None

-- the number of 1 to 15 digits
abbrev pub digits : List ℕ → Option ℕ
digits ds = if nat_lt 0 (length ds) && nat_le (length ds) 15 then digits_after 0 ds else None

-- one sign or none, and digits
abbrev pub signed : List ℕ → Option ℤ
signed [] = None
signed (c ∷ cs) =
    if c == 45 then option_map (λ n. neg_ℤ (pos n)) (digits cs)
    else if c == 43 then option_map pos (digits cs)
    else option_map pos (digits (c ∷ cs))

-- a text that is blank is 0; one that is no whole number of 1 to 15 digits is outside of this project
abbrev pub number_of_text : List ℕ → Result ℤ Refusal
number_of_text [] = Ok (pos 0)
number_of_text (c ∷ cs) = option_map_or Ok (signed (c ∷ cs)) (Err TextIsNoWhole)

-- Values

abbrev pub number_of : Value → Result ℤ Refusal
number_of Undefined = Ok (pos 0)
number_of (Boolean b) = Ok (pos (if b then 1 else 0))
number_of (Number n) = Ok n
number_of (Text t) = number_of_text (trimmed t)
number_of (Registered t) = Err NotANumber
number_of (Object i) = Err NotANumber
number_of (SymbolValue i) = Err NotANumber

-- Operands

-- the number of an operand, where these are the values of the variables from it on
abbrev pub operand_number : Operand → List Value → Result ℤ Refusal
operand_number (Operand.Number n) vs = Ok n
operand_number (Operand.Variable x) vs = number_of (first vs)

-- the values of the variables after it
abbrev pub after_operand : Operand → List Value → List Value
after_operand (Operand.Number n) vs = vs
after_operand (Operand.Variable x) vs = drop 1 vs

-- the numbers of operands, from left to right
abbrev pub numbers_of : List Operand → List Value → List (Result ℤ Refusal)
numbers_of [] vs = []
numbers_of (o ∷ os) vs = operand_number o vs ∷ numbers_of os (after_operand o vs)

-- Commands on words

-- where vs are the values of the buffer and of the operands' variables: the index as a number, or why it is none
abbrev pub index_read : AtomicParts → List Value → Result ℤ Refusal
index_read a vs = operand_number a.index (drop 1 vs)

-- and the other operands
abbrev pub words_read : AtomicParts → List Value → List (Result ℤ Refusal)
words_read a vs = numbers_of (operands_of a.operation) (after_operand a.index (drop 1 vs))

abbrev pub number_or_0 : Result ℤ Refusal → ℤ
number_or_0 (Ok n) = n
number_or_0 (Err e) = pos 0

abbrev pub index_of : AtomicParts → List Value → ℤ
index_of a vs = number_or_0 (index_read a vs)

-- the word that the number at a place is
abbrev pub word_at : ℕ → List (Result ℤ Refusal) → ℕ
word_at k ns = to_uint32 (number_or_0 (slice_index_or ns k (Ok (pos 0))))

-- what a command does to a word: the edit, and whether the word that was there is given
abbrev pub access_of : AtomicParts → List Value → Access
access_of a vs = record { edit = edit_of a.operation (word_at 0 (words_read a vs)) (word_at 1 (words_read a vs)); gives_word = is_some (given_to a.operation) }

-- How many agents are woken

-- a number from 0 to the most agents that a run has
abbrev pub cut : ℤ → ℕ
cut (pos n) = if nat_lt n most_agents then n else most_agents
cut (negsuc n) = 0

-- how many a value counts: all where it is undefined (Atomics.notify)
abbrev pub count_of : Value → ℕ
count_of v = if is_same v Undefined then most_agents else cut (number_or_0 (number_of v))

-- how many a notify takes at most, where vs are the values of the variables from its count on: all where it says none
abbrev pub most_taken : Option Operand → List Value → ℕ
most_taken None vs = most_agents
most_taken (Some (Operand.Number n)) vs = cut n
most_taken (Some (Operand.Variable x)) vs = count_of (first vs)

-- what a command does at a word: a wait sleeps where it is this one, and a notify takes so many at most
abbrev pub task_by : Operation → Access → ℕ → List Value → Task
task_by (Operation.Wait to n) m w vs = Task.Sleep w
task_by (Operation.Notify to c) m w vs = Task.Notify (most_taken c vs)
task_by _ m w vs = Task.Access m

abbrev pub task_of : AtomicParts → List Value → Task
task_of a vs = task_by a.operation (access_of a vs) (word_at 0 (words_read a vs)) (after_operand a.index (drop 1 vs))
