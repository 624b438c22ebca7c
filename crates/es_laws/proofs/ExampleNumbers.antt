-- Numbers that are values of variables, and what each command makes of a word: worked by hand from ECMA-262
-- (ToIntegerOrInfinity, StringToNumber; Atomics.sub, and, or, xor, exchange and compareExchange), and what bent definitions would say.
use Rattle.std.proofs.Common.{◌≡◌, true, false, refl, [], ◌∷◌, Some, None, codes}
use Rattle.std.specs.Prelude.{pos, negsuc, Ok, Err}
use Rattle.es_value.specs.declared.value.Value.TheVariants.{Undefined, Boolean, Number, Text, Registered, Object, Symbol as SymbolValue}
use Rattle.es_event.specs.declared.access.Change.{Change}
use Rattle.es_event.specs.declared.access.Edit.{Edit}
use Rattle.es_event.specs.declared.access.Modification.{Modification}
use Rattle.es_event.specs.declared.atomic.AtomicParts.{AtomicParts}
use Rattle.es_event.specs.declared.atomic.Operation.{Operation}
use Rattle.es_event.specs.declared.atomic.Operation.TheVariants.{Load, Store, Modify, CompareExchange}
use Rattle.es_event.specs.declared.command.Command.{Command}
use Rattle.es_event.specs.declared.command.Command.TheVariants.{SharedArrayBuffer}
use Rattle.es_event.specs.declared.event.Answer.TheVariants.{Gives}
use Rattle.es_event.specs.declared.event.Event.TheVariants.{JobBegun, Did}
use Rattle.es_event.specs.declared.event.Refusal.TheVariants.{NotASharedArrayBuffer, NotANumber, TextIsNoWhole, IndexOutOfRange}
use Rattle.es_event.specs.declared.operand.Operand.{Operand}
use Rattle.es_event.specs.Rows.{row}
use Rattle.es_event.specs.Access.{modified, change_by, written, to_uint32}
use Rattle.es_event.specs.Commands.{assigns, atomic, reads}
use Rattle.es_event.specs.History.{History}
use Rattle.es_event.specs.Numbers.{access_of, index_of, number_of}
use Rattle.es_event.specs.Rules.{refusal}
use Rattle.es_event.specs.Sharing.{Buffers}
use Rattle.es_event.proofs.Examples.{compare_exchange, load}
use Rattle.es_laws.proofs.Letters.{b, m, n, o, x}

-- Values

undefined_is_0 : number_of Undefined ≡ Ok (pos 0)
undefined_is_0 = refl

true_is_1 : number_of (Boolean true) ≡ Ok (pos 1)
true_is_1 = refl

false_is_0 : number_of (Boolean false) ≡ Ok (pos 0)
false_is_0 = refl

a_number_is_itself : number_of (Number (negsuc 4)) ≡ Ok (negsuc 4)
a_number_is_itself = refl

-- an empty text is 0, as one of blanks
empty_is_0 : number_of (Text []) ≡ Ok (pos 0)
empty_is_0 = refl

blanks_are_0 : number_of (Text (codes "   ")) ≡ Ok (pos 0)
blanks_are_0 = refl

-- blanks at both ends do not count; within they do
blanks_at_the_ends : number_of (Text (codes "  12 ")) ≡ Ok (pos 12)
blanks_at_the_ends = refl

a_blank_within : number_of (Text (codes "1 2")) ≡ Err TextIsNoWhole
a_blank_within = refl

-- one sign; digits are read as decimal ones, whatever zeros stand before them
with_plus : number_of (Text (codes "+7")) ≡ Ok (pos 7)
with_plus = refl

with_minus : number_of (Text (codes "-7")) ≡ Ok (negsuc 6)
with_minus = refl

minus_0 : number_of (Text (codes "-0")) ≡ Ok (pos 0)
minus_0 = refl

zeros_before : number_of (Text (codes "007")) ≡ Ok (pos 7)
zeros_before = refl

two_signs : number_of (Text (codes "+-1")) ≡ Err TextIsNoWhole
two_signs = refl

a_lone_sign : number_of (Text (codes "-")) ≡ Err TextIsNoWhole
a_lone_sign = refl

-- 15 digits, and one more
fifteen_digits : number_of (Text (codes "999999999999999")) ≡ Ok (pos 999999999999999)
fifteen_digits = refl

sixteen_digits : number_of (Text (codes "1000000000000000")) ≡ Err TextIsNoWhole
sixteen_digits = refl

-- what the standard reads otherwise is outside of this project, and never another number
a_fraction : number_of (Text (codes "1.5")) ≡ Err TextIsNoWhole
a_fraction = refl

an_exponent : number_of (Text (codes "1e3")) ≡ Err TextIsNoWhole
an_exponent = refl

hexadecimal : number_of (Text (codes "0x10")) ≡ Err TextIsNoWhole
hexadecimal = refl

a_word : number_of (Text (codes "one")) ≡ Err TextIsNoWhole
a_word = refl

-- what has no number
no_object : number_of (Object 3) ≡ Err NotANumber
no_object = refl

no_symbol : number_of (SymbolValue 3) ≡ Err NotANumber
no_symbol = refl

no_registered_symbol : number_of (Registered (codes "1")) ≡ Err NotANumber
no_registered_symbol = refl

-- Words

sub_wraps : modified Modification.Sub 1 0 ≡ 4294967295
sub_wraps = refl

sub_takes_away : modified Modification.Sub 3 10 ≡ 7
sub_takes_away = refl

sub_of_0 : modified Modification.Sub 0 4294967295 ≡ 4294967295
sub_of_0 = refl

add_wraps : modified Modification.Add 2 4294967295 ≡ 1
add_wraps = refl

bits_of_both : modified Modification.And 10 12 ≡ 8
bits_of_both = refl

bits_of_one : modified Modification.Or 10 12 ≡ 14
bits_of_one = refl

bits_of_just_one : modified Modification.Xor 10 12 ≡ 6
bits_of_just_one = refl

the_other_word : modified Modification.Exchange 10 12 ≡ 10
the_other_word = refl

-- a word that is found is replaced, and another stays
found_is_replaced : written (change_by (Edit.Compare 5 9) 5) 5 ≡ Some 9
found_is_replaced = refl

another_stays : written (change_by (Edit.Compare 5 9) 6) 6 ≡ None
another_stays = refl

-- a word that is replaced by itself is written: an access of another agent races with that
replaced_by_itself : written (change_by (Edit.Compare 5 5) 5) 5 ≡ Some 5
replaced_by_itself = refl

-- an addition is told as one, and whatever else modifies a word as a store
add_is_told_as_one : change_by (Edit.Modify Modification.Add 3) 10 ≡ Change.Add 3
add_is_told_as_one = refl

sub_is_told_as_a_store : change_by (Edit.Modify Modification.Sub 3) 10 ≡ Change.Write 7
sub_is_told_as_a_store = refl

-- a sum that is told as one begins at 0 again too
told_sum_wraps : written (Change.Add 2) 4294967295 ≡ Some 1
told_sum_wraps = refl

-- numbers are words before they are compared
word_of_minus_1 : to_uint32 (negsuc 0) ≡ 4294967295
word_of_minus_1 = refl

word_of_2_to_32 : to_uint32 (pos 4294967296) ≡ 0
word_of_2_to_32 = refl

-- Refusals, in their order

-- of an agent with one buffer, over a block of one word
abbrev opened : History
opened = Did (SharedArrayBuffer b 1, [], Gives (Object 1)) ∷ JobBegun 1 ∷ []

abbrev one_word : Buffers
one_word = (1, row 1 1 1) ∷ []

-- what is compared, and then put, at an index: each the value of a variable
abbrev swaps : Command
swaps = atomic b (Operand.Variable n) (CompareExchange x (Operand.Variable m) (Operand.Variable o))

-- the same, but what is put alone is the value of a variable
abbrev puts : Command
puts = atomic b (Operand.Number (pos 0)) (CompareExchange x (Operand.Number (pos 5)) (Operand.Variable o))

the_buffer_first : refusal one_word opened swaps (Undefined ∷ Object 1 ∷ Object 1 ∷ Object 1 ∷ []) ≡ Some NotASharedArrayBuffer
the_buffer_first = refl

-- that the index is a number, before which number it is
the_index_is_a_number : refusal one_word opened swaps (Object 1 ∷ Object 1 ∷ Text (codes "?") ∷ Undefined ∷ []) ≡ Some NotANumber
the_index_is_a_number = refl

the_index_is_read : refusal one_word opened swaps (Object 1 ∷ Text (codes "?") ∷ Object 1 ∷ Undefined ∷ []) ≡ Some TextIsNoWhole
the_index_is_read = refl

-- before the block is asked for it, which here has no words
the_index_is_a_number_first : refusal ((1, row 1 1 0) ∷ []) opened swaps (Object 1 ∷ Object 1 ∷ Boolean true ∷ Boolean true ∷ []) ≡ Some NotANumber
the_index_is_a_number_first = refl

-- the index is within the block, before the words
the_index_is_there : refusal one_word opened swaps (Object 1 ∷ Text (codes "1") ∷ Object 1 ∷ Undefined ∷ []) ≡ Some IndexOutOfRange
the_index_is_there = refl

-- the words from left to right
the_first_word : refusal one_word opened swaps (Object 1 ∷ Undefined ∷ Text (codes "?") ∷ Object 1 ∷ []) ≡ Some TextIsNoWhole
the_first_word = refl

the_second_word : refusal one_word opened swaps (Object 1 ∷ Undefined ∷ Boolean true ∷ Object 1 ∷ []) ≡ Some NotANumber
the_second_word = refl

none_of_these : refusal one_word opened swaps (Object 1 ∷ Boolean false ∷ Text (codes " -1") ∷ Undefined ∷ []) ≡ None
none_of_these = refl

-- numbers of the plan are none of these values
numbers_of_the_plan : refusal one_word opened (compare_exchange x b (pos 0) (negsuc 0) (pos 4294967298)) (Object 1 ∷ []) ≡ None
numbers_of_the_plan = refl

past_the_block : refusal one_word opened (load x b (pos 1)) (Object 1 ∷ []) ≡ Some IndexOutOfRange
past_the_block = refl

-- a number of the plan takes no value
numbers_take_no_value : refusal one_word opened puts (Object 1 ∷ Object 1 ∷ []) ≡ Some NotANumber
numbers_take_no_value = refl

-- What a command reads, and assigns: the variable of the buffer, and then of the operands from left to right

swaps_reads : reads swaps ≡ b ∷ n ∷ m ∷ o ∷ []
swaps_reads = refl

puts_reads : reads puts ≡ b ∷ o ∷ []
puts_reads = refl

a_load_reads : reads (atomic b (Operand.Variable n) (Load x)) ≡ b ∷ n ∷ []
a_load_reads = refl

a_store_reads : reads (atomic b (Operand.Variable n) (Store (Operand.Variable m))) ≡ b ∷ n ∷ m ∷ []
a_store_reads = refl

a_sum_reads : reads (atomic b (Operand.Variable n) (Modify x Modification.Add (Operand.Variable m))) ≡ b ∷ n ∷ m ∷ []
a_sum_reads = refl

swaps_assigns : assigns swaps ≡ Some x
swaps_assigns = refl

-- What it does to a word, and whether it gives the one that was there

abbrev on_word : Operation → AtomicParts
on_word how = record { buffer = b; index = Operand.Variable n; operation = how }

a_load_keeps : access_of (on_word (Load x)) (Object 1 ∷ Undefined ∷ []) ≡ record { edit = Edit.Plain Change.Keep; gives_word = true }
a_load_keeps = refl

a_store_writes : access_of (on_word (Store (Operand.Variable m))) (Object 1 ∷ Number (pos 3) ∷ Text (codes "5") ∷ []) ≡ record { edit = Edit.Plain (Change.Write 5); gives_word = false }
a_store_writes = refl

a_sub_modifies : access_of (on_word (Modify x Modification.Sub (Operand.Variable m))) (Object 1 ∷ Number (pos 3) ∷ Number (negsuc 0) ∷ []) ≡ record { edit = Edit.Modify Modification.Sub 4294967295; gives_word = true }
a_sub_modifies = refl

-- the first word is compared, the second put
compares_and_puts : access_of (on_word (CompareExchange x (Operand.Variable m) (Operand.Variable o))) (Object 1 ∷ Number (pos 3) ∷ Text (codes "5") ∷ Boolean true ∷ []) ≡ record { edit = Edit.Compare 5 1; gives_word = true }
compares_and_puts = refl

the_third_word : index_of (on_word (Load x)) (Object 1 ∷ Text (codes " 3") ∷ []) ≡ pos 3
the_third_word = refl
