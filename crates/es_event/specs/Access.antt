-- To believe: what is done to a word of a Shared Data Block (The Atomics Object).
use Rattle.std.specs.Prelude.{ℕ, ℤ, pos, ◌+◌, ◌-◌, ◌%◌, ◌^◌, ◌<◌, ◌==◌, ⊤, Bool, true, false, List, [], ◌∷◌, ◌++◌, Option, Some, None, unsigned_abs, bit_and, bit_or, bit_xor, codes, option_to_list, if◌then◌else◌}
use Rattle.std.specs.Int.{int_rem_euclid}
use Rattle.es_event.specs.declared.access.Change.{Change}
use Rattle.es_event.specs.declared.access.Edit.{Edit}
use Rattle.es_event.specs.declared.access.Modification.{Modification}
use Rattle.es_event.specs.declared.access.WaitResult.{WaitResult}
use Rattle.es_event.specs.declared.atomic.Operation.{Operation}
use Rattle.es_event.specs.declared.operand.Operand.{Operand}

-- What a plan says

-- the variable of an operand, if it is one
abbrev pub variable_of : Operand → List (List ℕ)
variable_of (Operand.Number n) = []
variable_of (Operand.Variable x) = x ∷ []

abbrev pub variables_of : List Operand → List (List ℕ)
variables_of [] = []
variables_of (o ∷ os) = variable_of o ++ variables_of os

-- the operands of an operation after the buffer and the index, from left to right
abbrev pub operands_of : Operation → List Operand
operands_of (Operation.Load to) = []
operands_of (Operation.Store n) = n ∷ []
operands_of (Operation.Modify to how n) = n ∷ []
operands_of (Operation.CompareExchange to e r) = e ∷ r ∷ []
operands_of (Operation.Wait to n) = n ∷ []
operands_of (Operation.Notify to c) = option_to_list c

-- the variable that is assigned the word that was there, or what a wait or a notify gives, if one is
abbrev pub given_to : Operation → Option (List ℕ)
given_to (Operation.Load to) = Some to
given_to (Operation.Store n) = None
given_to (Operation.Modify to how n) = Some to
given_to (Operation.CompareExchange to e r) = Some to
given_to (Operation.Wait to n) = Some to
given_to (Operation.Notify to c) = Some to

-- it waits at a word, or notifies those that do (Atomics.wait and notify); the others read or write the word alone
abbrev pub is_of_sleep : Operation → Bool
is_of_sleep (Operation.Load to) = false
is_of_sleep (Operation.Store n) = false
is_of_sleep (Operation.Modify to how n) = false
is_of_sleep (Operation.CompareExchange to e r) = false
is_of_sleep (Operation.Wait to n) = true
is_of_sleep (Operation.Notify to c) = true

-- What it comes to

-- a number modulo 2^32: the word of 32 bits that is written for it (ToUint32)
abbrev pub to_uint32 : ℤ → ℕ
to_uint32 n = unsigned_abs (int_rem_euclid n (pos (2 ^ 32)))

-- what is done with the words of its operands (Atomics.load, store, add, sub, and, or, xor, exchange and compareExchange);
-- a wait reads the word, and a notify leaves it alone
abbrev pub edit_of : Operation → ℕ → ℕ → Edit
edit_of (Operation.Load to) v w = Edit.Plain Change.Keep
edit_of (Operation.Store n) v w = Edit.Plain (Change.Write v)
edit_of (Operation.Modify to how n) v w = Edit.Modify how v
edit_of (Operation.CompareExchange to e r) v w = Edit.Compare v w
edit_of (Operation.Wait to n) v w = Edit.Plain Change.Keep
edit_of (Operation.Notify to c) v w = Edit.Plain Change.Keep

-- the text that a wait gives (Atomics.wait)
abbrev pub wait_text : WaitResult → List ℕ
wait_text WaitResult.Woken = codes "ok"
wait_text WaitResult.NotEqual = codes "not-equal"
wait_text WaitResult.TimedOut = codes "timed-out"

-- What becomes of the word

-- the word that a modification with n writes over the old one (AtomicReadModifyWrite, and its operations)
abbrev pub modified : Modification → ℕ → ℕ → ℕ
modified Modification.Add n old = (old + n) % 2 ^ 32
modified Modification.Sub n old = (old + (2 ^ 32 - n)) % 2 ^ 32
modified Modification.And n old = bit_and old n
modified Modification.Or n old = bit_or old n
modified Modification.Xor n old = bit_xor old n
modified Modification.Exchange n old = n

-- the word of a plan that names it
abbrev pub word_for : Modification → List ℕ
word_for Modification.Add = codes "add"
word_for Modification.Sub = codes "sub"
word_for Modification.And = codes "and"
word_for Modification.Or = codes "or"
word_for Modification.Xor = codes "xor"
word_for Modification.Exchange = codes "exchange"

-- what the ledger's event says: an addition is told as one, every other word that is written as a store
abbrev pub change_by : Edit → ℕ → Change
change_by (Edit.Plain c) old = c
change_by (Edit.Modify Modification.Add n) old = Change.Add n
change_by (Edit.Modify how n) old = Change.Write (modified how n old)
change_by (Edit.Compare e r) old = if old == e then Change.Write r else Change.Keep

-- the word that is written over the old one, if one is; a sum is taken modulo 2^32
abbrev pub written : Change → ℕ → Option ℕ
written Change.Keep old = None
written (Change.Write w) old = Some w
written (Change.Add n) old = Some ((old + n) % 2 ^ 32)

-- a word that is written has 32 bits
abbrev pub IsStorable : Change → Type 0
IsStorable Change.Keep = ⊤
IsStorable (Change.Write w) = w < 2 ^ 32
IsStorable (Change.Add n) = ⊤

-- the same becomes of a word
abbrev pub is_same_change : Change → Change → Bool
is_same_change Change.Keep Change.Keep = true
is_same_change (Change.Write w) (Change.Write v) = w == v
is_same_change (Change.Add n) (Change.Add m) = n == m
is_same_change _ _ = false
