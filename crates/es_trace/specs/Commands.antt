-- To believe: a command as a trace shows it, in words or as JSON: its word and its operands as the plan has them.
use Rattle.std.specs.Prelude.{ℕ, ◌-◌, true, false, List, [], ◌∷◌, ◌++◌, Option, Some, None, codes, decimal, slice_get, unwrap_or}
use Rattle.std.specs.Fmt.{signed_decimal}
use Rattle.std.specs.List.{flat_map}
use Rattle.std.specs.Option.{option_map_or}
use Rattle.es_value.specs.Printed.{quoted}
use Rattle.es_event.specs.declared.literal.Literal.{Literal}
use Rattle.es_event.specs.declared.literal.Literal.TheVariants.{Undefined, Boolean, Number, Text}
use Rattle.es_event.specs.declared.atomic.AtomicParts.{AtomicParts}
use Rattle.es_event.specs.declared.atomic.Operation.{Operation}
use Rattle.es_event.specs.declared.operand.Operand.{Operand}
use Rattle.es_event.specs.Access.{operands_of, word_for}
use Rattle.es_event.specs.declared.command.Command.{Command}
use Rattle.es_event.specs.declared.plan.AgentPlan.{AgentPlan}
use Rattle.es_trace.specs.declared.style.Style.{Style}
use Rattle.es_trace.specs.declared.style.Style.TheVariants.{Words, Json}

-- Words and operands

-- the word
abbrev pub word : Style → List ℕ → List ℕ
word Words w = w
word Json w = codes "[" ++ quoted w

-- what stands before an operand
abbrev pub mark : Style → List ℕ
mark Words = codes " "
mark Json = codes ","

-- an operand that is a name
abbrev pub named : Style → List ℕ → List ℕ
named Words x = codes " " ++ x
named Json x = codes "," ++ quoted x

-- an operand that both have in the same letters: a number, a literal, or a text between two "
abbrev pub after : Style → List ℕ → List ℕ
after st x = mark st ++ x

-- a word with one name, with two, with three
abbrev pub one : Style → List ℕ → List ℕ → List ℕ
one st w x = word st w ++ named st x

abbrev pub two : Style → List ℕ → List ℕ → List ℕ → List ℕ
two st w x y = one st w x ++ named st y

abbrev pub three : Style → List ℕ → List ℕ → List ℕ → List ℕ → List ℕ
three st w x y z = two st w x y ++ named st z

-- the literal as the plan has it
abbrev pub literal_text : Literal → List ℕ
literal_text Undefined = codes "null"
literal_text (Boolean true) = codes "true"
literal_text (Boolean false) = codes "false"
literal_text (Number n) = signed_decimal n
literal_text (Text t) = quoted t

-- the token, where one is named
abbrev pub token_text : Style → Option (List ℕ) → List ℕ
token_text st None = []
token_text st (Some t) = named st t

-- Commands

-- of FinalizationRegistries, but for the one that makes them; no other command comes here
abbrev pub registry_text : Style → Command → List ℕ
registry_text st (Command.Register q y v t) = three st (codes "register") q y v ++ token_text st t
registry_text st (Command.Unregister to q t) = three st (codes "unregister") to q t
registry_text st _ = []

-- an operand that is a number, or the variable whose value is taken
abbrev pub operand : Style → Operand → List ℕ
operand st (Operand.Number n) = after st (signed_decimal n)
operand st (Operand.Variable x) = named st x

abbrev pub operands : Style → List Operand → List ℕ
operands st os = flat_map (operand st) os

-- what stands before the index of a command on a word: the word that names it, the variable that it assigns, the buffer
abbrev pub access_begun : Style → List ℕ → Operation → List ℕ
access_begun st b (Operation.Load to) = two st (codes "load") to b
access_begun st b (Operation.Store n) = one st (codes "store") b
access_begun st b (Operation.Modify to how n) = two st (word_for how) to b
access_begun st b (Operation.CompareExchange to e r) = two st (codes "compareexchange") to b
access_begun st b (Operation.Wait to n) = two st (codes "wait") to b
access_begun st b (Operation.Notify to c) = two st (codes "notify") to b

-- on a word of a buffer's block
abbrev pub access_text : Style → AtomicParts → List ℕ
access_text st a = access_begun st a.buffer a.operation ++ operands st (a.index ∷ operands_of a.operation)

-- of buffers, and then those of FinalizationRegistries
abbrev pub shared_text : Style → Command → List ℕ
shared_text st (Command.SharedArrayBuffer to n) = one st (codes "buffer") to ++ after st (decimal n)
shared_text st (Command.Length to b) = two st (codes "length") to b
shared_text st (Command.SameBlock to b d) = three st (codes "sameblock") to b d
shared_text st (Command.Atomic a) = access_text st a
shared_text st c = registry_text st c

-- of WeakRefs, WeakMaps and WeakSets, and then the others
abbrev pub weak_text : Style → Command → List ℕ
weak_text st (Command.WeakRef to y) = two st (codes "weakref") to y
weak_text st (Command.Deref to w) = two st (codes "deref") to w
weak_text st (Command.WeakMap to) = one st (codes "weakmap") to
weak_text st (Command.WeakMapSet m k y) = three st (codes "wmset") m k y
weak_text st (Command.WeakMapGet to m k) = three st (codes "wmget") to m k
weak_text st (Command.WeakMapHas to m k) = three st (codes "wmhas") to m k
weak_text st (Command.WeakMapDelete to m k) = three st (codes "wmdelete") to m k
weak_text st (Command.WeakSet to) = one st (codes "weakset") to
weak_text st (Command.WeakSetAdd s y) = two st (codes "wsadd") s y
weak_text st (Command.WeakSetHas to s y) = three st (codes "wshas") to s y
weak_text st (Command.WeakSetDelete to s y) = three st (codes "wsdelete") to s y
weak_text st c = shared_text st c

-- of values, variables, objects and collections, and then the others
abbrev pub plain_text : Style → Command → List ℕ
plain_text st (Command.Let to l) = one st (codes "let") to ++ after st (literal_text l)
plain_text st (Command.New to) = one st (codes "new") to
plain_text st (Command.Symbol to) = one st (codes "symbol") to
plain_text st (Command.SymbolFor to t) = one st (codes "symbolfor") to ++ after st (quoted t)
plain_text st (Command.Copy to y) = two st (codes "copy") to y
plain_text st (Command.Same to y z) = three st (codes "same") to y z
plain_text st (Command.Say y) = one st (codes "say") y
plain_text st (Command.Set o k y) = three st (codes "set") o k y
plain_text st (Command.Get to o k) = three st (codes "get") to o k
plain_text st (Command.Delete to o k) = three st (codes "delete") to o k
plain_text st (Command.Keys o) = one st (codes "keys") o
plain_text st Command.Collect = word st (codes "collect")
plain_text st Command.CollectLater = word st (codes "collectlater")
plain_text st c = weak_text st c

-- the name of agent a, counted from 0
abbrev pub name_at : List (List ℕ) → ℕ → List ℕ
name_at names a = unwrap_or (slice_get names a) []

-- the name of the plan's callback c, counted from 1
abbrev pub callback_name : AgentPlan → ℕ → List ℕ
callback_name plan c = option_map_or (λ k. k.name) (slice_get plan.callbacks (c - 1)) []

-- the command of an agent with this plan, among agents of these names, up to its ending
abbrev pub begun : Style → List (List ℕ) → AgentPlan → Command → List ℕ
begun st names plan (Command.FinalizationRegistry to c) = two st (codes "registry") to (callback_name plan c)
begun st names plan (Command.Post a y) = two st (codes "post") (name_at names a) y
begun st names plan c = plain_text st c

-- in words
abbrev pub command_text : List (List ℕ) → AgentPlan → Command → List ℕ
command_text names plan c = begun Words names plan c

-- the array that the plan has of it
abbrev pub command_json : List (List ℕ) → AgentPlan → Command → List ℕ
command_json names plan c = begun Json names plan c ++ codes "]"
