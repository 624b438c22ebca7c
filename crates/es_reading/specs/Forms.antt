-- To believe: the table of commands: the word of each, what its operands are, and what they make.
use Rattle.std.specs.Prelude.{ℕ, ℤ, pos, negsuc, ◌==◌, ◌&&◌, not, nat_le, Bool, true, false, List, [], ◌∷◌, Option, Some, None, codes, if◌then◌else◌}
use Rattle.std.specs.Str.{bytes_eq}
use Rattle.serde_json.specs.Data.{Data, number, string, array, object, Items, no_items, item}
use Rattle.es_event.specs.declared.literal.Literal.{Literal}
use Rattle.es_event.specs.declared.access.Modification.{Modification}
use Rattle.es_event.specs.declared.atomic.Operation.{Operation}
use Rattle.es_event.specs.declared.operand.Operand.{Operand}
use Rattle.es_event.specs.Access.{word_for}
use Rattle.es_event.specs.declared.command.Command.{Command}
use Rattle.es_event.specs.Commands.{atomic}
use Rattle.es_reading.specs.declared.version.Version.{Version}
use Rattle.es_reading.specs.declared.version.Version.TheVariants.{One, Three}

-- what an operand is: a variable or a property's key, a literal, a text of the profile, the name of a callback or of another
-- agent, a number of the profile, or a number of words
pub data OperandType : Type 0 where
  name : OperandType
  literal : OperandType
  text : OperandType
  callback : OperandType
  agent : OperandType
  whole : OperandType
  amount : OperandType
  words : OperandType

-- what an operand stands for; the name of a callback or of an agent stands for its number
abbrev pub Meaning : OperandType → Type 0
Meaning name = List ℕ
Meaning literal = Literal
Meaning text = List ℕ
Meaning callback = ℕ
Meaning agent = ℕ
Meaning whole = ℤ
Meaning amount = Operand
Meaning words = ℕ

-- what makes a command of operands
abbrev pub Makes : List OperandType → Type 0
Makes [] = Command
Makes (k ∷ ks) = Meaning k → Makes ks

-- a command's operands, what they make, and whether no callback may have the command
pub record Form : Type 0 where
  pub types : List OperandType
  pub makes : Makes types
  pub only_in_jobs : Bool

abbrev pub takes : (ks : List OperandType) → Makes ks → Option Form
takes ks make = Some (record { types = ks; makes = make; only_in_jobs = false })

-- the same, of a command that no callback may have
abbrev pub takes_in_jobs : (ks : List OperandType) → Makes ks → Option Form
takes_in_jobs ks make = Some (record { types = ks; makes = make; only_in_jobs = true })

-- whether a command of the form may stand where it is: in a callback, or else in a job
abbrev pub is_allowed : Bool → Form → Bool
is_allowed in_callback f = not (f.only_in_jobs && in_callback)

-- of register: its fourth operand, where there is one, is the token
abbrev pub register_form : ℕ → Option Form
register_form n =
    if n == 4 then takes (name ∷ name ∷ name ∷ name ∷ []) (λ registry target held token. Command.Register registry target held (Some token))
    else takes (name ∷ name ∷ name ∷ []) (λ registry target held. Command.Register registry target held None)

-- of FinalizationRegistries; beside notify's, only the form of register depends on how many operands there are
abbrev pub registry_form : List ℕ → ℕ → Option Form
registry_form w n =
    if bytes_eq w (codes "registry") then takes (name ∷ callback ∷ []) Command.FinalizationRegistry else
    (if bytes_eq w (codes "register") then register_form n else
    (if bytes_eq w (codes "unregister") then takes (name ∷ name ∷ name ∷ []) Command.Unregister else
    None))

-- of words of shared memory; from version 3 on a number may be the value of a variable
abbrev pub load_form : Version → Option Form
load_form Three = takes (name ∷ name ∷ amount ∷ []) (λ to b i. atomic b i (Operation.Load to))
load_form v = takes (name ∷ name ∷ whole ∷ []) (λ to b i. atomic b (Operand.Number i) (Operation.Load to))

abbrev pub store_form : Version → Option Form
store_form Three = takes (name ∷ amount ∷ amount ∷ []) (λ b i n. atomic b i (Operation.Store n))
store_form v = takes (name ∷ whole ∷ whole ∷ []) (λ b i n. atomic b (Operand.Number i) (Operation.Store (Operand.Number n)))

-- before version 3 an addition is the only one
abbrev pub modify_form : Version → Modification → Option Form
modify_form Three how = takes (name ∷ name ∷ amount ∷ amount ∷ []) (λ to b i n. atomic b i (Operation.Modify to how n))
modify_form v Modification.Add = takes (name ∷ name ∷ whole ∷ whole ∷ []) (λ to b i n. atomic b (Operand.Number i) (Operation.Modify to Modification.Add (Operand.Number n)))
modify_form v how = None

abbrev pub compare_form : Version → Option Form
compare_form Three = takes (name ∷ name ∷ amount ∷ amount ∷ amount ∷ []) (λ to b i e r. atomic b i (Operation.CompareExchange to e r))
compare_form v = None

abbrev pub wait_form : Version → Option Form
wait_form Three = takes (name ∷ name ∷ amount ∷ amount ∷ []) (λ to b i n. atomic b i (Operation.Wait to n))
wait_form v = None

-- of notify: its fourth operand, where there is one, says how many are woken at most
abbrev pub count_form : ℕ → Option Form
count_form n =
    if n == 4 then takes (name ∷ name ∷ amount ∷ amount ∷ []) (λ to b i c. atomic b i (Operation.Notify to (Some c)))
    else takes (name ∷ name ∷ amount ∷ []) (λ to b i. atomic b i (Operation.Notify to None))

abbrev pub notify_form : Version → ℕ → Option Form
notify_form Three n = count_form n
notify_form v n = None

-- the modification with this word
abbrev pub modification_named : List ℕ → Option Modification
modification_named w =
    if bytes_eq w (word_for Modification.Add) then Some Modification.Add else
    (if bytes_eq w (word_for Modification.Sub) then Some Modification.Sub else
    (if bytes_eq w (word_for Modification.And) then Some Modification.And else
    (if bytes_eq w (word_for Modification.Or) then Some Modification.Or else
    (if bytes_eq w (word_for Modification.Xor) then Some Modification.Xor else
    (if bytes_eq w (word_for Modification.Exchange) then Some Modification.Exchange else
    None)))))

abbrev pub modify_or : Version → Option Modification → Option Form → Option Form
modify_or v (Some how) others = modify_form v how
modify_or v None others = others

-- of buffers and messages, and then those of FinalizationRegistries
abbrev pub shared_form : Version → List ℕ → ℕ → Option Form
shared_form v w n =
    if bytes_eq w (codes "buffer") then takes (name ∷ words ∷ []) Command.SharedArrayBuffer else
    (if bytes_eq w (codes "length") then takes (name ∷ name ∷ []) Command.Length else
    (if bytes_eq w (codes "sameblock") then takes (name ∷ name ∷ name ∷ []) Command.SameBlock else
    (if bytes_eq w (codes "load") then load_form v else
    (if bytes_eq w (codes "store") then store_form v else
    (if bytes_eq w (codes "compareexchange") then compare_form v else
    (if bytes_eq w (codes "wait") then wait_form v else
    (if bytes_eq w (codes "notify") then notify_form v n else
    (if bytes_eq w (codes "post") then takes (agent ∷ name ∷ []) Command.Post else
    modify_or v (modification_named w) (registry_form w n)))))))))

-- of WeakRefs, WeakMaps and WeakSets, and then those of buffers, messages and FinalizationRegistries
abbrev pub weak_form : Version → List ℕ → ℕ → Option Form
weak_form v w n =
    if bytes_eq w (codes "weakref") then takes (name ∷ name ∷ []) Command.WeakRef else
    (if bytes_eq w (codes "deref") then takes (name ∷ name ∷ []) Command.Deref else
    (if bytes_eq w (codes "weakmap") then takes (name ∷ []) Command.WeakMap else
    (if bytes_eq w (codes "wmset") then takes (name ∷ name ∷ name ∷ []) Command.WeakMapSet else
    (if bytes_eq w (codes "wmget") then takes (name ∷ name ∷ name ∷ []) Command.WeakMapGet else
    (if bytes_eq w (codes "wmhas") then takes (name ∷ name ∷ name ∷ []) Command.WeakMapHas else
    (if bytes_eq w (codes "wmdelete") then takes (name ∷ name ∷ name ∷ []) Command.WeakMapDelete else
    (if bytes_eq w (codes "weakset") then takes (name ∷ []) Command.WeakSet else
    (if bytes_eq w (codes "wsadd") then takes (name ∷ name ∷ []) Command.WeakSetAdd else
    (if bytes_eq w (codes "wshas") then takes (name ∷ name ∷ name ∷ []) Command.WeakSetHas else
    (if bytes_eq w (codes "wsdelete") then takes (name ∷ name ∷ name ∷ []) Command.WeakSetDelete else
    shared_form v w n))))))))))

-- of a later collection, which version 1 has not
abbrev pub later_form : Version → Option Form
later_form One = None
later_form v = takes_in_jobs [] Command.CollectLater

-- the form of a version's command with this word and so many operands: of values, variables, objects and collections, and then
-- the others
abbrev pub form : Version → List ℕ → ℕ → Option Form
form v w n =
    if bytes_eq w (codes "let") then takes (name ∷ literal ∷ []) Command.Let else
    (if bytes_eq w (codes "new") then takes (name ∷ []) Command.New else
    (if bytes_eq w (codes "symbol") then takes (name ∷ []) Command.Symbol else
    (if bytes_eq w (codes "symbolfor") then takes (name ∷ text ∷ []) Command.SymbolFor else
    (if bytes_eq w (codes "copy") then takes (name ∷ name ∷ []) Command.Copy else
    (if bytes_eq w (codes "same") then takes (name ∷ name ∷ name ∷ []) Command.Same else
    (if bytes_eq w (codes "say") then takes (name ∷ []) Command.Say else
    (if bytes_eq w (codes "set") then takes (name ∷ name ∷ name ∷ []) Command.Set else
    (if bytes_eq w (codes "get") then takes (name ∷ name ∷ name ∷ []) Command.Get else
    (if bytes_eq w (codes "delete") then takes (name ∷ name ∷ name ∷ []) Command.Delete else
    (if bytes_eq w (codes "keys") then takes (name ∷ []) Command.Keys else
    (if bytes_eq w (codes "collect") then takes_in_jobs [] Command.Collect else
    (if bytes_eq w (codes "collectlater") then later_form v else
    weak_form v w n))))))))))))

-- `try` stands before a command, in plans of version 3 on
abbrev pub is_try : Version → List ℕ → Bool
is_try Three w = bytes_eq w (codes "try")
is_try v w = false

-- Operands in a text

-- a number of the profile: within ±9007199254740991
abbrev pub is_whole : ℤ → Bool
is_whole (pos n) = nat_le n 9007199254740991
is_whole (negsuc n) = nat_le n 9007199254740990

-- an operand of the JSON kind that is asked for: a literal is anything but an array or an object, a number of the profile and a
-- number of words is a number, and all else is a text
abbrev pub fits : OperandType → Data → Bool
fits literal (array ds) = false
fits literal (object ms) = false
fits literal d = true
fits whole (number x) = true
fits whole d = false
fits amount (number x) = true
fits words (number x) = true
fits words d = false
fits k (string s) = true
fits k d = false

-- as many operands as kinds, each of its JSON kind
abbrev pub fit : List OperandType → Items → Bool
fit [] no_items = true
fit (k ∷ ks) (item d ds) = fits k d && fit ks ds
fit _ _ = false
