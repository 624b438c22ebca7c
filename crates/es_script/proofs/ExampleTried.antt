-- A command behind `try`: which line it is, what a body of such lines has, and the first fault of what is none: worked by hand from the format.
use Rattle.std.proofs.Common.{◌≡◌, ℕ, Bool, true, false, refl, ap, ◌∙◌, List, [], ◌∷◌, Option, Some, None, codes}
use Rattle.std.specs.Str.{bytes_eq}
use Rattle.serde_json.specs.Data.{Data, null, string, array, Items, no_items, item}
use Rattle.es_event.specs.declared.command.Command.TheVariants.{Collect, New, Say, WeakRef}
use Rattle.es_reading.specs.declared.fault.FaultCode.TheVariants.{Name, Operands, Profile, Collection}
use Rattle.es_reading.specs.declared.fault.Place.{Place}
use Rattle.es_reading.specs.declared.fault.Place.TheVariants.{Callback, Job}
use Rattle.es_reading.specs.declared.fault.ScriptFault.{ScriptFault}
use Rattle.es_reading.specs.declared.version.Version.{Version}
use Rattle.es_reading.specs.declared.version.Version.TheVariants.{Two, Three}
use Rattle.es_reading.specs.Forms.{Form, is_allowed, name}
use Rattle.es_reading.specs.Lines.{Line, catches_in, commands_in}
use Rattle.es_reading.specs.Places.{at}
use Rattle.es_reading.specs.Scope.{Scope}
use Rattle.es_script.specs.Fault.{line_fault}
use Rattle.es_script.specs.Grammar.{AreLines, IsLine}

abbrev d : List ℕ
d = codes "d"

abbrev o : List ℕ
o = codes "o"

abbrev w : List ℕ
w = codes "w"

abbrev x : List ℕ
x = codes "x"

-- no name, and no text
abbrev one : List ℕ
one = codes "1"

abbrev line_feed : List ℕ
line_feed = 10 ∷ []

abbrev texts : List (List ℕ) → Items
texts [] = no_items
texts (t ∷ ts) = item (string t) (texts ts)

-- an array of these texts
abbrev said : List (List ℕ) → Data
said ts = array (texts ts)

-- of an agent that has no callbacks, and that is alone
abbrev scope : Version → Scope
scope v = record { version = v; callbacks = λ n. None; agents = λ n. None }

-- `try d weakref w x`
abbrev tried : Data
tried = said (codes "try" ∷ d ∷ codes "weakref" ∷ w ∷ x ∷ [])

abbrev caught : Line
caught = (Some d, WeakRef w x)

-- Lines

tried_is_caught : IsLine (scope Three) false tried caught
tried_is_caught = (refl, (refl, refl), (record { types = name ∷ name ∷ []; makes = WeakRef; only_in_jobs = false }, refl, refl, (w, (refl, refl), (x, (refl, refl), refl))))

-- it is no command that nothing catches
caught_by_nobody : IsLine (scope Three) false tried (None, WeakRef w x) → ⊥
caught_by_nobody is = let none = is.1 in cc

-- nor one that another variable catches
caught_by_another : IsLine (scope Three) false tried (Some w, WeakRef w x) → ⊥
caught_by_another is = let same : ◌≡◌ {A = Bool} true false = ap (λ n. bytes_eq w n) is.1.0 in cc

-- version 2 has no `try`
none_in_version_2 : IsLine (scope Two) false tried caught → ⊥
none_in_version_2 is = let word : ◌≡◌ {A = Bool} false true = is.0 in cc

-- no other word stands there
another_word : IsLine (scope Three) false (said (codes "new" ∷ d ∷ codes "weakref" ∷ w ∷ x ∷ [])) caught → ⊥
another_word is = let word : ◌≡◌ {A = Bool} false true = is.0 in cc

-- what catches is a name
no_name_catches : IsLine (scope Three) false (said (codes "try" ∷ one ∷ codes "new" ∷ o ∷ [])) (Some one, New o) → ⊥
no_name_catches is = let spelled : ◌≡◌ {A = Bool} false true = is.1.1 in cc

-- a callback collects nothing, behind `try` either
abbrev allowed : Option Form → Bool
allowed None = true
allowed (Some f) = is_allowed true f

callbacks_collect_nothing : IsLine (scope Three) true (said (codes "try" ∷ d ∷ codes "collect" ∷ [])) (Some d, Collect) → ⊥
callbacks_collect_nothing is = let may : ◌≡◌ {A = Bool} false true = ap allowed is.2.1 ∙ is.2.2 in cc

-- line by line
one_by_one : AreLines (scope Three) false (item tried (item (said (codes "say" ∷ d ∷ [])) no_items)) (caught ∷ (None, Say d) ∷ [])
one_by_one = (tried_is_caught, ((record { types = name ∷ []; makes = Say; only_in_jobs = false }, refl, refl, (d, (refl, refl), refl)), tt))

none_is_left_out : AreLines (scope Three) false (item tried (item (said (codes "say" ∷ d ∷ [])) no_items)) (caught ∷ []) → ⊥
none_is_left_out are = are.1

-- What a body has of its lines

abbrev lines : List Line
lines = (None, Say d) ∷ (Some d, New o) ∷ (None, Say o) ∷ []

its_commands : commands_in lines ≡ Say d ∷ New o ∷ Say o ∷ []
its_commands = refl

-- each variable stands at the place of its command, and behind the last there is nothing
its_variables : catches_in lines ≡ None ∷ Some d ∷ []
its_variables = refl

no_variables : catches_in ((None, Say d) ∷ (None, Say o) ∷ []) ≡ []
no_variables = refl

both_variables : catches_in ((Some x, New o) ∷ (Some d, New w) ∷ []) ≡ Some x ∷ Some d ∷ []
both_variables = refl

-- The first fault

abbrev job : Place
job = Job 0 1

abbrev callback : Place
callback = Callback 0 1

abbrev fault : Version → Place → Data → Option ScriptFault
fault v p c = line_fault (scope v) p 7 c

no_fault : fault Three job tried ≡ None
no_fault = refl

unknown_in_version_2 : fault Two job tried ≡ Some (at job 7 Operands)
unknown_in_version_2 = refl

no_variable : fault Three job (said (codes "try" ∷ one ∷ codes "new" ∷ o ∷ [])) ≡ Some (at job 7 Name)
no_variable = refl

-- the command's form comes before that
form_comes_first : fault Three job (said (codes "try" ∷ one ∷ codes "new" ∷ [])) ≡ Some (at job 7 Operands)
form_comes_first = refl

word_comes_first : fault Three job (said (codes "try" ∷ one ∷ codes "none" ∷ o ∷ [])) ≡ Some (at job 7 Operands)
word_comes_first = refl

-- and that a callback collects, behind `try` too
collection_comes_first : fault Three callback (said (codes "try" ∷ one ∷ codes "collect" ∷ [])) ≡ Some (at callback 7 Collection)
collection_comes_first = refl

-- where its operands are as many as it takes
operands_come_first : fault Three callback (said (codes "try" ∷ d ∷ codes "collect" ∷ x ∷ [])) ≡ Some (at callback 7 Operands)
operands_come_first = refl

-- but not what is wrong with one operand
variable_comes_first : fault Three job (said (codes "try" ∷ one ∷ codes "let" ∷ x ∷ line_feed ∷ [])) ≡ Some (at job 7 Name)
variable_comes_first = refl

then_the_operand : fault Three job (said (codes "try" ∷ d ∷ codes "let" ∷ x ∷ line_feed ∷ [])) ≡ Some (at job 7 Profile)
then_the_operand = refl

-- `try` stands once, before a command, and behind it a text
tried_twice : fault Three job (said (codes "try" ∷ d ∷ codes "try" ∷ x ∷ codes "new" ∷ o ∷ [])) ≡ Some (at job 7 Operands)
tried_twice = refl

no_command : fault Three job (said (codes "try" ∷ d ∷ [])) ≡ Some (at job 7 Operands)
no_command = refl

no_text : fault Three job (array (item (string (codes "try")) (item null (texts (codes "new" ∷ o ∷ []))))) ≡ Some (at job 7 Operands)
no_text = refl
