-- What holds of each command of a plan that is read, by the table of commands, holds of all its commands.
use Rattle.std.proofs.Common.{ℕ, ◌≡◌, Bool, true, false, List, [], ◌∷◌, Option, Some, None, refl, sym, subst}
use Rattle.std.specs.Prelude.{if◌then◌else◌}
use Rattle.std.specs.List.{list_all}
use Rattle.serde_json.specs.Data.{Data, string, array, object, Items, no_items, item, Members, no_members, member}
use Rattle.serde_json.specs.Events.{items_len}
use Rattle.es_event.specs.declared.access.Modification.{Modification}
use Rattle.es_event.specs.declared.command.Command.{Command}
use Rattle.es_event.specs.declared.plan.Callback.{Callback}
use Rattle.es_event.specs.Commands.{opens_or_collects}
use Rattle.es_event.specs.Others.{posts_where}
use Rattle.es_reading.specs.Scope.{Numbers, Scope}
use Rattle.es_reading.specs.Forms.{OperandType, name, literal, text, callback, agent, whole, amount, words, Meaning, Makes, Form, form, later_form, load_form, store_form, modify_form, compare_form, wait_form, count_form, notify_form, modify_or, weak_form, shared_form, registry_form, is_allowed, takes, takes_in_jobs}
use Rattle.es_script.specs.Grammar.{IsReference, Means, AreOperands, IsCommand, IsLine, AreLines, IsBody, AreCallbacks, HasCallbacks}
use Rattle.es_reading.specs.Lines.{Line, commands_in}
use Rattle.es_reading.specs.Reading.{Meanings, made}
use Rattle.es_script.proofs.Sound.{both_true}
use Rattle.es_reading.specs.declared.version.Version.{Version}
use Rattle.es_reading.specs.declared.version.Version.TheVariants.{One, Two, Three}

-- Agents that are named

-- each number passes the test
abbrev pub AllPass : (ℕ → Bool) → Numbers → Type 0
AllPass test numbers = (n : List ℕ) (x : ℕ) → numbers n ≡ Some x → test x ≡ true

pub reference_passes : (test : ℕ → Bool) (numbers : Numbers) → AllPass test numbers → (d : Data) (x : ℕ) → IsReference numbers d x → test x ≡ true
reference_passes test numbers pass (string s) x h = pass s x h.1
reference_passes test numbers pass _ x h = absurd h

-- an agent among the operands passes the test
abbrev is_passed : (ℕ → Bool) → (k : OperandType) → Meaning k → Bool
is_passed test agent n = test n
is_passed test _ x = true

abbrev ArePassed : (ℕ → Bool) → (ks : List OperandType) → Meanings ks → Type 0
ArePassed test [] xs = Unit {0}
ArePassed test (k ∷ ks) xs = (is_passed test k xs.0 ≡ true) × ArePassed test ks xs.1

operand_passes : (test : ℕ → Bool) (scope : Scope) → AllPass test scope.agents → (k : OperandType) (d : Data) (x : Meaning k) → Means scope k d x → is_passed test k x ≡ true
operand_passes test scope pass agent d x h = reference_passes test scope.agents pass d x h
operand_passes test scope pass name d x h = refl
operand_passes test scope pass literal d x h = refl
operand_passes test scope pass text d x h = refl
operand_passes test scope pass callback d x h = refl
operand_passes test scope pass whole d x h = refl
operand_passes test scope pass amount d x h = refl
operand_passes test scope pass words d x h = refl

-- The table of commands

-- where a callback may have the form, it makes no command that collects, at once or later; it posts to agents among its operands alone
abbrev Harmless : Option Form → Type 0
Harmless None = Unit {0}
Harmless (Some f) =
    (xs : Meanings f.types)
    → (is_allowed true f ≡ true → opens_or_collects (made f.types f.makes xs) ≡ false)
    × ((test : ℕ → Bool) → ArePassed test f.types xs → posts_where test (made f.types f.makes xs) ≡ true)

harmless_if : (b : Bool) (o p : Option Form) → Harmless o → Harmless p → Harmless (if b then o else p)
harmless_if true o p h k = h
harmless_if false o p h k = k

-- of those that collect or post; of all others it shows by computing
collect_harmless : Harmless (takes_in_jobs [] Command.Collect)
collect_harmless = λ xs. (λ a. sym a, λ t p. refl)

later_harmless : (v : Version) → Harmless (later_form v)
later_harmless One = tt
later_harmless Two = λ xs. (λ a. sym a, λ t p. refl)
later_harmless Three = λ xs. (λ a. sym a, λ t p. refl)

post_harmless : Harmless (takes (agent ∷ name ∷ []) Command.Post)
post_harmless = λ xs. (λ a. refl, λ t p. p.0)

-- of words of shared memory, in each version
load_harmless : (v : Version) → Harmless (load_form v)
load_harmless One = λ xs. (λ a. refl, λ t p. refl)
load_harmless Two = λ xs. (λ a. refl, λ t p. refl)
load_harmless Three = λ xs. (λ a. refl, λ t p. refl)

store_harmless : (v : Version) → Harmless (store_form v)
store_harmless One = λ xs. (λ a. refl, λ t p. refl)
store_harmless Two = λ xs. (λ a. refl, λ t p. refl)
store_harmless Three = λ xs. (λ a. refl, λ t p. refl)

compare_harmless : (v : Version) → Harmless (compare_form v)
compare_harmless One = tt
compare_harmless Two = tt
compare_harmless Three = λ xs. (λ a. refl, λ t p. refl)

wait_harmless : (v : Version) → Harmless (wait_form v)
wait_harmless One = tt
wait_harmless Two = tt
wait_harmless Three = λ xs. (λ a. refl, λ t p. refl)

count_harmless : (n : ℕ) → Harmless (count_form n)
count_harmless n = search harmless_if depth 40

notify_harmless : (v : Version) (n : ℕ) → Harmless (notify_form v n)
notify_harmless One n = tt
notify_harmless Two n = tt
notify_harmless Three n = count_harmless n

modify_harmless : (v : Version) (how : Modification) → Harmless (modify_form v how)
modify_harmless Three how = λ xs. (λ a. refl, λ t p. refl)
modify_harmless One Modification.Add = λ xs. (λ a. refl, λ t p. refl)
modify_harmless One _ = tt
modify_harmless Two Modification.Add = λ xs. (λ a. refl, λ t p. refl)
modify_harmless Two _ = tt

modify_or_harmless : (v : Version) (o : Option Modification) (f : Option Form) → Harmless f → Harmless (modify_or v o f)
modify_or_harmless v None f h = h
modify_or_harmless v (Some how) f h = modify_harmless v how

registry_harmless : (w : List ℕ) (n : ℕ) → Harmless (registry_form w n)
registry_harmless w n = search harmless_if depth 40

shared_harmless : (v : Version) (w : List ℕ) (n : ℕ) → Harmless (shared_form v w n)
shared_harmless v w n = search (harmless_if, post_harmless, load_harmless, store_harmless, compare_harmless, wait_harmless, notify_harmless, modify_or_harmless, registry_harmless) depth 40

weak_harmless : (v : Version) (w : List ℕ) (n : ℕ) → Harmless (weak_form v w n)
weak_harmless v w n = search (harmless_if, shared_harmless) depth 40

form_harmless : (v : Version) (w : List ℕ) (n : ℕ) → Harmless (form v w n)
form_harmless v w n = search (harmless_if, collect_harmless, later_harmless, weak_harmless) depth 40

-- Commands

operands_made : (scope : Scope) (ks : List OperandType) (make : Makes ks) (ds : Items) (c : Command) → AreOperands scope ks make ds c
    → (xs : Meanings ks) × (made ks make xs ≡ c) × ((test : ℕ → Bool) → AllPass test scope.agents → ArePassed test ks xs)
operands_made scope [] make no_items c h = (tt, sym h, λ t p. tt)
operands_made scope [] make (item d ds) c h = absurd h
operands_made scope (k ∷ ks) make no_items c h = absurd h
operands_made scope (k ∷ ks) make (item d ds) c h =
    let rest = operands_made scope ks (make h.0) ds c h.2 in
    ((h.0, rest.0), rest.1, λ t p. (operand_passes t scope p k d h.0 h.1, rest.2 t p))

pub command_harmless : (scope : Scope) (d : Data) (c : Command) → IsCommand scope true d c → opens_or_collects c ≡ false
command_harmless scope (array (item (string w) ds)) c h =
    let all = operands_made scope h.0.types h.0.makes ds c h.3 in
    subst (λ c. opens_or_collects c ≡ false) all.1 ((subst Harmless h.1 (form_harmless scope.version w (items_len ds)) all.0).0 h.2)
command_harmless scope _ c h = absurd h

pub command_posts : (test : ℕ → Bool) (scope : Scope) (in_callback : Bool) → AllPass test scope.agents → (d : Data) (c : Command) → IsCommand scope in_callback d c → posts_where test c ≡ true
command_posts test scope in_callback pass (array (item (string w) ds)) c h =
    let all = operands_made scope h.0.types h.0.makes ds c h.3 in
    subst (λ c. posts_where test c ≡ true) all.1 ((subst Harmless h.1 (form_harmless scope.version w (items_len ds)) all.0).1 test (all.2 test pass))
command_posts test scope in_callback pass _ c h = absurd h

-- All commands

-- each command of a line is one, behind `try` or not
line_passes : (test : Command → Bool) (scope : Scope) (in_callback : Bool) → ((d : Data) (c : Command) → IsCommand scope in_callback d c → test c ≡ true)
    → (d : Data) (l : Line) → IsLine scope in_callback d l → test l.1 ≡ true
line_passes test scope in_callback each d (None, c) h = each d c h
line_passes test scope in_callback each (array (item (string w) (item d ds))) (Some x, c) h = each (array ds) c h.2
line_passes test scope in_callback each _ (Some x, c) h = absurd h

lines_pass : (test : Command → Bool) (scope : Scope) (in_callback : Bool) → ((d : Data) (c : Command) → IsCommand scope in_callback d c → test c ≡ true)
    → (ds : Items) (ls : List Line) → AreLines scope in_callback ds ls → list_all test (commands_in ls) ≡ true
lines_pass test scope in_callback each no_items [] h = refl
lines_pass test scope in_callback each no_items (l ∷ ls) h = absurd h
lines_pass test scope in_callback each (item d ds) [] h = absurd h
lines_pass test scope in_callback each (item d ds) (l ∷ ls) h = both_true _ _ (line_passes test scope in_callback each d l h.0) (lines_pass test scope in_callback each ds ls h.1)

pub body_passes : (test : Command → Bool) (scope : Scope) (in_callback : Bool) → ((d : Data) (c : Command) → IsCommand scope in_callback d c → test c ≡ true)
    → (o : Option Data) (cs : List Command) (xs : List (Option (List ℕ))) → IsBody scope in_callback o cs xs → list_all test cs ≡ true
body_passes test scope in_callback each (Some (array ds)) cs xs h = rw h.3 (lines_pass test scope in_callback each ds h.0 h.1)
body_passes test scope in_callback each _ cs xs h = absurd h

callbacks_pass : (test : List Command → Bool) (scope : Scope) → ((o : Option Data) (cs : List Command) (xs : List (Option (List ℕ))) → IsBody scope true o cs xs → test cs ≡ true)
    → (ms : Members) (cs : List Callback) → AreCallbacks scope ms cs → list_all (λ c. test c.run) cs ≡ true
callbacks_pass test scope each no_members [] h = refl
callbacks_pass test scope each no_members (c ∷ cs) h = absurd h
callbacks_pass test scope each (member n d ms) [] h = absurd h
callbacks_pass test scope each (member n d ms) (c ∷ cs) h = both_true _ _ (each (Some d) c.run c.catches h.2) (callbacks_pass test scope each ms cs h.3)

pub callbacks_pass_at : (test : List Command → Bool) (scope : Scope) → ((o : Option Data) (cs : List Command) (xs : List (Option (List ℕ))) → IsBody scope true o cs xs → test cs ≡ true)
    → (o : Option Data) (cs : List Callback) → HasCallbacks scope o cs → list_all (λ c. test c.run) cs ≡ true
callbacks_pass_at test scope each (Some (object ms)) cs h = callbacks_pass test scope each ms cs h.0
callbacks_pass_at test scope each _ cs h = absurd h
