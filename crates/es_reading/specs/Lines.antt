-- To believe: what a job or a callback runs, line by line.
use Rattle.std.specs.Prelude.{ℕ, List, [], ◌∷◌, map, Option, Some, None}
use Rattle.es_event.specs.declared.command.Command.{Command}

-- a command, and the variable that catches its refusal, where it stands behind `try` (TryStatement)
abbrev pub Line : Type 0
Line = Option (List ℕ) × Command

abbrev pub commands_in : List Line → List Command
commands_in ls = map (λ l. l.1) ls

-- one more variable in front: where none catches anything, there is no list
abbrev pub and_catch : Option (List ℕ) → List (Option (List ℕ)) → List (Option (List ℕ))
and_catch None [] = []
and_catch None (x ∷ xs) = None ∷ x ∷ xs
and_catch (Some y) xs = Some y ∷ xs

-- the variables, up to the last line that has one
abbrev pub catches_in : List Line → List (Option (List ℕ))
catches_in [] = []
catches_in (l ∷ ls) = and_catch l.0 (catches_in ls)
