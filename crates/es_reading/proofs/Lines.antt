-- One more line behind others.
use Rattle.std.proofs.Common.{◌≡◌, ℕ, suc, ◌-◌, refl, ap, sym, ◌∙◌, arith, List, [], ◌∷◌, ◌++◌, length, replicate, Option, Some, None, Result, Ok, Err}
use Rattle.es_event.specs.declared.command.Command.{Command}
use Rattle.std.specs.Prelude.{OnOk}
use Rattle.std.proofs.lemmas.List.{length-map, map-append}
use Rattle.es_reading.specs.declared.run.Run.{Run}
use Rattle.es_reading.specs.Lines.{Line, and_catch, catches_in, commands_in}
use Rattle.es_reading.specs.Run.{HasLines}

-- one that has no variable adds none
pub plain_last : (ls : List Line) (c : Command) → catches_in (ls ++ (None, c) ∷ []) ≡ catches_in ls
plain_last [] c = refl
plain_last (l ∷ ls) c = ap (and_catch l.0) (plain_last ls c)

and_last : (y : Option (List ℕ)) (front : List (Option (List ℕ))) (z : Option (List ℕ)) → and_catch y (front ++ z ∷ []) ≡ y ∷ (front ++ z ∷ [])
and_last None [] (Some z) = refl
and_last None [] None = refl
and_last None (f ∷ front) z = refl
and_last (Some y) front z = refl

-- up to the place of the next command
abbrev pub filled : List (Option (List ℕ)) → ℕ → List (Option (List ℕ))
filled k n = k ++ replicate (n - length k) None

one_less : (n m : ℕ) → suc n - suc m ≡ n - m
one_less n m = omega arith

none_less : (n : ℕ) → n - 0 ≡ n
none_less n = omega arith

filled_more : (y : Option (List ℕ)) (k : List (Option (List ℕ))) (n : ℕ) → filled (and_catch y k) (suc n) ≡ y ∷ filled k n
filled_more None [] n = ap (λ m. replicate m None) (none_less (suc n)) ∙ sym (ap (λ m. None ∷ replicate m None) (none_less n))
filled_more None (v ∷ k) n = ap (λ m. None ∷ v ∷ k ++ replicate m None) (one_less n (length (v ∷ k)))
filled_more (Some y) k n = ap (λ m. Some y ∷ k ++ replicate m None) (one_less n (length k))

pub caught_last : (ls : List Line) (x : List ℕ) (c : Command) → catches_in (ls ++ (Some x, c) ∷ []) ≡ filled (catches_in ls) (length ls) ++ Some x ∷ []
caught_last [] x c = refl
caught_last (l ∷ ls) x c =
    ap (and_catch l.0) (caught_last ls x c) ∙ and_last l.0 (filled (catches_in ls) (length ls)) (Some x)
    ∙ sym (ap (λ k. k ++ Some x ∷ []) (filled_more l.0 (catches_in ls) (length ls)))

-- What a run has after one more line

commands_more : (ls : List Line) (l : Line) (old new : List Command) → old ≡ commands_in ls → new ≡ old ++ l.1 ∷ [] → new ≡ commands_in (ls ++ l ∷ [])
commands_more ls l old new has more = more ∙ ap (λ cs. cs ++ l.1 ∷ []) has ∙ sym (map-append (λ (l : Line). l.1) ls (l ∷ []))

pub plain_more : {A E : Type 0} (r : Result A E) (old new : Run) (c : Command) → OnOk r (new.commands ≡ old.commands ++ c ∷ []) → new.catches ≡ old.catches
    → OnOk r ((ls : List Line) → HasLines ls old → HasLines (ls ++ (None, c) ∷ []) new)
plain_more (Ok x) old new c commands catches = λ ls has. (commands_more ls (None, c) old.commands new.commands has.0 commands, catches ∙ has.1 ∙ sym (plain_last ls c))
plain_more (Err e) old new c commands catches = commands

pub caught_more : {A E : Type 0} (r : Result A E) (old new : Run) (x : List ℕ) (c : Command) → OnOk r (new.commands ≡ old.commands ++ c ∷ []) → new.catches ≡ filled old.catches (length old.commands) ++ Some x ∷ []
    → OnOk r ((ls : List Line) → HasLines ls old → HasLines (ls ++ (Some x, c) ∷ []) new)
caught_more (Ok z) old new x c commands catches = λ ls has. (
  commands_more ls (Some x, c) old.commands new.commands has.0 commands,
  catches
      ∙ ap (λ n. filled old.catches n ++ Some x ∷ []) (ap length has.0 ∙ length-map ls (λ (l : Line). l.1))
      ∙ ap (λ k. filled k (length ls) ++ Some x ∷ []) has.1
      ∙ sym (caught_last ls x c),
)
caught_more (Err e) old new x c commands catches = commands
