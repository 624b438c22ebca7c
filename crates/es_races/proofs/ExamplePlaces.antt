-- An agent that stores in its first job, and loads in a callback after a collection there: where these two stand, and how they are told.
use Rattle.std.proofs.Common.{◌≡◌, ap, ap₂, refl, ◌∙◌, List, [], ◌∷◌, ◌++◌, Some, codes}
use Rattle.std.specs.Prelude.{ℕ, pos, decimal}
use Rattle.std.specs.Fmt.{digits}
use Rattle.std.specs.Option.{option_map_or}
use Rattle.es_value.specs.declared.value.Value.TheVariants.{Number, Object, Undefined}
use Rattle.es_event.specs.declared.command.Command.{Command}
use Rattle.es_event.specs.declared.command.Command.TheVariants.{SharedArrayBuffer, Say}
use Rattle.es_event.specs.declared.event.Answer.TheVariants.{Nothing, Gives}
use Rattle.es_event.specs.declared.event.Event.TheVariants.{JobBegun, CleanupBegun, Did, Emptied, Taken, JobEnded}
use Rattle.es_event.specs.History.{History}
use Rattle.es_event.proofs.Examples.{load, store}
use Rattle.es_trace.specs.Commands.{plain_text}
use Rattle.es_trace.specs.declared.style.Style.TheVariants.{Words}
use Rattle.es_races.specs.declared.place.Place.{Place}
use Rattle.es_races.specs.declared.place.Section.TheVariants.{Job, Callback}
use Rattle.es_races.specs.declared.text.Spot.{Spot}
use Rattle.es_races.specs.Places.{IsPlace, accesses_in, commands, section}
use Rattle.es_races.specs.Texts.{line_text, place_text, race_text, section_text}

abbrev b : List ℕ
b = codes "b"

abbrev stores : Command
stores = store b (pos 0) (pos 5)

abbrev loads : Command
loads = load (codes "x") b (pos 0)

-- in its first job it makes a buffer and stores, in its second it empties an object and stores nothing
abbrev made : History
made = Did (SharedArrayBuffer b 1, [], Gives (Object 1)) ∷ JobBegun 1 ∷ []

abbrev stored : History
stored = Did (stores, Object 1 ∷ [], Nothing) ∷ made

abbrev collected : History
collected = Emptied (2 ∷ []) ∷ Did (Say b, Object 1 ∷ [], Nothing) ∷ JobBegun 2 ∷ JobEnded ∷ stored

-- the callback for the third registration collects once more, says, and loads
abbrev called : History
called = Did (Say b, Object 1 ∷ [], Nothing) ∷ Emptied [] ∷ Taken 3 Undefined ∷ CleanupBegun 4 ∷ JobEnded ∷ collected

abbrev loaded : History
loaded = JobEnded ∷ Did (loads, Object 1 ∷ [], Gives (Number (pos 5))) ∷ called

the_store : IsPlace loaded 0 (Job 1) 2 stores
the_store = record {
  later = JobEnded ∷ Did (loads, Object 1 ∷ [], Gives (Number (pos 5))) ∷ Did (Say b, Object 1 ∷ [], Nothing) ∷ Emptied [] ∷ Taken 3 Undefined ∷ CleanupBegun 4 ∷ JobEnded ∷ Emptied (2 ∷ []) ∷ Did (Say b, Object 1 ∷ [], Nothing) ∷ JobBegun 2 ∷ JobEnded ∷ [];
  event = Did (stores, Object 1 ∷ [], Nothing);
  earlier = made;
  split = refl;
  access = refl;
  before = refl;
  within = refl;
  number = refl;
}

the_load : IsPlace loaded 1 (Callback 3) 3 loads
the_load = record {
  later = JobEnded ∷ [];
  event = Did (loads, Object 1 ∷ [], Gives (Number (pos 5)));
  earlier = called;
  split = refl;
  access = refl;
  before = refl;
  within = refl;
  number = refl;
}

-- the collection is the second command of the second job
second_job : section collected ≡ Job 2
second_job = refl

two_done : commands collected ≡ 2
two_done = refl

-- two accesses, and no more
two_accesses : accesses_in loaded ≡ 2
two_accesses = refl

-- How they are told

in_a_job : section_text (Job 12) ≡ codes ", job 12"
unfolding digits
in_a_job = refl

in_a_callback : section_text (Callback 3) ≡ codes ", callback for registration 3"
unfolding digits
in_a_callback = refl

words : plain_text Words stores ≡ codes "store b 0 5"
unfolding digits
words = refl

number : ◌≡◌ {A = List ℕ} (decimal 2) (codes "2")
unfolding digits
number = refl

at_a_place : (p : Place) → p.section ≡ Job 12 → p.number ≡ 2 → p.command.now ≡ stores → place_text p ≡ codes ", job 12, command 2: store b 0 5"
at_a_place p section number_is command =
    ap₂ (λ s c. s ++ codes ", command " ++ decimal p.number ++ codes ": " ++ c) (ap section_text section ∙ in_a_job) (ap (plain_text Words) command ∙ words)
    ∙ ap (λ n. codes ", job 12" ++ codes ", command " ++ n ++ codes ": " ++ codes "store b 0 5") (ap decimal number_is ∙ number)

on_a_line : (s : Spot) (p : Place) → s.name.now ≡ codes "main" → s.place ≡ Some p → p.section ≡ Job 12 → p.number ≡ 2 → p.command.now ≡ stores → line_text s ≡ codes "main, job 12, command 2: store b 0 5\n"
on_a_line s p name place section number_is command =
    ap₂ (λ n o. n ++ o ++ codes "\n") name (ap (λ o. option_map_or place_text o []) place ∙ at_a_place p section number_is command)

two_lines : (x y : Spot) → line_text x ≡ codes "x\n" → line_text y ≡ codes "y\n" → race_text x y ≡ codes "race\nx\ny\n"
two_lines x y first second = ap₂ (λ a b. codes "race\n" ++ a ++ b) first second
