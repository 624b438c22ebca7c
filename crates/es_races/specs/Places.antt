-- To believe: where an access to a word stands in its agent's plan, if no agent of the plan waits at a word or notifies.
use Rattle.std.specs.Prelude.{ℕ, ◌≡◌, ◌+◌, ⊤, [], ◌∷◌, ◌++◌, Option, Some, None}
use Rattle.std.specs.Option.{option_map_or}
use Rattle.es_event.specs.declared.command.Command.{Command}
use Rattle.es_event.specs.declared.event.Event.{Event}
use Rattle.es_event.specs.declared.event.Event.TheVariants.{JobBegun, CleanupBegun, Received, Did, Refused, Emptied, Taken, JobEnded, Skipped, Closed}
use Rattle.es_event.specs.History.{History, latest, total}
use Rattle.es_races.specs.declared.place.Place.{Place}
use Rattle.es_races.specs.declared.place.Section.{Section}
use Rattle.es_races.specs.declared.place.Section.TheVariants.{Job, Callback}

-- the command, where it is an access to a word; no other is one
abbrev pub access_of : Command → Option Command
access_of (Command.Atomic a) = Some (Command.Atomic a)
access_of _ = None

-- the access that the event did
abbrev pub access_in : Event → Option Command
access_in (JobBegun j) = None
access_in (CleanupBegun q) = None
access_in (Received t v) = None
access_in (Did (c, vs, r)) = access_of c
access_in (Refused code) = None
access_in (Emptied ids) = None
access_in (Taken n held) = None
access_in JobEnded = None
access_in (Skipped j t) = None
access_in Closed = None

-- how many accesses the agent made
abbrev pub accesses_in : History → ℕ
accesses_in h = total (λ earlier e. option_map_or (λ c. 1) (access_in e) 0) h

-- the section that begins with the event, if one does
abbrev pub begins : Event → Option Section
begins (JobBegun j) = Some (Job j)
begins (CleanupBegun q) = None
begins (Received t v) = None
begins (Did (c, vs, r)) = None
begins (Refused code) = None
begins (Emptied ids) = None
begins (Taken n held) = Some (Callback n)
begins JobEnded = None
begins (Skipped j t) = None
begins Closed = None

-- the newest that began
abbrev pub section : History → Section
section h = latest (λ earlier e. begins e) (Job 0) h

-- how many of its commands were done; what a collection did is what it emptied
abbrev pub commands : History → ℕ
commands [] = 0
commands (JobBegun j ∷ earlier) = 0
commands (CleanupBegun q ∷ earlier) = commands earlier
commands (Received t v ∷ earlier) = commands earlier
commands (Did (c, vs, r) ∷ earlier) = commands earlier + 1
commands (Refused code ∷ earlier) = commands earlier
commands (Emptied ids ∷ earlier) = commands earlier + 1
commands (Taken n held ∷ earlier) = 0
commands (JobEnded ∷ earlier) = commands earlier
commands (Skipped j t ∷ earlier) = commands earlier
commands (Closed ∷ earlier) = commands earlier

-- the access before which the agent made n others is this command, the kth of this section
pub record IsPlace (h : History) (n : ℕ) (s : Section) (k : ℕ) (c : Command) : Type 0 where
  pub later : History
  pub event : Event
  pub earlier : History
  pub split : h ≡ later ++ event ∷ earlier
  pub access : access_in event ≡ Some c
  pub before : accesses_in earlier ≡ n
  pub within : section earlier ≡ s
  pub number : commands earlier + 1 ≡ k

-- what stands there is an access
abbrev pub TellsAccess : Option Place → Type 0
TellsAccess None = ⊤
TellsAccess (Some p) = access_of p.command.now ≡ Some p.command.now
