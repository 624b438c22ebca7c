-- Internal: the cell that the running cleanup job takes next.
use Rattle.std.specs.Prelude.{ℕ, ◌≡◌, Option, Some, None}
use Rattle.std.specs.Option.{option_map, option_and_then}
use Rattle.es_event.specs.History.{History}
use Rattle.es_event.specs.Jobs.{cleaning}
use Rattle.es_event.specs.Registrations.{first_awaiting, cell, fate, awaiting}
use Rattle.es_registry.specs.declared.slot.Cell.{Cell}

-- the registration that the running cleanup job takes next, if it takes one
abbrev pub next_taken : History → Option ℕ
next_taken h = option_and_then (first_awaiting h) (cleaning h)

-- the cell is the one that the running cleanup job takes next: it awaits its cleanup, and holds what it was registered with
pub record IsNextCell (h : History) (c : Cell) : Type 0 where
  pub number : next_taken h ≡ Some c.registration
  pub held : option_map (λ c. c.held) (cell h c.registration) ≡ Some c.held
  pub awaits : fate h c.registration ≡ awaiting

-- a cell is found exactly where one is to be taken
abbrev pub FindsNextCell : History → Option Cell → Type 0
FindsNextCell h None = next_taken h ≡ None
FindsNextCell h (Some c) = IsNextCell h c
