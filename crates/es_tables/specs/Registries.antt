-- Internal: what an event does to FinalizationRegistries, their cells and the cleanup queue, and when it can be done.
use Rattle.std.specs.Prelude.{ℕ, ◌≡◌, ◌<◌, ◌-◌, ◌+◌, ◌==◌, ⊤, true, List, [], ◌∷◌, ◌++◌, drop, length, map, Option, Some, None, slice_get, slice_set, if◌then◌else◌}
use Rattle.std.specs.Option.{option_map_or}
use Rattle.es_value.specs.declared.value.Value.{Value}
use Rattle.es_value.specs.declared.value.Value.TheVariants.{Object}
use Rattle.es_value.specs.Values.{identity}
use Rattle.es_event.specs.declared.event.Answer.{Answer}
use Rattle.es_event.specs.declared.event.Answer.TheVariants.{Gives}
use Rattle.es_event.specs.declared.event.Event.{Event}
use Rattle.es_event.specs.declared.event.Event.TheVariants.{JobBegun, CleanupBegun, Received, Did, Refused, Emptied, Taken, JobEnded, Skipped, Closed}
use Rattle.es_event.specs.declared.command.Command.{Command}
use Rattle.es_event.specs.declared.command.Command.TheVariants.{FinalizationRegistry, Register, Unregister}
use Rattle.es_event.specs.Commands.{first}
use Rattle.es_event.specs.History.{History}
use Rattle.es_event.specs.Order.{queues_again}
use Rattle.es_registry.specs.declared.slot.Slot.{Slot}
use Rattle.es_registry.specs.declared.slot.Slot.TheVariants.{Taken as TakenSlot}
use Rattle.es_registry.specs.Slots.{passes_at, is_awaiting, unregistered_by}
use Rattle.es_registry.specs.Registries.{RegistriesView, callback, registered, CanRegister}
use Rattle.es_tables.specs.declared.registries.RegistryChange.{RegistryChange}
use Rattle.es_tables.specs.declared.registries.RegistryChange.TheVariants.{Leaves, Makes, Registers, Unregisters, Takes, Dequeues, Queues}

abbrev pub made_by : ℕ → Answer → RegistryChange
made_by c (Gives (Object r)) = Makes r c
made_by c _ = Leaves

-- what a command changes; no other command changes anything
abbrev pub change_by : Command → List Value → Answer → RegistryChange
change_by (FinalizationRegistry to c) vs a = made_by c a
change_by (Register q y v t) (Object r ∷ w ∷ held ∷ rest) a = option_map_or (λ i. Registers r i held (identity (first rest))) (identity w) Leaves
change_by (Unregister to q t) (Object r ∷ w ∷ []) a = option_map_or (Unregisters r) (identity w) Leaves
change_by _ vs a = Leaves

-- what the event changes; an emptying is done by a call of its own
abbrev pub change : Option ℕ → Event → RegistryChange
change again (JobBegun j) = Leaves
change again (CleanupBegun q) = Dequeues
change again (Received t v) = Leaves
change again (Did (c, vs, r)) = change_by c vs r
change again (Refused code) = Leaves
change again (Emptied ids) = Leaves
change again (Taken n held) = Takes n
change again JobEnded = option_map_or Queues again Leaves
change again (Skipped j t) = Leaves
change again Closed = Leaves

-- what stands after a change

abbrev pub callback_after : RegistryChange → ℕ → Option ℕ → Option ℕ
callback_after (Makes q c) r before = if q == r then Some c else before
callback_after _ r before = before

abbrev pub cells_after : RegistryChange → List Slot → List Slot
cells_after (Registers r i held token) cells = cells ++ registered r i held token (length cells + 1) ∷ []
cells_after (Unregisters r t) cells = map (unregistered_by r t) cells
cells_after (Takes n) cells = slice_set cells (n - 1) TakenSlot
cells_after _ cells = cells

abbrev pub queue_after : RegistryChange → List ℕ → List ℕ
queue_after Dequeues queue = drop 1 queue
queue_after (Queues r) queue = queue ++ r ∷ []
queue_after _ queue = queue

-- a registry that is made is not there yet, and a cell that is taken awaits its cleanup
abbrev pub CanChange : RegistriesView → RegistryChange → Type 0
CanChange t (Makes r c) = callback t r ≡ None
CanChange t (Takes n) = (0 < n) × (passes_at is_awaiting t.cells (n - 1) ≡ true)
CanChange t _ = ⊤

-- there is room for what is added
abbrev pub HasRoomFor : RegistriesView → RegistryChange → Type 0
HasRoomFor t (Makes r c) = 0 < t.registry_room
HasRoomFor t (Registers r i held token) = CanRegister t r token
HasRoomFor t (Queues r) = 0 < t.queue_room
HasRoomFor t _ = ⊤

-- the registry that the end of a job queues again: there is one at most
abbrev pub again_at : History → Option ℕ
again_at h = slice_get (queues_again h) 0
