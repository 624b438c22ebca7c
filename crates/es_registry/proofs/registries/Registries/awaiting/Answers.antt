use Rattle.std.proofs.Common.{◌≡◌, ◌∙◌, ap, sym, Some, None, slice_get}
use Rattle.std.specs.List.{position}
use Rattle.std.specs.Option.{option_and_then}
use Rattle.es_registry.specs.Slots.{awaits, cell_of}
use Rattle.es_registry.proofs.Oldest.{found_at, nothing_found}
use Rattle.es_registry.proofs.registries.Registries.awaiting.Goals as goal

pub returns-in_err-place : goal.returns-in_err-place
returns-in_err-place c =
    let nowhere : None ≡ position (awaits c.args.registry) c.self.inside.cells.all = rw c.all-slots.ensures.all at c.in_err-place.ensures in
    rw (← c.self.view_is, c.from_residual.ensures)
    (ap (option_and_then cell_of) (sym (nothing_found (awaits c.args.registry) c.self.inside.cells.all nowhere).0))

pub returns : goal.returns
returns c =
    let at : Some c.in_ok-place.place ≡ position (awaits c.args.registry) c.self.inside.cells.all = rw c.all-slots.ensures.all at c.in_ok-place.ensures in
    rw (← c.self.view_is)
    (c.cell_at.ensures ∙ ap (λ xs. option_and_then cell_of (slice_get xs c.in_ok-place.place)) c.all-slots.ensures.all
    ∙ ap (option_and_then cell_of) (sym (found_at (awaits c.args.registry) c.self.inside.cells.all c.in_ok-place.place at).0))
