use Rattle.std.proofs.Common.{◌≡◌, ◌∙◌, ap, sym, Some, None, slice_get}
use Rattle.std.specs.List.{position}
use Rattle.std.specs.Option.{option_and_then}
use Rattle.es_registry.specs.Slots.{awaits, cell_of}
use Rattle.es_registry.proofs.Oldest.{found_at, nothing_found}
use Rattle.es_registry.proofs.Indexing.{awaiting_there}
use Rattle.es_registry.proofs.registries.Registries.next_awaiting.Goals as goal

pub returns-in_err-place-clause-cell : goal.returns-in_err-place-clause-cell
returns-in_err-place-clause-cell c =
    let nowhere : None ≡ position (awaits c.args.registry) c.self.inside.cells.all = rw c.all.ensures.all at c.in_err-place.ensures in
    rw (← c.self.view_is, c.from_residual.ensures)
    (ap (option_and_then cell_of) (sym (nothing_found (awaits c.args.registry) c.self.inside.cells.all nowhere).0))

pub take_at-requires : goal.take_at-requires
take_at-requires c =
    let at : Some c.in_ok-place.place ≡ position (awaits c.args.registry) c.self.inside.cells.all = rw c.all.ensures.all at c.in_ok-place.ensures in
    rw (← c.self.view_is)
    (awaiting_there c.args.registry c.self.inside.cells.all c.in_ok-place.place (found_at (awaits c.args.registry) c.self.inside.cells.all c.in_ok-place.place at).1)

pub returns-clause-cell : goal.returns-clause-cell
returns-clause-cell c =
    let at : Some c.in_ok-place.place ≡ position (awaits c.args.registry) c.self.inside.cells.all = rw c.all.ensures.all at c.in_ok-place.ensures in
    let was : c.take_at.result ≡ option_and_then cell_of (slice_get c.self.inside.cells.all c.in_ok-place.place) = rw (← c.self.view_is) at c.take_at.ensures.cell in
    rw (← c.self.view_is)
    (was ∙ ap (option_and_then cell_of) (sym (found_at (awaits c.args.registry) c.self.inside.cells.all c.in_ok-place.place at).0))
