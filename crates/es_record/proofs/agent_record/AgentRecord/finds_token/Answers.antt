use Rattle.std.proofs.Common.{◌∙◌, sym, ap, false}
use Rattle.std.specs.Option.{option_map_or}
use Rattle.es_event.specs.Registrations.{finds_token}
use Rattle.es_record.proofs.Cells.{finds_said}
use Rattle.es_record.proofs.agent_record.AgentRecord.finds_token.Goals as goal

pub returns-in-Some : goal.returns-in-Some
returns-in-Some c =
    let h = c.self.inside.events.events in
    rw (← c.self.view_is)
    (c.finds_token.ensures ∙ finds_said h c.self.inside.tables.registries.cells c.args.registry c.in-Some.token c.self.invariant.0.says.cells
    ∙ ap (λ i. option_map_or (finds_token h c.args.registry) i false) (sym c.in-Some.is ∙ c.identity.ensures))
