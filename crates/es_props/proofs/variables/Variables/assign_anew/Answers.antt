use Rattle.std.proofs.Common.{◌∙◌, ap}
use Rattle.std.specs.Prelude.{unwrap_or}
use Rattle.std.specs.Map.{lookup}
use Rattle.std.specs.Str.{bytes_eq}
use Rattle.es_value.specs.declared.value.Value.TheVariants.{Undefined}
use Rattle.es_props.proofs.Overwritten.{unwrapped}
use Rattle.es_props.proofs.variables.Variables.assign_anew.Goals as goal

pub returns-clause-ok : goal.returns-clause-ok
returns-clause-ok c x =
    rw (← c.self.view_is, ← c.in_ok-name.ensures)
    (ap (λ v. unwrap_or v Undefined) (c.in_ok-place.ensures.ok.0 x) ∙ unwrapped (bytes_eq c.in_ok-name.name x) c.args.value (lookup (bytes_eq x) c.self.inside.values.entries) Undefined)
