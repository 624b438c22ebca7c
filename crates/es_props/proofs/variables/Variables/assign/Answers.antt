use Rattle.std.proofs.Common.{sym, ◌∙◌, ap}
use Rattle.std.specs.Prelude.{unwrap_or}
use Rattle.std.specs.Map.{lookup}
use Rattle.std.specs.Str.{bytes_eq}
use Rattle.es_value.specs.declared.value.Value.TheVariants.{Undefined}
use Rattle.es_props.proofs.Overwritten.{unwrapped}
use Rattle.es_props.proofs.Written.{written_at}
use Rattle.es_props.proofs.variables.Variables.assign.Goals as goal

pub returns-clause-ok : goal.returns-clause-ok
returns-clause-ok c x =
    let entries = c.self.inside.values.entries in
    let name = c.args.name.now in
    let here = sym (rw (← c.self.view_is) at c.is_at.ensures) ∙ c.if-not-is_at.false in
    rw (← c.self.view_is, ← c.in_ok-value.ensures, ← c.replace.ensures)
    (ap (λ v. unwrap_or v Undefined) (written_at entries c.guess-guess.result name c.replace.new.place c.get_index_mut.ensures.unique here x)
    ∙ unwrapped (bytes_eq name x) c.replace.new.place (lookup (bytes_eq x) entries) Undefined)
