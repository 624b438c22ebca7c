use Rattle.std.proofs.Common.{ℕ, ◌≡◌, List, Option, Some, None, IfSome, option_map, slice_get, Bor}
use Rattle.std.specs.HashMap.{get}
use Rattle.std.specs.Str.{bytes_eq}
use Rattle.es_warnings.specs.Known.{IsEntry}
use Rattle.es_warnings.specs.declared.variables.Known.{Known}
use Rattle.es_warnings.proofs.Noting.{entry_at}
use Rattle.es_warnings.proofs.variables.Variables.at.Goals as goal

pub returns-clause-entry : goal.returns-clause-entry
returns-clause-entry c = by c.get_index.result c.get_index.ensures.entry c.get_index.ensures.value
  where
    by : (o : Option (Bor (List ℕ) × Bor Known)) → option_map (λ p. (p.0.now, p.1.now)) o ≡ slice_get c.self.inside.known.entries c.args.index → IfSome o (λ p. get bytes_eq c.self.inside.known p.0.now ≡ Some p.1.now)
        → IfSome o (λ p. IsEntry c.args.self.now c.args.index p.0.now p.1.now)
    by None at is = is
    by (Some p) at is = entry_at c.args.self.now c.self.inside.known c.args.index p.0.now p.1.now c.self.view_is at is
