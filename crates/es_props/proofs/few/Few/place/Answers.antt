use Rattle.std.proofs.Common.{sym, ◌∙◌, ap, arith}
use Rattle.std.proofs.lemmas.Grind.{common_steps}
use Rattle.std.specs.Str.{bytes_eq}
use Rattle.es_props.proofs.Sought.{absent_more}
use Rattle.es_props.proofs.few.Few.place.Goals as goal

pub loop-at-preserved : goal.loop-at-preserved
loop-at-preserved c =
    let none = rw (← c.self.view_is) at c.loop-at.invariant in
    rw (← c.self.view_is)
    (absent_more c.self.inside.entries.items c.args.key.now c.loop-at.at c.index.result.now (grind (arith, common_steps)) none
    (ap (λ p. bytes_eq p.0 c.args.key.now) (sym c.index.ensures) ∙ sym c.if-eq.ensures))
