use Rattle.std.proofs.Common.{◌∙◌, ap}
use Rattle.es_trace.specs.Columns.{label, widest}
use Rattle.es_trace.proofs.scribe.Scribe.new.Goals as goal

pub returns : goal.returns
returns c = record {
  name = c.in_ok-label_of.ensures ∙ ap (λ n. label n c.as_str.result.now) c.width_of.ensures ∙ ap (label (widest 1 c.args.names.now)) c.as_str.ensures.same;
  place = c.start.ensures c.args.plan.now;
  told = c.new.ensures;
}
