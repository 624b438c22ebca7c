use Rattle.std.proofs.Common.{◌<◌, ◌∙◌, [], slice_index_or, sym, subst}
use Rattle.std.specs.Result.{OnOk}
use Rattle.std.specs.Io.KnownBytes.{Appends}
use Rattle.std.proofs.lemmas.List.{get_or_default}
use Rattle.es_event.specs.Report.{agent_text}
use Rattle.es_report.proofs.Written.{tally_there}
use Rattle.es_report.proofs.beside.write_at.Goals as goal

pub write_agent-requires : goal.write_agent-requires
write_agent-requires g c = tally_there c.args.histories.now c.args.tallies.now c.args.place _ c.index-histories-place.result c.requires.inside c.requires.tallies c.index-histories-place.is

pub returns : goal.returns
returns g c =
    let before = g.W.Write.contents c.args.writer.now in
    let after = g.W.Write.contents c.write_agent.new.writer in
    let history = c.index-histories-place.is ∙ get_or_default c.args.histories.now c.args.place c.index-histories-place.result [] c.requires.inside in
    let name = c.index-names-place.is ∙ get_or_default c.args.names.now c.args.place c.index-names-place.result [] (subst (λ n. c.args.place < n) (sym c.requires.size) c.requires.inside) in
    subst (λ n. OnOk c.write_agent.result (Appends before after (agent_text n (slice_index_or c.args.histories.now c.args.place [])))) name
    (subst (λ h. OnOk c.write_agent.result (Appends before after (agent_text c.index-names-place.result h))) history c.write_agent.ensures)
