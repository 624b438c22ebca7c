use Rattle.std.proofs.Common.{ap, ◌∙◌, reverse}
use Rattle.std.proofs.lemmas.Slice.Zip.{either_empty_from_Zip}
use Rattle.es_report.specs.Tallies.{end_tally}
use Rattle.es_report.proofs.Agents.{none_of, one_written}
use Rattle.es_report.proofs.report.write_all_agents.Goals as goal

pub write_agent-requires : goal.write_agent-requires
write_agent-requires g c = c.tally_back-tally.ensures ∙ ap (λ es. end_tally (reverse es)) c.as_slice.ensures

pub loop-name-preserved : goal.loop-name-preserved
loop-name-preserved g c = λ last rest. c.loop-name.invariant last (one_written _ _ last _ _ _ _ _ _ c.in-Some.ensures.steps.0 c.in-Some.ensures.steps.1 c.in_ok-write_agent.ensures rest)

pub returns : goal.returns
returns g c = c.loop-name.invariant _ (none_of _ _ _ (either_empty_from_Zip c.loop-name.name-iterator c.next.new.self _ c.in-None.is c.next.ensures.steps))
