-- To believe: what is left of an agent that did not take a ticket in.
use Rattle.std.specs.Prelude.{◌≡◌}
use Rattle.es_record.specs.AgentView.{AgentView}
use Rattle.es_agent.specs.declared.admission.AdmitFault.{AdmitFault}
use Rattle.es_agent.specs.declared.admission.AdmitFault.TheVariants.{Refused, NoMemory}
use Rattle.es_agent.specs.Tickets.{RefusesMessage}

-- the message was refused, or nothing has changed
abbrev pub FailsToAdmit : AgentView → AdmitFault → AgentView → Type 0
FailsToAdmit old Refused new = RefusesMessage old new
FailsToAdmit old NoMemory new = new ≡ old
