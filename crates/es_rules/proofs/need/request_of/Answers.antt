use Rattle.std.proofs.Common.{◌∙◌, ap, sym}
use Rattle.es_rules.specs.Needs.{request}
use Rattle.es_rules.proofs.Numbers.{request_there}
use Rattle.es_rules.proofs.need.request_of.Goals as goal

pub returns-in-Post : goal.returns-in-Post
returns-in-Post c = c.post_request.ensures ∙ ap (request c.args.agent.now) (sym c.in-Post.is)

pub returns-in-Atomic : goal.returns-in-Atomic
returns-in-Atomic c = c.word_request.ensures ∙ sym (request_there c.args.agent.now c.in-Atomic.atomic) ∙ ap (request c.args.agent.now) (sym c.in-Atomic.is)
