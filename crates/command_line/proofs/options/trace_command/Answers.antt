use Rattle.std.proofs.Common.{rules, ◌≡◌, ◌∙◌, codes, ap₂}
use Rattle.clap.specs.Words.{app_of, new_app, with_rule}
use Rattle.command_line.proofs.options.trace_command.Goals as goal

pub returns-clause-app : goal.returns-clause-app
returns-clause-app c =
    let start_is : app_of c.about-command.result ≡ new_app (codes "trace") = search rules in
    let file_in = c.in_ok-arg.ensures.shape c.file_arg-file.ensures.local ∙ ap₂ with_rule start_is c.file_arg-file.ensures.rule in
    let all_in = c.in_ok-arg-2.ensures.shape c.flag_arg-all.ensures.local ∙ ap₂ with_rule file_in c.flag_arg-all.ensures.rule in
    let json_in = c.in_ok-arg-3.ensures.shape c.in_ok-json.ensures.local ∙ ap₂ with_rule all_in c.in_ok-json.ensures.rule in
    c.in_ok-arg-4.ensures.shape c.flag_arg-dot.ensures.local ∙ ap₂ with_rule json_in c.flag_arg-dot.ensures.rule
