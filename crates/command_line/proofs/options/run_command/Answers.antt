use Rattle.std.proofs.Common.{rules, ◌≡◌, ◌∙◌, codes, ap₂}
use Rattle.clap.specs.Words.{app_of, new_app, with_rule}
use Rattle.command_line.proofs.options.run_command.Goals as goal

pub returns-clause-app : goal.returns-clause-app
returns-clause-app c =
    let start_is : app_of c.about-command.result ≡ new_app (codes "run") = search rules in
    let file_in = c.in_ok-arg.ensures.shape c.file_arg-file.ensures.local ∙ ap₂ with_rule start_is c.file_arg-file.ensures.rule in
    let turns_in = c.in_ok-arg-2.ensures.shape c.flag_arg-turns.ensures.local ∙ ap₂ with_rule file_in c.flag_arg-turns.ensures.rule in
    let helpers_in = c.in_ok-arg-3.ensures.shape c.helpers_arg-helpers.ensures.local ∙ ap₂ with_rule turns_in c.helpers_arg-helpers.ensures.rule in
    c.in_ok-arg-4.ensures.shape c.watch_arg-watch.ensures.local ∙ ap₂ with_rule helpers_in c.watch_arg-watch.ensures.rule
