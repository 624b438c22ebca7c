use Rattle.std.proofs.Common.{rules, ◌≡◌, ◌∙◌, ap, ap₂}
use Rattle.clap.specs.Words.{App, app_of, with_subcommand}
use Rattle.command_line.specs.CommandLine.{top_line}
use Rattle.command_line.proofs.options.program.Goals as goal

pub returns : goal.returns
returns c =
    let top_is : app_of c.subcommand_required-command.result ≡ top_line = search rules in
    let run_is = ap (λ (a : App). a.top) c.in_ok-run.ensures.app in
    let check_is = ap (λ (a : App). a.top) c.in_ok-check.ensures.app in
    let explain_is = ap (λ (a : App). a.top) c.in_ok-explain.ensures.app in
    let trace_is = ap (λ (a : App). a.top) c.in_ok-trace.ensures.app in
    let run_in = c.in_ok-subcommand.ensures.shape c.in_ok-run.ensures.local ∙ ap₂ with_subcommand top_is run_is in
    let check_in = c.in_ok-subcommand-2.ensures.shape c.in_ok-check.ensures.local ∙ ap₂ with_subcommand run_in check_is in
    let explain_in = c.in_ok-subcommand-3.ensures.shape c.in_ok-explain.ensures.local ∙ ap₂ with_subcommand check_in explain_is in
    c.in_ok-subcommand-4.ensures.shape c.in_ok-trace.ensures.local ∙ ap₂ with_subcommand explain_in trace_is
