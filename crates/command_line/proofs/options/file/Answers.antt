use Rattle.std.proofs.Common.{rules, ◌≡◌, ◌∙◌, Some, None, string_bytes, codes}
use Rattle.clap.specs.Words.{found_of, first_value}
use Rattle.clap.proofs.WalkLemmas.{first_value-rows}
use Rattle.command_line.proofs.options.file.Goals as goal

pub returns-in_ok-from_str-in-Some : goal.returns-in_ok-from_str-in-Some
returns-in_ok-from_str-in-Some c =
    let found : Some (string_bytes c.in_ok-from_str-in-Some.field-0) ≡ first_value (found_of c.args.matches.now) (codes "FILE") = search rules in
    found ∙ first_value-rows (found_of c.args.matches.now) (codes "FILE")

pub returns-in-None : goal.returns-in-None
returns-in-None c =
    let found : None ≡ first_value (found_of c.args.matches.now) (codes "FILE") = search rules in
    found ∙ first_value-rows (found_of c.args.matches.now) (codes "FILE")
