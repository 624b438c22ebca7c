-- To believe: the command line. Which words stand for which argument of it is clap's to say.
use Rattle.std.specs.Prelude.{ℕ, ◌≡◌, ◌<◌, ◌≤◌, ◌^◌, min, max, Bool, true, false, pos, List, Option, Some, None, codes}
use Rattle.std.specs.Str.{bytes_eq}
use Rattle.std.specs.Str.Parse.{IsNumeral, digits_value, without_leading_plus}
use Rattle.clap.specs.Words.{App, Row, Rule, Text, first_of, new_app, new_rule, one_of, with_rule, with_subcommand}
use Rattle.clap.specs.Simple.{on_top}
use Rattle.clap.specs.declared.builder.command.Command.{Command}
use Rattle.clap.specs.declared.builder.command.Command.TheViews.{out-Command}
use Rattle.clap.specs.declared.builder.action.ArgAction.TheVariants.{Set, SetTrue}
use Rattle.clap.specs.declared.builder.value_parser.ValueParser.TheVariants.{Signed}
use Rattle.es_options.specs.declared.options.Options.{Options}
use Rattle.es_options.specs.declared.view.Form.{Form}
use Rattle.es_options.specs.declared.view.Form.TheVariants.{Rows, Lines, Pictures}
use Rattle.es_options.specs.declared.view.View.{View}
use Rattle.command_line.specs.declared.request.Request.{Request}
use Rattle.command_line.specs.declared.request.Request.TheVariants.{Run, Races, Explain, Trace}

-- Its arguments

abbrev pub file_rule : Rule
file_rule = record (new_rule (codes "FILE")) { action = Some Set }

-- an option without a value
abbrev pub flag_rule : List ℕ → Rule
flag_rule id = record (new_rule id) { long = Some id; action = Some SetTrue }

-- one that may not stand beside another
abbrev pub lone_flag_rule : List ℕ → Rule
lone_flag_rule id = record (flag_rule id) { is_free = false }

-- an option with a number in these bounds
abbrev pub number_rule : List ℕ → ℕ → ℕ → Rule
number_rule id least most = record (new_rule id) {
  long = Some id;
  action = Some Set;
  value_names = 1;
  parser = Some (Signed (pos least) (pos most));
}

abbrev pub run_line : App
run_line =
    with_rule (with_rule (with_rule (with_rule (new_app (codes "run")) file_rule) (flag_rule (codes "turns"))) (number_rule (codes "helpers") 1 8)) (number_rule (codes "watch") 0 1000)

abbrev pub check_line : App
check_line = with_rule (with_rule (new_app (codes "check")) file_rule) (flag_rule (codes "races"))

abbrev pub explain_line : App
explain_line = with_rule (new_app (codes "explain")) file_rule

abbrev pub trace_line : App
trace_line =
    with_rule (with_rule (with_rule (with_rule (new_app (codes "trace")) file_rule) (flag_rule (codes "all"))) (lone_flag_rule (codes "json"))) (flag_rule (codes "dot"))

abbrev pub top_line : App
top_line = on_top (λ s. record s { disable_help_subcommand = true; subcommand_required = true; has_version = true }) (new_app (codes "clusterrun"))

-- `clusterrun run`, `clusterrun check`, `clusterrun explain` and `clusterrun trace`
abbrev pub command_line : App
command_line = with_subcommand (with_subcommand (with_subcommand (with_subcommand top_line run_line.top) check_line.top) explain_line.top) trace_line.top

-- it has no argument that its subcommands have too
abbrev pub IsLocal : Command → Type 0
IsLocal c = (out-Command c).has_globals ≡ false

-- What is asked for

-- the flag is set where its text is true
pub record IsFlag (text : Option Text) (b : Bool) : Type 0 where
  pub absent : text ≡ None → b ≡ false
  pub set : text ≡ Some (codes "true") → b ≡ true
  pub unset : text ≡ Some (codes "false") → b ≡ false

-- the number that the text spells, if it fits so many bits, kept within bounds; or else the usual one
pub record IsNumber (bits least most usual : ℕ) (text : Option Text) (n : ℕ) : Type 0 where
  pub absent : text ≡ None → n ≡ usual
  pub given : (t : Text) → text ≡ Some t → IsNumeral 10 (without_leading_plus t) → digits_value 10 (without_leading_plus t) < 2 ^ bits
      → n ≡ min most (max least (digits_value 10 (without_leading_plus t)))

-- the options of `run`, by the text that is found under each name
pub record AsksRun (text : Text → Option Text) (o : Options) : Type 0 where
  pub check : o.check ≡ false
  pub turns : IsFlag (text (codes "turns")) o.turns
  pub helpers : IsNumber 8 1 8 1 (text (codes "helpers")) o.helpers
  pub watch : IsNumber 16 0 1000 0 (text (codes "watch")) o.watch

-- a check, or its races alone where --races is there
abbrev pub check_asked : (races : Bool) → Request
check_asked true = Races
check_asked false = Run (record { check = true; turns = false; helpers = 1; watch = 0 })

abbrev pub AsksCheck : (text : Text → Option Text) → Request → Type 0
AsksCheck text r = (races : Bool) × IsFlag (text (codes "races")) races × (r ≡ check_asked races)

-- pictures, where --dot is there; else lines, where --json is; else rows. That not both are there is clap's to see to
abbrev pub form_asked : (dot json : Bool) → Form
form_asked true json = Pictures
form_asked false true = Lines
form_asked false false = Rows

-- what a trace is to show, by the text that is found under each name
pub record AsksTrace (text : Text → Option Text) (v : View) : Type 0 where
  pub dot : Bool
  pub json : Bool
  pub is_dot : IsFlag (text (codes "dot")) dot
  pub is_json : IsFlag (text (codes "json")) json
  pub form : v.form ≡ form_asked dot json
  pub all : IsFlag (text (codes "all")) v.all

-- a run's options
abbrev pub AsksPlainly : List Row → Request → Type 0
AsksPlainly rows (Run o) = AsksRun (λ id. one_of id rows) o
AsksPlainly rows Races = ⊥
AsksPlainly rows Explain = ⊥
AsksPlainly rows (Trace v) = ⊥

-- a trace with its view
abbrev pub AsksView : List Row → Request → Type 0
AsksView rows (Run o) = ⊥
AsksView rows Races = ⊥
AsksView rows Explain = ⊥
AsksView rows (Trace v) = AsksTrace (λ id. one_of id rows) v

-- the word explain, the word trace, the word check, or else run
abbrev pub AsksRequest : (explain trace check : Bool) → List Row → Request → Type 0
AsksRequest true trace check rows r = r ≡ Explain
AsksRequest false true check rows r = AsksView rows r
AsksRequest false false true rows r = AsksCheck (λ id. one_of id rows) r
AsksRequest false false false rows r = AsksPlainly rows r

-- the command of this name, with what was found for its arguments, asks for this and this file
pub record Asks (name : Text) (rows : List Row) (r : Request) (file : Option Text) : Type 0 where
  pub request : AsksRequest (bytes_eq name (codes "explain")) (bytes_eq name (codes "trace")) (bytes_eq name (codes "check")) rows r
  pub file_is : file ≡ first_of (codes "FILE") rows

-- no command asks for a plain run
abbrev pub IsAsked : Option (Text × List Row) → Request → Option Text → Type 0
IsAsked None r file = (r ≡ Run (record { check = false; turns = false; helpers = 1; watch = 0 })) × (file ≡ None)
IsAsked (Some found) r file = Asks found.0 found.1 r file

-- a check has no other option, and the two numbers are within their bounds
pub record IsBound (o : Options) : Type 0 where
  pub check : o.check ≡ true → o ≡ record { check = true; turns = false; helpers = 1; watch = 0 }
  pub fewest : 1 ≤ o.helpers
  pub most : o.helpers ≤ 8
  pub watch : o.watch ≤ 1000

abbrev pub KeepsBounds : Request → Type 0
KeepsBounds (Run o) = IsBound o
KeepsBounds Races = Unit {0}
KeepsBounds Explain = Unit {0}
KeepsBounds (Trace v) = Unit {0}
