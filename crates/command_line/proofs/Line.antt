-- What was found for the arguments, by the rows of it; an option that may not stand beside another; and why words that
-- are taken fail.
use Rattle.std.proofs.Common.{◌≡◌, ◌∙◌, ap, refl, ℕ, List, [], ◌∷◌, length, Bool, true, false, codes, arith, length-append, ne_eqb, Result, Ok, Err, IfErr}
use Rattle.std.specs.Result.{IsErrAnd}
use Rattle.std.specs.Prelude.{not, ◌&&◌, ◌==◌}
use Rattle.std.specs.Borrow.{Bor}
use Rattle.std.proofs.lemmas.Bool.{and_parts}
use Rattle.clap.specs.Words.{App, Row, Rule, Text, AddsConflicts, kind_of, one_of, one_text, rows_of, rule_of, takes}
use Rattle.clap.specs.declared.error.Error.{Error}
use Rattle.clap.specs.declared.error.kind.ErrorKind.TheVariants.{OutOfMemory}
use Rattle.clap.specs.declared.parser.matches.Found.{Found}
use Rattle.clap.specs.Walk.{is_free_arg}
use Rattle.clap.specs.declared.builder.arg.Arg.{Arg}
use Rattle.clap.proofs.WalkLemmas.{one_text-rows}
use Rattle.es_options.specs.declared.options.Options.{Options}
use Rattle.es_options.specs.declared.view.View.{View}
use Rattle.command_line.specs.declared.request.Request.{Request}
use Rattle.command_line.specs.CommandLine.{AsksCheck, AsksPlainly, AsksRequest, AsksRun, AsksTrace, IsFlag, check_asked, form_asked}

pub asks_rows : (f : Found) (o : Options) → AsksRun (one_text f) o → AsksRun (λ id. one_of id (rows_of f)) o
asks_rows f o h = record {
  check = h.check;
  turns = rw (← one_text-rows f _) h.turns;
  helpers = rw (← one_text-rows f _) h.helpers;
  watch = rw (← one_text-rows f _) h.watch;
}

pub asks_view : (f : Found) (v : View) (dot json : Bool) → IsFlag (one_text f (codes "dot")) dot → IsFlag (one_text f (codes "json")) json
    → v.form ≡ form_asked dot json → IsFlag (one_text f (codes "all")) v.all → AsksTrace (λ id. one_of id (rows_of f)) v
asks_view f v dot json is_dot is_json form all = record {
  dot = dot;
  json = json;
  is_dot = rw (← one_text-rows f _) is_dot;
  is_json = rw (← one_text-rows f _) is_json;
  form = form;
  all = rw (← one_text-rows f _) all;
}

pub asks_check : (f : Found) (r : Request) (races : Bool) → IsFlag (one_text f (codes "races")) races → r ≡ check_asked races → AsksCheck (λ id. one_of id (rows_of f)) r
asks_check f r races is same = (races, rw (← one_text-rows f _) is, same)

-- no other word than run
pub asks_plainly : (explain trace check : Bool) (rows : List Row) (r : Request) → false ≡ explain → false ≡ trace → false ≡ check → AsksPlainly rows r → AsksRequest explain trace check rows r
asks_plainly false false false rows r x y z is = is
asks_plainly true trace check rows r x y z is = cc
asks_plainly false true check rows r x y z is = cc
asks_plainly false false true rows r x y z is = cc

-- one more conflict

alone : (e full : Bool) (rest : Bool) → not e ≡ true → full ≡ false → (not e && (full && rest)) ≡ false
alone e full rest stands is = rw (stands, is) refl

pub lone : (old new : Arg) (r : Rule) (x : Bor (List ℕ)) → AddsConflicts old new (x ∷ []) → rule_of old ≡ r → r.is_free ≡ true → rule_of new ≡ record r { is_free = false }
lone old new r x adds is free =
    let whole : is_free_arg old ≡ true = ap (λ (r : Rule). r.is_free) is ∙ free in
    let stands : not old.exclusive ≡ true = (and_parts (not old.exclusive) _ whole).0 in
    let longer = ap length adds.1 in
    let by_one = length-append old.conflicts.items (x ∷ []) in
    let some : (length new.conflicts.items == 0) ≡ false = ne_eqb (length new.conflicts.items) 0 (λ none. omega (arith, longer, by_one, none)) in
    let bound : is_free_arg (record old { conflicts = new.conflicts }) ≡ false = alone old.exclusive (length new.conflicts.items == 0) _ stands some in
    ap rule_of adds.0 ∙ ap (λ b. record (rule_of old) { is_free = b }) bound ∙ ap (λ (r : Rule). record r { is_free = false }) is

-- words that are taken fail for want of memory alone

pub taken_fails : {A : Type 0} (words : List Text) (a b : App) (r : Result A Error) (e : Error) → a ≡ b → IsErrAnd r (λ d. d ≡ e) → (takes a words ≡ true → kind_of e ≡ OutOfMemory)
    → IfErr r (λ d. takes b words ≡ true → kind_of d ≡ OutOfMemory)
taken_fails words a b (Ok x) e same is passes = tt
taken_fails words a b (Err d) e same is passes = λ takes_it. ap kind_of is ∙ passes (ap (λ (l : App). takes l words) same ∙ takes_it)
