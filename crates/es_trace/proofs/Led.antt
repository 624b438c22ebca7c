-- Where the events of a command lead the agent in its plan.
use Rattle.std.proofs.Common.{◌≡◌, ℕ, zero, suc, ◌+◌, ◌≤◌, nat_lt, cond, Bool, true, false, sym, ◌∙◌, ap, refl, List, [], ◌∷◌, length, drop, Option}
use Rattle.std.specs.Prelude.{slice_get}
use Rattle.std.proofs.lemmas.Bool.{ltb-false}
use Rattle.std.proofs.lemmas.List.{drop-drop}
use Rattle.std.proofs.Math.ListN.{drop_of_length-le}
use Rattle.es_value.specs.declared.value.Value.{Value}
use Rattle.es_event.specs.declared.command.Command.{Command}
use Rattle.es_event.specs.declared.event.Answer.{Answer}
use Rattle.es_event.specs.declared.event.Event.TheVariants.{Did, Emptied}
use Rattle.es_event.specs.declared.plan.AgentPlan.{AgentPlan}
use Rattle.es_event.specs.History.{History}
use Rattle.es_event.specs.Order.{left}
use Rattle.es_trace.specs.declared.place.Place.{Place}
use Rattle.es_trace.specs.Places.{IsPlace, Leads, commands_in, one_more}

-- Commands

one_less : (at : ℕ) (cs : List Command) (b : Bool) → nat_lt at (length cs) ≡ b → drop 1 (drop at cs) ≡ drop (cond b (at + 1) at) cs
one_less at cs true e = drop-drop 1 at cs
one_less at cs false e =
    let over : length cs ≤ at = ltb-false at (length cs) e in
    let none : drop at cs ≡ [] = drop_of_length-le cs over in
    ap (drop 1) none ∙ sym none

pub command_led : (plan : AgentPlan) (c : Command) (vs : List Value) (r : Answer) (o : Option ℕ) (p : Place)
    → Leads plan (Did (c, vs, r)) o p (record { running = p.running; done = one_more p.done (length (commands_in plan p.running)); registry = p.registry })
command_led plan c vs r o p = λ h is told. record { left = ap (drop 1) is.left ∙ one_less p.done (commands_in plan p.running) _ refl; cleaning = is.cleaning }

pub emptying_led : (plan : AgentPlan) (ids : List ℕ) (o : Option ℕ) (p : Place)
    → Leads plan (Emptied ids) o p (record { running = p.running; done = one_more p.done (length (commands_in plan p.running)); registry = p.registry })
emptying_led plan ids o p = λ h is told. record { left = ap (drop 1) is.left ∙ one_less p.done (commands_in plan p.running) _ refl; cleaning = is.cleaning }

-- The next command

pub first_left : (cs : List Command) (n : ℕ) → slice_get (drop n cs) 0 ≡ slice_get cs n
first_left [] zero = refl
first_left [] (suc n) = refl
first_left (c ∷ cs) zero = refl
first_left (c ∷ cs) (suc n) = first_left cs n

pub next_command : (plan : AgentPlan) (h : History) (p : Place) → IsPlace plan h p → slice_get (commands_in plan p.running) p.done ≡ slice_get (left plan h) 0
next_command plan h p is = sym (ap (λ cs. slice_get cs 0) is.left ∙ first_left (commands_in plan p.running) p.done)
