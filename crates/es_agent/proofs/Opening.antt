-- Which events open a later collection: none but the command's that asks for a copy.
use Rattle.std.proofs.Common.{◌≡◌, ℕ, Bool, true, false, cond, sym, refl, subst, List, [], ◌∷◌, Option, Some, None, Ok}
use Rattle.std.specs.Prelude.{is_none}
use Rattle.es_value.specs.declared.value.Value.{Value}
use Rattle.es_event.specs.declared.event.Answer.{Answer}
use Rattle.es_event.specs.declared.event.Event.TheVariants.{Did}
use Rattle.es_event.specs.declared.event.Refusal.{Refusal}
use Rattle.es_event.specs.declared.event.Refusal.TheVariants.{CollectionOpen}
use Rattle.es_event.specs.declared.command.Command.{Command}
use Rattle.es_event.specs.declared.command.Command.TheVariants.{CollectLater}
use Rattle.es_event.specs.History.{History}
use Rattle.es_event.specs.Jobs.{Receivers, receivers}
use Rattle.es_event.specs.Later.{begins_later, snapshot}
use Rattle.es_event.specs.Order.{Due, due, run}
use Rattle.es_event.specs.Follows.{Permits, done_for, refused_now}
use Rattle.es_event.specs.Rules.{first_refusal, refusal, refuse_or}
use Rattle.es_event.specs.Sharing.{Buffers}
use Rattle.es_record.specs.AgentView.{AgentView, IsNext}
use Rattle.es_rules.specs.Needs.{unless_refused, asks_nobody, asks_copy, ledger_or_nobody, need_of}

-- A step that asks nobody

none_open : (o : Option History) → is_none o ≡ true → o ≡ None
none_open None e = refl
none_open (Some p) e = cc

-- a later collection that may be opened asks for a copy
asks_a_copy : (b : AgentView) (o : Option History) → o ≡ None → cond (is_none o) asks_copy (ledger_or_nobody (unless_refused (refusal b.over b.history CollectLater []) None)) ≡ asks_nobody → ⊥
asks_a_copy b None is e = cc
asks_a_copy b (Some p) is e = cc

-- no caught refusal opens one
opens_itself : (o : Option Refusal) (x : Option (List ℕ)) (c : Command) → CollectLater ≡ done_for o x c → c ≡ CollectLater
opens_itself (Some code) (Some x) c is = cc
opens_itself (Some code) None c is = sym is
opens_itself None x c is = sym is

opens_at : (b : AgentView) (over : Buffers) (into : Receivers) (d : Due) (vs : List Value) (r : Answer) → snapshot b.history ≡ None → need_of b d ≡ asks_nobody → Permits over into b.history d (Did (CollectLater, vs, r)) → ⊥
opens_at b over into (run x c) vs r none e p =
    asks_a_copy b (snapshot b.history) none (subst (λ c. need_of b (run x c) ≡ asks_nobody) (opens_itself (refused_now over into b.history c) x c p) e)
opens_at b over into _ vs r none e p = absurd p

accepted_so : (b : Bool) (r a : Answer) → refuse_or (first_refusal ((b, CollectionOpen) ∷ [])) a ≡ Ok r → b ≡ true
accepted_so true r a e = refl
accepted_so false r a e = cc

-- what is done where nobody is asked opens none
pub opens_none : (b : AgentView) (x : Option (List ℕ)) (c : Command) (d : Command × List Value × Answer) → run x c ≡ due b.plan b.history → need_of b (run None c) ≡ asks_nobody → IsNext b (Did d) → begins_later (Did d) ≡ false
opens_none b x c (CollectLater, vs, r) is asks next =
    absurd (opens_at b b.over (receivers b.plan.jobs) (run x c) vs r (none_open (snapshot b.history) (accepted_so (is_none (snapshot b.history)) r _ next.lawful.1)) asks
    (subst (λ d. Permits b.over (receivers b.plan.jobs) b.history d (Did (CollectLater, vs, r))) (sym is) next.permitted))
opens_none b x c (_, vs, r) is asks next = refl
