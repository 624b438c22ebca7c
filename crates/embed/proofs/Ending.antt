-- An agent that asks for nothing has ended, so its history is a whole run; and the history of one that has not is a run so long.
use Rattle.std.proofs.Common.{◌≡◌, ℕ, length, Bool, true, false, cond, List, [], ◌∷◌, Option, Some, None, refl, subst}
use Rattle.es_event.specs.History.{History}
use Rattle.es_event.specs.Jobs.{job}
use Rattle.es_event.specs.Later.{snapshot, collects_now}
use Rattle.es_event.specs.Order.{Phase, between, handed, inside, stopped, ended, phase, left, catching, queue, due_at, due_job, due_between, due_inside, due_after, due_end}
use Rattle.es_event.specs.Runs.{IsRunOver, IsWholeRun}
use Rattle.es_event.specs.declared.command.Command.{Command}
use Rattle.es_event.specs.declared.plan.AgentPlan.{AgentPlan}
use Rattle.es_event.proofs.Coming.{next_cell}
use Rattle.es_record.specs.AgentView.{AgentView}
use Rattle.embed.specs.Steps.{RunsSoLong}
use Rattle.es_rules.specs.Needs.{Request, request, asks_marks, asks_copy, asks_nothing, ledger_or_nobody, opens_now, need_of, need}

command_asks : {P : Type 0} (collects opens : Bool) (q : Option Request) → cond collects asks_marks (cond opens asks_copy (ledger_or_nobody q)) ≡ asks_nothing → P
command_asks true opens q is = cc
command_asks false true q is = cc
command_asks false false None is = cc
command_asks false false (Some r) is = cc

end_asks : {P : Type 0} (b : AgentView) (o : Option History) → need_of b (due_end o) ≡ asks_nothing → P
end_asks b None is = cc
end_asks b (Some p) is = cc

after_asks : {P : Type 0} (b : AgentView) (h : History) (o : Option ℕ) → need_of b (due_after h o) ≡ asks_nothing → P
after_asks b h None is = end_asks b (snapshot h) is
after_asks b h (Some n) is = cc

inside_asks : {P : Type 0} (b : AgentView) (h : History) (x : Option (List ℕ)) (cs : List Command) → need_of b (due_inside h x cs) ≡ asks_nothing → P
inside_asks b h x [] is = after_asks b h (next_cell h) is
inside_asks b h x (c ∷ cs) is = command_asks (collects_now b.history c) (opens_now b.history c) (request b c) is

job_asks : {P : Type 0} (b : AgentView) (n : ℕ) (o : Option (Option (ℕ × List ℕ))) → need_of b (due_job n o) ≡ asks_nothing → P
job_asks b n None is = cc
job_asks b n (Some None) is = cc
job_asks b n (Some (Some on)) is = cc

between_asks : {P : Type 0} (b : AgentView) (q : List ℕ) → need_of b (due_between b.plan b.history q) ≡ asks_nothing → P
between_asks b [] is = job_asks b (job b.history) _ is
between_asks b (r ∷ rs) is = cc

nothing_at : (b : AgentView) (at : Phase) → need_of b (due_at b.plan b.history at) ≡ asks_nothing → at ≡ ended
nothing_at b between is = between_asks b (queue b.history) is
nothing_at b handed is = cc
nothing_at b inside is = inside_asks b b.history (catching b.plan b.history) (left b.plan b.history) is
nothing_at b stopped is = end_asks b (snapshot b.history) is
nothing_at b ended is = refl

pub nothing_ended : (b : AgentView) → need b ≡ asks_nothing → phase b.history ≡ ended
nothing_ended b is = nothing_at b (phase b.history) is

-- its history, as it is handed out, is a whole run of its plan
pub whole_run : (plan : AgentPlan) (b : AgentView) (h : History) → b.plan ≡ plan → b.history ≡ h → IsRunOver b.over b.plan b.history → need b ≡ asks_nothing → IsWholeRun plan h
whole_run plan b h same is run asks =
    subst (λ p. IsWholeRun p h) same (subst (IsWholeRun b.plan) is (b.over, run.0, (run.1, nothing_ended b asks)))

-- what it did so far is a run of its plan with so many events
pub so_long : (plan : AgentPlan) (b : AgentView) (n : ℕ) → b.plan ≡ plan → IsRunOver b.over b.plan b.history → length b.history ≡ n → RunsSoLong plan n
so_long plan b n same run long = subst (λ p. RunsSoLong p n) same (b.history, (b.over, run.0, run.1), long)
