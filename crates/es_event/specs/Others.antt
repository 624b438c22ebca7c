-- To believe: that an agent's plan names other agents alone, where it posts and where it waits for messages.
use Rattle.std.specs.Prelude.{ℕ, ◌+◌, ◌==◌, ◌&&◌, not, Bool, true, List, [], ◌∷◌, length, nat_lt}
use Rattle.std.specs.List.{list_all}
use Rattle.std.specs.Option.{option_map_or}
use Rattle.es_event.specs.declared.command.Command.{Command}
use Rattle.es_event.specs.declared.command.Command.TheVariants.{Post}
use Rattle.es_event.specs.declared.plan.AgentPlan.{AgentPlan}
use Rattle.es_event.specs.declared.plan.Job.{Job}
use Rattle.es_event.specs.declared.plan.Plan.{Plan}

-- agent a is one of so many, and not agent n
abbrev pub is_other : ℕ → ℕ → ℕ → Bool
is_other agents n a = nat_lt a agents && not (a == n)

-- the agent that a command posts to passes the test
abbrev pub posts_where : (ℕ → Bool) → Command → Bool
posts_where test (Post a y) = test a
posts_where test _ = true

-- so does the agent whose message a job waits for, and those that its commands post to
abbrev pub speaks_where : (ℕ → Bool) → Job → Bool
speaks_where test j = option_map_or (λ on. test on.0) j.on true && list_all (posts_where test) j.run

-- agent n of so many posts to others of them alone, and waits for messages of others of them alone
abbrev pub names_others : ℕ → ℕ → AgentPlan → Bool
names_others agents n plan =
    list_all (speaks_where (is_other agents n)) plan.jobs && list_all (λ c. list_all (posts_where (is_other agents n)) c.run) plan.callbacks

-- so does each of these agents, of which the first is agent n
abbrev pub each_names_others : ℕ → ℕ → List AgentPlan → Bool
each_names_others agents n [] = true
each_names_others agents n (plan ∷ plans) = names_others agents n plan && each_names_others agents (n + 1) plans

abbrev pub all_name_others : Plan → Bool
all_name_others p = each_names_others (length p.agents) 0 p.agents
