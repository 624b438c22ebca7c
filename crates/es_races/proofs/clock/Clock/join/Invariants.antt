use Rattle.std.proofs.Common.{◌≡◌, ◌<◌, ℕ, max, cond}
use Rattle.std.specs.Prelude.{nat_lt}
use Rattle.es_races.specs.Pass.{count_in}
use Rattle.es_races.proofs.clock.Clock.join.Given as goal

abbrev pub invariant-loop-agent : goal.invariant-loop-agent
invariant-loop-agent l =
    (j : ℕ) → j < 8 → count_in l.self j ≡ cond (nat_lt j l.agent) (max (count_in l.fn.self j) (count_in l.other j)) (count_in l.fn.self j)
