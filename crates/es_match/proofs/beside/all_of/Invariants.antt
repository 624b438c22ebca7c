use Rattle.std.proofs.Common.{◌≡◌, Some, Ok, map}
use Rattle.es_match.proofs.beside.all_of.Given as goal

-- what was gone through so far came to something
abbrev pub invariant-loop-went : goal.invariant-loop-went
invariant-loop-went l = l.yielded ≡ map (λ c. Ok (Some c)) l.all.items
