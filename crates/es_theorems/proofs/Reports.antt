-- So agents whose accesses do not race say and report the same, by turns and in threads; agents that share no word among them.
use Rattle.std.proofs.Common.{◌≡◌, ℕ, zero, suc, true, not, sym, ◌∙◌, ap, refl, subst, List, [], ◌∷◌, reverse, inl, inr}
use Rattle.std.specs.List.{list_all}
use Rattle.es_event.specs.declared.ledger_event.Body.{Body}
use Rattle.es_event.specs.declared.ledger_event.Body.TheVariants.{Plain, Block}
use Rattle.es_event.specs.declared.outcome.Outcome.{Outcome}
use Rattle.es_event.specs.declared.plan.Plan.{Plan}
use Rattle.es_event.specs.Ledger.{Ledger, port_of}
use Rattle.es_event.specs.Others.{all_name_others}
use Rattle.es_event.specs.Report.{report}
use Rattle.es_laws.specs.Races.{has_no_race, marked, race}
use Rattle.es_ledger.specs.Draining.{after_drain, drained_below, drained_each, drained_one, drained_to}
use Rattle.es_cluster.specs.declared.member.Progress.TheVariants.{Moved, Waiting}
use Rattle.es_cluster.specs.Ends.{EndsIn}
use Rattle.es_cluster.specs.Moves.{IsMove, Rest, RunsOut, RunsToEnd, moves, over, rested, slept, turned, waits, with_drained}
use Rattle.es_cluster.specs.State.{ClusterView, first_state}
use Rattle.es_cluster.specs.Turns.{AllTurned}
use Rattle.es_outcome.specs.Outcomes.{IsClusterOutcome}
use Rattle.es_theorems.proofs.Arriving.{ends as comes_to}
use Rattle.es_theorems.proofs.Cluster.{well_all, well_first}
use Rattle.es_theorems.proofs.Ending.{refines}
use Rattle.es_theorems.specs.Messages.{SayAlike, share_no_word}
use Rattle.es_theorems.specs.WithoutRaces.{HasNoRaceByTurns}
use Rattle.es_theorems.specs.Sleepless.{never_sleeps}
use Rattle.es_theorems.proofs.Composing.{none_race, number_far, says_alike}
use Rattle.es_theorems.proofs.Reporting.{reports_same}
use Rattle.es_theorems.proofs.Wordless.{messages_alone}
use Rattle.es_theorems.proofs.Plans.{over_run}
use Rattle.es_theorems.proofs.Calm.{wordless_calm}

-- What is drained races with nothing

drained_each_same : (ms : List Body) (l : Ledger) (s r : ℕ) → marked (drained_each l s r ms) ≡ marked l
drained_each_same [] l s r = refl
drained_each_same (Plain v ∷ ms) l s r = drained_each_same ms (drained_one l s r (Plain v)) s r
drained_each_same (Block b k ∷ ms) l s r = drained_each_same ms (drained_one l s r (Block b k)) s r

drained_to_same : (n : ℕ) (l : Ledger) (r : ℕ) → marked (drained_to l r n) ≡ marked l
drained_to_same zero l r = refl
drained_to_same (suc n) l r = drained_each_same (port_of (drained_to l r n) n r) (drained_to l r n) n r ∙ drained_to_same n l r

drained_below_same : (m : ℕ) (l : Ledger) (n : ℕ) → marked (drained_below l n m) ≡ marked l
drained_below_same zero l n = refl
drained_below_same (suc m) l n = drained_to_same n (drained_below l n m) m ∙ drained_below_same m l n

drain_is_free : (l : Ledger) (n : ℕ) → has_no_race (after_drain l n) ≡ has_no_race l
drain_is_free l n = ap (λ ms. list_all (λ x. list_all (λ y. not (race x y)) ms) ms) (drained_below_same n l n)

undrained : (l : Ledger) (n : ℕ) → has_no_race (after_drain l n) ≡ true → has_no_race l ≡ true
undrained l n none = sym (drain_is_free l n) ∙ none

-- A run by moves is one by turns

turns_more : (ns ms : List ℕ) (c d e : ClusterView) → AllTurned ns c d → AllTurned ms d e → (ks : List ℕ) × AllTurned ks c e
turns_more [] ms c d e same more = (ms, subst (λ c. AllTurned ms c e) same more)
turns_more (n ∷ ns) ms c d e (p, mid, turn, rest) more = let all = turns_more ns ms mid d e rest more in (n ∷ all.0, (p, mid, turn, all.1))

rest_turns : (n : ℕ) (c d : ClusterView) → Rest n c d → (ns : List ℕ) × AllTurned ns c d
rest_turns n c d (rested is) = ([], refl)
rest_turns n c d (slept is begins) = (n ∷ [], (Waiting, d, begins.0, refl))
rest_turns n c d (turned {mid = mid} is turn rest) = let more = rest_turns n mid d rest in (n ∷ more.0, (Moved, mid, turn, more.1))

move_turns : (n : ℕ) (c d : ClusterView) → IsMove n c d → (ns : List ℕ) × AllTurned ns c d
move_turns n c d (inl (first, turn, rest)) = let more = rest_turns n first d rest in (n ∷ more.0, (Moved, first, turn, more.1))
move_turns n c d (inr begins) = (n ∷ [], (Waiting, d, begins.0, refl))

run_turns : (c d : ClusterView) → RunsOut c d → (ns : List ℕ) × AllTurned ns c d
run_turns c d (over is) = ([], refl)
run_turns c d (waits n {mid = mid} turn quiet rest) = let more = run_turns mid d rest in (n ∷ more.0, (Waiting, mid, turn, more.1))
run_turns c d (moves n {mid = mid} is move more) =
    let here = move_turns n c mid move in
    let there = run_turns mid d more in
    turns_more here.0 there.0 c mid d here.1 there.1

-- Where no two accesses race

-- what comes of threads is the same as what comes of these turns
turned_so : (plan : Plan) (ns : List ℕ) (c : ClusterView) (o q : Outcome) → never_sleeps plan ≡ true → IsClusterOutcome plan o → AllTurned ns (first_state plan) c → has_no_race c.ledger.history ≡ true → EndsIn (with_drained c) q → SayAlike o q
turned_so plan ns c o q calm a left free ends =
    let x = refines plan o a in
    let both = says_alike plan ns x.turns c x.end q x.outcome calm left ends free x.turned x.ends in
    record { names = x.same.names ∙ sym both.names; histories = x.same.histories ∙ sym both.histories }

pub turned_reports : (plan : Plan) (ns : List ℕ) (c : ClusterView) (o q : Outcome) → never_sleeps plan ≡ true → IsClusterOutcome plan o → AllTurned ns (first_state plan) c → has_no_race c.ledger.history ≡ true → EndsIn (with_drained c) q → report o ≡ report q
turned_reports plan ns c o q calm a left free ends =
    let x = refines plan o a in
    let both = says_alike plan ns x.turns c x.end q x.outcome calm left ends free x.turned x.ends in
    x.reported ∙ sym (reports_same (with_drained c) (with_drained x.end) q x.outcome (number_far ns (first_state plan) c left ∙ sym (number_far x.turns (first_state plan) x.end x.turned)) both ends x.ends)

pub says_as_by_turns : (plan : Plan) (c : ClusterView) (o q : Outcome) → never_sleeps plan ≡ true → IsClusterOutcome plan o → RunsToEnd (first_state plan) c → has_no_race c.ledger.history ≡ true → EndsIn c q → SayAlike o q
says_as_by_turns plan c o q calm a (end, run, is) free ends =
    let turns = run_turns (first_state plan) end run in
    turned_so plan turns.0 end o q calm a turns.1 (undrained end.ledger.history end.ledger.agents (subst (λ c. has_no_race c.ledger.history ≡ true) is free)) (subst (λ c. EndsIn c q) is ends)

pub reports_as_by_turns : (plan : Plan) (c : ClusterView) (o q : Outcome) → never_sleeps plan ≡ true → IsClusterOutcome plan o → RunsToEnd (first_state plan) c → has_no_race c.ledger.history ≡ true → EndsIn c q → report o ≡ report q
reports_as_by_turns plan c o q calm a (end, run, is) free ends =
    let turns = run_turns (first_state plan) end run in
    turned_reports plan turns.0 end o q calm a turns.1 (undrained end.ledger.history end.ledger.agents (subst (λ c. has_no_race c.ledger.history ≡ true) is free)) (subst (λ c. EndsIn c q) is ends)

-- One run by moves tells of each

-- where no two accesses race in what one came to, none do by turns
pub free_by_turns : (plan : Plan) (o : Outcome) (c : ClusterView) → never_sleeps plan ≡ true → all_name_others plan ≡ true → RunsToEnd (first_state plan) c → EndsIn c o → has_no_race (reverse o.ledger) ≡ true → HasNoRaceByTurns plan
free_by_turns plan o c calm others (end, run, is) ends free d (last, way, same) =
    let left = run_turns (first_state plan) end run in
    let right = run_turns (first_state plan) last way in
    let left_free = undrained c.ledger.history c.ledger.agents (subst (λ l. has_no_race l ≡ true) ends.ledger free) in
    let q = comes_to last (well_all right.0 (first_state plan) last (well_first plan others) right.1) (over_run (first_state plan) last way) in
    let right_free =
    none_race plan left.0 right.0 end last o q.0 calm left.1 (subst (λ c. EndsIn c o) is ends)
    (undrained end.ledger.history end.ledger.agents (subst (λ c. has_no_race c.ledger.history ≡ true) is left_free)) right.1 q.1 in
    subst (λ c. has_no_race c.ledger.history ≡ true) (sym same) (drain_is_free last.ledger.history last.ledger.agents ∙ right_free)

-- Where agents share no word

pub wordless_say_alike : (plan : Plan) (ns ms : List ℕ) (c d : ClusterView) (o q : Outcome) → share_no_word plan ≡ true → AllTurned ns (first_state plan) c → EndsIn (with_drained c) o → AllTurned ms (first_state plan) d → EndsIn (with_drained d) q → SayAlike o q
wordless_say_alike plan ns ms c d o q shares left a right b = says_alike plan ns ms c d o q (wordless_calm plan shares) left a (messages_alone plan ns c shares left) right b

pub says_in_threads : (plan : Plan) (o q : Outcome) → share_no_word plan ≡ true → IsClusterOutcome plan o → IsClusterOutcome plan q → SayAlike o q
says_in_threads plan o q shares a b =
    let y = refines plan q b in
    let one = turned_so plan y.turns y.end o y.outcome (wordless_calm plan shares) a y.turned (messages_alone plan y.turns y.end shares y.turned) y.ends in
    record { names = one.names ∙ sym y.same.names; histories = one.histories ∙ sym y.same.histories }

pub reports_in_threads : (plan : Plan) (o q : Outcome) → share_no_word plan ≡ true → IsClusterOutcome plan o → IsClusterOutcome plan q → report o ≡ report q
reports_in_threads plan o q shares a b =
    let y = refines plan q b in
    turned_reports plan y.turns y.end o y.outcome (wordless_calm plan shares) a y.turned (messages_alone plan y.turns y.end shares y.turned) y.ends ∙ sym y.reported

pub alone_by_turns : (plan : Plan) → share_no_word plan ≡ true → HasNoRaceByTurns plan
alone_by_turns plan shares c (end, run, is) =
    let turns = run_turns (first_state plan) end run in
    subst (λ c. has_no_race c.ledger.history ≡ true) (sym is) (drain_is_free end.ledger.history end.ledger.agents ∙ messages_alone plan turns.0 end shares turns.1)
