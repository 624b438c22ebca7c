-- All lists of turns that end have the same agents at their end, by the agents' own names, where no two accesses of one of them race: so the
-- same names and histories.
use Rattle.std.proofs.Common.{◌≡◌, ℕ, zero, suc, true, sym, ◌∙◌, ap, refl, subst, List, [], ◌∷◌, length, map, reverse, Some}
use Rattle.std.specs.Prelude.{slice_get}
use Rattle.std.specs.List.{AllByRecursion}
use Rattle.es_event.specs.declared.outcome.Outcome.{Outcome}
use Rattle.es_event.specs.declared.plan.Plan.{Plan}
use Rattle.es_event.specs.Ledger.{Ledger}
use Rattle.es_agent.specs.Tickets.{is_ended}
use Rattle.es_record.specs.AgentView.{AgentView}
use Rattle.es_cluster.specs.declared.member.Progress.{Progress}
use Rattle.es_cluster.specs.declared.member.Progress.TheVariants.{Moved, Waiting, Ended}
use Rattle.es_cluster.specs.Ends.{EndsIn, IsWhole}
use Rattle.es_cluster.specs.Moves.{with_drained}
use Rattle.es_cluster.specs.State.{ClusterView, accounts, first_state, names_of}
use Rattle.es_cluster.specs.Turns.{AllTurned, Turned}
use Rattle.es_laws.specs.Races.{has_no_race}
use Rattle.es_theorems.specs.Alone.{AreDone, GoFar, IsFree, IsSane, Local, Words, World, addressed, is_done}
use Rattle.es_theorems.specs.Messages.{SayAlike}
use Rattle.es_theorems.specs.Renamed.{HasWords, local_of, world_of}
use Rattle.es_theorems.specs.Steps.{Along}
use Rattle.es_theorems.specs.Sleepless.{never_sleeps}
use Rattle.es_theorems.proofs.Along.{along_first, along_turn, words_first}
use Rattle.es_theorems.proofs.Certain.{one_end}
use Rattle.es_theorems.proofs.Racing.{free_by_names, no_race_by_names}
use Rattle.es_theorems.proofs.Still.{ends_still, ends_words, waits_still, waits_words}
use Rattle.es_theorems.proofs.TurningAlike.{turn_goes}
use Rattle.es_theorems.proofs.Ends.{reversed_twice}
use Rattle.es_theorems.proofs.Running.{waits_for_one}

-- All turns

pub number_far : (ns : List ℕ) (c d : ClusterView) → AllTurned ns c d → d.ledger.agents ≡ c.ledger.agents
number_far [] c d same = ap (λ c. c.ledger.agents) same
number_far (n ∷ ns) c d (p, mid, turn, rest) = number_far ns mid d rest ∙ turn.number

-- they are steps, which lead to these words
pub record GoesTo (n : ℕ) (from : World) (d : ClusterView) : Type 0 where
  pub steps : ℕ
  pub words : Words
  pub holds : HasWords n d.ledger.history words
  pub far : GoFar n steps from (world_of d words)
  pub along : Along n d

pub far : (n : ℕ) (ns : List ℕ) (c : ClusterView) (words : Words) (d : ClusterView) → Along n c → HasWords n c.ledger.history words → AllTurned ns c d → GoesTo n (world_of c words) d
far n [] c words d x holds same =
    subst (GoesTo n (world_of c words)) (sym same) (record { steps = 0; words = words; holds = holds; far = refl; along = x })
far n (i ∷ ns) c words d x holds (p, mid, turn, rest) = by_turn p turn (λ more along kept. far n ns mid more d along kept rest)
  where
    by_turn : (p : Progress) → Turned p i c mid → ((more : Words) → Along n mid → HasWords n mid.ledger.history more → GoesTo n (world_of mid more) d) → GoesTo n (world_of c words) d
    by_turn Moved turn on =
        let step = turn_goes n c words i mid x holds turn in
        let more = on step.0 (along_turn n Moved i c words mid x holds turn) step.1 in
        record { steps = suc more.steps; words = more.words; holds = more.holds; far = (i, world_of mid step.0, step.2, more.far); along = more.along }
    by_turn Waiting turn on = subst (λ w. GoesTo n w d) (waits_still i c mid words turn (waits_for_one i c mid x.stands turn)) (on words (along_turn n Waiting i c words mid x holds turn) (waits_words n i c mid words turn (waits_for_one i c mid x.stands turn) holds))
    by_turn Ended turn on = subst (λ w. GoesTo n w d) (ends_still i c mid words turn) (on words (along_turn n Ended i c words mid x holds turn) (ends_words n i c mid words turn holds))

-- At the end

done_each : (n : ℕ) (l : Ledger) (bs : List AgentView) → AllByRecursion IsWhole (accounts bs) → (i : ℕ) (a : Local) → slice_get (map (local_of n l) bs) i ≡ Some a → is_done a ≡ true
done_each n l [] whole i a is = cc
done_each n l (b ∷ bs) whole zero a is = let same : local_of n l b ≡ a = cc in ap is_done (sym same) ∙ ap is_ended whole.0.1.1
done_each n l (b ∷ bs) whole (suc i) a is = done_each n l bs whole.1 i a is

histories_of : (n : ℕ) (l : Ledger) (bs : List AgentView) → map (λ a. a.history) (map (local_of n l) bs) ≡ map (λ b. b.history) bs
histories_of n l [] = refl
histories_of n l (b ∷ bs) = ap (λ hs. b.history ∷ hs) (histories_of n l bs)

names_in : (n : ℕ) (l : Ledger) (bs : List AgentView) → map (λ a. a.plan.name) (map (local_of n l) bs) ≡ names_of bs
names_in n l [] = refl
names_in n l (b ∷ bs) = ap (λ hs. b.plan.name ∷ hs) (names_in n l bs)

-- Before the first event

sane_first : (plan : Plan) → IsSane (world_of (first_state plan) (λ b x. 0))
sane_first plan = record {
  knows = λ i x e. cc;
  told = λ i r x e. cc;
  parallel = λ i r a at. first_sent (first_state plan).agents i r a at;
}
  where
    first_sent : (bs : List AgentView) (i r : ℕ) (a : Local) → slice_get (map (local_of (length plan.agents) []) bs) i ≡ Some a → 0 ≡ length (addressed r a.sent)
    first_sent [] i r a at = cc
    first_sent (b ∷ bs) zero r a at = let same : local_of (length plan.agents) [] b ≡ a = cc in ap (λ (a : Local). length (addressed r a.sent)) same
    first_sent (b ∷ bs) (suc i) r a at = first_sent bs i r a at

pub from_first : (plan : Plan) (ns : List ℕ) (c : ClusterView) → never_sleeps plan ≡ true → AllTurned ns (first_state plan) c → GoesTo (length plan.agents) (world_of (first_state plan) (λ b x. 0)) c
from_first plan ns c calm turned = far (length plan.agents) ns (first_state plan) (λ b x. 0) c (along_first plan calm) (words_first (length plan.agents)) turned

-- where some steps lead to an end at which no two accesses race, none race in any list of turns that ends
pub free_by_steps : (plan : Plan) (k : ℕ) (w : World) → never_sleeps plan ≡ true → GoFar (length plan.agents) k (world_of (first_state plan) (λ b x. 0)) w → AreDone w → IsFree w
    → (ns : List ℕ) (c : ClusterView) (o : Outcome) → AllTurned ns (first_state plan) c → EndsIn (with_drained c) o → has_no_race c.ledger.history ≡ true
free_by_steps plan k w calm steps done free ns c o turned ends =
    let n = length plan.agents in
    let x = from_first plan ns c calm turned in
    no_race_by_names n c x.words x.along.number x.along.legal
    (subst IsFree (one_end n k x.steps (world_of (first_state plan) (λ b x. 0)) w (world_of c x.words) steps x.far done (done_each c.ledger.agents c.ledger.history c.agents ends.agents.runs) free (sane_first plan)) free)

-- So all lists of turns that end come to one world, where no two accesses of one of them race

pub one_world : (plan : Plan) (ns ms : List ℕ) (c d : ClusterView) (o q : Outcome) (calm : never_sleeps plan ≡ true) (left : AllTurned ns (first_state plan) c) (right : AllTurned ms (first_state plan) d) → EndsIn (with_drained c) o → EndsIn (with_drained d) q
    → has_no_race c.ledger.history ≡ true → world_of c (from_first plan ns c calm left).words ≡ world_of d (from_first plan ms d calm right).words
one_world plan ns ms c d o q calm left right a b free =
    let n = length plan.agents in
    let x = from_first plan ns c calm left in
    let y = from_first plan ms d calm right in
    one_end n x.steps y.steps (world_of (first_state plan) (λ b x. 0)) (world_of c x.words) (world_of d y.words) x.far y.far
    (done_each c.ledger.agents c.ledger.history c.agents a.agents.runs) (done_each d.ledger.agents d.ledger.history d.agents b.agents.runs)
    (free_by_names n c x.words x.along.number x.along.legal free) (sane_first plan)

pub says_alike : (plan : Plan) (ns ms : List ℕ) (c d : ClusterView) (o q : Outcome) → never_sleeps plan ≡ true → AllTurned ns (first_state plan) c → EndsIn (with_drained c) o → has_no_race c.ledger.history ≡ true → AllTurned ms (first_state plan) d → EndsIn (with_drained d) q → SayAlike o q
says_alike plan ns ms c d o q calm left a free right b =
    let same = ap (λ (w : World). w.locals) (one_world plan ns ms c d o q calm left right a b free) in
    let histories : map (λ b. b.history) c.agents ≡ map (λ b. b.history) d.agents =
    sym (histories_of c.ledger.agents c.ledger.history c.agents) ∙ ap (map (λ a. a.history)) same ∙ histories_of d.ledger.agents d.ledger.history d.agents in
    let names : names_of c.agents ≡ names_of d.agents =
    sym (names_in c.ledger.agents c.ledger.history c.agents) ∙ ap (map (λ a. a.plan.name)) same ∙ names_in d.ledger.agents d.ledger.history d.agents in
    record {
      names = a.names ∙ names ∙ sym b.names;
      histories = sym (reversed_twice o.histories) ∙ ap (map reverse) (a.agents.are ∙ histories ∙ sym b.agents.are) ∙ reversed_twice q.histories;
    }

-- and no two race in any

pub none_race : (plan : Plan) (ns ms : List ℕ) (c d : ClusterView) (o q : Outcome) → never_sleeps plan ≡ true → AllTurned ns (first_state plan) c → EndsIn (with_drained c) o → has_no_race c.ledger.history ≡ true → AllTurned ms (first_state plan) d → EndsIn (with_drained d) q → has_no_race d.ledger.history ≡ true
none_race plan ns ms c d o q calm left a free right b =
    let n = length plan.agents in
    let x = from_first plan ns c calm left in
    let y = from_first plan ms d calm right in
    no_race_by_names n d y.words y.along.number y.along.legal (subst IsFree (one_world plan ns ms c d o q calm left right a b free) (free_by_names n c x.words x.along.number x.along.legal free))
