-- Two runs by turns of one plan have the same moves, turn by turn, and come to the same.
use Rattle.std.proofs.Common.{◌≡◌, inl, inr, ℕ, zero, suc, ◌+◌, ◌<◌, ◌≤◌, true, cond, sym, ◌∙◌, ap, refl, subst, arith, List, [], ◌∷◌, ◌++◌, length, Option, Some, None}
use Rattle.std.specs.Prelude.{slice_get, slice_set}
use Rattle.std.specs.Option.{option_map_or}
use Rattle.std.proofs.lemmas.Bool.{eq-eqb, false≢true}
use Rattle.es_event.specs.declared.access.Task.{Task}
use Rattle.es_event.specs.declared.ledger_event.Act.TheVariants.{Slept}
use Rattle.es_event.specs.declared.ledger_event.LedgerEvent.TheVariants.{Acted}
use Rattle.es_event.specs.declared.plan.Plan.{Plan}
use Rattle.es_event.specs.declared.row.Row.{Row}
use Rattle.es_event.specs.Ledger.{ended as has_ended}
use Rattle.es_event.specs.Waiters.{asleep}
use Rattle.es_event.proofs.Entries.{inner}
use Rattle.es_rules.specs.Needs.{for_word, need}
use Rattle.es_ticket.specs.Stakes.{at}
use Rattle.es_agent.specs.Tickets.{tickets}
use Rattle.es_cluster.specs.declared.member.Progress.{Progress}
use Rattle.es_cluster.specs.declared.member.Progress.TheVariants.{Moved, Waiting, Ended}
use Rattle.es_cluster.specs.Moves.{BeginsToSleep, IsMove, Rest, RunsOut, all_over, is_over, mover, rests, rested, slept, turned, over as runs_over, waits as waits_next, moves as moves_next}
use Rattle.es_cluster.specs.State.{ClusterView, first_state}
use Rattle.es_cluster.specs.Turns.{Turned}
use Rattle.es_cluster.specs.Watched.{AreMoves, AreTurns, FitsIn, TakenTurn, busy, busy_after, GoesAhead}
use Rattle.es_cluster.proofs.Midway.{ended_where_all}
use Rattle.es_cluster.proofs.Mover.{over_asks_nothing}
use Rattle.es_cluster.proofs.Sleeping.{a_sleep}
use Rattle.es_cluster.proofs.Standing.{set_same, within}
use Rattle.es_cluster.proofs.Watching.{busy_no_more, busy_with}
use Rattle.es_theorems.specs.Alike.{Alike}
use Rattle.es_theorems.specs.Moving.{move_in, moves_of}
use Rattle.es_theorems.specs.Together.{AnyPlan, Same, StandsBy, Together}
use Rattle.es_theorems.proofs.Begun.{Behind, catches_up, falls_behind, stays_behind}
use Rattle.es_theorems.proofs.Running.{Lies, none_lies, none_moves, same_mover, same_over, same_through, same_turned, stands_after, stands_anyhow, turn_together, waits_or_lies}
use Rattle.es_theorems.proofs.Telling.{after_one, same}

-- An agent that has ended changes nothing

had_ended : (n : ℕ) (c d : ClusterView) → Turned Ended n c d → Same d c
had_ended n c d turn = record {
  agents = turn.agents ∙ ap (λ b. slice_set c.agents n b) turn.turn.1 ∙ set_same c.agents n turn.before turn.agent;
  number = turn.number;
  ledgers = subst (λ l. Alike l.history c.ledger.history) (sym turn.told) (same c.ledger.history);
}

-- A turn in which nobody goes ahead changes nothing that is told

-- it is the turn of one that moves, or begins to sleep, or changes nothing
data Kind (t : TakenTurn) : Type 0 where
  goes : t.progress ≡ Moved → Kind t
  lies : t.progress ≡ Waiting → Lies t.agent t.before t.after → Kind t
  idles : Same t.after t.before → (GoesAhead t → ⊥) → busy_after t.progress t.agent t.after ≡ None → move_in t.progress t.agent (slice_get t.after.agents t.agent) ≡ [] → Kind t

never_lies : (n : ℕ) (c d : ClusterView) → Same d c → BeginsToSleep n c d → ⊥
never_lies n c d same begins = false≢true (sym begins.1 ∙ sym (same.ledgers.asleep n) ∙ begins.2)

kind_of : (t : TakenTurn) → StandsBy AnyPlan t.before → Turned t.progress t.agent t.before t.after → Kind t
kind_of t stands turn = by t.progress refl turn
  where
    by : (p : Progress) → t.progress ≡ p → Turned p t.agent t.before t.after → Kind t
    by Moved is turn = goes is
    by Waiting is turn = elim (waits_or_lies t.agent t.before t.after stands turn) [
      | inl same ↦ idles same (λ ahead. elim ahead [
        | inl moved ↦ let clash : Moved ≡ Waiting = sym moved ∙ is in cc
        | inr begins ↦ never_lies t.agent t.before t.after same begins
      ]) (ap (λ p. busy_after p t.agent t.after) is) (ap (λ p. move_in p t.agent (slice_get t.after.agents t.agent)) is)
      | inr down ↦ lies is down
    ]
    by Ended is turn =
        let same = had_ended t.agent t.before t.after turn in
        idles same (λ ahead. elim ahead [
          | inl moved ↦ let clash : Moved ≡ Ended = sym moved ∙ is in cc
          | inr begins ↦ never_lies t.agent t.before t.after same begins
        ]) (ap (λ p. busy_after p t.agent t.after) is) (ap (λ p. move_in p t.agent (slice_get t.after.agents t.agent)) is)

-- no move begins or ends with it
idle_first : (first : Option ℕ) (t : TakenTurn) → FitsIn first t → (GoesAhead t → ⊥) → busy_after t.progress t.agent t.after ≡ None → busy_after t.progress t.agent t.after ≡ first
idle_first (Some n) t fits off none = absurd (off fits.0)
idle_first None t fits off none = none

turn_from : (t : TakenTurn) (c : ClusterView) → t.before ≡ c → Turned t.progress t.agent t.before t.after → Turned t.progress t.agent c t.after
turn_from t c at turn = subst (λ c. Turned t.progress t.agent c t.after) at turn

kind_from : (t : TakenTurn) (c : ClusterView) → t.before ≡ c → StandsBy AnyPlan c → Turned t.progress t.agent t.before t.after → Kind t
kind_from t c at stands turn = kind_of t (subst (StandsBy AnyPlan) (sym at) stands) turn

stands_next : (t : TakenTurn) (c : ClusterView) → t.before ≡ c → StandsBy AnyPlan c → Turned t.progress t.agent t.before t.after → StandsBy AnyPlan t.after
stands_next t c at stands turn = stands_after t.progress t.agent c t.after stands (turn_from t c at turn)

left_idles : (c d x : ClusterView) → Together c d → StandsBy AnyPlan x → Same x c → Together x d
left_idles c d x both stands still = record { left = stands; right = both.right; same = same_through x c d still both.same }

together_turned : (c d : ClusterView) → Together c d → Together d c
together_turned c d both = record { left = both.right; right = both.left; same = same_turned c d both.same }

-- Who goes ahead

ahead_of : (t : TakenTurn) (c : ClusterView) → t.before ≡ c → Lies t.agent t.before t.after → t.progress ≡ Waiting → Turned t.progress t.agent t.before t.after → GoesAhead t
ahead_of t c at down is turn =
    inr (subst (λ p. Turned p t.agent t.before t.after) is turn, down.up, ap (λ l. asleep l t.agent) down.history ∙ ap (λ b. cond b true (asleep t.before.ledger.history t.agent)) (eq-eqb t.agent t.agent refl))

one_agent : (first : Option ℕ) (t u : TakenTurn) (c d : ClusterView) → Same c d → t.before ≡ c → u.before ≡ d → FitsIn first t → FitsIn first u → GoesAhead t → GoesAhead u → u.agent ≡ t.agent
one_agent (Some n) t u c d same at on fits others left right = others.1 ∙ sym fits.1
one_agent None t u c d same at on fits others left right =
    let is : Some u.agent ≡ Some t.agent = sym (others right) ∙ ap mover on ∙ sym (same_mover c d same) ∙ ap mover (sym at) ∙ fits left in
    inner is

one_busy : (n m : ℕ) (p q : Progress) (x y : ClusterView) → p ≡ Moved → q ≡ Moved → m ≡ n → x.agents ≡ y.agents → busy_after q m y ≡ busy_after p n x
one_busy n m p q x y moved moves same agents =
    ap (λ q. busy_after q m y) moves ∙ ap (λ m. busy m y) same ∙ ap (λ bs. cond (option_map_or rests (slice_get bs n) true) None (Some n)) (sym agents) ∙ sym (ap (λ p. busy_after p n x) moved)

one_move : (n m : ℕ) (p q : Progress) (x y : ClusterView) → p ≡ Moved → q ≡ Moved → m ≡ n → x.agents ≡ y.agents → move_in p n (slice_get x.agents n) ≡ move_in q m (slice_get y.agents m)
one_move n m p q x y moved moves same agents =
    ap (λ p. move_in p n (slice_get x.agents n)) (moved ∙ sym moves) ∙ ap (λ bs. move_in q n (slice_get bs n)) agents ∙ ap (λ n. move_in q n (slice_get y.agents n)) (sym same)

-- What both begin

same_row : (o p : ℕ) (ts : List (ℕ × Row)) (r q : Row) → o ≡ p → Some r ≡ at o ts → Some q ≡ at p ts → r ≡ q
same_row o p ts r q is here there = inner (here ∙ ap (λ o. at o ts) is ∙ sym there)

-- the two sleeps are one
one_sleep : (n : ℕ) (c d x y : ClusterView) → Same c d → (a : Lies n c x) → (b : Lies n d y) → Acted n (Slept b.row.serial b.index b.word) ≡ Acted n (Slept a.row.serial a.index a.word)
one_sleep n c d x y same a b =
    let view : b.before ≡ a.before = inner (sym b.here ∙ ap (λ bs. slice_get bs n) (sym same.agents) ∙ a.here) in
    let asks : for_word b.object b.index (Task.Sleep b.word) ≡ for_word a.object a.index (Task.Sleep a.word) = (let found = sym b.asks ∙ ap need view ∙ a.asks in cc) in
    let object : b.object ≡ a.object = cc in
    let index : b.index ≡ a.index = cc in
    let word : b.word ≡ a.word = cc in
    let row = same_row b.object a.object (tickets a.before) b.row a.row object (b.ticket ∙ ap (λ v. at b.object (tickets v)) view) a.ticket in
    ap (λ r. Acted n (Slept r.serial b.index b.word)) row ∙ ap (λ i. Acted n (Slept a.row.serial i b.word)) index ∙ ap (λ w. Acted n (Slept a.row.serial a.index w)) word

lie_together : (n : ℕ) (c d x y : ClusterView) → Together c d → StandsBy AnyPlan x → StandsBy AnyPlan y → Lies n c x → Lies n d y → Together x y
lie_together n c d x y both left right a b = record {
  left = left;
  right = right;
  same = record {
    agents = a.agents ∙ both.same.agents ∙ sym b.agents;
    number = a.number ∙ both.same.number ∙ sym b.number;
    ledgers =
        subst (λ l. Alike l y.ledger.history) (sym a.history)
        (subst (Alike (Acted n (Slept a.row.serial a.index a.word) ∷ c.ledger.history)) (ap (λ e. e ∷ d.ledger.history) (sym (one_sleep n c d x y both.same a b)) ∙ sym b.history)
        (after_one c.ledger.history d.ledger.history (Acted n (Slept a.row.serial a.index a.word)) both.same.ledgers));
  };
}

-- What is left of two runs

-- they have the same moves, and come to the same
pub record Meets (ts us : List TakenTurn) (x y : ClusterView) : Type 0 where
  pub moves : moves_of ts ≡ moves_of us
  pub same : Same x y

-- so it is of all that are shorter than this, from clusters that tell the same
abbrev Shorter : ℕ → Type 0
Shorter k =
    (ts us : List TakenTurn) (first : Option ℕ) (c d x y : ClusterView) → length ts + length us < k → Together c d → AreTurns ts c x → AreMoves first ts None → all_over x ≡ true → AreTurns us d y → AreMoves first us None → all_over y ≡ true → Meets ts us x y

-- in the one agent n sleeps that in the other has timed out and gone on
behind_on : (k : ℕ) → Shorter k → (ts us : List TakenTurn) (n : ℕ) (c d x y : ClusterView) → length ts + length us ≤ k → Behind n c d → AreTurns ts c x → AreMoves None ts None → all_over x ≡ true
    → AreTurns us d y → AreMoves (busy n d) us None → all_over y ≡ true → (moves_of ts ≡ (n, slice_get d.agents n) ∷ moves_of us) × Same x y
behind_on k again [] us n c d x y small behind at fits over on others end =
    let b = behind.before in
    let was = behind.left.each n b behind.here in
    let sleep = a_sleep c.ledger.history b.number (ap (asleep c.ledger.history) was.number ∙ behind.sleeps) in
    let asks = (was.tied.sleeps sleep.0 sleep.1).1 in
    let known : n < c.ledger.agents = (let there = within c.agents n b behind.here in let size = behind.left.size in omega (arith, there, size)) in
    let closed : is_over b ≡ true = sym was.seated.over ∙ ap (has_ended c.ledger.history) was.number ∙ ended_where_all c.ledger.history c.ledger.agents n known (ap all_over (sym at) ∙ over) in
    let clash = sym (over_asks_nothing b closed) ∙ asks in
    cc
behind_on k again (t ∷ ts) us n c d x y small behind at fits over on others end =
    by (kind_from t c at.0 behind.left at.1) (λ small behind at fits. behind_on k again ts us n t.after d x y small behind at fits over on others end)
  where
    mine : GoesAhead t → t.agent ≡ n
    mine ahead = inner (sym (fits.0 ahead) ∙ ap mover at.0 ∙ behind.turn)

    by : Kind t
        → (length ts + length us ≤ k → Behind n t.after d → AreTurns ts t.after x → AreMoves None ts None → (moves_of ts ≡ (n, slice_get d.agents n) ∷ moves_of us) × Same x y)
        → (moves_of (t ∷ ts) ≡ (n, slice_get d.agents n) ∷ moves_of us) × Same x y
    by (goes e) rest =
        let agent = mine (inl e) in
        let turn = subst (λ m. Turned Moved m c t.after) agent (subst (λ p. Turned p t.agent c t.after) e (turn_from t c at.0 at.1)) in
        let both = catches_up n c d t.after behind turn in
        let busy_is : busy_after t.progress t.agent t.after ≡ busy n d = one_busy n t.agent Moved t.progress d t.after refl e agent (sym both.same.agents) in
        let met = again ts us (busy n d) t.after d x y (omega (arith, small)) both at.2 (subst (λ o. AreMoves o ts None) busy_is fits.1) over on others end in (
          ap (λ ms. ms ++ moves_of ts) (one_move t.agent n t.progress Moved t.after d e refl (sym agent) both.same.agents) ∙ ap (λ ms. (n, slice_get d.agents n) ∷ ms) met.moves,
          met.same,
        )
    by (lies e down) rest =
        let agent = mine (ahead_of t c at.0 down e at.1) in
        absurd (false≢true (sym down.up ∙ ap (asleep t.before.ledger.history) agent ∙ ap (λ c. asleep c.ledger.history n) at.0 ∙ behind.sleeps))
    by (idles same off none quiet) rest =
        let next = rest (omega (arith, small)) (stays_behind n c d t.after behind (stands_next t c at.0 behind.left at.1) (subst (Same t.after) at.0 same)) at.2 (subst (λ o. AreMoves o ts None) none fits.1) in
        (ap (λ ms. ms ++ moves_of ts) quiet ∙ next.0, next.1)

-- a turn in which the left one changes nothing, or the right one
left_on : (k : ℕ) → Shorter k → (t : TakenTurn) (ts us : List TakenTurn) (first : Option ℕ) (c d x y : ClusterView) → length (t ∷ ts) + length us ≤ k → Together c d → AreTurns (t ∷ ts) c x → AreMoves first (t ∷ ts) None → all_over x ≡ true
    → AreTurns us d y → AreMoves first us None → all_over y ≡ true → Same t.after t.before → (GoesAhead t → ⊥) → busy_after t.progress t.agent t.after ≡ None → move_in t.progress t.agent (slice_get t.after.agents t.agent) ≡ [] → Meets (t ∷ ts) us x y
left_on k again t ts us first c d x y small both at fits over on others end same off none quiet =
    let next = left_idles c d t.after both (stands_next t c at.0 both.left at.1) (subst (Same t.after) at.0 same) in
    let met = again ts us first t.after d x y (omega (arith, small)) next at.2 (subst (λ o. AreMoves o ts None) (idle_first first t fits.0 off none) fits.1) over on others end in
    record { moves = ap (λ ms. ms ++ moves_of ts) quiet ∙ met.moves; same = met.same }

meets_turned : (ts us : List TakenTurn) (x y : ClusterView) → Meets ts us x y → Meets us ts y x
meets_turned ts us x y met = record { moves = sym met.moves; same = same_turned x y met.same }

turned_again : (k : ℕ) → Shorter k → Shorter k
turned_again k again ts us first c d x y small both at fits over on others end =
    meets_turned us ts y x (again us ts first d c y x (omega (arith, small)) (together_turned c d both) on others end at fits over)

-- the left one begins to sleep where the right one times out at once
lag_on : (k : ℕ) → Shorter k → (t u : TakenTurn) (ts us : List TakenTurn) (first : Option ℕ) (c d x y : ClusterView) → length (t ∷ ts) + length (u ∷ us) ≤ k → Together c d → AreTurns (t ∷ ts) c x → AreMoves first (t ∷ ts) None → all_over x ≡ true
    → AreTurns (u ∷ us) d y → AreMoves first (u ∷ us) None → all_over y ≡ true → t.progress ≡ Waiting → Lies t.agent t.before t.after → u.progress ≡ Moved → Meets (t ∷ ts) (u ∷ us) x y
lag_on k again t u ts us first c d x y small both at fits over on others end e down f =
    let agent = one_agent first t u c d both.same at.0 on.0 fits.0 others.0 (ahead_of t c at.0 down e at.1) (inl f) in
    let n = t.agent in
    let begins = subst (λ p. Turned p n c t.after) e (turn_from t c at.0 at.1) in
    let turn = subst (λ n. Turned Moved n d u.after) agent (subst (λ p. Turned p u.agent d u.after) f (turn_from u d on.0 on.1)) in
    let behind = falls_behind n c d t.after u.after both begins (subst (λ c. Lies n c t.after) at.0 down) turn in
    let busy_is : busy_after u.progress u.agent u.after ≡ busy n u.after = one_busy n u.agent Moved u.progress u.after u.after refl f agent refl in
    let met = behind_on k again ts us n t.after u.after x y (omega (arith, small)) behind at.2 (subst (λ p. AreMoves (busy_after p n t.after) ts None) e fits.1) over on.2 (subst (λ o. AreMoves o us None) busy_is others.1) end in
    record {
      moves = ap (λ p. move_in p n (slice_get t.after.agents n) ++ moves_of ts) e ∙ met.0 ∙ sym (ap (λ ms. ms ++ moves_of us) (one_move u.agent n u.progress Moved u.after u.after f refl (sym agent) refl));
      same = met.1;
    }

-- both go ahead
ahead_on : (k : ℕ) → Shorter k → (t u : TakenTurn) (ts us : List TakenTurn) (first : Option ℕ) (c d x y : ClusterView) → length (t ∷ ts) + length (u ∷ us) ≤ k → Together c d → AreTurns (t ∷ ts) c x → AreMoves first (t ∷ ts) None → all_over x ≡ true
    → AreTurns (u ∷ us) d y → AreMoves first (u ∷ us) None → all_over y ≡ true → Kind t → Kind u → Meets (t ∷ ts) (u ∷ us) x y
ahead_on k again t u ts us first c d x y small both at fits over on others end (idles same off none quiet) right = left_on k again t ts (u ∷ us) first c d x y small both at fits over on others end same off none quiet
ahead_on k again t u ts us first c d x y small both at fits over on others end left (idles same off none quiet) =
    meets_turned (u ∷ us) (t ∷ ts) y x (left_on k (turned_again k again) u us (t ∷ ts) first d c y x (omega (arith, small)) (together_turned c d both) on others end at fits over same off none quiet)
ahead_on k again t u ts us first c d x y small both at fits over on others end (goes e) (goes f) =
    let agent = one_agent first t u c d both.same at.0 on.0 fits.0 others.0 (inl e) (inl f) in
    let left = subst (λ p. Turned p t.agent c t.after) e (turn_from t c at.0 at.1) in
    let right = subst (λ n. Turned Moved n d u.after) agent (subst (λ p. Turned p u.agent d u.after) f (turn_from u d on.0 on.1)) in
    let next = turn_together t.agent c d t.after u.after both left right in
    let busy_is = one_busy t.agent u.agent t.progress u.progress t.after u.after e f agent next.same.agents in
    let met = again ts us (busy_after t.progress t.agent t.after) t.after u.after x y (omega (arith, small)) next at.2 fits.1 over on.2 (subst (λ o. AreMoves o us None) busy_is others.1) end in
    record {
      moves = ap (λ ms. ms ++ moves_of ts) (one_move t.agent u.agent t.progress u.progress t.after u.after e f agent next.same.agents) ∙ ap (λ ms. move_in u.progress u.agent (slice_get u.after.agents u.agent) ++ ms) met.moves;
      same = met.same;
    }
ahead_on k again t u ts us first c d x y small both at fits over on others end (lies e down) (lies f lain) =
    let agent = one_agent first t u c d both.same at.0 on.0 fits.0 others.0 (ahead_of t c at.0 down e at.1) (ahead_of u d on.0 lain f on.1) in
    let left = subst (λ c. Lies t.agent c t.after) at.0 down in
    let right = subst (λ n. Lies n d u.after) agent (subst (λ d. Lies u.agent d u.after) on.0 lain) in
    let next = lie_together t.agent c d t.after u.after both (stands_next t c at.0 both.left at.1) (stands_next u d on.0 both.right on.1) left right in
    let met = again ts us None t.after u.after x y (omega (arith, small)) next at.2 (subst (λ p. AreMoves (busy_after p t.agent t.after) ts None) e fits.1) over on.2 (subst (λ p. AreMoves (busy_after p u.agent u.after) us None) f others.1) end in
    record {
      moves = ap (λ p. move_in p t.agent (slice_get t.after.agents t.agent) ++ moves_of ts) e ∙ met.moves ∙ sym (ap (λ p. move_in p u.agent (slice_get u.after.agents u.agent) ++ moves_of us) f);
      same = met.same;
    }
ahead_on k again t u ts us first c d x y small both at fits over on others end (lies e down) (goes f) = lag_on k again t u ts us first c d x y small both at fits over on others end e down f
ahead_on k again t u ts us first c d x y small both at fits over on others end (goes e) (lies f lain) =
    meets_turned (u ∷ us) (t ∷ ts) y x (lag_on k (turned_again k again) u t us ts first d c y x (omega (arith, small)) (together_turned c d both) on others end at fits over f lain e)

-- the other one has come to its end
alone_on : (k : ℕ) → Shorter k → (t : TakenTurn) (ts : List TakenTurn) (first : Option ℕ) (c d x y : ClusterView) → length (t ∷ ts) + 0 ≤ k → Together c d → AreTurns (t ∷ ts) c x → AreMoves first (t ∷ ts) None → all_over x ≡ true
    → AreTurns [] d y → AreMoves first [] None → all_over y ≡ true → Kind t → Meets (t ∷ ts) [] x y
alone_on k again t ts first c d x y small both at fits over on others end (goes e) =
    absurd (none_moves t.agent c t.after both.left (same_over c d both.same ∙ ap all_over (sym on) ∙ end) (subst (λ p. Turned p t.agent c t.after) e (turn_from t c at.0 at.1)))
alone_on k again t ts first c d x y small both at fits over on others end (lies e down) =
    absurd (none_lies t.agent c t.after both.left (same_over c d both.same ∙ ap all_over (sym on) ∙ end) (subst (λ c. Lies t.agent c t.after) at.0 down))
alone_on k again t ts first c d x y small both at fits over on others end (idles same off none quiet) = left_on k again t ts [] first c d x y small both at fits over on others end same off none quiet

one_on : (k : ℕ) → Shorter k → (ts us : List TakenTurn) (first : Option ℕ) (c d x y : ClusterView) → length ts + length us ≤ k → Together c d → AreTurns ts c x → AreMoves first ts None → all_over x ≡ true → AreTurns us d y → AreMoves first us None → all_over y ≡ true
    → Meets ts us x y
one_on k again [] [] first c d x y small both at fits over on others end = record { moves = refl; same = subst (λ x. Same x y) (sym at) (subst (Same c) (sym on) both.same) }
one_on k again (t ∷ ts) [] first c d x y small both at fits over on others end = alone_on k again t ts first c d x y small both at fits over on others end (kind_from t c at.0 both.left at.1)
one_on k again [] (u ∷ us) first c d x y small both at fits over on others end =
    meets_turned (u ∷ us) [] y x (alone_on k (turned_again k again) u us first d c y x (omega (arith, small)) (together_turned c d both) on others end at fits over (kind_from u d on.0 both.right on.1))
one_on k again (t ∷ ts) (u ∷ us) first c d x y small both at fits over on others end =
    ahead_on k again t u ts us first c d x y small both at fits over on others end (kind_from t c at.0 both.left at.1) (kind_from u d on.0 both.right on.1)

together_on : (k : ℕ) → Shorter k
together_on zero ts us first c d x y small both at fits over on others end = absurd (omega (arith, small))
together_on (suc k) ts us first c d x y small both at fits over on others end = one_on k (together_on k) ts us first c d x y (omega (arith, small)) both at fits over on others end

pub one_from : (c : ClusterView) (ts us : List TakenTurn) (x y : ClusterView) → StandsBy AnyPlan c → AreTurns ts c x → AreMoves None ts None → all_over x ≡ true → AreTurns us c y → AreMoves None us None → all_over y ≡ true → Meets ts us x y
one_from c ts us x y stands at fits over on others end =
    together_on (suc (length ts + length us)) ts us None c c x y (omega arith) (record { left = stands; right = stands; same = record { agents = refl; number = refl; ledgers = same c.ledger.history } }) at fits over on others end

pub one_run : (plan : Plan) (ts us : List TakenTurn) (c d : ClusterView) → AreTurns ts (first_state plan) c → AreMoves None ts None → all_over c ≡ true → AreTurns us (first_state plan) d → AreMoves None us None → all_over d ≡ true
    → moves_of ts ≡ moves_of us
one_run plan ts us c d at fits over on others end = (one_from (first_state plan) ts us c d (stands_anyhow plan) at fits over on others end).moves

-- The turns of a run

turns_then : (ts us : List TakenTurn) (a b c : ClusterView) → AreTurns ts a b → AreTurns us b c → AreTurns (ts ++ us) a c
turns_then [] us a b c first then = subst (λ b. AreTurns us b c) first then
turns_then (t ∷ ts) us a b c first then = (first.0, first.1, turns_then ts us t.after b c first.2 then)

moves_then : (ts us : List TakenTurn) (a b c : Option ℕ) → AreMoves a ts b → AreMoves b us c → AreMoves a (ts ++ us) c
moves_then [] us a b c first then = subst (λ b. AreMoves b us c) first then
moves_then (t ∷ ts) us a b c first then = (first.0, moves_then ts us (busy_after t.progress t.agent t.after) b c first.1 then)

-- turns that lead from the one to the other, where this move was under way
AreOf : Option ℕ → ClusterView → ClusterView → Type 0
AreOf first c d = (ts : List TakenTurn) × AreTurns ts c d × AreMoves first ts None

abbrev a_turn : Progress → ℕ → ClusterView → ClusterView → TakenTurn
a_turn p n c d = record { progress = p; agent = n; before = c; after = d }

turns_of_rest : (n : ℕ) (c d : ClusterView) → Rest n c d → AreOf (busy n c) c d
unfolding AreOf
turns_of_rest n c d (rested is) = ([], refl, sym (busy_no_more n c is))
turns_of_rest n c d (slept is begins) = (a_turn Waiting n c d ∷ [], (refl, begins.0, refl), subst (λ o. AreMoves o (a_turn Waiting n c d ∷ []) None) (sym (busy_with n c is)) ((inr begins, refl), refl))
turns_of_rest n c d (turned {mid = mid} is turn rest) =
    let more = turns_of_rest n mid d rest in
    (a_turn Moved n c mid ∷ more.0, (refl, turn, more.1), subst (λ o. AreMoves o (a_turn Moved n c mid ∷ more.0) None) (sym (busy_with n c is)) ((inl refl, refl), more.2))

turns_of_move : (n : ℕ) (c d : ClusterView) → mover c ≡ Some n → IsMove n c d → AreOf None c d
unfolding AreOf
turns_of_move n c d is (inl move) = let more = turns_of_rest n move.0 d move.2 in (a_turn Moved n c move.0 ∷ more.0, (refl, move.1, more.1), ((λ ahead. is), more.2))
turns_of_move n c d is (inr begins) = (a_turn Waiting n c d ∷ [], (refl, begins.0, refl), ((λ ahead. is), refl))

not_ahead : (n : ℕ) (c d : ClusterView) → asleep d.ledger.history n ≡ asleep c.ledger.history n → GoesAhead (a_turn Waiting n c d) → mover c ≡ Some n
not_ahead n c d same (inl moved) = let clash : Waiting ≡ Moved = moved in cc
not_ahead n c d same (inr begins) = absurd (false≢true (sym begins.1 ∙ sym same ∙ begins.2))

turns_of_run : (c d : ClusterView) → RunsOut c d → AreOf None c d × (all_over d ≡ true)
unfolding AreOf
turns_of_run c d (runs_over is) = (([], refl, refl), is)
turns_of_run c d (waits_next n {mid = mid} turn same rest) =
    let more = turns_of_run mid d rest in
    ((a_turn Waiting n c mid ∷ more.0.0, (refl, turn, more.0.1), (not_ahead n c mid same, more.0.2)), more.1)
turns_of_run c d (moves_next n {mid = mid} is move rest) =
    let first = turns_of_move n c mid is move in
    let more = turns_of_run mid d rest in
    ((first.0 ++ more.0.0, turns_then first.0 more.0.0 c mid d first.1 more.0.1, moves_then first.0 more.0.0 None None None first.2 more.0.2), more.1)

pub runs_same : (c x y : ClusterView) → StandsBy AnyPlan c → RunsOut c x → RunsOut c y → Same x y
unfolding AreOf
runs_same c x y stands left right =
    let a = turns_of_run c x left in
    let b = turns_of_run c y right in
    (one_from c a.0.0 b.0.0 x y stands a.0.1 a.0.2 a.1 b.0.1 b.0.2 b.1).same
