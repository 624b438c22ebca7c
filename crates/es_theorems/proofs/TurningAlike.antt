-- A turn of an agent that moves is a step of it by the agents' own names.
use Rattle.std.proofs.Common.{◌≡◌, ℕ, sym, ◌∙◌, ap, refl, subst, List, ◌∷◌, ◌++◌, map, Option, Some, None}
use Rattle.std.specs.Prelude.{slice_get, slice_set}
use Rattle.std.specs.Option.{option_map}
use Rattle.es_event.specs.declared.event.Event.{Event}
use Rattle.es_event.specs.declared.row.Row.{Row}
use Rattle.es_event.specs.Ledger.{Ledger}
use Rattle.es_event.specs.LegalLedger.{LegalSoFar}
use Rattle.es_event.specs.Order.{Due, receive, due}
use Rattle.es_event.specs.Runs.{ComesNext}
use Rattle.es_match.specs.Deeds.{Deed, part}
use Rattle.es_match.specs.Cluster.{DeedsMeet}
use Rattle.es_record.specs.AgentView.{AgentView, with_row}
use Rattle.es_cluster.specs.Tied.{IsTied, came_to}
use Rattle.es_cluster.specs.declared.member.Progress.TheVariants.{Moved}
use Rattle.es_cluster.specs.State.{ClusterView}
use Rattle.es_cluster.specs.Turns.{Turned}
use Rattle.es_cluster.proofs.Standing.{set_mapped}
use Rattle.es_theorems.specs.Together.{StandsAt}
use Rattle.es_theorems.proofs.Turning.{Done, after_event as grown_by, done, move}
use Rattle.es_theorems.specs.Alone.{Goes, Words, after_event, learned, lore_after, new_lore, posted_by, touch_by, with_new, words_after}
use Rattle.es_theorems.specs.Renamed.{AreOpened, HasWords, got_in, letter_of, local_of, locals_of, lore_of, name, renamed, renamed_row, sent_in, world_of}
use Rattle.es_theorems.specs.Steps.{Along, AreOver, AtTurn, HasCome, Keeps, Means}
use Rattle.es_theorems.specs.Calm.{Calm}
use Rattle.es_theorems.proofs.DoingAlike.{means_alone}
use Rattle.es_theorems.proofs.Learning.{learns}
use Rattle.es_theorems.proofs.Names.{names_apart}
use Rattle.es_theorems.proofs.Opened.{all_sent, over_later, over_opened}
use Rattle.es_theorems.proofs.Others.{other_stays, renamed_stays, sent_stays, set_over}
use Rattle.es_theorems.proofs.Ports.{got_more, sent_more}
use Rattle.es_theorems.proofs.Receiving.{means_message}
use Rattle.es_theorems.proofs.Renaming.{comes_renamed, new_renamed, run_renamed}
use Rattle.es_theorems.proofs.Skipping.{mapped_at}
use Rattle.es_theorems.proofs.Wording.{words_turn}
use Rattle.es_theorems.proofs.Running.{turn_calm}

-- What comes, and by which deeds

pub record Step (n : ℕ) (c : ClusterView) (words : Words) (i : ℕ) (d : ClusterView) (b new : AgentView) : Type 0 where
  pub event : Event
  pub row : Option Row
  pub is : new ≡ grown_by b row event
  pub deeds : List Deed
  pub at : AtTurn n c i d.ledger.history b event row deeds
  pub means : Means n c words i d.ledger.history b event row deeds

means : (n : ℕ) (c : ClusterView) (words : Words) (i : ℕ) (m : Ledger) (b : AgentView) (e : Event) (r : Option Row) (ds : List Deed) → HasWords n c.ledger.history words → AtTurn n c i m b e r ds → Means n c words i m b e r ds
means n c words i m b e r ds holds x = by_due (due b.plan b.history) refl
  where
    by_due : (d : Due) → due b.plan b.history ≡ d → Means n c words i m b e r ds
    by_due (receive k s) at = means_message n c words i m b e r ds k s x at
    by_due _ at = means_alone n c words i m b e r ds holds x (λ k s is. let clash = sym at ∙ is in cc)

pub step : (n : ℕ) (c : ClusterView) (words : Words) (i : ℕ) (d : ClusterView) → Along n c → HasWords n c.ledger.history words → (turn : Turned Moved i c d) → Step n c words i d turn.before turn.after
step n c words i d along holds turn = record { event = e; row = r; is = turn.turn.3; deeds = doing.deeds; at = at; means = means n c words i d.ledger.history b e r doing.deeds holds at }
  where
    b : AgentView
    b = turn.before

    e : Event
    e = turn.turn.0

    r : Option Row
    r = turn.turn.1

    l : Ledger
    l = c.ledger.history

    was : StandsAt c i b
    was = along.stands.each i b turn.agent

    legal : LegalSoFar n d.ledger.history
    legal = subst (λ k. LegalSoFar k d.ledger.history) (turn.number ∙ along.number) turn.legal.0

    calm : Calm i d.ledger.history
    calm = turn_calm i c d along.stands turn

    doing : Done i l d.ledger.history
    doing = done n i l d.ledger.history turn.ledger along.stands.undrained legal calm

    before : DeedsMeet b.history (part l i) (came_to b)
    before = subst (λ k. DeedsMeet b.history (part l k) (came_to b)) was.number was.tied.ties

    number : turn.after.number ≡ i
    number = ap (λ b. b.number) turn.turn.3 ∙ was.number

    tied : IsTied turn.after d.ledger.history
    tied = turn.tied.tied

    ties : DeedsMeet turn.after.history (part d.ledger.history i) (came_to turn.after)
    ties = subst (λ k. DeedsMeet turn.after.history (part d.ledger.history k) (came_to turn.after)) number tied.ties

    now : DeedsMeet (e ∷ b.history) (part d.ledger.history i) (came_to (grown_by b r e))
    now = subst (λ x. DeedsMeet x.history (part d.ledger.history i) (came_to x)) turn.turn.3 ties

    at : AtTurn n c i d.ledger.history b e r doing.deeds
    at = record {
      along = along;
      here = turn.agent;
      grows = turn.ledger;
      legal = legal;
      part_is = doing.part_is;
      alike = doing.alike;
      moved = move i l d.ledger.history b e r before now turn.turn.2 doing;
      never = was.calm;
      calm = calm;
      told = turn.told.0;
    }

-- Buffers after it

over_next : (m : Ledger) (b : AgentView) (e : Event) (r : Option Row) → AreOver m b.over → HasCome m b.history e r → AreOver m (with_row r b).over
over_next m b e None are come = are
over_next m b e (Some q) are come = (come.0, are)

pub over_on : (n : ℕ) (c : ClusterView) (i : ℕ) (m : Ledger) (b : AgentView) (e : Event) (r : Option Row) (ds : List Deed) → AtTurn n c i m b e r ds → HasCome m b.history e r → AreOver m (with_row r b).over
over_on n c i m b e r ds x come =
    let legal : LegalSoFar n (x.grows.0 ++ c.ledger.history) = subst (LegalSoFar n) x.grows.1 x.legal in
    over_next m b e r (subst (λ m. AreOver m b.over) (sym x.grows.1) (over_later n x.grows.0 c.ledger.history legal b.over (x.along.each i b x.here).over)) come

-- The agent, and all of them, by their own names

goes : (n : ℕ) (c : ClusterView) (words : Words) (i : ℕ) (d : ClusterView) (b new : AgentView) (e : Event) (r : Option Row) (ds : List Deed) → n ≡ c.ledger.agents → d.ledger.agents ≡ c.ledger.agents → d.agents ≡ slice_set c.agents i new → new ≡ grown_by b r e
    → HasWords n c.ledger.history words → AtTurn n c i d.ledger.history b e r ds → Means n c words i d.ledger.history b e r ds → Goes n (world_of c words) i (world_of d (words_after words (touch_by (renamed (name n c.ledger.history) b.over) e)))
goes n c words i d b new e r ds size number agents is holds x y = record {
  before = local_of n l b;
  at = mapped_at (local_of c.ledger.agents l) c.agents i ∙ ap (option_map (local_of c.ledger.agents l)) x.here ∙ ap (λ n. Some (local_of n l b)) (sym size);
  run = run_renamed (name n l) b.over b.plan b.history (names_apart n l b.over x.along.legal (over_opened l b.over keeps.over)) (x.along.stands.each i b x.here).run;
  event = e;
  row = option_map (renamed_row (name n m)) r;
  got = got_in ds;
  next = subst (λ over. ComesNext over b.plan b.history e) (sym buffers) (comes_renamed (name n m) (with_row r b).over b.plan b.history e (names_apart n m (with_row r b).over x.legal opened) (x.moved.next.lawful, x.moved.next.permitted));
  finds = y.finds;
  is = λ k. record { locals = all_are k; lore = lore_is k; words = words_after words (touch_by (renamed (name n l) b.over) e) };
}
  where
    l : Ledger
    l = c.ledger.history

    m : Ledger
    m = d.ledger.history

    keeps : Keeps l b
    keeps = x.along.each i b x.here

    legal : LegalSoFar n (x.grows.0 ++ l)
    legal = subst (LegalSoFar n) x.grows.1 x.legal

    opened : AreOpened m (with_row r b).over
    opened = over_opened m (with_row r b).over (over_on n c i m b e r ds x y.comes)

    same_over : renamed (name n m) b.over ≡ renamed (name n l) b.over
    same_over = ap (λ m. renamed (name n m) b.over) x.grows.1 ∙ renamed_stays n x.grows.0 l legal b.over (over_opened l b.over keeps.over)

    buffers : with_new (option_map (renamed_row (name n m)) r) b.history (renamed (name n l) b.over) ≡ renamed (name n m) (with_row r b).over
    buffers = ap (with_new (option_map (renamed_row (name n m)) r) b.history) (sym same_over) ∙ new_renamed (name n m) r b.history b.over

    same_sent : sent_in (letter_of n m) (part l i) ≡ sent_in (letter_of n l) (part l i)
    same_sent = ap (λ m. sent_in (letter_of n m) (part l i)) x.grows.1 ∙ sent_stays n x.grows.0 l legal (part l i) (all_sent n l x.along.legal i)

    sent : sent_in (letter_of n m) (part m i) ≡ sent_in (letter_of n l) (part l i) ++ posted_by (renamed (name n l) b.over) e
    sent =
        ap (sent_in (letter_of n m)) x.part_is ∙ sent_more (letter_of n m) (part l i) ds
        ∙ ap (λ s. s ++ sent_in (letter_of n m) ds) same_sent
        ∙ ap (λ s. sent_in (letter_of n l) (part l i) ++ s) y.sends

    its_number : b.number ≡ i
    its_number = (x.along.stands.each i b x.here).number

    mine : local_of n m new ≡ after_event (local_of n l b) e (option_map (renamed_row (name n m)) r) (got_in ds)
    mine =
        ap (local_of n m) is
        ∙ ap (λ k. record { plan = b.plan; over = renamed (name n m) (with_row r b).over; history = e ∷ b.history; sent = sent_in (letter_of n m) (part m k); got = got_in (part m k) }) its_number
        ∙ ap (λ over. record { plan = b.plan; over = over; history = e ∷ b.history; sent = sent_in (letter_of n m) (part m i); got = got_in (part m i) }) (sym buffers)
        ∙ ap (λ s. record { plan = b.plan; over = with_new (option_map (renamed_row (name n m)) r) b.history (renamed (name n l) b.over); history = e ∷ b.history; sent = s; got = got_in (part m i) }) sent
        ∙ ap (λ g. record { plan = b.plan; over = with_new (option_map (renamed_row (name n m)) r) b.history (renamed (name n l) b.over); history = e ∷ b.history; sent = sent_in (letter_of n l) (part l i) ++ posted_by (renamed (name n l) b.over) e; got = g }) (ap got_in x.part_is ∙ got_more (part l i) ds)
        ∙ ap (λ k. after_event (record { plan = b.plan; over = renamed (name n l) b.over; history = b.history; sent = sent_in (letter_of n l) (part l k); got = got_in (part l k) }) e (option_map (renamed_row (name n m)) r) (got_in ds)) (sym its_number)

    others : (j : ℕ) (a : AgentView) → (j ≡ i → ⊥) → slice_get c.agents j ≡ Some a → local_of n m a ≡ local_of n l a
    others j a other there =
        let number = (x.along.stands.each j a there).number in
        ap (λ m. local_of n m a) x.grows.1
        ∙ other_stays n i x.grows.0 l legal (x.grows.0, refl, x.grows.2) a (λ same. other (sym number ∙ same)) (over_opened l a.over (x.along.each j a there).over) (all_sent n l x.along.legal a.number)

    all_are : locals_of d ≡ slice_set (locals_of c) i (after_event (local_of n l b) e (option_map (renamed_row (name n m)) r) (got_in ds))
    all_are =
        ap (λ k. map (local_of k m) d.agents) (number ∙ sym size)
        ∙ ap (map (local_of n m)) agents
        ∙ set_mapped (local_of n m) c.agents i new
        ∙ set_over (local_of n m) (local_of n l) c.agents i (local_of n m new) others
        ∙ ap (slice_set (map (local_of n l) c.agents) i) mine
        ∙ ap (λ k. slice_set (map (local_of k l) c.agents) i (after_event (local_of n l b) e (option_map (renamed_row (name n m)) r) (got_in ds))) size

    lore_is : lore_of d.ledger.agents m ≡ lore_after (lore_of c.ledger.agents l) i (new_lore (lore_of c.ledger.agents l i) i (learned (lore_of c.ledger.agents l) i (local_of n l b) (got_in ds)) words (local_of n l b) e)
    lore_is =
        ap (λ k. lore_of k m) (number ∙ sym size) ∙ learns n c words i m b e r ds holds x y.does
        ∙ ap (λ k. lore_after (lore_of k l) i (new_lore (lore_of k l i) i (learned (lore_of k l) i (local_of n l b) (got_in ds)) words (local_of n l b) e)) size

pub turn_goes : (n : ℕ) (c : ClusterView) (words : Words) (i : ℕ) (d : ClusterView) → Along n c → HasWords n c.ledger.history words → Turned Moved i c d → (more : Words) × HasWords n d.ledger.history more × Goes n (world_of c words) i (world_of d more)
turn_goes n c words i d along holds turn =
    let s = step n c words i d along holds turn in (
      words_after words (touch_by (renamed (name n c.ledger.history) turn.before.over) s.event),
      words_turn n c words i d.ledger.history turn.before s.event s.row s.deeds s.at s.means.does holds,
      goes n c words i d turn.before turn.after s.event s.row s.deeds (sym along.number) turn.number turn.agents s.is holds s.at s.means,
    )
