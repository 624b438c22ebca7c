-- What an agent keeps for an open later collection, after one more event.
use Rattle.std.proofs.Common.{◌≡◌, ℕ, ◌&&◌, Bool, true, false, cond, not, nat_lt, nat_le, sym, ◌∙◌, ap, refl, subst, arith, List, [], ◌∷◌, ◌++◌, reverse, Option, Some, None, inl, inr, ◌==◌}
use Rattle.std.specs.Prelude.{unwrap_or}
use Rattle.std.specs.List.{filter, list_all}
use Rattle.std.proofs.lemmas.Bool.{cases_Bool, and_from}
use Rattle.std.proofs.lemmas.List.Sorted.{list_any-IsPermutation, IsPermutation-reverse}
use Rattle.es_event.proofs.Lists.{all_in, all_from_members}
use Rattle.std.specs.Option.{option_map, option_to_list}
use Rattle.es_event.specs.declared.event.Event.{Event}
use Rattle.es_event.specs.declared.event.Event.TheVariants.{Did, Emptied}
use Rattle.es_event.specs.declared.command.Command.{Command}
use Rattle.es_event.specs.declared.command.Command.TheVariants.{CollectLater}
use Rattle.es_event.specs.History.{History}
use Rattle.es_event.specs.Identities.{is_gone, is_made, is_there, made}
use Rattle.es_event.specs.Registrations.{fate, is_present}
use Rattle.es_event.specs.Derefs.{derefs}
use Rattle.es_event.specs.Later.{is_later, begins_later, taken_by, snapshot, derefed_since}
use Rattle.es_event.proofs.Cells.{fate_same}
use Rattle.es_mark.specs.Graph.{IsNumbered}
use Rattle.es_parmark.specs.Snapshot.{SnapshotView, IsCopyOf, are_made}
use Rattle.es_tables.specs.Effects.{IsQuiet}
use Rattle.es_record.specs.AgentView.{AgentView, Records}
use Rattle.es_record.specs.Graph.{HasRoots, HasEdges, HasEntries, as_at}
use Rattle.es_agent.specs.Keeping.{noted, IsKept}
use Rattle.es_agent.specs.Later.{opening, IsCopyAt}

-- An event that opens no later collection and empties nothing

not_later : (c : Command) (h : History) → is_later c ≡ false → taken_by c h ≡ None
not_later CollectLater h e = cc
not_later _ h e = refl

pub same_snapshot : (e : Event) (h : History) → IsQuiet e → begins_later e ≡ false → snapshot (e ∷ h) ≡ snapshot h
same_snapshot (Did (c, vs, r)) h quiet plain = ap (λ o. unwrap_or o (snapshot h)) (not_later c (Did (c, vs, r) ∷ h) plain)
same_snapshot (Emptied ids) h quiet plain = absurd quiet
same_snapshot _ h quiet plain = refl

more_derefed : (e : Event) (h : History) → begins_later e ≡ false → derefed_since (e ∷ h) ≡ derefs e ++ derefed_since h
more_derefed e h plain = ap (λ b. cond b [] (derefs e ++ derefed_since h)) plain

noted_is : (p : History) (n : ℕ) (o : Option ℕ) (given ids rest : List ℕ) → n ≡ made p → option_to_list o ≡ given → ids ≡ filter (is_made p) rest → noted n o ids ≡ filter (is_made p) (given ++ rest)
noted_is p n None given ids rest count is same = subst (λ g. ids ≡ filter (is_made p) (g ++ rest)) is same
noted_is p n (Some i) given ids rest count is same =
    subst (λ g. noted n (Some i) ids ≡ filter (is_made p) (g ++ rest)) is
    (ap (λ m. cond (nat_lt 0 i && nat_le i m) (i ∷ ids) ids) count ∙ ap (λ l. cond (is_made p i) (i ∷ l) l) same)

kept_at : (b : AgentView) (e : Event) (o : Option ℕ) (q : Option History) (k : Option (SnapshotView × List ℕ)) → option_to_list o ≡ derefs e → begins_later e ≡ false → IsKept b q k
    → IsKept (record b { history = e ∷ b.history }) q (option_map (λ k. (k.0, noted k.0.made o k.1)) k)
kept_at b e o None None is plain kept = tt
kept_at b e o None (Some k) is plain kept = absurd kept
kept_at b e o (Some p) None is plain kept = absurd kept
kept_at b e o (Some p) (Some k) is plain kept =
    (kept.0, noted_is p k.0.made o (derefs e) k.1 (derefed_since b.history) kept.0.made_same is kept.1 ∙ ap (filter (is_made p)) (sym (more_derefed e b.history plain)))

pub kept_after : (b : AgentView) (e : Event) (o : Option ℕ) (k : Option (SnapshotView × List ℕ)) → IsQuiet e → begins_later e ≡ false → option_to_list o ≡ derefs e → IsKept b (snapshot b.history) k
    → IsKept (record b { history = e ∷ b.history }) (snapshot (e ∷ b.history)) (option_map (λ k. (k.0, noted k.0.made o k.1)) k)
kept_after b e o k quiet plain is kept =
    subst (λ q. IsKept (record b { history = e ∷ b.history }) q (option_map (λ k. (k.0, noted k.0.made o k.1)) k)) (sym (same_snapshot e b.history quiet plain)) (kept_at b e o (snapshot b.history) k is plain kept)

-- and gives nothing by a deref

-- Opening a later collection

opened_made : (h : History) → made (opening ∷ h) ≡ made h
opened_made h = omega arith

opened_fate : (h : History) (n : ℕ) → fate (opening ∷ h) n ≡ fate h n
opened_fate h n = fate_same opening h n refl refl refl

opened_there : (h : History) (i : ℕ) → is_there (opening ∷ h) i ≡ is_there h i
opened_there h i = ap (λ m. (nat_lt 0 i && nat_le i m) && not (is_gone h i)) (opened_made h)

module _ (b : AgentView) where
  roots_back : (t : ℕ → Bool) → HasRoots (as_at b (opening ∷ b.history)) t → HasRoots b t
  roots_back t r = record {
    variables = r.variables;
    kept = r.kept;
    registries = r.registries;
    cells = λ n c i e present. r.cells n c i e (ap is_present (opened_fate b.history n) ∙ present);
  }

  roots_on : (t : ℕ → Bool) → HasRoots b t → HasRoots (as_at b (opening ∷ b.history)) t
  roots_on t r = record {
    variables = r.variables;
    kept = r.kept;
    registries = r.registries;
    cells = λ n c i e present. r.cells n c i e (sym (ap is_present (opened_fate b.history n)) ∙ present);
  }

  edges_back : (o : ℕ) (t : ℕ → Bool) → HasEdges (as_at b (opening ∷ b.history)) o t → HasEdges b o t
  edges_back o t f there = f (opened_there b.history o ∙ there)

  edges_on : (o : ℕ) (t : ℕ → Bool) → HasEdges b o t → HasEdges (as_at b (opening ∷ b.history)) o t
  edges_on o t f there = f (sym (opened_there b.history o) ∙ there)

  entries_back : (k : ℕ) (t : ℕ → Bool) → HasEntries (as_at b (opening ∷ b.history)) k t → HasEntries b k t
  entries_back k t f m v i there = f m v i (opened_there b.history m ∙ there)

  entries_on : (k : ℕ) (t : ℕ → Bool) → HasEntries b k t → HasEntries (as_at b (opening ∷ b.history)) k t
  entries_on k t f m v i there = f m v i (sym (opened_there b.history m) ∙ there)

  pub copy_opened : (s : SnapshotView) → IsCopyOf (made b.history) (HasRoots b) (HasEdges b) (HasEntries b) s → IsCopyAt (record b { history = opening ∷ b.history }) (opening ∷ b.history) s
  copy_opened s c = record {
    sound = c.sound;
    made_same = c.made_same ∙ sym (opened_made b.history);
    roots_from = λ t r. c.roots_from t (roots_back t r);
    roots_to = λ t r. roots_on t (c.roots_to t r);
    edges_from = λ i n t e. c.edges_from i (numbered i n) t (edges_back i t e);
    edges_to = λ i n t e. edges_on i t (c.edges_to i (numbered i n) t e);
    entries_from = λ i n t e. c.entries_from i (numbered i n) t (entries_back i t e);
    entries_to = λ i n t e. entries_on i t (c.entries_to i (numbered i n) t e);
  } where
    numbered : (i : ℕ) → IsNumbered (made (opening ∷ b.history)) i → IsNumbered (made b.history) i
    numbered i n = subst (λ m. IsNumbered m i) (opened_made b.history) n

  pub kept_opened : (s : SnapshotView) → IsCopyOf (made b.history) (HasRoots b) (HasEdges b) (HasEntries b) s → IsKept (record b { history = opening ∷ b.history }) (snapshot (opening ∷ b.history)) (Some (s, []))
  kept_opened s c = (copy_opened s c, refl)

  -- what the opened copy is of
  pub later_opened : (s : SnapshotView) → IsCopyOf (made b.history) (HasRoots b) (HasEdges b) (HasEntries b) s → (p : History) → snapshot (opening ∷ b.history) ≡ Some p → IsCopyAt (record b { history = opening ∷ b.history }) p s
  later_opened s c p is = let same : opening ∷ b.history ≡ p = cc in subst (λ p. IsCopyAt (record b { history = opening ∷ b.history }) p s) same (copy_opened s c)

-- What is kept

pub copy_kept : (b : AgentView) (q : Option History) (k : Option (SnapshotView × List ℕ)) (s : SnapshotView) (ids : List ℕ) → k ≡ Some (s, ids) → IsKept b q k → (p : History) → q ≡ Some p
    → IsCopyAt b p s × (ids ≡ filter (is_made p) (derefed_since b.history))
copy_kept b None k s ids is kept p at = cc
copy_kept b (Some q) None s ids is kept p at = absurd kept
copy_kept b (Some q) (Some k) s ids is kept p at =
    let same : q ≡ p = cc in
    let own : k ≡ (s, ids) = cc in
    subst (λ k. IsCopyAt b p k.0 × (k.1 ≡ filter (is_made p) (derefed_since b.history))) own (subst (λ p. IsCopyAt b p k.0 × (k.1 ≡ filter (is_made p) (derefed_since b.history))) same kept)

-- A later collection that was opened

module _ (b n : AgentView) (e : Event) (s t : SnapshotView) (copy : IsCopyOf (made b.history) (HasRoots b) (HasEdges b) (HasEntries b) s) (is : e ≡ opening) (records : Records b e n) (own : t ≡ s) where
  after_opening : n ≡ record b { history = opening ∷ b.history }
  after_opening = records ∙ ap (λ e. record b { history = e ∷ b.history }) is

  pub begun_kept : (u : SnapshotView) (ids : List ℕ) → u ≡ t → ids ≡ [] → IsKept n (snapshot n.history) (Some (u, ids))
  begun_kept u ids same none =
      let pair : ◌≡◌ {A = SnapshotView × List ℕ} (s, []) (u, ids) = λ i. (sym (same ∙ own) i, sym none i) in
      subst (λ n. IsKept n (snapshot n.history) (Some (u, ids))) (sym after_opening)
      (subst (λ k. IsKept (record b { history = opening ∷ b.history }) (snapshot (opening ∷ b.history)) (Some k)) pair (kept_opened b s copy))

  pub begun_copy : (p : History) → snapshot n.history ≡ Some p → IsCopyAt n p t
  begun_copy =
      subst (λ n. (p : History) → snapshot n.history ≡ Some p → IsCopyAt n p t) (sym after_opening)
      (subst (λ s. (p : History) → snapshot (opening ∷ b.history) ≡ Some p → IsCopyAt (record b { history = opening ∷ b.history }) p s) (sym own) (later_opened b s copy))

-- What derefs gave was made when the copy was taken

passed : (test : ℕ → Bool) (xs : List ℕ) → list_all test (filter test xs) ≡ true
passed test [] = refl
passed test (x ∷ xs) = elim (cases_Bool (test x)) [
  | inl t ↦ rw t (and_from (test x) (list_all test (filter test xs)) t (passed test xs))
  | inr f ↦ rw f (passed test xs)
]

pub given_then : (p : History) (ids rest : List ℕ) → reverse ids ≡ filter (is_made p) rest → are_made (made p) ids ≡ true
given_then p ids rest is =
    all_from_members (is_made p) ids (λ i e. all_in (is_made p) (reverse ids) (subst (λ l. list_all (is_made p) l ≡ true) (sym is) (passed (is_made p) rest)) i (sym (list_any-IsPermutation (λ j. j == i) ids (reverse ids) (IsPermutation-reverse ids)) ∙ e))

-- what is kept, as the call that shows it has it
pub derefed_kept : (b : AgentView) (k : Option (SnapshotView × List ℕ)) (s : SnapshotView) (given ids : List ℕ) → k ≡ Some (s, given) → reverse ids ≡ given → IsKept b (snapshot b.history) k → (p : History) → snapshot b.history ≡ Some p
    → reverse ids ≡ filter (is_made p) (derefed_since b.history)
derefed_kept b k s given ids is same kept p at = same ∙ (copy_kept b (snapshot b.history) k s given is kept p at).1
