-- What is late, by the marks of the copy of the open collection.
use Rattle.std.proofs.Common.{◌≡◌, ℕ, ◌+◌, ◌<◌, ◌≤◌, ◌&&◌, not, Bool, true, false, nat_lt, nat_le, sym, ◌∙◌, ap, refl, subst, arith, List, [], ◌∷◌, ◌++◌, Option, Some, None, inl, inr}
use Rattle.std.specs.Prelude.{is_some}
use Rattle.std.specs.List.{list_all}
use Rattle.std.proofs.lemmas.Bool.{false≢true, and_parts, and_from, or_cases, ltb-true, leb-true}
use Rattle.es_value.specs.declared.value.Value.{Value}
use Rattle.es_event.specs.declared.event.Answer.{Answer}
use Rattle.es_event.specs.declared.event.Event.TheVariants.{Did, Emptied}
use Rattle.es_event.specs.declared.command.Command.TheVariants.{Deref, CollectLater}
use Rattle.es_event.specs.declared.plan.AgentPlan.{AgentPlan}
use Rattle.es_event.specs.Commands.{first}
use Rattle.es_event.specs.History.{History}
use Rattle.es_event.specs.Identities.{identity, is_in, is_gone, is_made, is_there, made, gone}
use Rattle.es_event.specs.Jobs.{Receivers, receivers}
use Rattle.es_event.specs.WeakRefs.{identity_given, first_target, target}
use Rattle.es_event.specs.Later.{snapshot, derefed_since}
use Rattle.es_event.specs.Late.{IsReachedWith, AreLate}
use Rattle.es_event.specs.Heard.{silence}
use Rattle.es_event.specs.Legal.{LegalBy, is_rising}
use Rattle.es_event.specs.Reach.{IsClosed}
use Rattle.es_event.specs.Rules.{target_of, or_undefined}
use Rattle.es_event.specs.Sharing.{Buffers}
use Rattle.es_event.specs.Follows.{Follows}
use Rattle.es_event.proofs.Accepted.{is_result}
use Rattle.es_event.proofs.Alive.{Alive, Stays, alive_at, stays_along, is_not}
use Rattle.es_event.proofs.Holds.{at_object}
use Rattle.es_event.proofs.Late.{late_from_least}
use Rattle.es_event.proofs.Lists.{in_both, in_option}
use Rattle.es_event.proofs.Opening.{since_copy}
use Rattle.es_event.proofs.Safe.{there_from}
use Rattle.es_event.proofs.Staying.{made_more}
use Rattle.es_event.proofs.Targets.{target_from}
use Rattle.es_mark.specs.Marks.{is_marked, IsLeast}
use Rattle.es_event.specs.declared.cursor.Cursor.{Cursor}
use Rattle.es_tables.specs.declared.tags.Tag.{Tag}
use Rattle.es_tables.specs.Tables.{TablesView}
use Rattle.es_tables.specs.Tags.{tag_at, tag_said}
use Rattle.es_tables.proofs.Passing.{passing}
use Rattle.es_record.specs.AgentView.{AgentView}
use Rattle.es_record.specs.Graph.{HasRoots, HasEdges, HasEntries, as_at, HasDerefed, AreLateMarks}
use Rattle.es_record.specs.Ties.{RecordTies}
use Rattle.es_record.proofs.Reached.{closed_in_graph, there_closed, both_of}
use Rattle.es_record.proofs.Unmarked.{is_left, tagged, in_range, within_range, passing_in, passing_rises, all_from}

-- What a deref gave is not emptied while the collection is open

given_here : (h : History) (a : Value) (t : Option Value) (r : Answer) (i : ℕ) → target_of h a ≡ t → or_undefined t ≡ r → is_in (identity_given r) i ≡ true → is_gone h i ≡ false
given_here h a None r i e is m = absurd (false≢true (subst (λ r. is_in (identity_given r) i ≡ true) (sym is) m))
given_here h a (Some v) r i e is m =
    let alive : Alive h v = at_object (Alive h v) (target h) a v (λ w at aims. (target_from (gone h) (first_target h w) v aims).1) e in
    alive_at h v i alive (in_option (identity v) i (subst (λ r. is_in (identity_given r) i ≡ true) (sym is) m))

pub derefed_here : (over : Buffers) (into : Receivers) (h p : History) → snapshot h ≡ Some p → LegalBy over into h → (i : ℕ) → is_in (derefed_since h) i ≡ true → is_gone h i ≡ false
derefed_here over into [] p e l i m = cc
derefed_here over into (Did (CollectLater, vs, r) ∷ h) p e l i m = absurd (false≢true m)
derefed_here over into (Did (Deref to w, vs, r) ∷ h) p e l i m =
    elim (or_cases (is_in (identity_given r) i) (is_in (derefed_since h) i) (sym (in_both (identity_given r) (derefed_since h) i) ∙ m)) [
      | inl a ↦ given_here h (first vs) (target_of h (first vs)) r i refl (is_result over h (Deref to w) vs silence r l.0.1) a
      | inr b ↦ derefed_here over into h p e l.1 i b
    ]
derefed_here over into (Did (c, vs, r) ∷ h) p e l i m = derefed_here over into h p e l.1 i m
derefed_here over into (Emptied ids ∷ h) p e l i m = cc
derefed_here over into (x ∷ h) p e l i m = derefed_here over into h p e l.1 i m

-- The beginning at which the copy was taken

legal_before : (over : Buffers) (into : Receivers) (g p : History) → LegalBy over into (g ++ p) → LegalBy over into p
legal_before over into [] p l = l
legal_before over into (e ∷ g) p l = legal_before over into g p l.1

follows_before : (over : Buffers) (plan : AgentPlan) (g p : History) → Follows over plan (g ++ p) → Follows over plan p
follows_before over plan [] p f = f
follows_before over plan (e ∷ g) p f = follows_before over plan g p f.1

-- what was there then, and is there still
pub record Earlier (into : Receivers) (h p : History) : Type 0 where
  pub stays : Stays into p
  pub still : gone h ≡ gone p
  pub fewer : made p ≤ made h

pub earlier : (over : Buffers) (plan : AgentPlan) (h p : History) → snapshot h ≡ Some p → LegalBy over (receivers plan.jobs) h → Follows over plan h → LegalBy over (receivers plan.jobs) p × Earlier (receivers plan.jobs) h p
earlier over plan h p is legal follows =
    let s = since_copy h p is in
    let legal_p : LegalBy over (receivers plan.jobs) p = legal_before over (receivers plan.jobs) s.later p (subst (LegalBy over (receivers plan.jobs)) s.whole legal) in
    let follows_p : Follows over plan p = follows_before over plan s.later p (subst (Follows over plan) s.whole follows) in (
      legal_p,
      record {
        stays = stays_along over plan p legal_p follows_p;
        still = s.still;
        fewer = omega (arith, made_more s.later p, ap made s.whole);
      },
    )

-- The marks

module _ (over : Buffers) (b : AgentView) (p : History) (marks : List Bool) (is : snapshot b.history ≡ Some p) (legal : LegalBy over (receivers b.plan.jobs) b.history)
    (legal_p : LegalBy over (receivers b.plan.jobs) p) (early : Earlier (receivers b.plan.jobs) b.history p)
    (least : IsLeast (λ t. HasRoots (as_at b p) t × HasDerefed b p t) (HasEdges (as_at b p)) (HasEntries (as_at b p)) marks) where
  -- what derefs gave was there then
  derefed_there : HasDerefed b p (is_there p)
  derefed_there i given here =
      let parts = and_parts (nat_lt 0 i) (nat_le i (made p)) here in
      there_from p i (sym (ap (λ g. is_in g i) early.still) ∙ derefed_here over (receivers b.plan.jobs) b.history p is legal i given) (ltb-true 0 i parts.0) (leb-true i (made p) parts.1)

  -- so all that is marked was
  marked_there : (i : ℕ) → is_marked marks i ≡ true → is_there p i ≡ true
  marked_there =
      let all = there_closed over (as_at b p) legal_p early.stays in
      least.least (is_there p) (record { has_roots = (all.has_roots, derefed_there); follows = all.follows; enters = all.enters })

  late_closed : IsClosed (receivers b.plan.jobs) p (λ i. is_marked marks i ≡ true)
  late_closed = record {
    variables = least.closed.has_roots.0.variables;
    kept = least.closed.has_roots.0.kept;
    registries = least.closed.has_roots.0.registries;
    cells = least.closed.has_roots.0.cells;
    properties = λ o k v i here e is. least.closed.follows o here (marked_there o here) k v i e is;
    entries = λ m k v i map key e is. least.closed.enters k key m v i (marked_there m map) map e is;
  }

  late_reached : (i : ℕ) → is_marked marks i ≡ true → IsReachedWith (receivers b.plan.jobs) p (derefed_since b.history) i
  late_reached i e m closed has =
      let all = closed_in_graph (as_at b p) m closed in
      least.least m (record { has_roots = (all.has_roots, λ j given here. has j given); follows = all.follows; enters = all.enters }) i e

-- What is there and not marked, of those that were made then

there_parts : (h : History) (i : ℕ) → is_there h i ≡ true → (0 < i) × (i ≤ made h) × (is_gone h i ≡ false)
there_parts h i e =
    let both = both_of (is_made h i) (is_gone h i) e in
    let parts = and_parts (nat_lt 0 i) (nat_le i (made h)) both.0 in
    (ltb-true 0 i parts.0, leb-true i (made h) parts.1, both.1)

there_later : (into : Receivers) (h p : History) (i : ℕ) → Earlier into h p → is_there p i ≡ true → is_there h i ≡ true
there_later into h p i early there =
    let parts = there_parts p i there in
    there_from h i (ap (λ g. is_in g i) early.still ∙ parts.2) parts.0 (omega (arith, parts.1, early.fewer))

there_then : (into : Receivers) (h p : History) (i : ℕ) → Earlier into h p → i ≤ made p → is_there h i ≡ true → is_there p i ≡ true
there_then into h p i early low there =
    let parts = there_parts h i there in
    there_from p i (sym (ap (λ g. is_in g i) early.still) ∙ parts.2) parts.0 low

pub record AreLeftAt (p : History) (marks : List Bool) (ids : List ℕ) : Type 0 where
  pub only : (i : ℕ) → is_in ids i ≡ true → (is_there p i ≡ true) × (is_marked marks i ≡ false)
  pub every : (i : ℕ) → is_there p i ≡ true → is_marked marks i ≡ false → is_in ids i ≡ true

up_to : (n i : ℕ) → (nat_le 1 i && nat_lt i (1 + n)) ≡ true → i ≤ n
up_to n i e = let l : i < 1 + n = ltb-true i (1 + n) (and_parts (nat_le 1 i) (nat_lt i (1 + n)) e).1 in omega (arith, l)

left_at : (into : Receivers) (h p : History) (tags : List (Option Tag)) (marks : List Bool) (n : ℕ) → n ≡ made p → Earlier into h p → ((i : ℕ) → 0 < i → tag_at tags i ≡ tag_said h i)
    → AreLeftAt p marks (passing (is_left tags marks) 1 n)
left_at into h p tags marks n count early says = record {
  only = λ i e.
      let parts = and_parts (nat_le 1 i && nat_lt i (1 + n)) (is_left tags marks i) (sym (passing_in (is_left tags marks) 1 n i) ∙ e) in
      let left = and_parts (is_some (tag_at tags i)) (not (is_marked marks i)) parts.1 in
      let here : is_there h i ≡ true = sym (ap is_some (says i (in_range n i true parts.0)) ∙ tagged h i) ∙ left.0 in
      let low = up_to n i parts.0 in
      (there_then into h p i early (omega (arith, low, count)) here, is_not (is_marked marks i) left.1);
  every = λ i there unmarked.
      let range = within_range p i there in
      let here = ap is_some (says i (in_range (made p) i true range)) ∙ tagged h i ∙ there_later into h p i early there in
      passing_in (is_left tags marks) 1 n i
      ∙ and_from (nat_le 1 i && nat_lt i (1 + n)) (is_left tags marks i) (ap (λ m. nat_le 1 i && nat_lt i (1 + m)) count ∙ range)
      (and_from (is_some (tag_at tags i)) (not (is_marked marks i)) here (ap not unmarked));
}

-- so it is all that is late, in order
pub all_late : (b : AgentView) (s : TablesView) (c : Cursor) (marks : List Bool) (ids : List ℕ) (p : History) → RecordTies b.over b.plan b.history s c → AreLateMarks b marks → snapshot b.history ≡ Some p
    → (n : ℕ) → n ≡ made p → ids ≡ passing (is_left s.tags.all marks) 1 n → AreLate (receivers b.plan.jobs) p (derefed_since b.history) ids
all_late b s c marks ids p ties marked is n count same =
    let early = earlier b.over b.plan b.history p is ties.legal ties.follows in
    let least = marked p is in
    let left = subst (AreLeftAt p marks) (sym same) (left_at (receivers b.plan.jobs) b.history p s.tags.all marks n count early.1 ties.says.tags) in
    late_from_least b.over (receivers b.plan.jobs) p (derefed_since b.history) ids (is_marked marks) early.0 (late_closed b.over b p marks is ties.legal early.0 early.1 least)
    least.closed.has_roots.1 (late_reached b.over b p marks is ties.legal early.0 early.1 least) left.only left.every

-- each is there
pub late_there : (h : History) (tags : List (Option Tag)) (marks : List Bool) (ids : List ℕ) (n : ℕ) → ids ≡ passing (is_left tags marks) 1 n → ((i : ℕ) → 0 < i → tag_at tags i ≡ tag_said h i)
    → list_all (is_there h) ids ≡ true
late_there h tags marks ids n same says =
    subst (λ l. list_all (is_there h) l ≡ true) (sym same) (all_from (is_there h) (passing (is_left tags marks) 1 n) (λ i e.
    let parts = and_parts (nat_le 1 i && nat_lt i (1 + n)) (is_left tags marks i) (sym (passing_in (is_left tags marks) 1 n i) ∙ e) in
    sym (ap is_some (says i (in_range n i true parts.0)) ∙ tagged h i) ∙ (and_parts (is_some (tag_at tags i)) (not (is_marked marks i)) parts.1).0))

pub late_rises : (tags : List (Option Tag)) (marks : List Bool) (ids : List ℕ) (n : ℕ) → ids ≡ passing (is_left tags marks) 1 n → is_rising ids ≡ true
late_rises tags marks ids n same = subst (λ l. is_rising l ≡ true) (sym same) (passing_rises (is_left tags marks) n)
