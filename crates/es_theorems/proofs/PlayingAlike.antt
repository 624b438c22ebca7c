-- What an agent's deeds leave of what agents know: its waits change nothing, and what it accesses is through its own tickets.
use Rattle.std.proofs.Common.{◌≡◌, ℕ, Bool, true, false, cond, sym, ◌∙◌, ap, refl, subst, List, [], ◌∷◌, ◌++◌, append-nil, append_assoc, map, Option, Some, None}
use Rattle.std.specs.Option.{option_and_then, option_map, option_map_or}
use Rattle.std.proofs.lemmas.List.{append_cancel_left}
use Rattle.es_event.specs.declared.event.Event.{Event}
use Rattle.es_event.specs.declared.ledger_event.LedgerEvent.{LedgerEvent}
use Rattle.es_event.specs.declared.ledger_event.LedgerEvent.TheVariants.{Posted, Taken, Accessed, Drained}
use Rattle.es_event.specs.declared.row.Row.{Row}
use Rattle.es_event.specs.Ledger.{Ledger, by_agent, holder_of, is_at, table}
use Rattle.es_event.specs.LegalLedger.{ComesNext, LegalSoFar, MayCome, owed}
use Rattle.es_event.specs.Rows.{line_of}
use Rattle.es_match.specs.Deeds.{Deed, Opens, Spends, Accesses, Waits, Passes, Ends, deed, is_wait, part, Sleeps, Notifies, Wakes, TimesOut}
use Rattle.es_laws.specs.Memory.{access_by, accesses}
use Rattle.es_laws.specs.Races.{carried_after, known, knows_after, mark_of, marked, marks_of}
use Rattle.es_record.specs.AgentView.{AgentView}
use Rattle.es_cluster.specs.Tied.{AreDeedsOf}
use Rattle.es_cluster.proofs.Growing.{part_own, part_waits}
use Rattle.es_cluster.specs.State.{ClusterView}
use Rattle.es_theorems.specs.Alike.{Alike}
use Rattle.es_theorems.specs.Doing.{did, event_of}
use Rattle.es_theorems.proofs.Doing.{Meant, did_more, meant}
use Rattle.es_theorems.proofs.Telling.{same_holder}
use Rattle.es_theorems.proofs.Turning.{Done, done, still_owes_nothing}
use Rattle.es_theorems.proofs.Sleepless.{calm_before}
use Rattle.es_theorems.specs.Renamed.{told_of}
use Rattle.es_theorems.specs.Steps.{AreSilent, AtTurn, is_silent}
use Rattle.es_theorems.specs.Calm.{Calm}

-- Two ledgers of which agents know the same

pub record SameLore (l m : Ledger) : Type 0 where
  pub known : known l ≡ known m
  pub told : told_of l ≡ told_of m
  pub marked : marked l ≡ marked m
  pub accesses : accesses l ≡ accesses m

pub itself : (l : Ledger) → SameLore l l
itself l = record { known = refl; told = refl; marked = refl; accesses = refl }

pub onward : (l m k : Ledger) → SameLore l m → SameLore m k → SameLore l k
onward l m k x y = record { known = x.known ∙ y.known; told = x.told ∙ y.told; marked = x.marked ∙ y.marked; accesses = x.accesses ∙ y.accesses }

-- after one more event they know the same
one_more : (l m : Ledger) (e : LedgerEvent) → SameLore l m → table l ≡ table m → SameLore (e ∷ l) (e ∷ m)
one_more l m (Accessed s j c old) x tables = record {
  known = λ k. record { knows = λ i. marks_of i (x.accesses k) (access_by (holder k) j c old) ++ (x.known k).knows i; carried = λ t u. (x.known k).carried t u };
  told = x.told;
  marked = λ k. map (λ a. record { access = a; mark = mark_of (x.accesses k) a; knew = (x.known k).knows a.agent }) (access_by (holder k) j c old) ++ x.marked k;
  accesses = λ k. access_by (holder k) j c old ++ x.accesses k;
}
  where
    holder : holder_of l s ≡ holder_of m s
    holder = ap (λ t. option_and_then by_agent (line_of s t)) tables
one_more l m (Posted t u b) x tables = record {
  known = ap (λ K. record { knows = knows_after l (Posted t u b) K; carried = carried_after (Posted t u b) K }) x.known;
  told = λ k. λ s r. cond (is_at s r t u) (x.told k s r ++ (x.known k).knows s ∷ []) (x.told k s r);
  marked = x.marked;
  accesses = x.accesses;
}
one_more l m (Taken t u) x tables = record { known = ap (λ K. record { knows = knows_after l (Taken t u) K; carried = carried_after (Taken t u) K }) x.known; told = x.told; marked = x.marked; accesses = x.accesses }
one_more l m (Drained t u) x tables = record { known = ap (λ K. record { knows = knows_after l (Drained t u) K; carried = carried_after (Drained t u) K }) x.known; told = x.told; marked = x.marked; accesses = x.accesses }
one_more l m _ x tables = record { known = x.known; told = x.told; marked = x.marked; accesses = x.accesses }

-- Deeds by which nobody comes to know anything

wait_leaves : (n : ℕ) (l : Ledger) (d : Deed) → is_wait d ≡ true → SameLore (event_of n d ∷ l) l
wait_leaves n l (Waits s) is = record { known = refl; told = refl; marked = refl; accesses = refl }
wait_leaves n l (Sleeps s i w) is = record { known = refl; told = refl; marked = refl; accesses = refl }
wait_leaves n l _ is = cc

pub silent_leave : (n : ℕ) (ds : List Deed) (l : Ledger) → AreSilent ds → SameLore (did n ds l) l
silent_leave n [] l are = itself l
silent_leave n (d ∷ ds) l are = onward (did n ds (event_of n d ∷ l)) (event_of n d ∷ l) l (silent_leave n ds (event_of n d ∷ l) are.1) (one d are.0)
  where
    one : (d : Deed) → is_silent d ≡ true → SameLore (event_of n d ∷ l) l
    one (Opens b w s) is = record { known = refl; told = refl; marked = refl; accesses = refl }
    one (Spends s) is = record { known = refl; told = refl; marked = refl; accesses = refl }
    one (Waits s) is = record { known = refl; told = refl; marked = refl; accesses = refl }
    one (Passes s) is = record { known = refl; told = refl; marked = refl; accesses = refl }
    one Ends is = record { known = refl; told = refl; marked = refl; accesses = refl }
    one (Sleeps s i w) is = record { known = refl; told = refl; marked = refl; accesses = refl }
    one (Notifies s i m k) is = record { known = refl; told = refl; marked = refl; accesses = refl }
    one (Wakes o) is = record { known = refl; told = refl; marked = refl; accesses = refl }
    one (TimesOut o) is = record { known = refl; told = refl; marked = refl; accesses = refl }
    one _ is = cc

-- What an agent accesses is through a ticket of its own

abbrev pub IsTheirs : Ledger → ℕ → Deed → Type 0
IsTheirs l n (Accesses s i m old) = (r : Row) × (holder_of l s ≡ Some (n, r))
IsTheirs l n _ = Unit {0}

abbrev pub AllTheirs : ℕ → List Deed → Ledger → Type 0
AllTheirs n [] l = Unit {0}
AllTheirs n (d ∷ ds) l = IsTheirs l n d × AllTheirs n ds (event_of n d ∷ l)

holder_is : (o : Option (ℕ × Row)) (n : ℕ) (d e : Deed) → option_map {U = ℕ × Deed} (λ p. (p.0, e)) o ≡ Some (n, d) → (r : Row) × (o ≡ Some (n, r))
holder_is None n d e is = cc
holder_is (Some p) n d e is = (p.1, ap (λ a. Some (a, p.1)) (ap (λ q. option_map_or (λ q. q.0) q n) is))

theirs_of : (m : Ledger) (n : ℕ) (d : Deed) (e : LedgerEvent) → e ≡ event_of n d → deed m e ≡ Some (n, d) → IsTheirs m n d
theirs_of m n (Accesses s i c old) e event is = holder_is (holder_of m s) n (Accesses s i c old) (Accesses s i c old) (ap (deed m) (sym event) ∙ is)
theirs_of m n _ e event is = tt

theirs_same : (l m : Ledger) (n : ℕ) (d : Deed) → Alike l m → IsTheirs l n d → IsTheirs m n d
theirs_same l m n (Accesses s i c old) alike (r, is) = (r, sym (same_holder l m s alike) ∙ is)
theirs_same l m n _ alike is = tt

theirs_more : (n : ℕ) (ds : List Deed) (d : Deed) (l : Ledger) → AllTheirs n ds l → IsTheirs (did n ds l) n d → AllTheirs n (ds ++ d ∷ []) l
theirs_more n [] d l all is = (is, tt)
theirs_more n (c ∷ ds) d l all is = (all.0, theirs_more n ds d (event_of n c ∷ l) all.1 is)

-- The deeds of a turn

pub record Plays (n : ℕ) (l m : Ledger) (ds : List Deed) : Type 0 where
  pub lore : SameLore m (did n ds l)
  pub theirs : AllTheirs n ds l

plays_next : (k n : ℕ) (l : Ledger) (e : LedgerEvent) (es : List LedgerEvent) → AreDeedsOf n (e ∷ es) l → owed l ≡ None → LegalSoFar k (e ∷ es ++ l) → (before : Done n l (es ++ l)) → Plays n l (es ++ l) before.deeds → (ds : List Deed) → part (e ∷ es ++ l) n ≡ part l n ++ ds → Plays n l (e ∷ es ++ l) ds
plays_next k n l e es are none legal before earlier ds is = by_wait (is_wait d) refl
  where
    m : Ledger
    m = es ++ l

    d : Deed
    d = are.0.0

    may : MayCome k m e
    may = subst (ComesNext k m e) (still_owes_nothing n l es are.1 none) legal.0

    means : Meant m e n d
    means = meant k m e n d may are.0.1

    by_wait : (b : Bool) → is_wait d ≡ b → Plays n l (e ∷ m) ds
    by_wait true w =
        let same : before.deeds ≡ ds = append_cancel_left (part l n) before.deeds ds (sym before.part_is ∙ sym (part_waits m e n n d are.0.1 w) ∙ is) in
        subst (Plays n l (e ∷ m)) same (record {
          lore = onward (e ∷ m) m (did n before.deeds l) (subst (λ e. SameLore (e ∷ m) m) (sym means.event) (wait_leaves n m d w)) earlier.lore;
          theirs = earlier.theirs;
        })
    by_wait false w =
        let same : before.deeds ++ d ∷ [] ≡ ds =
        append_cancel_left (part l n) (before.deeds ++ d ∷ []) ds (sym (append_assoc (part l n) before.deeds (d ∷ [])) ∙ sym (ap (λ p. p ++ d ∷ []) before.part_is) ∙ sym (part_own m e n d are.0.1 w) ∙ is) in
        subst (Plays n l (e ∷ m)) same (record {
          lore = subst (SameLore (e ∷ m)) (sym (did_more l n before.deeds d)) (subst (λ f. SameLore (e ∷ m) (f ∷ did n before.deeds l)) means.event (one_more m (did n before.deeds l) e earlier.lore before.alike.tables));
          theirs = theirs_more n before.deeds d l earlier.theirs (theirs_same m (did n before.deeds l) n d before.alike (theirs_of m n d e means.event are.0.1));
        })

plays_each : (k n : ℕ) (l : Ledger) (es : List LedgerEvent) → AreDeedsOf n es l → owed l ≡ None → LegalSoFar k (es ++ l) → Calm n (es ++ l) → (ds : List Deed) → part (es ++ l) n ≡ part l n ++ ds → Plays n l (es ++ l) ds
plays_each k n l [] are none legal calm ds is =
    let empty : ds ≡ [] = append_cancel_left (part l n) ds [] (sym is ∙ sym (append-nil (part l n))) in
    subst (Plays n l l) (sym empty) (record { lore = itself l; theirs = tt })
plays_each k n l (e ∷ es) are none legal calm ds is =
    let earlier = calm_before (es ++ l) e n calm in
    let before = done k n l (es ++ l) (es, refl, are.1) none legal.1 earlier in
    plays_next k n l e es are none legal before (plays_each k n l es are.1 none legal.1 earlier before.deeds before.part_is) ds is

pub plays : (n : ℕ) (c : ClusterView) (i : ℕ) (m : Ledger) (b : AgentView) (e : Event) (r : Option Row) (ds : List Deed) → AtTurn n c i m b e r ds → Plays i c.ledger.history m ds
plays n c i m b e r ds x =
    let l = c.ledger.history in
    subst (λ m. Plays i l m ds) (sym x.grows.1)
    (plays_each n i l x.grows.0 x.grows.2 x.along.stands.undrained (subst (LegalSoFar n) x.grows.1 x.legal) (subst (Calm i) x.grows.1 x.calm) ds (ap (λ m. part m i) (sym x.grows.1) ∙ x.part_is))
