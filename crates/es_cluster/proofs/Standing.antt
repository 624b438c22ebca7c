-- A turn of one agent leaves the others as they are.
use Rattle.std.proofs.Common.{◌≡◌, ℕ, zero, suc, ◌<◌, ◌≤◌, ◌==◌, sym, ◌∙◌, ap, refl, subst, arith, List, [], ◌∷◌, map, length, Option, Some, None, Result, Ok, Err, inl, inr}
use Rattle.std.specs.Prelude.{IfOk, slice_get, slice_set, slice_index_or}
use Rattle.std.proofs.lemmas.Bool.{cases_Bool, eqb-true, eqb-false}
use Rattle.es_event.specs.Others.{names_others}
use Rattle.es_event.specs.Ledger.{Ledger}
use Rattle.es_ledger.specs.LedgerView.{LedgerView}
use Rattle.es_match.specs.Cluster.{Account, IsClusterOf, IsSaid, DeedsMeet, account_of, nobody}
use Rattle.es_match.specs.Deeds.{part}
use Rattle.es_match.specs.Meets.{Came, nothing_came}
use Rattle.es_record.specs.AgentView.{AgentView}
use Rattle.es_cluster.specs.Members.{MemberView}
use Rattle.es_cluster.specs.Tied.{GrowsBy, IsTied, came_to}
use Rattle.es_value.specs.declared.error.NoMemory.{NoMemory}
use Rattle.es_cluster.specs.Turned.{IsSeated, IsTiedAfter, OthersStay, Proceeds, ProceedsBeside}
use Rattle.es_cluster.specs.declared.member.Progress.{Progress}
use Rattle.es_cluster.specs.declared.member.Progress.TheVariants.{Moved, Waiting, Ended}
use Rattle.es_cluster.specs.Turns.{Takes}
use Rattle.es_cluster.proofs.Growing.{part_stays, sleep_stays, waits_stay, ended_stays}
use Rattle.es_cluster.specs.State.{account, accounts, cores, IsPlaced, ArePlaced, AreTied}

-- Lists in which one is changed

pub set_here : {X : Type 0} (xs : List X) (i : ℕ) (x : X) → i < length xs → slice_get (slice_set xs i x) i ≡ Some x
set_here [] i x within = absurd (omega (arith, within))
set_here (y ∷ xs) zero x within = refl
set_here (y ∷ xs) (suc i) x within = set_here xs i x (omega (arith, within))

pub set_there : {X : Type 0} (xs : List X) (i j : ℕ) (x : X) → (j ≡ i → ⊥) → slice_get (slice_set xs i x) j ≡ slice_get xs j
set_there [] i j x other = refl
set_there (y ∷ xs) zero zero x other = absurd (other refl)
set_there (y ∷ xs) zero (suc j) x other = refl
set_there (y ∷ xs) (suc i) zero x other = refl
set_there (y ∷ xs) (suc i) (suc j) x other = set_there xs i j x (λ same. other (ap suc same))

pub set_mapped : {X Y : Type 0} (f : X → Y) (xs : List X) (i : ℕ) (x : X) → map f (slice_set xs i x) ≡ slice_set (map f xs) i (f x)
set_mapped f [] i x = refl
set_mapped f (y ∷ xs) zero x = refl
set_mapped f (y ∷ xs) (suc i) x = ap (λ ys. f y ∷ ys) (set_mapped f xs i x)

pub set_length : {X : Type 0} (xs : List X) (i : ℕ) (x : X) → length (slice_set xs i x) ≡ length xs
set_length [] i x = refl
set_length (y ∷ xs) zero x = refl
set_length (y ∷ xs) (suc i) x = ap suc (set_length xs i x)

pub set_same : {X : Type 0} (xs : List X) (i : ℕ) (x : X) → slice_get xs i ≡ Some x → slice_set xs i x ≡ xs
set_same [] i x is = refl
set_same (y ∷ xs) zero x is = let same : y ≡ x = cc in ap (λ x. x ∷ xs) (sym same)
set_same (y ∷ xs) (suc i) x is = ap (λ ys. y ∷ ys) (set_same xs i x is)

pub within : {X : Type 0} (xs : List X) (i : ℕ) (x : X) → slice_get xs i ≡ Some x → i < length xs
within [] i x is = cc
within (y ∷ xs) zero x is = omega arith
within (y ∷ xs) (suc i) x is = let rest = within xs i x is in omega (arith, rest)

pub cores_length : (ms : List MemberView) → length (cores ms) ≡ length ms
cores_length [] = refl
cores_length (m ∷ ms) = ap suc (cores_length ms)

-- what is the same of both is the same of all
pub mapped_still : {X Y : Type 0} (f : X → Y) (xs : List X) (i : ℕ) (x y : X) → slice_get xs i ≡ Some x → f y ≡ f x → map f (slice_set xs i y) ≡ map f xs
mapped_still f [] i x y is same = refl
mapped_still f (z ∷ xs) zero x y is same = let here : z ≡ x = cc in ap (λ v. v ∷ map f xs) (same ∙ ap f (sym here))
mapped_still f (z ∷ xs) (suc i) x y is same = ap (λ vs. f z ∷ vs) (mapped_still f xs i x y is same)

-- An agent after a turn of another

pub seated_still : (b : AgentView) (l m : LedgerView) (n : ℕ) → (b.number ≡ n → ⊥) → OthersStay n l m → IsSeated b l → IsSeated b m
seated_still b l m n other stay seated = record {
  known = subst (λ k. b.number < k) (sym stay.0) seated.known;
  agents = seated.agents ∙ sym stay.0;
  over = ended_stays n b.number l.history m.history stay.1 other ∙ seated.over;
}

pub tied_still : (b : AgentView) (l m : Ledger) (n : ℕ) → (b.number ≡ n → ⊥) → GrowsBy n l m → IsTied b l → (new : AgentView) → IsTied new m → IsTied b m
tied_still b l m n other grows tied new after = record {
  ties = subst (λ p. DeedsMeet b.history p (came_to b)) (sym (part_stays n b.number l m grows other)) tied.ties;
  awaits = λ s is. tied.awaits s (sym (waits_stay n b.number l m grows other) ∙ is);
  sleeps = λ s is. tied.sleeps s (sym (sleep_stays n b.number l m grows other) ∙ is);
  waits_end = after.waits_end;
  drains_end = after.drains_end;
}

-- All agents after a turn of one

pub by_place : {X : Type 0} (P : ℕ → X → Type 0) (xs : List X) (n : ℕ) (x : X) → n < length xs → P n x → ((i : ℕ) (y : X) → (i ≡ n → ⊥) → slice_get xs i ≡ Some y → P i y) → (i : ℕ) (y : X) → slice_get (slice_set xs n x) i ≡ Some y → P i y
by_place P xs n x within here there i y is = elim (cases_Bool (i == n)) [
  | inl e ↦
      let same = eqb-true i n e in
      let found = sym (ap (slice_get (slice_set xs n x)) same ∙ set_here xs n x within) ∙ is in
      let value : x ≡ y = cc in
      subst (λ i. P i y) (sym same) (subst (P n) value here)
  | inr e ↦ let other = eqb-false i n e in there i y other (sym (set_there xs n i x other) ∙ is)
]

pub placed_after : (bs : List AgentView) (l m : LedgerView) (n : ℕ) (new : AgentView) → n < length bs → ArePlaced bs l → IsPlaced m n new → OthersStay n l m → ArePlaced (slice_set bs n new) m
placed_after bs l m n new within before here stay = record {
  size = set_length bs n new ∙ before.size ∙ sym stay.0;
  each = by_place (IsPlaced m) bs n new within here (λ i b other is.
      let was = before.each i b is in
      record {
        number = was.number;
        seated = seated_still b l m n (λ same. other (sym was.number ∙ same)) stay was.seated;
        others = ap (λ k. names_others k i b.plan) stay.0 ∙ was.others;
      });
}

pub tied_after : (bs : List AgentView) (l m : LedgerView) (n : ℕ) (new : AgentView) → n < length bs → ArePlaced bs l → AreTied bs l → IsTied new m.history → OthersStay n l m → AreTied (slice_set bs n new) m
tied_after bs l m n new within placed before here stay = record {
  each = by_place (λ i b. IsTied b m.history) bs n new within here (λ i b other is.
      tied_still b l.history m.history n (λ same. other (sym (placed.each i b is).number ∙ same)) stay.1 (before.each i b is) new here);
  strangers = λ a beyond.
      part_stays n a l.history m.history stay.1 (λ same. (let size = placed.size in let agents = stay.0 in absurd (omega (arith, beyond, same, within, size, agents))))
      ∙ before.strangers a (let agents = stay.0 in omega (arith, beyond, agents));
  waits_end = here.waits_end;
  drains_end = here.drains_end;
}

-- The histories are those of one cluster

pub account_at : (bs : List AgentView) (a : ℕ) (b : AgentView) → slice_get bs a ≡ Some b → account_of (accounts bs) a ≡ account b
account_at [] a b is = cc
account_at (c ∷ bs) zero b is = ap account (let same : c ≡ b = cc in same)
account_at (c ∷ bs) (suc a) b is = account_at bs a b is

pub nobody_at : (bs : List AgentView) (a : ℕ) → slice_get bs a ≡ None → (account_of (accounts bs) a ≡ nobody) × (length bs ≤ a)
nobody_at [] a is = (refl, omega arith)
nobody_at (c ∷ bs) zero is = cc
nobody_at (c ∷ bs) (suc a) is = let rest = nobody_at bs a is in (rest.0, (let r = rest.1 in omega (arith, r)))

pub are_cluster : (bs : List AgentView) (l : LedgerView) → ArePlaced bs l → AreTied bs l → IsClusterOf (accounts bs) l.history
are_cluster bs l placed tied = record {
  parts = λ a. at a (slice_get bs a) refl;
  waits = tied.waits_end;
  drains = tied.drains_end;
}
  where
    Said : ℕ → Account → Type 0
    Said a x = (c : Came) × DeedsMeet x.history (part l.history a) c × IsSaid x c

    at : (a : ℕ) (o : Option AgentView) → slice_get bs a ≡ o → Said a (account_of (accounts bs) a)
    at a (Some b) is =
        let number = (placed.each a b is).number in
        let ties = subst (λ n. DeedsMeet b.history (part l.history n) (came_to b)) number (tied.each a b is).ties in
        subst (Said a) (sym (account_at bs a b is)) (came_to b, ties, record { buffers = refl; senders = refl })
    at a None is =
        let none = nobody_at bs a is in
        let quiet = tied.strangers a (let size = placed.size in let few = none.1 in omega (arith, size, few)) in
        subst (Said a) (sym none.0) (nothing_came, (quiet, refl), record { buffers = refl; senders = refl })

-- A turn

pub found_at : (ms : List MemberView) (i : ℕ) (d : MemberView) → i < length (cores ms) → slice_get (cores ms) i ≡ Some (slice_index_or ms i d).core
found_at [] i d within = absurd (omega (arith, within))
found_at (m ∷ ms) zero d within = refl
found_at (m ∷ ms) (suc i) d within = found_at ms i d (omega (arith, within))

pub takes_of : (p : Progress) (old new : MemberView) → Proceeds p old new → Takes p old.core new.core
takes_of Moved old new turn = turn
takes_of Waiting old new turn = (turn.0, ap (λ m. m.core) turn.1)
takes_of Ended old new turn = (turn.0, ap (λ m. m.core) turn.1)

pub beside_too : (r : Result Progress NoMemory) (old new : MemberView) → IfOk r (λ p. Proceeds p old new) → IfOk r (λ p. ProceedsBeside p old new)
beside_too (Ok Moved) old new turn = turn
beside_too (Ok Waiting) old new turn = turn
beside_too (Ok Ended) old new turn = turn.1
beside_too (Err e) old new turn = tt

pub tied_of : (p : Progress) (b : AgentView) (l : Ledger) → IsTiedAfter p b l → IsTied b l
tied_of Moved b l settled = settled.tied
tied_of Waiting b l tied = tied
tied_of Ended b l tied = tied

-- the agent that took it has its place still
pub placed_here : (old new : AgentView) (l m : LedgerView) (n : ℕ) → IsPlaced l n old → new.number ≡ old.number → new.plan ≡ old.plan → IsSeated new m → m.agents ≡ l.agents → IsPlaced m n new
placed_here old new l m n placed number plan seated agents = record {
  number = number ∙ placed.number;
  seated = seated;
  others = ap (λ k. names_others k n new.plan) agents ∙ ap (names_others l.agents n) plan ∙ placed.others;
}

pub one_changed : (ms : List MemberView) (n : ℕ) (m : MemberView) → cores (slice_set ms n m) ≡ slice_set (cores ms) n m.core
one_changed ms n m = set_mapped (λ m. m.core) ms n m
