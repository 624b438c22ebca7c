-- What came to each agent is what it says, both ways.
use Rattle.std.proofs.Common.{◌≡◌, ℕ, zero, suc, ◌+◌, ◌<◌, List, [], ◌∷◌, map, take, length, Option, Some, None, refl, sym, ap, ◌∙◌, subst, arith}
use Rattle.std.specs.Prelude.{slice_get, slice_index_or}
use Rattle.std.proofs.lemmas.List.{ext_get_or, length-map}
use Rattle.es_event.specs.History.{History}
use Rattle.es_event.specs.Ledger.{Ledger}
use Rattle.es_match.proofs.Accounts.{as_cluster}
use Rattle.es_match.proofs.Bridge.{ties_mean_goes}
use Rattle.es_match.specs.Cluster.{Account, HaveCome, IsCluster, IsClusterOf, IsSaid, DeedsMeet, account_of, history_of}
use Rattle.es_match.specs.Deeds.{Deed, part}
use Rattle.es_match.specs.Meets.{Came, nothing_came}
use Rattle.es_record.specs.AgentView.{AgentView}
use Rattle.es_cluster.proofs.Standing.{account_at, nobody_at, within}
use Rattle.es_cluster.specs.State.{accounts}
use Rattle.es_outcome.proofs.Closing.{history_at}
use Rattle.es_outcome.specs.Said.{IsTold, SaidView, said_by, told_of}

pub told_histories : (bs : List AgentView) → map (λ a. a.history) (accounts bs) ≡ map (λ b. b.history) bs
told_histories [] = refl
told_histories (b ∷ bs) = ap (λ hs. b.history ∷ hs) (told_histories bs)

-- From what came to what is said

told_at : (cs : List Came) (bs : List AgentView) (a : ℕ) (b : AgentView) → map told_of cs ≡ map said_by bs → slice_get bs a ≡ Some b → told_of (slice_index_or cs a nothing_came) ≡ said_by b
told_at cs [] a b same is = cc
told_at [] (d ∷ bs) a b same is = cc
told_at (c ∷ cs) (d ∷ bs) zero b same is =
    let first : told_of c ≡ said_by d = cc in
    let here : d ≡ b = cc in
    first ∙ ap said_by here
told_at (c ∷ cs) (d ∷ bs) (suc a) b same is = told_at cs bs a b (let rest : map told_of cs ≡ map said_by bs = cc in rest) is

nothing_before : (h : History) (ds : List Deed) (c : Came) → h ≡ [] → DeedsMeet h ds c → (ds ≡ []) × (c ≡ nothing_came)
nothing_before [] ds c e ties = ties
nothing_before (x ∷ h) ds c e ties = cc

no_history : (bs : List AgentView) (a : ℕ) → slice_get bs a ≡ None → history_of (map (λ b. b.history) bs) a ≡ []
no_history [] a is = refl
no_history (b ∷ bs) zero is = cc
no_history (b ∷ bs) (suc a) is = no_history bs a is

pub of_told : (bs : List AgentView) (l : Ledger) (cs : List Came) → HaveCome (map (λ b. b.history) bs) l cs → map told_of cs ≡ map said_by bs → IsClusterOf (accounts bs) l
of_told bs l cs have same = record {
  parts = λ a. at a (slice_get bs a) refl;
  waits = have.cluster.waits;
  drains = have.cluster.drains;
}
  where
    Parts : ℕ → Account → Type 0
    Parts a x = (c : Came) × DeedsMeet x.history (part l a) c × IsSaid x c

    at : (a : ℕ) (o : Option AgentView) → slice_get bs a ≡ o → Parts a (account_of (accounts bs) a)
    at a (Some b) is =
        let few = within bs a b is in
        let size = length-map bs (λ b. b.history) in
        let told = told_at cs bs a b same is in
        let ties = subst (λ h. DeedsMeet h (part l a) (slice_index_or cs a nothing_came)) (history_at bs a b is) (have.each a (omega (arith, few, size))) in
        subst (Parts a) (sym (account_at bs a b is)) (slice_index_or cs a nothing_came, ties, record { buffers = ap (λ t. t.ever) told; senders = ap (λ t. t.refused) told })
    at a None is =
        let mine = have.cluster.parts a in
        let empty = nothing_before _ (part l a) mine.0 (no_history bs a is) mine.1 in
        subst (Parts a) (sym (nobody_at bs a is).0) (nothing_came, (empty.0, refl), record { buffers = refl; senders = refl })

-- And back

abbrev gathered : List AgentView → (ℕ → Came) → List Came
gathered [] f = []
gathered (b ∷ bs) f = f 0 ∷ gathered bs (λ a. f (suc a))

gathered_length : (bs : List AgentView) (f : ℕ → Came) → length (gathered bs f) ≡ length bs
gathered_length [] f = refl
gathered_length (b ∷ bs) f = ap suc (gathered_length bs (λ a. f (suc a)))

gathered_at : (bs : List AgentView) (f : ℕ → Came) (a : ℕ) → a < length bs → slice_index_or (gathered bs f) a nothing_came ≡ f a
gathered_at [] f a few = absurd (omega (arith, few))
gathered_at (b ∷ bs) f zero few = refl
gathered_at (b ∷ bs) f (suc a) few = gathered_at bs (λ a. f (suc a)) a (omega (arith, few))

gathered_said : (bs : List AgentView) (f : ℕ → Came) → ((a : ℕ) (b : AgentView) → slice_get bs a ≡ Some b → told_of (f a) ≡ said_by b) → map told_of (gathered bs f) ≡ map said_by bs
gathered_said [] f each = refl
gathered_said (b ∷ bs) f each = λ i. each 0 b refl i ∷ gathered_said bs (λ a. f (suc a)) (λ a c is. each (suc a) c is) i

pub as_told : (bs : List AgentView) (l : Ledger) → IsClusterOf (accounts bs) l → IsTold (map (λ b. b.history) bs) l (map said_by bs)
as_told bs l cluster = record {
  came = gathered bs f;
  have = record {
    cluster = subst (λ hs. IsCluster hs l) (told_histories bs) (as_cluster (accounts bs) l cluster);
    size = gathered_length bs f ∙ sym (length-map bs (λ b. b.history));
    each = λ a few. at a (let size = length-map bs (λ b. b.history) in omega (arith, few, size)) (slice_get bs a) refl;
  };
  said = gathered_said bs f said;
}
  where
    f : ℕ → Came
    f a = (cluster.parts a).0

    said : (a : ℕ) (b : AgentView) → slice_get bs a ≡ Some b → told_of (f a) ≡ said_by b
    said a b is =
        let is_said = subst (λ x. IsSaid x (f a)) (account_at bs a b is) (cluster.parts a).2 in
        λ i. record { ever = is_said.buffers i; refused = is_said.senders i }

    at : (a : ℕ) → a < length bs → (o : Option AgentView) → slice_get bs a ≡ o → DeedsMeet (history_of (map (λ b. b.history) bs) a) (part l a) (slice_index_or (gathered bs f) a nothing_came)
    at a few (Some b) is =
        subst (DeedsMeet (history_of (map (λ b. b.history) bs) a) (part l a)) (sym (gathered_at bs f a few))
        (subst (λ h. DeedsMeet h (part l a) (f a)) (sym (history_at bs a b is)) (subst (λ x. DeedsMeet x.history (part l a) (f a)) (account_at bs a b is) (cluster.parts a).1))
    at a few None is = absurd (let past = (nobody_at bs a is).1 in omega (arith, few, past))

-- What came is one

ties_one : (h : History) (ds : List Deed) (c d : Came) → DeedsMeet h ds c → DeedsMeet h ds d → c ≡ d
ties_one h ds c d first second = let both : Some c ≡ Some d = sym (ties_mean_goes h ds c first) ∙ ties_mean_goes h ds d second in cc

pub came_alike : (hs : List History) (l : Ledger) (cs ds : List Came) → HaveCome hs l cs → HaveCome hs l ds → cs ≡ ds
came_alike hs l cs ds first second =
    ext_get_or nothing_came cs ds (first.size ∙ sym second.size) (λ a few. (let size = first.size in
    let near : a < length hs = omega (arith, few, size) in
    ties_one (history_of hs a) (part l a) _ _ (first.each a near) (second.each a near)))

pub told_one : (hs : List History) (l : Ledger) (cs : List Came) (all : List SaidView) → HaveCome hs l cs → IsTold hs l all → map told_of cs ≡ all
told_one hs l cs all have told = ap (map told_of) (came_alike hs l cs told.came have told.have) ∙ told.said

-- one more is the same
pub same_more : (cs : List Came) (ts : List SaidView) (i : ℕ) (d : Came) (e : SaidView) → i < length cs → i < length ts → take i (map told_of cs) ≡ take i ts → told_of (slice_index_or cs i d) ≡ slice_index_or ts i e
    → take (i + 1) (map told_of cs) ≡ take (i + 1) ts
same_more [] ts i d e few some before here = absurd (omega (arith, few))
same_more (c ∷ cs) [] i d e few some before here = absurd (omega (arith, some))
same_more (c ∷ cs) (t ∷ ts) zero d e few some before here = ap (λ t. t ∷ []) here
same_more (c ∷ cs) (t ∷ ts) (suc i) d e few some before here =
    let next : suc i + 1 ≡ suc (i + 1) = omega arith in
    let first : told_of c ≡ t = cc in
    let rest : take i (map told_of cs) ≡ take i ts = cc in
    let more = same_more cs ts i d e (omega (arith, few)) (omega (arith, some)) rest here in
    ap (λ n. take n (told_of c ∷ map told_of cs)) next ∙ (λ j. first j ∷ more j) ∙ sym (ap (λ n. take n (t ∷ ts)) next)
