-- What is gathered of one identity, of several, and of all pieces.
use Rattle.std.proofs.Common.{ℕ, ◌≡◌, ◌+◌, ◌<◌, Bool, true, zero, suc, arith, sym, ◌∙◌, ap, refl, List, [], ◌∷◌, ◌++◌, length, map, Bor, IfOk, Ok, Err}
use Rattle.std.proofs.Math.ListN.{get_or}
use Rattle.std.specs.Prelude.{MatchResult}
use Rattle.std.specs.declared.result.Result.{Result}
use Rattle.std.specs.List.{AllByRecursion, AllZip, flat_map}
use Rattle.std.proofs.lemmas.List.{append-nil, append_assoc}
use Rattle.std.proofs.lemmas.List.Concat.{flat_map-append}
use Rattle.es_value.specs.declared.value.Value.{Value}
use Rattle.es_mark.specs.Graph.{HasAll, Finds, FindsEntries}
use Rattle.es_mark.specs.Made.{is_made}
use Rattle.es_mark.specs.Marks.{IsWithin}
use Rattle.es_mark.proofs.Lists.{all_join, all_front, all_back}
use Rattle.es_mark.proofs.Following.{found_made, found_only, found_all}
use Rattle.es_parmark.specs.Pairs.{pairs_said}
use Rattle.es_parmark.specs.Gathered.{IsGathered, IsSifted, GathersIds, GathersPairs, OfEach, IsPart}
use Rattle.es_parmark.proofs.Tests.{list_all_join, has_list}
use Rattle.es_parmark.proofs.PairLists.{said_from, said_to, said_made}

module _ {X : Type 0} (marks : List Bool) (test : X → Bool) (Has : (ℕ → Bool) → X → Type 0) where
  -- nothing, where nothing is asked for
  pub gathered_nothing : (asked : (ℕ → Bool) → Type 0) (xs : List X) → ((t : ℕ → Bool) → IsWithin marks t → asked t) → IsGathered marks test Has asked xs xs
  gathered_nothing asked xs always = record {
    rest = [];
    added = sym (append-nil xs);
    passes = refl;
    only = λ t rule. tt;
    all = λ t within _. always t within;
  }

  -- one rule after another
  pub gathered_more : (rule : ℕ → (ℕ → Bool) → Type 0) (ids : List ℕ) (i : ℕ) (a b c : List X) → IsGathered marks test Has (OfEach rule ids) a b → IsGathered marks test Has (rule i) b c
      → IsGathered marks test Has (OfEach rule (ids ++ i ∷ [])) a c
  gathered_more rule ids i a b c p q = record {
    rest = p.rest ++ q.rest;
    added = q.added ∙ ap (λ l. l ++ q.rest) p.added ∙ append_assoc a p.rest q.rest;
    passes = list_all_join test p.rest q.rest p.passes q.passes;
    only = λ t all. all_join (Has t) p.rest q.rest (p.only t (all_front (λ j. rule j t) ids (i ∷ []) all)) (q.only t (all_back (λ j. rule j t) ids (i ∷ []) all).0);
    all = λ t w all.
        all_join (λ j. rule j t) ids (i ∷ []) (p.all t w (all_front (Has t) p.rest q.rest all)) (q.all t w (all_back (Has t) p.rest q.rest all), tt);
  }

  -- two pieces, each gathered for itself
  pub gathered_both : (rule : ℕ → (ℕ → Bool) → Type 0) (front back : List ℕ) (a b : List X) → IsGathered marks test Has (OfEach rule front) [] a → IsGathered marks test Has (OfEach rule back) [] b
      → IsGathered marks test Has (OfEach rule (front ++ back)) [] (a ++ b)
  gathered_both rule front back a b p q = record {
    rest = a ++ b;
    added = refl;
    passes = list_all_join test a b (rw p.added p.passes) (rw q.added q.passes);
    only = λ t all. all_join (Has t) a b (rw p.added (p.only t (all_front (λ j. rule j t) front back all))) (rw q.added (q.only t (all_back (λ j. rule j t) front back all)));
    all = λ t w all.
        all_join (λ j. rule j t) front back (p.all t w (rw p.added at (all_front (Has t) a b all))) (q.all t w (rw q.added at (all_back (Has t) a b all)));
  }

-- one identity

-- what the graph found

pub sifted_found : (made : ℕ) (marks : List Bool) (asked : (ℕ → Bool) → Type 0) (ids found old new : List ℕ) → Finds made asked [] ids → found ≡ ids → IsSifted marks (HasAll found) old new
    → GathersIds made marks asked old new
sifted_found made marks asked ids found old new f same s = record {
  rest = s.rest;
  added = s.added;
  passes = has_list made s.rest (s.only (is_made made) (rw same (found_made f)));
  only = λ t rule. s.only t (rw same (found_only f t rule));
  all = λ t w all. found_all f t (rw same at (s.all t w all));
}

pub paired_found : (made : ℕ) (marks : List Bool) (asked : (ℕ → Bool) → Type 0) (entries found : List (ℕ × Value)) (old new : List (ℕ × ℕ)) → FindsEntries made asked [] entries → found ≡ entries
    → new ≡ old ++ pairs_said found → GathersPairs made marks asked old new
paired_found made marks asked entries found old new f same is = record {
  rest = pairs_said found;
  added = is;
  passes = rw (same, f.added) (said_made made f.entries f.numbered);
  only = λ t rule. rw (same, f.added) (said_from f.entries t (f.only t rule));
  all = λ t w all. f.all t (said_to f.entries t (rw (same, f.added) at all));
}

-- parts

module _ (made : ℕ) (marks : List Bool) (edges entries : ℕ → (ℕ → Bool) → Type 0) where
  pub part_nothing : (ids : List ℕ) (pairs : List (ℕ × ℕ)) → ids ≡ [] → pairs ≡ [] → IsPart made marks edges entries [] ids pairs
  part_nothing ids pairs e f = rw (e, f) record {
    leads = gathered_nothing marks (is_made made) (λ t i. t i ≡ true) (OfEach edges []) [] (λ t w. tt);
    enters = gathered_nothing marks (λ (p : ℕ × ℕ). is_made made p.1) (λ t p. t p.0 ≡ true → t p.1 ≡ true) (OfEach entries []) [] (λ t w. tt);
  }

  pub part_next : (front : List ℕ) (i : ℕ) (ids ids' : List ℕ) (pairs pairs' : List (ℕ × ℕ)) → IsPart made marks edges entries front ids pairs → GathersIds made marks (edges i) ids ids'
      → GathersPairs made marks (entries i) pairs pairs' → IsPart made marks edges entries (front ++ i ∷ []) ids' pairs'
  part_next front i ids ids' pairs pairs' p a b = record {
    leads = gathered_more marks (is_made made) (λ t i. t i ≡ true) edges front i [] ids ids' p.leads a;
    enters = gathered_more marks (λ (p : ℕ × ℕ). is_made made p.1) (λ t p. t p.0 ≡ true → t p.1 ≡ true) entries front i [] pairs pairs' p.enters b;
  }

  -- the pieces side by side
  pub parts_whole : {V : Type 0} (ids : V → List ℕ) (pairs : V → List (ℕ × ℕ)) (chunks : List (List ℕ)) (vs : List V) → AllZip (λ c v. IsPart made marks edges entries c (ids v) (pairs v)) chunks vs
      → IsPart made marks edges entries (flat_map (λ l. l) chunks) (flat_map ids vs) (flat_map pairs vs)
  parts_whole ids pairs [] [] z = part_nothing [] [] refl refl
  parts_whole ids pairs [] (v ∷ vs) z = absurd z
  parts_whole ids pairs (c ∷ cs) [] z = absurd z
  parts_whole ids pairs (c ∷ cs) (v ∷ vs) z =
      let r = parts_whole ids pairs cs vs z.1 in
      let p = z.0 in
      record {
        leads = gathered_both marks (is_made made) (λ t i. t i ≡ true) edges c (flat_map (λ l. l) cs) (ids v) (flat_map ids vs) p.leads r.leads;
        enters = gathered_both marks (λ (p : ℕ × ℕ). is_made made p.1) (λ t p. t p.0 ≡ true → t p.1 ≡ true) entries c (flat_map (λ l. l) cs) (pairs v) (flat_map pairs vs) p.enters r.enters;
      }

-- what a collection of answers has, where it is a value

pub ok_pieces : {V : Type 0} {E : Type 0} (P : List ℕ → V → Type 0) (zs : List (Bor (List ℕ))) (rs : List (Result V E)) (vs : List V) → rs ≡ map Ok vs → AllZip (λ z r. IfOk r (P z.now)) zs rs
    → AllZip P (map (λ z. z.now) zs) vs
ok_pieces P [] rs [] e h = tt
ok_pieces P [] rs (v ∷ vs) e h = absurd (rw e at h)
ok_pieces P (z ∷ zs) rs [] e h = absurd (rw e at h)
ok_pieces P (z ∷ zs) rs (v ∷ vs) e h = let k = rw e at h in (k.0, ok_pieces P zs (map Ok vs) vs refl k.1)

pub ok_parts : {V : Type 0} {W : Type 0} {E : Type 0} (r : Result W E) (rs : List (Result V E)) (Is : List V → W → Type 0) (Q : W → Type 0) (R : E → Type 0)
    → MatchResult r (λ w. (vs : List V) × (rs ≡ map Ok vs) × Is vs w) R → ((w : W) (vs : List V) → rs ≡ map Ok vs → Is vs w → Q w) → IfOk r Q
ok_parts (Ok w) rs Is Q R h f = f w h.0 h.1 h.2
ok_parts (Err e) rs Is Q R h f = tt

-- lists of lists

pub all_flat_at : {V X : Type 0} (items : V → List X) (P : X → Type 0) (vs : List V) (k : ℕ) (d : V) → k < length vs → AllByRecursion P (flat_map items vs) → AllByRecursion P (items (get_or vs k d))
all_flat_at items P [] k d l all = absurd (omega arith)
all_flat_at items P (v ∷ vs) zero d l all = all_front P (items v) (flat_map items vs) all
all_flat_at items P (v ∷ vs) (suc k) d l all = all_flat_at items P vs k d (omega arith) (all_back P (items v) (flat_map items vs) all)

pub flat_map_push : {X A : Type 0} (f : X → List A) (xs : List X) (x : X) → flat_map f (xs ++ x ∷ []) ≡ flat_map f xs ++ f x
flat_map_push f xs x = flat_map-append f xs (x ∷ []) ∙ ap (λ l. flat_map f xs ++ l) (append-nil (f x))
