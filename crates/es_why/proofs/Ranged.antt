-- What is written of one number more.
use Rattle.std.proofs.Common.{◌≡◌, ℕ, ◌+◌, ◌<◌, sym, ◌∙◌, ap, subst, List, [], ◌∷◌, ◌++◌, Option, refl, add-one, append-nil, append_assoc, length, get_or, take}
use Rattle.std.specs.List.{flat_map, range_with_len}
use Rattle.std.proofs.lemmas.Grind.{flat_map-append}
use Rattle.std.proofs.lemmas.List.{flat_map_more, take_more}
use Rattle.std.specs.Io.KnownBytes.{Appends}
use Rattle.std.proofs.KnownBytes.{Appends-nil, Appends-trans}
use Rattle.es_event.specs.History.{History}
use Rattle.es_why.proofs.Numbered.{range_more}
use Rattle.es_why.specs.Picture.{IsAroundAt, IsAroundEach}

range_next : (n m : ℕ) → m ≡ 1 + n → range_with_len 1 (n + 1) ≡ range_with_len 1 n ++ m ∷ []
range_next n m here = ap (range_with_len 1) (add-one n) ∙ range_more 1 n ∙ ap (λ (j : ℕ). range_with_len 1 n ++ j ∷ []) (sym here)

flat_next : (f : ℕ → List ℕ) (n m : ℕ) → m ≡ 1 + n → flat_map f (range_with_len 1 n) ++ f m ≡ flat_map f (range_with_len 1 (n + 1))
flat_next f n m here =
    ap (λ (l : List ℕ). flat_map f (range_with_len 1 n) ++ l) (sym (append-nil (f m)))
    ∙ sym (flat_map-append f (range_with_len 1 n) (m ∷ []))
    ∙ ap (flat_map f) (sym (range_next n m here))

pub written_more : (f : ℕ → List ℕ) (n m : ℕ) (a b c : Option (List ℕ)) → m ≡ 1 + n → Appends a b (flat_map f (range_with_len 1 n)) → Appends b c (f m)
    → Appends a c (flat_map f (range_with_len 1 (n + 1)))
written_more f n m a b c here was more = subst (Appends a c) (flat_next f n m here) (Appends-trans a b c _ _ was more)

-- one more of a list
pub written_push : {A : Type 0} (f : A → List ℕ) (xs : List A) (n : ℕ) (x : A) (a b c : Option (List ℕ)) → n < length xs → x ≡ get_or xs n x → Appends a b (flat_map f (take n xs)) → Appends b c (f x)
    → Appends a c (flat_map f (take (n + 1) xs))
written_push {A} f xs n x a b c within is was more =
    let next : flat_map f (take n xs) ++ f x ≡ flat_map f (take (n + 1) xs) =
    flat_map_more f [] (take n xs) x ∙ ap (λ (y : A). flat_map f (take n xs ++ y ∷ [])) is ∙ ap (flat_map f) (sym (take_more xs n x within)) in
    subst (Appends a c) next (Appends-trans a b c _ _ was more)

-- What is around each, by a text that is not named

abbrev pub WritesAround : History → ℕ → Option (List ℕ) → Option (List ℕ) → Type 0
WritesAround h i a b = (text : List ℕ) × IsAroundAt h i text × Appends a b text

abbrev pub WritesEach : History → ℕ → Option (List ℕ) → Option (List ℕ) → Type 0
WritesEach h n a b = (text : List ℕ) × IsAroundEach h (range_with_len 1 n) text × Appends a b text

around_push : (h : History) (is : List ℕ) (i : ℕ) (text one : List ℕ) → IsAroundEach h is text → IsAroundAt h i one → IsAroundEach h (is ++ i ∷ []) (text ++ one)
around_push h [] i text one each at_i = (one, [], at_i, refl, ap (λ (t : List ℕ). t ++ one) each ∙ sym (append-nil one))
around_push h (j ∷ is) i text one each at_i =
    (each.0, each.1 ++ one, each.2, around_push h is i each.1 one each.3 at_i, ap (λ (t : List ℕ). t ++ one) each.4 ∙ append_assoc each.0 each.1 one)

pub around_none : (h : History) (a : Option (List ℕ)) → WritesEach h 0 a a
around_none h a = ([], refl, Appends-nil a)

pub around_more : (h : History) (n m : ℕ) (a b c : Option (List ℕ)) → m ≡ 1 + n → WritesEach h n a b → WritesAround h m b c → WritesEach h (n + 1) a c
around_more h n m a b c here was more = (
  was.0 ++ more.0,
  subst (λ (is : List ℕ). IsAroundEach h is (was.0 ++ more.0)) (sym (range_next n m here)) (around_push h (range_with_len 1 n) m was.0 more.0 was.1 more.1),
  Appends-trans a b c was.0 more.0 was.2 more.2,
)
