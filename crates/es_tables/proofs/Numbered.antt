-- Lists of what stands at each number from the first on.
use Rattle.std.proofs.Common.{◌≡◌, ℕ, zero, suc, ◌+◌, ◌<◌, ◌≤◌, ◌||◌, Bool, true, false, cond, ◌∙◌, ap, refl, arith, List, [], ◌∷◌, ◌++◌, map, Option, Some}
use Rattle.std.specs.Prelude.{slice_get, slice_set}
use Rattle.std.specs.List.{list_any, find, range_with_len}
use Rattle.std.specs.Option.{option_map}

-- By number

pub map_same : {A : Type 0} (f g : ℕ → A) (a n : ℕ) → ((i : ℕ) → a ≤ i → i < a + n → f i ≡ g i) → map f (range_with_len a n) ≡ map g (range_with_len a n)
map_same f g a zero each = refl
map_same f g a (suc n) each =
    ap (λ x. x ∷ map f (range_with_len (a + 1) n)) (each a (omega arith) (omega arith))
    ∙ ap (λ xs. g a ∷ xs) (map_same f g (a + 1) n (λ i l m. each i (omega (arith, l)) (omega (arith, m))))

-- one number more
pub map_more : {A : Type 0} (f : ℕ → A) (a n : ℕ) → map f (range_with_len a (suc n)) ≡ map f (range_with_len a n) ++ f (a + n) ∷ []
map_more f a zero = let same : a ≡ a + 0 = omega arith in ap (λ j. f j ∷ []) same
map_more f a (suc n) =
    let same : a + 1 + n ≡ a + suc n = omega arith in
    ap (λ xs. f a ∷ xs) (map_more f (a + 1) n ∙ ap (λ j. map f (range_with_len (a + 1) n) ++ f j ∷ []) same)

-- another value at one number
pub map_set : {A : Type 0} (f g : ℕ → A) (a n k : ℕ) (x : A) → k < n → x ≡ g (a + k) → ((i : ℕ) → a ≤ i → i < a + n → (i ≡ a + k → ⊥) → f i ≡ g i)
    → slice_set (map f (range_with_len a n)) k x ≡ map g (range_with_len a n)
map_set f g a zero k x within is each = absurd (omega (arith, within))
map_set f g a (suc n) zero x within is each =
    let first : a + 0 ≡ a = omega arith in
    ap (λ y. y ∷ map f (range_with_len (a + 1) n)) (is ∙ ap g first)
    ∙ ap (λ xs. g a ∷ xs) (map_same f g (a + 1) n (λ i l m. each i (omega (arith, l)) (omega (arith, m)) (λ e. omega (arith, l, e))))
map_set f g a (suc n) (suc k) x within is each =
    let next : a + suc k ≡ a + 1 + k = omega arith in
    ap (λ y. y ∷ slice_set (map f (range_with_len (a + 1) n)) k x) (each a (omega arith) (omega arith) (λ e. omega (arith, e)))
    ∙ ap (λ xs. g a ∷ xs) (map_set f g (a + 1) n k x (omega (arith, within)) (is ∙ ap g next)
    (λ i l m other. each i (omega (arith, l)) (omega (arith, m)) (λ e. other (e ∙ next))))

pub get_numbered : {A : Type 0} (f : ℕ → A) (a n k : ℕ) → k < n → slice_get (map f (range_with_len a n)) k ≡ Some (f (a + k))
get_numbered f a zero k within = absurd (omega (arith, within))
get_numbered f a (suc n) zero within = let first : a ≡ a + 0 = omega arith in ap (λ j. Some (f j)) first
get_numbered f a (suc n) (suc k) within = let next : a + 1 + k ≡ a + suc k = omega arith in get_numbered f (a + 1) n k (omega (arith, within)) ∙ ap (λ j. Some (f j)) next

-- Searches

pub map_map : {A B C : Type 0} (g : B → C) (f : A → B) (xs : List A) → map g (map f xs) ≡ map (λ x. g (f x)) xs
map_map g f [] = refl
map_map g f (x ∷ xs) = ap (λ ys. g (f x) ∷ ys) (map_map g f xs)

pub any_map : {A B : Type 0} (p : B → Bool) (f : A → B) (q : A → Bool) → ((x : A) → p (f x) ≡ q x) → (xs : List A) → list_any p (map f xs) ≡ list_any q xs
any_map p f q same [] = refl
any_map p f q same (x ∷ xs) = ap (λ b. b || list_any p (map f xs)) (same x) ∙ ap (λ b. q x || b) (any_map p f q same xs)

first_or : {A B : Type 0} (f : A → B) (x : A) (s : Option B) (r : Option A) → s ≡ option_map f r → (b : Bool) → cond b (Some (f x)) s ≡ option_map f (cond b (Some x) r)
first_or f x s r rest true = refl
first_or f x s r rest false = rest

pub find_map : {A B : Type 0} (p : B → Bool) (f : A → B) (q : A → Bool) → ((x : A) → p (f x) ≡ q x) → (xs : List A) → find p (map f xs) ≡ option_map f (find q xs)
find_map p f q same [] = refl
find_map p f q same (x ∷ xs) = ap (λ b. cond b (Some (f x)) (find p (map f xs))) (same x) ∙ first_or f x (find p (map f xs)) (find q xs) (find_map p f q same xs) (q x)
