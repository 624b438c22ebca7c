-- What is to be said of the variables, one by one.
use Rattle.std.proofs.Common.{ℕ, zero, suc, ◌≡◌, ◌+◌, ◌≤◌, List, [], ◌∷◌, ◌++◌, flat_map, length, slice_get, take, option_to_list, refl, sym, ap, subst, ◌∙◌, add-one, append_assoc}
use Rattle.std.proofs.lemmas.List.{take_all}
use Rattle.std.proofs.lemmas.Map.Entries.{length-keys_of}
use Rattle.std.proofs.lemmas.Option.{slice_get_past}
use Rattle.es_warnings.specs.Known.{Knows, VariablesView, of_variable_at}
use Rattle.es_warnings.specs.Mentions.{Mention}
use Rattle.es_warnings.specs.Warnings.{of_variable, of_variables, variables}

flat_map_suc : {X A : Type 0} (f : X → List A) (i : ℕ) (xs : List X) → flat_map f (take (suc i) xs) ≡ flat_map f (take i xs) ++ flat_map f (option_to_list (slice_get xs i))
flat_map_suc f zero [] = refl
flat_map_suc f (suc i) [] = refl
flat_map_suc f zero (x ∷ xs) = refl
flat_map_suc f (suc i) (x ∷ xs) = ap (λ l. f x ++ l) (flat_map_suc f i xs) ∙ sym (append_assoc (f x) (flat_map f (take i xs)) (flat_map f (option_to_list (slice_get xs i))))

-- one more item, if there is one
pub flat_map_take : {X A : Type 0} (f : X → List A) (i : ℕ) (xs : List X) → flat_map f (take (i + 1) xs) ≡ flat_map f (take i xs) ++ flat_map f (option_to_list (slice_get xs i))
flat_map_take f i xs = ap (λ n. flat_map f (take n xs)) (add-one i) ∙ flat_map_suc f i xs

pub nothing_at : (agent : ℕ) (past : List Mention) (v : VariablesView) (i : ℕ) → Knows past v → length v.entries ≤ i → of_variable_at agent past i ≡ []
nothing_at agent past v i knows none =
    let few : length (variables past) ≤ i = subst (λ n. n ≤ i) (sym (length-keys_of v.entries) ∙ ap length knows.names) none in
    ap (λ o. flat_map (λ x. option_to_list (of_variable agent past x)) (option_to_list o)) (slice_get_past (variables past) i few)

-- all of them
pub all_told : (agent : ℕ) (past : List Mention) (v : VariablesView) (i : ℕ) → Knows past v → length v.entries ≤ i
    → flat_map (λ x. option_to_list (of_variable agent past x)) (take i (variables past)) ≡ of_variables agent past
all_told agent past v i knows all =
    let few : length (variables past) ≤ i = subst (λ n. n ≤ i) (sym (length-keys_of v.entries) ∙ ap length knows.names) all in
    ap (flat_map (λ x. option_to_list (of_variable agent past x))) (take_all i (variables past) few)
