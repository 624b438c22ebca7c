-- What was read, under a conversion.
use Rattle.std.proofs.Common.{◌≡◌, List, Option, Some, None, option_map, refl, ap, ◌∙◌}
use Rattle.json.specs.Token.{Token}
use Rattle.json.specs.Json.{parse_map}
use Rattle.serde_json.specs.Read.{converted}

-- the first and the second of what is there, or else of what is given
abbrev first_or : {A B : Type 0} → A → Option (A × B) → A
first_or a None = a
first_or a (Some p) = p.0

abbrev second_or : {A B : Type 0} → B → Option (A × B) → B
second_or b None = b
second_or b (Some p) = p.1

-- what is there once it is converted was read, and converts to it
pub what_converted : {A B : Type 0} (f : A → Option B) (read : Option (A × List Token)) (b : B) (rest : List Token) → converted f read ≡ Some (b, rest) → (a : A) × (read ≡ Some (a, rest)) × (f a ≡ Some b)
what_converted f None b rest e = cc
what_converted {A} {B} f (Some p) b rest e = by_value (f p.0) refl e
  where
    by_value : (o : Option B) → f p.0 ≡ o → option_map {U = B × List Token} (λ c. (c, p.1)) o ≡ Some (b, rest) → (a : A) × (Some p ≡ Some (a, rest)) × (f a ≡ Some b)
    by_value None is e = cc
    by_value (Some c) is e = (p.0, ap (λ ts. Some (p.0, ts)) (ap (second_or rest) e), is ∙ ap Some (ap (first_or b) e))

-- a conversion of what is built of the parts, by the conversion of the parts
pub converted_built : {A B C D : Type 0} (f : A → Option B) (g : C → Option D) (make : A → C) (build : B → D) → ((a : A) → g (make a) ≡ option_map build (f a)) → (read : Option (A × List Token)) → converted g (parse_map make read) ≡ parse_map build (converted f read)
converted_built f g make build is None = refl
converted_built {A} {B} {C} {D} f g make build is (Some p) = ap (option_map (λ d. (d, p.1))) (is p.0) ∙ by_value (f p.0)
  where
    by_value : (o : Option B) → option_map (λ d. (d, p.1)) (option_map build o) ≡ parse_map build (option_map (λ b. (b, p.1)) o)
    by_value None = refl
    by_value (Some b) = refl

-- where what is built converts as its part does
pub converted_alike : {A B C : Type 0} (f : A → Option B) (g : C → Option B) (make : A → C) → ((a : A) → g (make a) ≡ f a) → (read : Option (A × List Token)) → converted g (parse_map make read) ≡ converted f read
converted_alike f g make is None = refl
converted_alike f g make is (Some p) = ap (option_map (λ b. (b, p.1))) (is p.0)
