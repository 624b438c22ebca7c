-- What is read well is read as well at any other place of its kind.
use Rattle.std.proofs.Common.{◌≡◌, ℕ, ◌+◌, Bool, true, false, List, [], ◌∷◌, Option, Some, None, Result, Ok, Err, refl, sym, ap, ◌∙◌, subst}
use Rattle.std.specs.Prelude.{ℤ, pos, negsuc, nat_le, if◌then◌else◌}
use Rattle.serde_json.specs.Data.{Data, null, boolean, number, string, array, object, Items, no_items, item}
use Rattle.serde_json.specs.Find.{as_i64}
use Rattle.serde_json.specs.Events.{items_len}
use Rattle.es_value.specs.Limits.{most_commands, most_words}
use Rattle.es_value.specs.Spelling.{is_name, is_text}
use Rattle.es_event.specs.declared.operand.Operand.{Operand}
use Rattle.es_event.specs.declared.literal.Literal.TheVariants.{Number, Text}
use Rattle.es_reading.specs.Lines.{Line}
use Rattle.es_reading.specs.declared.fault.FaultCode.TheVariants.{Name, Operands, Profile, Collection, Limit}
use Rattle.es_reading.specs.declared.fault.Place.{Place}
use Rattle.es_reading.specs.declared.fault.Spot.{Spot}
use Rattle.es_reading.specs.declared.fault.ScriptFault.{ScriptFault}
use Rattle.es_reading.specs.Scope.{Numbers, Scope}
use Rattle.es_reading.specs.Forms.{OperandType, name, literal, text, callback, agent, whole, amount, words, Form, form, is_allowed, is_try, is_whole, fit}
use Rattle.es_reading.specs.Places.{at, is_in_callback}
use Rattle.es_reading.specs.Reading.{then_read, unless_fault, fault_at, name_read, text_read, whole_read, size_found, words_read, literal_read, number_found, reference_read, operand_read, Meanings, made, meanings_read, form_read, tried_form_read, tried_read, plain_read, line_read, lines_read, body_read}

-- the same is read well, whatever the faults
abbrev pub IsAlike : {A : Type 0} → Result A ScriptFault → Result A ScriptFault → Type 0
IsAlike {A} (Ok x) (Ok y) = x ≡ y
IsAlike {A} (Ok x) (Err f) = ⊥
IsAlike {A} (Err f) (Ok y) = ⊥
IsAlike {A} (Err f) (Err g) = Unit {0}

alike_then : {A B : Type 0} (r s : Result A ScriptFault) (f g : A → Result B ScriptFault) → IsAlike r s → ((x : A) → IsAlike (f x) (g x)) → IsAlike (then_read r f) (then_read s g)
alike_then (Ok x) (Ok y) f g h k = subst (λ z. IsAlike (f x) (g z)) h (k x)
alike_then (Ok x) (Err e) f g h k = absurd h
alike_then (Err e) (Ok y) f g h k = absurd h
alike_then (Err e) (Err d) f g h k = tt

alike_unless : {A : Type 0} (b : Bool) (e d : ScriptFault) (r s : Result A ScriptFault) → IsAlike r s → IsAlike (unless_fault b e r) (unless_fault b d s)
alike_unless true e d r s h = h
alike_unless false e d r s h = tt

pub alike_ok : {A : Type 0} (r s : Result A ScriptFault) (x : A) → IsAlike r s → r ≡ Ok x → s ≡ Ok x
alike_ok (Ok x) (Ok y) z h e = ap (λ w. Ok w) (sym h) ∙ e
alike_ok (Ok x) (Err d) z h e = absurd h
alike_ok (Err d) s z h e = cc

module _ (scope : Scope) (s t : Spot) where
  whole_alike : (o : Option ℤ) → IsAlike (whole_read s o) (whole_read t o)
  whole_alike (Some z) = alike_unless (is_whole z) (fault_at s Profile) (fault_at t Profile) (Ok z) (Ok z) refl
  whole_alike None = tt

  size_alike : (z : ℤ) → IsAlike (size_found s z) (size_found t z)
  size_alike (pos n) = alike_unless (nat_le n most_words) (fault_at s Limit) (fault_at t Limit) (Ok n) (Ok n) refl
  size_alike (negsuc n) = tt

  text_alike : (u : List ℕ) → IsAlike (text_read s u) (text_read t u)
  text_alike u = alike_unless (is_text u) (fault_at s Profile) (fault_at t Profile) (Ok u) (Ok u) refl

  name_alike : (u : List ℕ) → IsAlike (name_read s u) (name_read t u)
  name_alike u = alike_unless (is_name u) (fault_at s Name) (fault_at t Name) (Ok u) (Ok u) refl

  literal_alike : (d : Data) → IsAlike (literal_read s d) (literal_read t d)
  literal_alike null = refl
  literal_alike (boolean b) = refl
  literal_alike (number n) = alike_then (whole_read s (as_i64 n)) (whole_read t (as_i64 n)) (λ z. Ok (Number z)) (λ z. Ok (Number z)) (whole_alike (as_i64 n)) (λ z. refl)
  literal_alike (string u) = alike_then (text_read s u) (text_read t u) (λ v. Ok (Text v)) (λ v. Ok (Text v)) (text_alike u) (λ v. refl)
  literal_alike (array ds) = tt
  literal_alike (object ms) = tt

  number_alike : (o : Option ℕ) → IsAlike (number_found s o) (number_found t o)
  number_alike (Some n) = refl
  number_alike None = tt

  reference_alike : (numbers : Numbers) (u : List ℕ) → IsAlike (reference_read numbers s u) (reference_read numbers t u)
  reference_alike numbers u = alike_then (name_read s u) (name_read t u) (λ v. number_found s (numbers v)) (λ v. number_found t (numbers v)) (name_alike u) (λ v. number_alike (numbers v))

  words_alike : (o : Option ℤ) → IsAlike (words_read s o) (words_read t o)
  words_alike o = alike_then (whole_read s o) (whole_read t o) (size_found s) (size_found t) (whole_alike o) size_alike

  operand_alike : (k : OperandType) (d : Data) → IsAlike (operand_read scope s k d) (operand_read scope t k d)
  operand_alike literal d = literal_alike d
  operand_alike name (string u) = name_alike u
  operand_alike text (string u) = text_alike u
  operand_alike callback (string u) = reference_alike scope.callbacks u
  operand_alike agent (string u) = reference_alike scope.agents u
  operand_alike whole (number n) = whole_alike (as_i64 n)
  operand_alike amount (number n) = alike_then (whole_read s (as_i64 n)) (whole_read t (as_i64 n)) (λ z. Ok (Operand.Number z)) (λ z. Ok (Operand.Number z)) (whole_alike (as_i64 n)) (λ z. refl)
  operand_alike amount (string u) = alike_then (name_read s u) (name_read t u) (λ x. Ok (Operand.Variable x)) (λ x. Ok (Operand.Variable x)) (name_alike u) (λ x. refl)
  operand_alike words (number n) = words_alike (as_i64 n)
  operand_alike name null = tt
  operand_alike name (boolean b) = tt
  operand_alike name (number n) = tt
  operand_alike name (array ds) = tt
  operand_alike name (object ms) = tt
  operand_alike text null = tt
  operand_alike text (boolean b) = tt
  operand_alike text (number n) = tt
  operand_alike text (array ds) = tt
  operand_alike text (object ms) = tt
  operand_alike callback null = tt
  operand_alike callback (boolean b) = tt
  operand_alike callback (number n) = tt
  operand_alike callback (array ds) = tt
  operand_alike callback (object ms) = tt
  operand_alike agent null = tt
  operand_alike agent (boolean b) = tt
  operand_alike agent (number n) = tt
  operand_alike agent (array ds) = tt
  operand_alike agent (object ms) = tt
  operand_alike whole null = tt
  operand_alike whole (boolean b) = tt
  operand_alike whole (string u) = tt
  operand_alike whole (array ds) = tt
  operand_alike whole (object ms) = tt
  operand_alike amount null = tt
  operand_alike amount (boolean b) = tt
  operand_alike amount (array ds) = tt
  operand_alike amount (object ms) = tt
  operand_alike words null = tt
  operand_alike words (boolean b) = tt
  operand_alike words (string u) = tt
  operand_alike words (array ds) = tt
  operand_alike words (object ms) = tt

  meanings_alike : (ks : List OperandType) (ds : Items) → IsAlike (meanings_read scope s ks ds) (meanings_read scope t ks ds)
  meanings_alike [] ds = refl
  meanings_alike (k ∷ ks) no_items = tt
  meanings_alike (k ∷ ks) (item d ds) =
      alike_then (operand_read scope s k d) (operand_read scope t k d) (λ x. then_read (meanings_read scope s ks ds) (λ xs. Ok (x, xs))) (λ x. then_read (meanings_read scope t ks ds) (λ xs. Ok (x, xs))) (operand_alike k d)
      (λ x. alike_then (meanings_read scope s ks ds) (meanings_read scope t ks ds) (λ xs. Ok (x, xs)) (λ xs. Ok (x, xs)) (meanings_alike ks ds) (λ xs. refl))

  -- operands of these types, which a command may have where it stands or not
  abbrev types_read : Spot → (Bool → Bool) → (ks : List OperandType) → Items → Result (Meanings ks) ScriptFault
  types_read s allowed ks ds = unless_fault (fit ks ds) (fault_at s Operands) (unless_fault (allowed (is_in_callback s.place)) (fault_at s Collection) (meanings_read scope s ks ds))

  types_alike : is_in_callback s.place ≡ is_in_callback t.place → (allowed : Bool → Bool) (ks : List OperandType) (ds : Items) → IsAlike (types_read s allowed ks ds) (types_read t allowed ks ds)
  types_alike kind allowed ks ds =
      let inner = alike_unless (allowed (is_in_callback s.place)) (fault_at s Collection) (fault_at t Collection) (meanings_read scope s ks ds) (meanings_read scope t ks ds) (meanings_alike ks ds) in
      let both = subst (λ b. IsAlike (unless_fault (allowed (is_in_callback s.place)) (fault_at s Collection) (meanings_read scope s ks ds)) (unless_fault (allowed b) (fault_at t Collection) (meanings_read scope t ks ds))) kind inner in
      alike_unless (fit ks ds) (fault_at s Operands) (fault_at t Operands) _ _ both

  form_alike : is_in_callback s.place ≡ is_in_callback t.place → (o : Option Form) (ds : Items) → IsAlike (form_read scope s o ds) (form_read scope t o ds)
  form_alike kind None ds = tt
  form_alike kind (Some f) ds =
      let allowed : Bool → Bool = λ b. is_allowed b f in
      alike_then (types_read s allowed f.types ds) (types_read t allowed f.types ds) (λ xs. Ok (made f.types f.makes xs)) (λ xs. Ok (made f.types f.makes xs)) (types_alike kind allowed f.types ds) (λ xs. refl)

  tried_form_alike : is_in_callback s.place ≡ is_in_callback t.place → (o : Option Form) (x : List ℕ) (ds : Items) → IsAlike (tried_form_read scope s o x ds) (tried_form_read scope t o x ds)
  tried_form_alike kind None x ds = tt
  tried_form_alike kind (Some f) x ds =
      let allowed : Bool → Bool = λ b. is_allowed b f in
      let ks = name ∷ f.types in
      alike_then (types_read s allowed ks (item (string x) ds)) (types_read t allowed ks (item (string x) ds))
      (λ xs. Ok (Some xs.0, made f.types f.makes xs.1)) (λ xs. Ok (Some xs.0, made f.types f.makes xs.1)) (types_alike kind allowed ks (item (string x) ds)) (λ xs. refl)

  tried_alike : is_in_callback s.place ≡ is_in_callback t.place → (ds : Items) → IsAlike (tried_read scope s ds) (tried_read scope t ds)
  tried_alike kind (item (string x) (item (string w) ds)) = tried_form_alike kind (form scope.version w (items_len ds)) x ds
  tried_alike kind _ = tt

  line_alike : is_in_callback s.place ≡ is_in_callback t.place → (d : Data) → IsAlike (line_read scope s d) (line_read scope t d)
  line_alike kind (array (item (string w) ds)) = by_try (is_try scope.version w)
    where
      by_try : (b : Bool) → IsAlike (if b then tried_read scope s ds else plain_read scope s w ds) (if b then tried_read scope t ds else plain_read scope t w ds)
      by_try true = tried_alike kind ds
      by_try false =
          let o = form scope.version w (items_len ds) in
          alike_then (form_read scope s o ds) (form_read scope t o ds) (λ c. Ok (None, c)) (λ c. Ok (None, c)) (form_alike kind o ds) (λ c. refl)
  line_alike kind _ = tt

lines_alike : (scope : Scope) (p q : Place) → is_in_callback p ≡ is_in_callback q → (n : ℕ) (ds : Items) → IsAlike (lines_read scope p n ds) (lines_read scope q n ds)
lines_alike scope p q kind n no_items = refl
lines_alike scope p q kind n (item d ds) =
    alike_then (line_read scope (record { place = p; command = n }) d) (line_read scope (record { place = q; command = n }) d)
    (λ x. then_read (lines_read scope p (n + 1) ds) (λ xs. Ok (x ∷ xs))) (λ x. then_read (lines_read scope q (n + 1) ds) (λ xs. Ok (x ∷ xs)))
    (line_alike scope (record { place = p; command = n }) (record { place = q; command = n }) kind d)
    (λ x. alike_then (lines_read scope p (n + 1) ds) (lines_read scope q (n + 1) ds) (λ xs. Ok (x ∷ xs)) (λ xs. Ok (x ∷ xs)) (lines_alike scope p q kind (n + 1) ds) (λ xs. refl))

-- a body
pub body_anywhere : (scope : Scope) (p q : Place) (ds : Items) (ls : List Line) → is_in_callback p ≡ is_in_callback q → body_read scope p ds ≡ Ok ls → body_read scope q ds ≡ Ok ls
body_anywhere scope p q ds ls kind e =
    alike_ok (body_read scope p ds) (body_read scope q ds) ls (alike_unless (nat_le (items_len ds) most_commands) (at p 0 Limit) (at q 0 Limit) (lines_read scope p 1 ds) (lines_read scope q 1 ds) (lines_alike scope p q kind 1 ds)) e
