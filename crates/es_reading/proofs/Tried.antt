-- What is read of a command behind `try`, by what is read of the variable and of the command.
use Rattle.std.proofs.Common.{◌≡◌, ℕ, ℤ, pos, negsuc, Bool, true, false, cond, sym, ◌∙◌, ap, refl, subst, nat_le, List, [], ◌∷◌, Option, Some, None, Result, Ok, Err, if◌then◌else◌}
use Rattle.std.proofs.lemmas.Bool.{and_parts}
use Rattle.serde_json.specs.Data.{Data, null, boolean, number, string, Items, no_items, item}
use Rattle.serde_json.specs.Find.{as_i64}
use Rattle.es_value.specs.Limits.{most_words}
use Rattle.es_value.specs.Spelling.{is_name, is_text}
use Rattle.es_event.specs.declared.command.Command.{Command}
use Rattle.es_reading.specs.declared.fault.FaultCode.TheVariants.{Operands, Collection}
use Rattle.es_reading.specs.declared.fault.ReadFault.{ReadFault}
use Rattle.es_reading.specs.declared.fault.ReadFault.TheVariants.{Script, NoMemory}
use Rattle.es_reading.specs.declared.fault.ScriptFault.{ScriptFault}
use Rattle.es_reading.specs.declared.fault.Spot.{Spot}
use Rattle.es_reading.specs.Faults.{is_of_form}
use Rattle.es_reading.specs.Forms.{OperandType, name, literal, text, callback, agent, whole, amount, words, Form, fits, fit, is_allowed, is_whole}
use Rattle.es_reading.specs.Lines.{Line}
use Rattle.es_reading.specs.Places.{is_in_callback}
use Rattle.es_reading.specs.Reading.{Gives, Meanings, fault_at, made, form_read, meanings_read, name_read, number_found, operand_read, size_found, text_read, then_read, tried_form_read, unless_fault, whole_read}
use Rattle.es_reading.specs.Scope.{Scope}

-- A fault of an operand that has its JSON kind is none of the form

abbrev IsOperands : {A : Type 0} → Result A ScriptFault → Type 0
IsOperands (Ok x) = Unit {0}
IsOperands (Err f) = is_of_form f.code ≡ false

of_test : {A : Type 0} (b : Bool) (f : ScriptFault) (x : A) → is_of_form f.code ≡ false → IsOperands (unless_fault b f (Ok x))
of_test true f x is = tt
of_test false f x is = is

of_name : (s : Spot) (t : List ℕ) → IsOperands (name_read s t)
of_name s t = of_test (is_name t) _ t refl

of_text : (s : Spot) (t : List ℕ) → IsOperands (text_read s t)
of_text s t = of_test (is_text t) _ t refl

of_whole : (s : Spot) (o : Option ℤ) → IsOperands (whole_read s o)
of_whole s None = refl
of_whole s (Some z) = of_test (is_whole z) _ z refl

then_operands : {A B : Type 0} (read : Result A ScriptFault) (f : A → Result B ScriptFault) → IsOperands read → ((x : A) → IsOperands (f x)) → IsOperands (then_read read f)
then_operands (Ok x) f is each = each x
then_operands (Err e) f is each = is

of_number : (s : Spot) (o : Option ℕ) → IsOperands (number_found s o)
of_number s None = refl
of_number s (Some n) = tt

of_size : (s : Spot) (z : ℤ) → IsOperands (size_found s z)
of_size s (pos n) = of_test (nat_le n most_words) _ n refl
of_size s (negsuc n) = refl

of_operand : (scope : Scope) (s : Spot) (k : OperandType) (d : Data) → fits k d ≡ true → IsOperands (operand_read scope s k d)
of_operand scope s name (string t) is = of_name s t
of_operand scope s literal null is = tt
of_operand scope s literal (boolean b) is = tt
of_operand scope s literal (number n) is = then_operands (whole_read s (as_i64 n)) _ (of_whole s (as_i64 n)) (λ z. tt)
of_operand scope s literal (string t) is = then_operands (text_read s t) _ (of_text s t) (λ t. tt)
of_operand scope s text (string t) is = of_text s t
of_operand scope s callback (string t) is = then_operands (name_read s t) _ (of_name s t) (λ t. of_number s (scope.callbacks t))
of_operand scope s agent (string t) is = then_operands (name_read s t) _ (of_name s t) (λ t. of_number s (scope.agents t))
of_operand scope s whole (number n) is = of_whole s (as_i64 n)
of_operand scope s amount (string t) is = then_operands (name_read s t) _ (of_name s t) (λ x. tt)
of_operand scope s amount (number n) is = then_operands (whole_read s (as_i64 n)) _ (of_whole s (as_i64 n)) (λ z. tt)
of_operand scope s words (number n) is = then_operands (whole_read s (as_i64 n)) _ (of_whole s (as_i64 n)) (of_size s)
of_operand scope s k d is = cc

of_meanings : (scope : Scope) (s : Spot) (ks : List OperandType) (ds : Items) → fit ks ds ≡ true → IsOperands (meanings_read scope s ks ds)
of_meanings scope s [] ds is = tt
of_meanings scope s (k ∷ ks) no_items is = cc
of_meanings scope s (k ∷ ks) (item d ds) is =
    let parts = and_parts (fits k d) (fit ks ds) is in
    then_operands (operand_read scope s k d) _ (of_operand scope s k d parts.0) (λ x. then_operands (meanings_read scope s ks ds) _ (of_meanings scope s ks ds parts.1) (λ xs. tt))

-- Both together

-- a fault of the form comes first, then one of the variable, then one of an operand
abbrev pub both : Result (List ℕ) ScriptFault → Result Command ScriptFault → Result Line ScriptFault
both n (Err f) = if is_of_form f.code then Err f else then_read n (λ x. Err f)
both n (Ok c) = then_read n (λ x. Ok (Some x, c))

behind : {A : Type 0} (n : Result (List ℕ) ScriptFault) (ms : Result A ScriptFault) (make : A → Command) → IsOperands ms
    → then_read {A = List ℕ × A} (then_read n (λ x. then_read ms (λ xs. Ok (x, xs)))) (λ p. Ok (Some p.0, make p.1)) ≡ both n (then_read ms (λ xs. Ok (make xs)))
behind (Ok x) (Ok xs) make is = refl
behind (Err f) (Ok xs) make is = refl
behind (Ok x) (Err g) make is = sym (ap (λ b. cond b (Err g) (Err g)) is)
behind (Err f) (Err g) make is = sym (ap (λ b. cond b (Err g) (Err f)) is)

pub tried_both : (scope : Scope) (s : Spot) (o : Option Form) (e : List ℕ) (ds : Items) → tried_form_read scope s o e ds ≡ both (name_read s e) (form_read scope s o ds)
tried_both scope s None e ds = refl
tried_both scope s (Some f) e ds = by_fit (fit f.types ds) (is_allowed (is_in_callback s.place) f) refl
  where
    by_fit : (b a : Bool) → fit f.types ds ≡ b
        → then_read {A = List ℕ × Meanings f.types} (unless_fault b (fault_at s Operands) (unless_fault a (fault_at s Collection) (then_read (name_read s e) (λ x. then_read (meanings_read scope s f.types ds) (λ xs. Ok (x, xs)))))) (λ p. Ok (Some p.0, made f.types f.makes p.1))
        ≡ both (name_read s e) (then_read (unless_fault b (fault_at s Operands) (unless_fault a (fault_at s Collection) (meanings_read scope s f.types ds))) (λ xs. Ok (made f.types f.makes xs)))
    by_fit false a is = refl
    by_fit true false is = refl
    by_fit true true is = behind (name_read s e) (meanings_read scope s f.types ds) (made f.types f.makes) (of_meanings scope s f.types ds is)

pub tried_ok : (scope : Scope) (s : Spot) (o : Option Form) (e : List ℕ) (ds : Items) (x : List ℕ) (c : Command) → name_read s e ≡ Ok x → form_read scope s o ds ≡ Ok c → tried_form_read scope s o e ds ≡ Ok (Some x, c)
tried_ok scope s o e ds x c is read = tried_both scope s o e ds ∙ ap (λ n. both n (form_read scope s o ds)) is ∙ ap (both (Ok x)) read

pub tried_form : (scope : Scope) (s : Spot) (o : Option Form) (e : List ℕ) (ds : Items) (f : ScriptFault) → form_read scope s o ds ≡ Err f → is_of_form f.code ≡ true → tried_form_read scope s o e ds ≡ Err f
tried_form scope s o e ds f read is = tried_both scope s o e ds ∙ ap (both (name_read s e)) read ∙ ap (λ b. cond b (Err f) (then_read (name_read s e) (λ x. Err f))) is

pub tried_name : (scope : Scope) (s : Spot) (o : Option Form) (e : List ℕ) (ds : Items) (g : ScriptFault) (c : Command) → name_read s e ≡ Err g → form_read scope s o ds ≡ Ok c → tried_form_read scope s o e ds ≡ Err g
tried_name scope s o e ds g c is read = tried_both scope s o e ds ∙ ap (both (name_read s e)) read ∙ ap (λ n. both n (Ok c)) is

pub tried_first : (scope : Scope) (s : Spot) (o : Option Form) (e : List ℕ) (ds : Items) (g f : ScriptFault) → name_read s e ≡ Err g → form_read scope s o ds ≡ Err f → is_of_form f.code ≡ false → tried_form_read scope s o e ds ≡ Err g
tried_first scope s o e ds g f is read other =
    tried_both scope s o e ds ∙ ap (both (name_read s e)) read ∙ ap (λ b. cond b (Err f) (then_read (name_read s e) (λ x. Err f))) other ∙ ap (λ n. then_read n (λ x. Err f)) is

pub tried_operand : (scope : Scope) (s : Spot) (o : Option Form) (e : List ℕ) (ds : Items) (x : List ℕ) (f : ScriptFault) → name_read s e ≡ Ok x → form_read scope s o ds ≡ Err f → tried_form_read scope s o e ds ≡ Err f
tried_operand scope s o e ds x f is read = tried_both scope s o e ds ∙ ap (λ n. both n (form_read scope s o ds)) is ∙ ap (both (Ok x)) read ∙ either (is_of_form f.code)
  where
    either : (b : Bool) → ◌≡◌ {A = Result Line ScriptFault} (cond b (Err f) (Err f)) (Err f)
    either true = refl
    either false = refl

-- What functions answer

pub gives_script : (read : Result Command ScriptFault) (w : ReadFault) (f : ScriptFault) → w ≡ Script f → Gives {X = Command} {Y = Command} (λ c. c) (Err w) read → read ≡ Err f
gives_script read w f is given = subst (λ w. Gives {X = Command} {Y = Command} (λ c. c) (Err w) read) is given

-- the variable's fault is the first, or there was no memory
pub first_wins : (first : ReadFault) (n : Result (List ℕ) ScriptFault) (t : Result Line ScriptFault) → ((g : ScriptFault) → n ≡ Err g → t ≡ Err g)
    → Gives {X = List ℕ} {Y = List ℕ} (λ n. n) (Err first) n → Gives {X = Line} {Y = Line} (λ l. l) (Err first) t
first_wins (Script g) n t each is = each g is
first_wins NoMemory n t each is = tt
