-- The grammar's turns, under the conversion to data.
use Rattle.std.proofs.Common.{◌≡◌, ℕ, ◌+◌, ◌-◌, ◌<◌, Bool, true, false, ◌&&◌, List, [], ◌∷◌, ◌++◌, length, map, Some, None, Result, Ok, refl, sym, ap, ◌∙◌, subst, arith, append-nil}
use Rattle.json.specs.Token.{Token}
use Rattle.json.specs.Json as json
use Rattle.json.specs.Json.{parse_map, after_end_array, read_key, items, members, value}
use Rattle.json.proofs.Grammar.{value_is, value-begin_array, value-begin_object, items_end, items_more, members_end, members_more, after_end_array-shorter, read_key-shorter}
use Rattle.serde_json.specs.Data.{Data, null, boolean, number, string, array, object, Items, no_items, item, Members, no_members, put, Num}
use Rattle.serde_json.specs.Read.{number_of, of_json, of_items, of_members, converted}
use Rattle.es_reading.specs.declared.fault.ScriptFault.{ScriptFault}
use Rattle.es_reading.specs.Reading.{and_rest}
use Rattle.es_script.specs.Taking.{TakesValue, TakesItems, TakesMembers, IsRead, Took, TookItems}
use Rattle.es_script.proofs.Converted.{what_converted, converted_built, converted_alike}
use Rattle.es_reading.specs.Shape.{each}

-- A scalar: at a token that opens nothing the depth plays no part

pub takes_null : (depth : ℕ) (ts : List Token) → TakesValue depth (Token.null ∷ ts) null ts
takes_null depth ts = ap (converted of_json) (value_is depth _)

pub takes_boolean : (depth : ℕ) (b : Bool) (ts : List Token) → TakesValue depth (Token.boolean b ∷ ts) (boolean b) ts
takes_boolean depth b ts = ap (converted of_json) (value_is depth _)

pub takes_string : (depth : ℕ) (s : List ℕ) (ts : List Token) → TakesValue depth (Token.string s ∷ ts) (string s) ts
takes_string depth s ts = ap (converted of_json) (value_is depth _)

pub takes_number : (depth : ℕ) (s : List ℕ) (x : Num) (ts : List Token) → number_of s ≡ Some x → TakesValue depth (Token.number s ∷ ts) (number x) ts
takes_number depth s x ts e = ap (converted of_json) (value_is depth _) ∙ rw e

-- Arrays

pub takes_array : (depth : ℕ) (ts r : List Token) (ds : Items) → 0 < depth → TakesItems (depth - 1) ts ds r → TakesValue depth (Token.begin_array ∷ ts) (array ds) r
takes_array depth ts r ds some t =
    ap (converted of_json) (value-begin_array depth ts some) ∙ converted_built of_items of_json json.array array (λ js. refl) (items (value (depth - 1)) (length ts) ts) ∙ ap (parse_map array) (t (length ts) (omega arith))

pub takes_end : (depth : ℕ) (ts r : List Token) → after_end_array ts ≡ Some r → TakesItems depth ts no_items r
takes_end depth ts r e n enough = ap (converted of_items) (items_end (value depth) n ts r enough e)

pub takes_item : (depth : ℕ) (ts s r : List Token) (d : Data) (ds : Items) → after_end_array ts ≡ None → length s < length ts → TakesValue depth ts d s → TakesItems depth s ds r → TakesItems depth ts (item d ds) r
takes_item depth ts s r d ds going less v t n enough =
    let j = what_converted of_json (value depth ts) d s v in
    ap (converted of_items) (items_more (value depth) n ts s j.0 (omega arith) going j.1)
    ∙ converted_built of_items of_items (json.item j.0) (item d) (λ js. rw j.2 refl) (items (value depth) (n - 1) s)
    ∙ ap (parse_map (item d)) (t (n - 1) (omega arith))

-- Objects

pub takes_object : (depth : ℕ) (ts r : List Token) (ms : Members) → 0 < depth → TakesMembers (depth - 1) no_members ts ms r → TakesValue depth (Token.begin_object ∷ ts) (object ms) r
takes_object depth ts r ms some t =
    ap (converted of_json) (value-begin_object depth ts some) ∙ converted_built (λ js. of_members js no_members) of_json json.object object (λ js. refl) (members (value (depth - 1)) (length ts) ts) ∙ ap (parse_map object) (t (length ts) (omega arith))

pub takes_close : (depth : ℕ) (ms : Members) (ts r : List Token) → read_key ts ≡ Some (None, r) → TakesMembers depth ms ts ms r
takes_close depth ms ts r e n enough = ap (converted (λ js. of_members js ms)) (members_end (value depth) n ts r enough e)

pub takes_member : (depth : ℕ) (old : Members) (ts k_ts s r : List Token) (k : List ℕ) (d : Data) (ms : Members) → read_key ts ≡ Some (Some k, k_ts) → length s < length k_ts → TakesValue depth k_ts d s → TakesMembers depth (put k d old) s ms r → TakesMembers depth old ts ms r
takes_member depth old ts k_ts s r k d ms key less v t n enough =
    let j = what_converted of_json (value depth k_ts) d s v in
    let shorter = read_key-shorter ts (Some k) k_ts key in
    ap (converted (λ js. of_members js old)) (members_more (value depth) n k ts k_ts s j.0 (omega arith) key j.1)
    ∙ converted_alike (λ js. of_members js (put k d old)) (λ js. of_members js old) (json.member k j.0) (λ js. rw j.2 refl) (members (value depth) (n - 1) s)
    ∙ t (n - 1) (omega arith)

-- Lists that grow at their end

pub append_one : {A : Type 0} (xs : List A) (x : A) (ys : List A) → (xs ++ x ∷ []) ++ ys ≡ xs ++ x ∷ ys
append_one [] x ys = refl
append_one (z ∷ xs) x ys = ap (λ l. z ∷ l) (append_one xs x ys)

pub map_one : {A B : Type 0} (f : A → B) (xs : List A) (x : A) (ys : List B) → map f (xs ++ x ∷ []) ++ ys ≡ map f xs ++ f x ∷ ys
map_one f [] x ys = refl
map_one f (z ∷ xs) x ys = ap (λ l. f z ∷ l) (map_one f xs x ys)

-- Items

-- nothing more
pub took_end : {A : Type 0} (levels : ℕ) (test : Data → Bool) (reading : Items → Result A ScriptFault) (x : A) (ts r : List Token) → reading no_items ≡ Ok x → after_end_array ts ≡ Some r → TookItems levels test reading ts x r
took_end levels test reading x ts r e closed =
    record { values = no_items; taken = λ depth h. takes_end depth ts r closed; shaped = refl; read = e; shorter = after_end_array-shorter ts r closed }

both_true : (a b : Bool) → a ≡ true → b ≡ true → a && b ≡ true
both_true true b h k = k
both_true false b h k = h

-- one item and then more
pub took_item : {A : Type 0} (levels : ℕ) (test : Data → Bool) (one : Data → Result A ScriptFault) (all next : Items → Result (List A) ScriptFault) → ((d : Data) (ds : Items) → all (item d ds) ≡ and_rest (one d) (next ds))
    → (ts s r : List Token) (x : A) (xs : List A) → after_end_array ts ≡ None → Took levels (IsRead test one) ts x s → TookItems levels test next s xs r → TookItems levels test all ts (x ∷ xs) r
took_item levels test one all next is ts s r x xs going first more =
    record {
      values = item first.value more.values;
      taken = λ depth h. takes_item depth ts s r first.value more.values going first.shorter (first.taken depth h) (more.taken depth h);
      shaped = both_true (test first.value) (each test more.values) first.is.0 more.shaped;
      read = is first.value more.values ∙ rw (first.is.1, more.read) refl;
      shorter = omega (arith, first.shorter, more.shorter);
    }

-- one item more behind those that were read, whatever items are left
pub took_more : {A : Type 0} (levels : ℕ) (test : Data → Bool) (one : Data → Result A ScriptFault) (whole all next : Items → Result (List A) ScriptFault) → ((d : Data) (ds : Items) → all (item d ds) ≡ and_rest (one d) (next ds))
    → (start ts s : List Token) (read more : List A) (x : A) → ((r : List Token) (xs : List A) → TookItems levels test all ts xs r → TookItems levels test whole start (read ++ xs) r) → after_end_array ts ≡ None → Took levels (IsRead test one) ts x s
    → more ≡ read ++ x ∷ [] → (r : List Token) (xs : List A) → TookItems levels test next s xs r → TookItems levels test whole start (more ++ xs) r
took_more levels test one whole all next is start ts s read more x so_far going took grown r xs left =
    let longer = so_far r (x ∷ xs) (took_item levels test one all next is ts s r x xs going took left) in
    subst (λ ys. TookItems levels test whole start ys r) (sym (ap (λ ys. ys ++ xs) grown ∙ append_one read x xs)) longer

-- where none is left
pub took_all : {A : Type 0} (levels : ℕ) (test : Data → Bool) (whole all : Items → Result (List A) ScriptFault) (start ts r : List Token) (read : List A) → ((r : List Token) (xs : List A) → TookItems levels test all ts xs r → TookItems levels test whole start (read ++ xs) r)
    → all no_items ≡ Ok [] → after_end_array ts ≡ Some r → TookItems levels test whole start read r
took_all levels test whole all start ts r read so_far none closed = subst (λ ys. TookItems levels test whole start ys r) (append-nil read) (so_far r [] (took_end levels test all [] ts r none closed))

-- an array of items
pub took_array : {A B : Type 0} (levels : ℕ) (test array_test : Data → Bool) (all : Items → Result A ScriptFault) (reading : Data → Result B ScriptFault) (x : A) (y : B) (ts r : List Token)
    → ((ds : Items) → each test ds ≡ true → array_test (array ds) ≡ true) → ((ds : Items) → all ds ≡ Ok x → reading (array ds) ≡ Ok y) → TookItems levels test all ts x r → Took (levels + 1) (IsRead array_test reading) (Token.begin_array ∷ ts) y r
took_array levels test array_test all reading x y ts r passes is t =
    record {
      value = array t.values;
      taken = λ depth h. takes_array depth ts r t.values (omega (arith, h)) (t.taken (depth - 1) (omega (arith, h)));
      is = (passes t.values t.shaped, is t.values t.read);
      shorter = omega (arith, t.shorter);
    }
