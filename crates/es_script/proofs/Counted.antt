-- Lists that were read well: their parts, and that they are as long as what they were read of.
use Rattle.std.proofs.Common.{◌≡◌, ℕ, suc, ◌+◌, List, [], ◌∷◌, length, Result, Ok, Err, refl, sym, ap, ◌∙◌}
use Rattle.serde_json.specs.Data.{Data, Items, no_items, item, Members, no_members, member}
use Rattle.serde_json.specs.Events.{items_len, members_len}
use Rattle.es_event.specs.declared.plan.Callback.{Callback}
use Rattle.es_reading.specs.declared.fault.Place.TheVariants.{Callback as CallbackPlace}
use Rattle.es_reading.specs.declared.fault.ScriptFault.{ScriptFault}
use Rattle.es_reading.specs.Scope.{Scope}
use Rattle.es_reading.specs.Reading.{and_rest, callback_read, callbacks_read}

abbrev list_in : {A : Type 0} → Result (List A) ScriptFault → List A
list_in (Ok ys) = ys
list_in (Err f) = []

abbrev pub some_read : {A : Type 0} → A → Result A ScriptFault
some_read x = Ok x

pub none_left : {A : Type 0} (ys : List A) → some_read [] ≡ Ok ys → ys ≡ []
none_left ys e = ap list_in (sym e)

pub rest_parts : {A : Type 0} (r : Result A ScriptFault) (rs : Result (List A) ScriptFault) (ys : List A) → and_rest r rs ≡ Ok ys → (x : A) × (xs : List A) × (r ≡ Ok x) × (rs ≡ Ok xs) × (x ∷ xs ≡ ys)
rest_parts (Ok x) (Ok xs) ys e = (x, xs, refl, refl, ap list_in e)
rest_parts (Ok x) (Err d) ys e = cc
rest_parts (Err d) rs ys e = cc

-- what is read item by item, by its number
pub items_count : {A : Type 0} (one : ℕ → Data → Result A ScriptFault) (all : ℕ → Items → Result (List A) ScriptFault) → ((k : ℕ) → all k no_items ≡ some_read []) → ((k : ℕ) (d : Data) (ds : Items) → all k (item d ds) ≡ and_rest (one k d) (all (k + 1) ds))
    → (k : ℕ) (ds : Items) (xs : List A) → all k ds ≡ Ok xs → items_len ds ≡ length xs
items_count one all none more k no_items xs e = ap length (sym (none_left xs (sym (none k) ∙ e)))
items_count one all none more k (item d ds) xs e =
    let parts = rest_parts (one k d) (all (k + 1) ds) xs (sym (more k d ds) ∙ e) in
    ap suc (items_count one all none more (k + 1) ds parts.1 parts.3) ∙ ap length parts.4

pub callbacks_count : (scope : Scope) (a n : ℕ) (ms : Members) (cs : List Callback) → callbacks_read scope a n ms ≡ Ok cs → members_len ms ≡ length cs
callbacks_count scope a n no_members cs e = ap length (sym (none_left cs e))
callbacks_count scope a n (member l x ms) cs e =
    let parts = rest_parts (callback_read scope (CallbackPlace a n) l x) (callbacks_read scope a (n + 1) ms) cs e in
    ap suc (callbacks_count scope a (n + 1) ms parts.1 parts.3) ∙ ap length parts.4
