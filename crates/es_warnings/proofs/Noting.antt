-- What is known after one more mention.
use Rattle.std.proofs.Common.{ℕ, ◌≡◌, ◌&&◌, ◌||◌, not, Bool, true, false, List, [], ◌∷◌, ◌++◌, Option, Some, None, is_some, option_map, slice_get, refl, sym, ap, subst, ◌∙◌, if◌then◌else◌}
use Rattle.std.specs.Prelude.{unwrap_or}
use Rattle.std.specs.List.{list_any}
use Rattle.std.specs.Map.{keys_of, lookup}
use Rattle.std.specs.Str.{bytes_eq}
use Rattle.std.proofs.lemmas.Option.{none-some, slice_get-map}
use Rattle.indexmap.specs.IndexMap.{IndexMap, Updates, get, insert_entry}
use Rattle.indexmap.proofs.CallerLemmas.{insert_entry-new, keys-insert_entry-present}
use Rattle.std.proofs.lemmas.Slice.Eq.{bytes_eq-Decides}
use Rattle.es_warnings.specs.Known.{IsEntry, Knows, VariablesView, known, noted}
use Rattle.es_warnings.specs.Mentions.{Mention}
use Rattle.es_warnings.specs.Warnings.{first_mention, is_answer, is_assigned, is_given, is_in_callback, is_of, is_reading, is_used, variables}
use Rattle.es_warnings.specs.declared.variables.Known.{Known}

is_some_map : {A B : Type 0} (f : A → B) (o : Option A) → is_some (option_map f o) ≡ is_some o
is_some_map f None = refl
is_some_map f (Some x) = refl

keys_of-push : (es : List (List ℕ × Known)) (x : List ℕ) (k : Known) → keys_of (es ++ (x, k) ∷ []) ≡ keys_of es ++ x ∷ []
keys_of-push [] x k = refl
keys_of-push (e ∷ es) x k = ap (λ l. e.0 ∷ l) (keys_of-push es x k)

or_false : (b : Bool) → (b || false) ≡ b
or_false true = refl
or_false false = refl

-- what is known of x once m came, by whether m is of x
after : List Mention → Mention → List ℕ → Bool → Option Known
after past m x b =
    let reads = is_reading m.manner in
    let gives = not reads && is_in_callback m.place.section in
    option_map (λ f. record { manner = f.manner; place = f.place; is_used = (b && not (is_answer m.manner)) || is_used past x; is_assigned = (b && not reads) || is_assigned past x; is_given = (b && gives) || is_given past x })
    (if b then Some (unwrap_or (first_mention past x) m) else first_mention past x)

-- where a variable was not mentioned, no mention of it passes a test
none_passes : (t : Mention → Bool) (past : List Mention) (x : List ℕ) → first_mention past x ≡ None → list_any (λ m. is_of x m && t m) past ≡ false
none_passes t [] x none = refl
none_passes t (m ∷ past) x none = by (is_of x m) refl (none_passes t past x)
  where
    by : (b : Bool) → is_of x m ≡ b → (first_mention past x ≡ None → list_any (λ m. is_of x m && t m) past ≡ false) → list_any (λ m. is_of x m && t m) (m ∷ past) ≡ false
    by true e rest = absurd (none-some (unwrap_or (first_mention past x) m) (sym none ∙ ap (λ b. if b then Some (unwrap_or (first_mention past x) m) else first_mention past x) e))
    by false e rest = ap (λ b. (b && t m) || list_any (λ m. is_of x m && t m) past) e ∙ rest (sym (ap (λ b. if b then Some (unwrap_or (first_mention past x) m) else first_mention past x) e) ∙ none)

-- what is known of a variable that is mentioned once more
known_of : (m : Mention) (past : List Mention) (x : List ℕ) → is_of x m ≡ true → known (m ∷ past) x ≡ Some (noted (known past x) m)
unfolding after
known_of m past x same =
    let reads = is_reading m.manner in
    let gives = not reads && is_in_callback m.place.section in
    let now : Mention → Known =
    λ f. record { manner = f.manner; place = f.place; is_used = not (is_answer m.manner) || is_used past x; is_assigned = not reads || is_assigned past x; is_given = gives || is_given past x } in
    let step : known (m ∷ past) x ≡ Some (now (unwrap_or (first_mention past x) m)) = ap (after past m x) same in
    step ∙ by (first_mention past x) (λ none. (none_passes (λ n. not (is_answer n.manner)) past x none, none_passes (λ n. not (is_reading n.manner)) past x none, none_passes (λ n. not (is_reading n.manner) && is_in_callback n.place.section) past x none))
  where
    by : (o : Option Mention) → (o ≡ None → (is_used past x ≡ false) × (is_assigned past x ≡ false) × (is_given past x ≡ false))
        → Some (record { manner = (unwrap_or o m).manner; place = (unwrap_or o m).place; is_used = not (is_answer m.manner) || is_used past x; is_assigned = not (is_reading m.manner) || is_assigned past x; is_given = (not (is_reading m.manner) && is_in_callback m.place.section) || is_given past x })
        ≡ Some (noted (option_map (λ f. record { manner = f.manner; place = f.place; is_used = is_used past x; is_assigned = is_assigned past x; is_given = is_given past x }) o) m)
    by (Some f) falses = refl
    by None falses =
        let no = falses refl in
        λ j. Some (record {
          manner = m.manner;
          place = m.place;
          is_used = (ap (λ b. not (is_answer m.manner) || b) no.0 ∙ or_false (not (is_answer m.manner))) j;
          is_assigned = (ap (λ b. not (is_reading m.manner) || b) no.1 ∙ or_false (not (is_reading m.manner))) j;
          is_given = (ap (λ b. (not (is_reading m.manner) && is_in_callback m.place.section) || b) no.2 ∙ or_false (not (is_reading m.manner) && is_in_callback m.place.section)) j;
        })

-- what is known of another stays
known_else : (m : Mention) (past : List Mention) (x : List ℕ) → is_of x m ≡ false → known (m ∷ past) x ≡ known past x
unfolding after
known_else m past x other = ap (after past m x) other

-- so is the whole, where the variable is put under its name, and no other is touched
pub knows_more : (past : List Mention) (old new : VariablesView) (m : Mention) → Knows past old
    → ((x : List ℕ) → lookup (bytes_eq x) new.entries ≡ (if is_of x m then Some (noted (lookup (bytes_eq m.name) old.entries) m) else lookup (bytes_eq x) old.entries))
    → keys_of new.entries ≡ (if is_some (lookup (bytes_eq m.name) old.entries) then keys_of old.entries else keys_of old.entries ++ m.name ∷ [])
    → Knows (m ∷ past) new
knows_more past old new m knows put names = record {
  known = λ x. put x ∙ by x (is_of x m) refl;
  names = names ∙ ap (λ o. if is_some o then keys_of old.entries else keys_of old.entries ++ m.name ∷ []) (knows.known m.name) ∙ named;
}
  where
    by : (x : List ℕ) (b : Bool) → is_of x m ≡ b → (if is_of x m then Some (noted (lookup (bytes_eq m.name) old.entries) m) else lookup (bytes_eq x) old.entries) ≡ known (m ∷ past) x
    by x true e =
        let same : m.name ≡ x = (bytes_eq-Decides m.name x).0 e in
        ap (λ b. if b then Some (noted (lookup (bytes_eq m.name) old.entries) m) else lookup (bytes_eq x) old.entries) e
        ∙ ap (λ o. Some (noted o m)) (knows.known m.name ∙ ap (known past) same) ∙ sym (known_of m past x e)
    by x false e = ap (λ b. if b then Some (noted (lookup (bytes_eq m.name) old.entries) m) else lookup (bytes_eq x) old.entries) e ∙ knows.known x ∙ sym (known_else m past x e)

    named : (if is_some (known past m.name) then keys_of old.entries else keys_of old.entries ++ m.name ∷ []) ≡ variables (m ∷ past)
    named =
        ap (λ b. if b then keys_of old.entries else keys_of old.entries ++ m.name ∷ []) (is_some_map _ (first_mention past m.name))
        ∙ ap (λ ks. if is_some (first_mention past m.name) then ks else ks ++ m.name ∷ []) knows.names

-- a map into which the variable is put
put_under : {S : Type 0} (past : List Mention) (m : Mention) (old new : IndexMap (List ℕ) Known S)
    → Updates bytes_eq old new m.name (Some (noted (get bytes_eq old m.name) m))
    → new.entries ≡ insert_entry bytes_eq old.entries m.name (noted (get bytes_eq old m.name) m)
    → Knows past (record { entries = old.entries })
    → Knows (m ∷ past) (record { entries = new.entries })
put_under past m old new put entries knows =
    knows_more past (record { entries = old.entries }) (record { entries = new.entries }) m knows put.0 (ap keys_of entries ∙ by (get bytes_eq old m.name) refl)
  where
    by : (o : Option Known) → get bytes_eq old m.name ≡ o
        → keys_of (insert_entry bytes_eq old.entries m.name (noted (get bytes_eq old m.name) m)) ≡ (if is_some (get bytes_eq old m.name) then keys_of old.entries else keys_of old.entries ++ m.name ∷ [])
    by None e =
        ap keys_of (insert_entry-new bytes_eq old m.name (noted (get bytes_eq old m.name) m) e) ∙ keys_of-push old.entries m.name (noted (get bytes_eq old m.name) m)
        ∙ ap (λ o. if is_some o then keys_of old.entries else keys_of old.entries ++ m.name ∷ []) (sym e)
    by (Some k) e =
        keys-insert_entry-present bytes_eq old m.name (noted (get bytes_eq old m.name) m) (ap is_some e)
        ∙ ap (λ o. if is_some o then keys_of old.entries else keys_of old.entries ++ m.name ∷ []) (sym e)

pub knows_put : {S : Type 0} (past : List Mention) (m : Mention) (old new : IndexMap (List ℕ) Known S) (key : List ℕ) (value : Known)
    → key ≡ m.name → value ≡ noted (get bytes_eq old m.name) m
    → Updates bytes_eq old new key (Some value) → new.entries ≡ insert_entry bytes_eq old.entries key value
    → Knows past (record { entries = old.entries }) → Knows (m ∷ past) (record { entries = new.entries })
knows_put past m old new key value named is put entries knows =
    put_under past m old new
    (subst (λ k. Updates bytes_eq old new k (Some (noted (get bytes_eq old m.name) m))) named (subst (λ v. Updates bytes_eq old new key (Some v)) is put))
    (entries ∙ (λ j. insert_entry bytes_eq old.entries (named j) (is j)))
    knows

-- the entry at an index
pub entry_at : {S : Type 0} (v : VariablesView) (m : IndexMap (List ℕ) Known S) (i : ℕ) (x : List ℕ) (k : Known) → record { entries = m.entries } ≡ v
    → Some (x, k) ≡ slice_get m.entries i → get bytes_eq m x ≡ Some k → IsEntry v i x k
entry_at v m i x k view at is = subst (λ v. IsEntry v i x k) view (record { name = slice_get-map (λ e. e.0) m.entries i ∙ ap (option_map (λ e. e.0)) (sym at); known = is })
