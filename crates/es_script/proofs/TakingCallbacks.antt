-- Callbacks, from their tokens, and their names.
use Rattle.std.proofs.Common.{◌≡◌, ℕ, ◌+◌, ◌<◌, ◌≤◌, Bool, true, false, List, [], ◌∷◌, length, map, drop, get_or, Some, None, Result, Ok, Err, refl, sym, ap, ◌∙◌, subst, arith}
use Rattle.std.specs.Prelude.{if◌then◌else◌}
use Rattle.std.proofs.Common.{nat_cmp, Ordering, Less, Equal, Greater}
use Rattle.std.specs.Ordering.{match_ordering}
use Rattle.std.specs.Cmp.Lexicographic.{slice_cmp}
use Rattle.std.specs.BTreeMap.{insert_entry}
use Rattle.std.specs.Str.{bytes_eq}
use Rattle.std.proofs.lemmas.List.{at_drop_more}
use Rattle.std.proofs.lemmas.Map.Lookups.{exact_bytes}
use Rattle.std.proofs.lemmas.Slice.Eq.{bytes_eq-Decides}
use mathlib.Core.Path.{fun_ext}
use Rattle.json.specs.Token.{Token}
use Rattle.json.specs.Json.{read_key}
use Rattle.serde_json.specs.Data.{Data, Members, no_members, member, put}
use Rattle.es_value.specs.Limits.{most_callbacks}
use Rattle.es_value.specs.Spelling.{is_name}
use Rattle.es_reading.specs.Lines.{Line, commands_in, catches_in}
use Rattle.es_event.specs.declared.plan.Callback.{Callback}
use Rattle.es_reading.specs.declared.fault.ScriptFault.{ScriptFault}
use Rattle.es_reading.specs.declared.fault.Place.TheVariants.{Callback as CallbackPlace}
use Rattle.es_reading.specs.Parts.{items_in}
use Rattle.es_reading.specs.Scope.{Scope, number_from, number_in}
use Rattle.es_reading.specs.Shape.{each_member, is_callback}
use Rattle.es_reading.specs.Reading.{then_read, unless_fault, body_read, callback_read, callbacks_read}
use Rattle.es_script.specs.Taking.{plain, Took, TookMembers}
use Rattle.es_script.specs.Drafts.{IsRun, IsCallback, AreCallbacks}
use Rattle.es_script.proofs.Counted.{some_read, none_left, rest_parts}
use Rattle.es_script.proofs.Objects.{took_none, took_put, took_object}
use Rattle.es_script.proofs.Anywhere.{body_anywhere}
use Rattle.es_script.proofs.Plain.{plain_commands, plain_catches}

-- one callback, from its commands
pub took_callback : (scope : Scope) (a : ℕ) (k : List ℕ) (c : Callback) (ts r : List Token) → c.name ≡ k → c.catches ≡ [] → is_name k ≡ true → Took 2 (IsRun scope (CallbackPlace a 1)) ts c.run r → Took 2 (IsCallback scope a k) ts c r
took_callback scope a k c ts r named none spelled took =
    record {
      value = took.value;
      taken = took.taken;
      is = (
        took.is.0,
        λ n. rw (spelled, body_anywhere scope (CallbackPlace a 1) (CallbackPlace a n) (items_in (Some took.value)) (plain c.run) refl took.is.1, plain_commands c.run, plain_catches c.run) (rw (← named, ← none) refl),
      );
      shorter = took.shorter;
    }

-- The entries of a map by keys, whose bytes are the names

module _ {K : Type 0} (bytes : K → List ℕ) (scope : Scope) (a : ℕ) where
  pub record IsEntry (k : List ℕ) (d : Data) (e : K × Callback) : Type 0 where
    pub key : k ≡ bytes e.0
    pub is : IsCallback scope a k d e.1

  -- they are the callbacks of these members, in order
  abbrev pub AreEntries : Members → List (K × Callback) → Type 0
  AreEntries no_members [] = Unit {0}
  AreEntries no_members (e ∷ es) = ⊥
  AreEntries (member k d ms) [] = ⊥
  AreEntries (member k d ms) (e ∷ es) = IsEntry k d e × AreEntries ms es

  by_order : (o : Ordering) (before at behind : Members) (first same last : List (K × Callback)) → AreEntries before first → (o ≡ Equal → AreEntries at same) → AreEntries behind last
      → AreEntries (match_ordering o before at behind) (match_ordering o first same last)
  by_order Less before at behind first same last f s l = f
  by_order Equal before at behind first same last f s l = s refl
  by_order Greater before at behind first same last f s l = l

  -- one more, in its place
  pub inserted : (k : K) (d : Data) (c : Callback) → IsCallback scope a (bytes k) d c → (ms : Members) (es : List (K × Callback)) → AreEntries ms es
      → AreEntries (put (bytes k) d ms) (insert_entry (λ x y. slice_cmp nat_cmp (bytes x) (bytes y)) es k c)
  inserted k d c is no_members [] h = (record { key = refl; is = is }, tt)
  inserted k d c is no_members (e ∷ es) h = absurd h
  inserted k d c is (member l x ms) [] h = absurd h
  inserted k d c is (member l x ms) (e ∷ es) h =
      let first : AreEntries (member (bytes k) d (member l x ms)) ((k, c) ∷ e ∷ es) = (record { key = refl; is = is }, h) in
      let last : AreEntries (member l x (put (bytes k) d ms)) (e ∷ insert_entry (λ x y. slice_cmp nat_cmp (bytes x) (bytes y)) es k c) = (h.0, inserted k d c is ms es h.1) in
      subst (λ z. AreEntries (match_ordering (slice_cmp nat_cmp (bytes k) z) (member (bytes k) d (member l x ms)) (member l d ms) (member l x (put (bytes k) d ms)))
      (match_ordering (slice_cmp nat_cmp (bytes k) (bytes e.0)) ((k, c) ∷ e ∷ es) ((e.0, c) ∷ es) (e ∷ insert_entry (λ x y. slice_cmp nat_cmp (bytes x) (bytes y)) es k c)))
      (sym h.0.key)
      (by_order (slice_cmp nat_cmp (bytes k) (bytes e.0)) (member (bytes k) d (member l x ms)) (member l d ms) (member l x (put (bytes k) d ms)) ((k, c) ∷ e ∷ es) ((e.0, c) ∷ es) (e ∷ insert_entry (λ x y. slice_cmp nat_cmp (bytes x) (bytes y)) es k c)
      first (λ same. (record { key = h.0.key; is = subst (λ z. IsCallback scope a z d c) (exact_bytes (bytes k) (bytes e.0) same ∙ sym h.0.key) is }, h.1)) last)

  entries_read : (n : ℕ) (ms : Members) (es : List (K × Callback)) → AreEntries ms es → callbacks_read scope a n ms ≡ Ok (map (λ e. e.1) es)
  entries_read n no_members [] h = refl
  entries_read n no_members (e ∷ es) h = absurd h
  entries_read n (member k d ms) [] h = absurd h
  entries_read n (member k d ms) (e ∷ es) h = rw (h.0.is.1 n, entries_read (n + 1) ms es h.1) refl

  entries_shaped : (ms : Members) (es : List (K × Callback)) → AreEntries ms es → each_member is_callback ms ≡ true
  entries_shaped no_members [] h = refl
  entries_shaped no_members (e ∷ es) h = absurd h
  entries_shaped (member k d ms) [] h = absurd h
  entries_shaped (member k d ms) (e ∷ es) h = rw (h.0.is.0, entries_shaped ms es h.1) refl

  -- what was read of an object of callbacks so far
  pub record AreSoFar (old now : List Token) (es : List (K × Callback)) : Type 0 where
    pub front : Members
    pub members : TookMembers 2 front old now
    pub entries : AreEntries front es

  pub so_far_none : (old now : List Token) (es : List (K × Callback)) → old ≡ Token.begin_object ∷ now → es ≡ [] → AreSoFar old now es
  so_far_none old now es opened none = record { front = no_members; members = took_none 2 old now opened; entries = rw none tt }

  pub so_far_more : (old now s t : List Token) (es : List (K × Callback)) (k : K) (c : Callback) → AreSoFar old now es → read_key now ≡ Some (Some (bytes k), s) → Took 2 (IsCallback scope a (bytes k)) s c t
      → AreSoFar old t (insert_entry (λ x y. slice_cmp nat_cmp (bytes x) (bytes y)) es k c)
  so_far_more old now s t es k c so_far key took =
      record {
        front = put (bytes k) took.value so_far.front;
        members = took_put 2 2 (IsCallback scope a (bytes k)) so_far.front old now s t (bytes k) c (omega arith) so_far.members key took;
        entries = inserted k took.value c took.is so_far.front es so_far.entries;
      }

  pub so_far_all : (old now new : List Token) (es : List (K × Callback)) (cs : List Callback) → AreSoFar old now es → read_key now ≡ Some (None, new) → cs ≡ map (λ e. e.1) es → length cs ≤ most_callbacks → Took 3 (AreCallbacks scope a) old cs new
  so_far_all old now new es cs so_far closed all few =
      took_object 2 (AreCallbacks scope a) cs so_far.front old now new so_far.members closed
      (entries_shaped so_far.front es so_far.entries, entries_read 1 so_far.front es so_far.entries ∙ ap (λ xs. some_read xs) (sym all), few)

-- Names, compared

pub same_step : {A : Type 0} (f : A → List ℕ) (xs : List A) (ys : List (List ℕ)) (i : ℕ) (x : A) (y : List ℕ) → i < length xs → i < length ys → x ≡ get_or xs i x → y ≡ get_or ys i y → f x ≡ y
    → map f (drop (i + 1) xs) ≡ drop (i + 1) ys → map f (drop i xs) ≡ drop i ys
same_step f xs ys i x y lx ly ex ey same h =
    at_drop_more (map f) xs i x lx ∙ ap (λ z. f z ∷ map f (drop (i + 1) xs)) (sym ex) ∙ ap (λ z. z ∷ map f (drop (i + 1) xs)) same ∙ ap (λ zs. y ∷ zs) h
    ∙ ap (λ z. z ∷ drop (i + 1) ys) ey ∙ sym (at_drop_more (λ zs. zs) ys i y ly)

pub equal_bytes : (xs ys : List ℕ) → bytes_eq xs ys ≡ true → xs ≡ ys
equal_bytes xs ys h = (bytes_eq-Decides xs ys).0 h

-- Numbers by the names of callbacks

abbrev pub member_keys : Members → List (List ℕ)
member_keys no_members = []
member_keys (member k d ms) = k ∷ member_keys ms

number_keys_at : (k : ℕ) (ms : Members) (n : List ℕ) → number_from k ms n ≡ number_in k (member_keys ms) n
number_keys_at k no_members n = refl
number_keys_at k (member m d ms) n = ap (λ o. if bytes_eq m n then Some k else o) (number_keys_at (k + 1) ms n)

pub number_keys : (k : ℕ) (ms : Members) → number_from k ms ≡ number_in k (member_keys ms)
number_keys k ms = fun_ext (number_keys_at k ms)

abbrev name_in : Result Callback ScriptFault → List ℕ
name_in (Ok c) = c.name
name_in (Err f) = []

named_so : (b : Bool) (f : ScriptFault) (k : List ℕ) (run : Result (List Line) ScriptFault) (c : Callback) → then_read (unless_fault b f (Ok k)) (λ n. then_read run (λ ls. Ok (record { name = n; run = commands_in ls; catches = catches_in ls }))) ≡ Ok c → k ≡ c.name
named_so true f k (Ok ls) c e = ap name_in e
named_so true f k (Err x) c e = cc
named_so false f k run c e = cc

pub keys_read : (scope : Scope) (a n : ℕ) (ms : Members) (cs : List Callback) → callbacks_read scope a n ms ≡ Ok cs → member_keys ms ≡ map (λ c. c.name) cs
keys_read scope a n no_members cs e = ap (map (λ c. c.name)) (sym (none_left cs e))
keys_read scope a n (member k d ms) cs e =
    let parts = rest_parts (callback_read scope (CallbackPlace a n) k d) (callbacks_read scope a (n + 1) ms) cs e in
    let name : k ≡ parts.0.name = named_so (is_name k) _ k (body_read scope (CallbackPlace a n) (items_in (Some d))) parts.0 parts.2 in
    ap (λ z. z ∷ member_keys ms) name ∙ ap (λ ns. parts.0.name ∷ ns) (keys_read scope a (n + 1) ms parts.1 parts.3) ∙ ap (map (λ c. c.name)) parts.4
