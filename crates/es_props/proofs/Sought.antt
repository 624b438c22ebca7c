-- What a search through properties from the first finds, and what a change at its place makes.
use Rattle.std.proofs.Common.{◌≡◌, ℕ, zero, suc, ◌+◌, ◌<◌, Bool, true, false, not, cond, sym, ◌∙◌, ap, refl, arith, List, [], ◌∷◌, ◌++◌, length, take, Option, Some, None}
use Rattle.std.specs.Prelude.{set, remove, slice_index_or}
use Rattle.std.specs.List.{AllByRecursion, IsDistinct}
use Rattle.std.specs.Str.{bytes_eq}
use Rattle.std.proofs.lemmas.List.{take_more}
use Rattle.std.proofs.lemmas.Slice.Eq.{bytes_eq-Decides}
use Rattle.es_value.specs.declared.value.Value.{Value}
use Rattle.indexmap.specs.IndexMap.{insert_entry}
use Rattle.es_props.specs.Few.{IsPlace}
use Rattle.es_props.specs.Heap.{Properties, value_at, keys_of, with_property, without_property}
use Rattle.es_props.proofs.Held.{none_among, distinct_parts}
use Rattle.es_props.proofs.Tables.{value_at_is_lookup, with_property_is_insert, without_absent as without_absent_key}

-- Nothing is under the key

cond_none : (b : Bool) (v : Value) (rest : Option Value) → cond b (Some v) rest ≡ None → (b ≡ false) × (rest ≡ None)
cond_none true v rest e = cc
cond_none false v rest e = (refl, e)

-- so far, and at one entry more
absent_after : (ps : Properties) (p : List ℕ × Value) (k : List ℕ) → value_at ps k ≡ None → bytes_eq p.0 k ≡ false → value_at (ps ++ p ∷ []) k ≡ None
absent_after [] p k none other = ap (λ b. cond b (Some p.1) None) other
absent_after (q ∷ ps) p k none other =
    let parts = cond_none (bytes_eq q.0 k) q.1 (value_at ps k) none in
    ap (λ b. cond b (Some q.1) (value_at (ps ++ p ∷ []) k)) parts.0 ∙ absent_after ps p k parts.1 other

pub absent_more : (ps : Properties) (k : List ℕ) (i : ℕ) (d : List ℕ × Value) → i < length ps → value_at (take i ps) k ≡ None → bytes_eq (slice_index_or ps i d).0 k ≡ false → value_at (take (i + 1) ps) k ≡ None
absent_more ps k i d within none other = ap (λ qs. value_at qs k) (take_more ps i d within) ∙ absent_after (take i ps) (slice_index_or ps i d) k none other

pub with_absent : (ps : Properties) (k : List ℕ) (v : Value) → value_at ps k ≡ None → with_property ps k v ≡ ps ++ (k, v) ∷ []
with_absent [] k v none = refl
with_absent (p ∷ ps) k v none =
    let parts = cond_none (bytes_eq p.0 k) p.1 (value_at ps k) none in
    ap (λ b. cond b ((p.0, v) ∷ ps) (p ∷ with_property ps k v)) parts.0 ∙ ap (λ qs. p ∷ qs) (with_absent ps k v parts.1)

pub without_absent : (ps : Properties) (k : List ℕ) → value_at ps k ≡ None → without_property ps k ≡ ps
without_absent ps k none = without_absent_key ps k (sym (value_at_is_lookup ps k) ∙ none)

-- The place of the key

later : (p : List ℕ × Value) (ps : Properties) (k : List ℕ) (i : ℕ) → IsPlace (p ∷ ps) k (suc i) → (bytes_eq p.0 k ≡ false) × IsPlace ps k i
later p ps k i place =
    let parts = cond_none (bytes_eq p.0 k) p.1 (value_at (take i ps) k) place.before in
    (parts.0, record { within = let less = place.within in omega (arith, less); before = parts.1; here = λ d. place.here d })

pub value_here : (ps : Properties) (k : List ℕ) (i : ℕ) (d : List ℕ × Value) → IsPlace ps k i → value_at ps k ≡ Some (slice_index_or ps i d).1
value_here [] k i d place = let less = place.within in absurd (omega (arith, less))
value_here (p ∷ ps) k zero d place = ap (λ b. cond b (Some p.1) (value_at ps k)) (place.here d)
value_here (p ∷ ps) k (suc i) d place =
    let parts = later p ps k i place in
    ap (λ b. cond b (Some p.1) (value_at ps k)) parts.0 ∙ value_here ps k i d parts.1

pub with_here : (ps : Properties) (k : List ℕ) (v : Value) (i : ℕ) (d : List ℕ × Value) → IsPlace ps k i → with_property ps k v ≡ set ps i ((slice_index_or ps i d).0, v)
with_here [] k v i d place = let less = place.within in absurd (omega (arith, less))
with_here (p ∷ ps) k v zero d place = ap (λ b. cond b ((p.0, v) ∷ ps) (p ∷ with_property ps k v)) (place.here d)
with_here (p ∷ ps) k v (suc i) d place =
    let parts = later p ps k i place in
    ap (λ b. cond b ((p.0, v) ∷ ps) (p ∷ with_property ps k v)) parts.0 ∙ ap (λ qs. p ∷ qs) (with_here ps k v i d parts.1)

pub without_here : (ps : Properties) (k : List ℕ) (i : ℕ) (d : List ℕ × Value) → IsPlace ps k i → IsDistinct bytes_eq (keys_of ps) → without_property ps k ≡ remove ps i
without_here [] k i d place distinct = let less = place.within in absurd (omega (arith, less))
without_here (p ∷ ps) k zero d place distinct =
    let same : k ≡ p.0 = sym ((bytes_eq-Decides p.0 k).0 (place.here d)) in
    let none : value_at ps k ≡ None = ap (value_at ps) same ∙ none_among p.0 ps (distinct_parts p ps distinct).0 in
    ap (λ b. cond (not b) (p ∷ without_property ps k) (without_property ps k)) (place.here d) ∙ without_absent ps k none
without_here (p ∷ ps) k (suc i) d place distinct =
    let parts = later p ps k i place in
    ap (λ b. cond (not b) (p ∷ without_property ps k) (without_property ps k)) parts.0
    ∙ ap (λ qs. p ∷ qs) (without_here ps k i d parts.1 (distinct_parts p ps distinct).1)

-- No key stands twice

apart_with : (ps : Properties) (l k : List ℕ) (v : Value) → AllByRecursion (λ m. bytes_eq l m ≡ false) (keys_of ps) → bytes_eq l k ≡ false → AllByRecursion (λ m. bytes_eq l m ≡ false) (keys_of (with_property ps k v))
apart_with [] l k v apart other = (other, tt)
apart_with (p ∷ ps) l k v apart other = elim (bytes_eq p.0 k) as (λ b. AllByRecursion (λ m. bytes_eq l m ≡ false) (keys_of (cond b ((p.0, v) ∷ ps) (p ∷ with_property ps k v)))) [
  | true ↦ apart
  | false ↦ (apart.0, apart_with ps l k v apart.1 other)
]

distinct_from : (p : List ℕ × Value) (ps : Properties) → AllByRecursion (λ l. bytes_eq p.0 l ≡ false) (keys_of ps) → IsDistinct bytes_eq (keys_of ps) → IsDistinct bytes_eq (keys_of (p ∷ ps))
unfolding IsDistinct
distinct_from p ps apart distinct = (apart, distinct)

pub distinct_with : (ps : Properties) (k : List ℕ) (v : Value) → IsDistinct bytes_eq (keys_of ps) → IsDistinct bytes_eq (keys_of (with_property ps k v))
distinct_with [] k v distinct = distinct_from (k, v) [] tt distinct
distinct_with (p ∷ ps) k v distinct =
    let parts = distinct_parts p ps distinct in
    elim (bytes_eq p.0 k) as (λ b. bytes_eq p.0 k ≡ b → IsDistinct bytes_eq (keys_of (cond b ((p.0, v) ∷ ps) (p ∷ with_property ps k v)))) [
      | true ↦ λ same. distinct
      | false ↦ λ other. distinct_from p (with_property ps k v) (apart_with ps p.0 k v parts.0 other) (distinct_with ps k v parts.1)
    ] refl

apart_without : (ps : Properties) (l k : List ℕ) → AllByRecursion (λ m. bytes_eq l m ≡ false) (keys_of ps) → AllByRecursion (λ m. bytes_eq l m ≡ false) (keys_of (without_property ps k))
apart_without [] l k apart = tt
apart_without (p ∷ ps) l k apart = elim (bytes_eq p.0 k) as (λ b. AllByRecursion (λ m. bytes_eq l m ≡ false) (keys_of (cond (not b) (p ∷ without_property ps k) (without_property ps k)))) [
  | true ↦ apart_without ps l k apart.1
  | false ↦ (apart.0, apart_without ps l k apart.1)
]

pub distinct_without : (ps : Properties) (k : List ℕ) → IsDistinct bytes_eq (keys_of ps) → IsDistinct bytes_eq (keys_of (without_property ps k))
distinct_without [] k distinct = distinct
distinct_without (p ∷ ps) k distinct =
    let parts = distinct_parts p ps distinct in
    let rest = distinct_without ps k parts.1 in
    elim (bytes_eq p.0 k) as (λ b. IsDistinct bytes_eq (keys_of (cond (not b) (p ∷ without_property ps k) (without_property ps k)))) [
      | true ↦ rest
      | false ↦ distinct_from p (without_property ps k) (apart_without ps p.0 k parts.0) rest
    ]

-- One entry more in a table

apart_at : (ps : Properties) (l : List ℕ) (i : ℕ) (d : List ℕ × Value) → AllByRecursion (λ m. bytes_eq l m ≡ false) (keys_of ps) → i < length ps → bytes_eq l (slice_index_or ps i d).0 ≡ false
apart_at [] l i d apart less = absurd (omega (arith, less))
apart_at (p ∷ ps) l zero d apart less = apart.0
apart_at (p ∷ ps) l (suc i) d apart less = apart_at ps l i d apart.1 (omega (arith, less))

absent_before : (ps : Properties) (i : ℕ) (d : List ℕ × Value) → IsDistinct bytes_eq (keys_of ps) → i < length ps → value_at (take i ps) (slice_index_or ps i d).0 ≡ None
absent_before [] i d distinct less = absurd (omega (arith, less))
absent_before (p ∷ ps) zero d distinct less = refl
absent_before (p ∷ ps) (suc i) d distinct less =
    let parts = distinct_parts p ps distinct in
    let within : i < length ps = omega (arith, less) in
    ap (λ b. cond b (Some p.1) (value_at (take i ps) (slice_index_or ps i d).0)) (apart_at ps p.0 i d parts.0 within) ∙ absent_before ps i d parts.1 within

pub insert_next : (ps : Properties) (i : ℕ) (d : List ℕ × Value) → IsDistinct bytes_eq (keys_of ps) → i < length ps
    → insert_entry bytes_eq (take i ps) (slice_index_or ps i d).0 (slice_index_or ps i d).1 ≡ take (i + 1) ps
insert_next ps i d distinct less =
    sym (with_property_is_insert (take i ps) (slice_index_or ps i d).0 (slice_index_or ps i d).1)
    ∙ with_absent (take i ps) (slice_index_or ps i d).0 (slice_index_or ps i d).1 (absent_before ps i d distinct less)
    ∙ sym (take_more ps i d less)
