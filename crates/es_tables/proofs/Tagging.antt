-- The tag of each identity after one more event.
use Rattle.std.proofs.Common.{◌≡◌, ℕ, zero, suc, ◌+◌, ◌-◌, ◌<◌, ◌==◌, ◌&&◌, not, Bool, true, false, cond, nat_lt, nat_le, sym, ◌∙◌, ap, refl, subst, arith, append-nil, List, [], ◌∷◌, ◌++◌, length, map, Option, Some, None, if◌then◌else◌}
use Rattle.std.specs.Prelude.{unwrap_or, slice_index_or}
use Rattle.std.specs.Option.{option_map_or, option_to_list}
use Rattle.std.proofs.lemmas.Bool.{eqb-true, eq-eqb}
use Rattle.std.proofs.lemmas.Bool.Decides.{nat_tests}
use Rattle.es_value.specs.declared.value.Value.{Value}
use Rattle.es_value.specs.declared.value.Value.TheVariants.{Object}
use Rattle.es_event.specs.declared.event.Event.{Event}
use Rattle.es_event.specs.declared.event.Event.TheVariants.{Received, Did}
use Rattle.es_event.specs.declared.command.Command.{Command}
use Rattle.es_event.specs.Commands.{Kind, makes, kind_made}
use Rattle.es_event.specs.Sharing.{Buffers}
use Rattle.es_event.specs.History.{History, at_key}
use Rattle.es_event.specs.Identities.{object_of, made, makes_at, is_gone, kind, born}
use Rattle.es_event.specs.Jobs.{Receivers}
use Rattle.es_event.specs.Rules.{result}
use Rattle.es_event.specs.Heard.{Heard, heard_by}
use Rattle.es_event.specs.Legal.{Lawful, LegalBy}
use Rattle.es_event.proofs.Accepted.{is_result}
use Rattle.es_event.proofs.Alive.{next_alive}
use Rattle.es_event.proofs.Births.{birth, received}
use Rattle.es_event.proofs.Entries.{inner}
use Rattle.es_tables.specs.declared.tags.Tag.{Tag}
use Rattle.es_tables.specs.Tags.{tag_at, tag_of, tag_said, tag_made, tag_received, tag_made_at}
use Rattle.es_event.proofs.Births.{next_kind, born_next}

-- One place more

at_more : (ks : List (Option Tag)) (x : Option Tag) (n : ℕ) → slice_index_or (ks ++ x ∷ []) n None ≡ (if n == length ks then x else slice_index_or ks n None)
at_more [] x zero = refl
at_more [] x (suc n) = grind (arith, nat_tests)
at_more (k ∷ ks) x zero = grind (arith, nat_tests)
at_more (k ∷ ks) x (suc n) =
    let rest : slice_index_or (ks ++ x ∷ []) n None ≡ (if n == length ks then x else slice_index_or ks n None) = at_more ks x n in
    grind (arith, nat_tests, rest)

tag_at_more : (ks : List (Option Tag)) (t : Tag) (i : ℕ) → 0 < i → tag_at (ks ++ Some t ∷ []) i ≡ (if i == length ks + 1 then Some t else tag_at ks i)
tag_at_more ks t i positive =
    let same : (i - 1 == length ks) ≡ (i == length ks + 1) = grind (arith, nat_tests, positive) in
    at_more ks (Some t) (i - 1) ∙ ap (λ b. if b then Some t else tag_at ks i) same

-- What an event makes

counted : (c : Command) → option_map_or (λ t. 1) (tag_made c) 0 ≡ makes c
counted (Command.New to) = refl
counted (Command.Symbol to) = refl
counted (Command.WeakRef to y) = refl
counted (Command.WeakMap to) = refl
counted (Command.WeakSet to) = refl
counted (Command.FinalizationRegistry to c) = refl
counted (Command.SharedArrayBuffer to n) = refl
counted _ = refl

counted_received : (v : Value) → ◌≡◌ {A = ℕ} (option_map_or (λ t. 1) (tag_received v) 0) (option_map_or (λ i. 1) (object_of v) 0)
counted_received (Object i) = refl
counted_received _ = refl

counted_at : (e : Event) → option_map_or (λ t. 1) (tag_made_at e) 0 ≡ makes_at e
counted_at (Received t v) = counted_received v
counted_at (Did (c, vs, r)) = counted c
counted_at _ = refl

-- an object is of a kind that its command makes
kind_counted : (c : Command) (vs : List Value) (kd : Kind) → kind_made c vs ≡ Some kd → makes c ≡ 1
kind_counted (Command.New to) vs kd e = refl
kind_counted (Command.WeakRef to y) vs kd e = refl
kind_counted (Command.WeakMap to) vs kd e = refl
kind_counted (Command.WeakSet to) vs kd e = refl
kind_counted (Command.FinalizationRegistry to c) vs kd e = refl
kind_counted (Command.SharedArrayBuffer to n) vs kd e = refl
kind_counted _ vs kd e = cc

born_counted : (e : Event) (q : ℕ × Option Kind) → born e ≡ Some q → makes_at e ≡ 1
born_counted (Received t v) q e = ap (λ v. option_map_or (λ i. 1) (object_of v) 0) (received v q e).1
born_counted (Did (c, vs, r)) q e = let b = birth c vs r q e in kind_counted c vs b.0 b.2
born_counted _ q e = cc

-- Kinds

other_at : (b : Option (ℕ × Option Kind)) (before : Option Kind) (i : ℕ) → ((q : ℕ × Option Kind) → b ≡ Some q → q.0 ≡ i → ⊥) → unwrap_or (at_key (λ i j. i == j) i b) before ≡ before
other_at None before i other = refl
other_at (Some q) before i other =
    elim (q.0 == i) as (λ t. q.0 == i ≡ t → unwrap_or (cond t (Some q.1) None) before ≡ before)
    [ true ↦ λ t. absurd (other q refl (eqb-true q.0 i t)) | false ↦ λ t. refl ] refl

-- every other identity keeps its kind
kind_other : (over : Buffers) (into : Receivers) (h : History) (e : Event) (i : ℕ) → Lawful over into h e → (i ≡ made h + 1 → ⊥) → kind (e ∷ h) i ≡ kind h i
kind_other over into h e i lawful other = other_at (born e) (kind h i) i (λ q is same. other (sym (born_next over into h e q lawful is ∙ same)))

kind_quiet : (h : History) (e : Event) (i : ℕ) → makes_at e ≡ 0 → kind (e ∷ h) i ≡ kind h i
kind_quiet h e i none = other_at (born e) (kind h i) i (λ q is same. let one : makes_at e ≡ 1 = born_counted e q is in absurd (omega (arith, none, one)))

given : (n : ℕ) (k before : Option Kind) → unwrap_or (at_key (λ i j. i == j) n (Some (n, k))) before ≡ k
given n k before = ap (λ b. unwrap_or (cond b (Some k) None) before) (eq-eqb n n refl)

tag_new : (over : Buffers) (h : History) (c : Command) (vs : List Value) (w : Heard) (t : Tag) → tag_made c ≡ Some t → kind h (made h + 1) ≡ None → tag_of (kind (Did (c, vs, result over h c vs w) ∷ h) (made h + 1)) ≡ t
tag_new over h (Command.New to) vs w t e none = ap tag_of (given (made h + 1) _ (kind h (made h + 1))) ∙ cc
tag_new over h (Command.Symbol to) vs w t e none = ap tag_of none ∙ cc
tag_new over h (Command.WeakRef to y) vs w t e none = ap tag_of (given (made h + 1) _ (kind h (made h + 1))) ∙ cc
tag_new over h (Command.WeakMap to) vs w t e none = ap tag_of (given (made h + 1) _ (kind h (made h + 1))) ∙ cc
tag_new over h (Command.WeakSet to) vs w t e none = ap tag_of (given (made h + 1) _ (kind h (made h + 1))) ∙ cc
tag_new over h (Command.FinalizationRegistry to c) vs w t e none = ap tag_of (given (made h + 1) _ (kind h (made h + 1))) ∙ cc
tag_new over h (Command.SharedArrayBuffer to n) vs w t e none = ap tag_of (given (made h + 1) _ (kind h (made h + 1))) ∙ cc
tag_new over h _ vs w t e none = cc

tag_next : (over : Buffers) (into : Receivers) (h : History) (e : Event) (t : Tag) (i : ℕ) → LegalBy over into h → Lawful over into h e → tag_made_at e ≡ Some t → i ≡ made h + 1 → tag_of (kind (e ∷ h) i) ≡ t
tag_next over into h (Did (c, vs, r)) t i legal lawful is same =
    subst (λ r. tag_of (kind (Did (c, vs, r) ∷ h) i) ≡ t) (is_result over h c vs (heard_by c r) r lawful.1)
    (subst (λ j. tag_of (kind (Did (c, vs, result over h c vs (heard_by c r)) ∷ h) j) ≡ t) (sym same) (tag_new over h c vs (heard_by c r) t is (next_kind over into h legal)))
tag_next over into h (Received n (Object o)) t i legal lawful is same =
    let arrived : made h + 1 ≡ o = sym lawful.0 in
    subst (λ j. tag_of (kind (Received n (Object o) ∷ h) j) ≡ t) (sym same)
    (subst (λ j. tag_of (kind (Received n (Object j) ∷ h) (made h + 1)) ≡ t) arrived (ap tag_of (given (made h + 1) _ (kind h (made h + 1))) ∙ inner is))
tag_next over into h _ t i legal lawful is same = cc

-- Tags

shown_more : (g : Bool) (i m : ℕ) (k l : Option Kind) (t : Tag) → 0 < i → (i ≡ m + 1 → g ≡ false) → (i ≡ m + 1 → tag_of l ≡ t) → ((i ≡ m + 1 → ⊥) → l ≡ k)
    → (if i == m + 1 then Some t else (if (nat_lt 0 i && nat_le i m) && not g then Some (tag_of k) else None)) ≡ (if (nat_lt 0 i && nat_le i (1 + m)) && not g then Some (tag_of l) else None)
shown_more g i m k l t positive alive new old = grind (arith, nat_tests, positive, alive, new, old)

shown_same : (g : Bool) (i m : ℕ) (k l : Option Kind) → l ≡ k
    → (if (nat_lt 0 i && nat_le i m) && not g then Some (tag_of k) else None) ≡ (if (nat_lt 0 i && nat_le i (0 + m)) && not g then Some (tag_of l) else None)
shown_same g i m k l same = grind (arith, nat_tests, same)

-- with n made in the last event, of m made before
abbrev pub shown : ℕ → ℕ → Bool → ℕ → Option Kind → Option Tag
shown n m g i k = if (nat_lt 0 i && nat_le i (n + m)) && not g then Some (tag_of k) else None

shown_by : (h : History) (e : Event) (n i : ℕ) → n ≡ makes_at e → is_gone (e ∷ h) i ≡ is_gone h i → shown n (made h) (is_gone h i) i (kind (e ∷ h) i) ≡ tag_said (e ∷ h) i
shown_by h e n i count gone = ap (λ c. shown c (made h) (is_gone h i) i (kind (e ∷ h) i)) count ∙ ap (λ g. shown (makes_at e) (made h) g i (kind (e ∷ h) i)) (sym gone)

-- where an event makes this or nothing, and empties nothing
pub tags_after : (over : Buffers) (into : Receivers) (h : History) (e : Event) (ks new : List (Option Tag)) (m : Option Tag) → LegalBy over into h → Lawful over into h e
    → ((i : ℕ) → is_gone (e ∷ h) i ≡ is_gone h i) → length ks ≡ made h → ((i : ℕ) → 0 < i → tag_at ks i ≡ tag_said h i)
    → tag_made_at e ≡ m → new ≡ ks ++ map Some (option_to_list m) → (i : ℕ) → 0 < i → tag_at new i ≡ tag_said (e ∷ h) i
tags_after over into h e ks new None legal lawful gone count says is added i positive =
    let none : 0 ≡ makes_at e = ap (λ m. option_map_or (λ t. 1) m 0) (sym is) ∙ counted_at e in
    ap (λ l. tag_at l i) (added ∙ append-nil ks)
    ∙ says i positive
    ∙ shown_same (is_gone h i) i (made h) (kind h i) (kind (e ∷ h) i) (kind_quiet h e i (sym none))
    ∙ shown_by h e 0 i none (gone i)
tags_after over into h e ks new (Some t) legal lawful gone count says is added i positive =
    let one : 1 ≡ makes_at e = ap (λ m. option_map_or (λ t. 1) m 0) (sym is) ∙ counted_at e in
    ap (λ l. tag_at l i) added
    ∙ tag_at_more ks t i positive
    ∙ ap (λ n. if i == n + 1 then Some t else tag_at ks i) count
    ∙ ap (λ o. if i == made h + 1 then Some t else o) (says i positive)
    ∙ shown_more (is_gone h i) i (made h) (kind h i) (kind (e ∷ h) i) t positive (next_alive over into h legal i) (tag_next over into h e t i legal lawful is) (kind_other over into h e i lawful)
    ∙ shown_by h e 1 i one (gone i)

pub made_after : (h : History) (e : Event) (ks new : List (Option Tag)) (m : Option Tag) → length ks ≡ made h → tag_made_at e ≡ m → new ≡ ks ++ map Some (option_to_list m) → length new ≡ made (e ∷ h)
made_after h e ks new None count is added =
    let none : 0 ≡ makes_at e = ap (λ m. option_map_or (λ t. 1) m 0) (sym is) ∙ counted_at e in
    let same : length new ≡ length ks = ap (λ l. length l) (added ∙ append-nil ks) in
    omega (arith, none, same, count)
made_after h e ks new (Some t) count is added =
    let one : 1 ≡ makes_at e = ap (λ m. option_map_or (λ t. 1) m 0) (sym is) ∙ counted_at e in
    let more : length new ≡ length ks + 1 = ap (λ l. length l) added ∙ one_more ks (Some t) in
    omega (arith, one, more, count)
  where
    one_more : (ks : List (Option Tag)) (x : Option Tag) → length (ks ++ x ∷ []) ≡ length ks + 1
    one_more [] x = refl
    one_more (k ∷ ks) x = let more : length (ks ++ x ∷ []) ≡ length ks + 1 = one_more ks x in omega (arith, more)
