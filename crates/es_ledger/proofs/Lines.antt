-- Who holds the ticket of a serial, as the table grows and as tickets go to other holders.
use Rattle.std.proofs.Common.{◌≡◌, ◌≢◌, ℕ, ◌==◌, List, [], ◌∷◌, ◌++◌, Option, Some, None, Bool, true, false, cond, refl, sym, ap, ◌∙◌, ne_eqb}
use Rattle.std.proofs.lemmas.Bool.{eqb-true}
use Rattle.std.specs.Option.{option_map}
use Rattle.es_event.specs.declared.row.Entry.{Entry}
use Rattle.es_event.specs.declared.row.Holder.{Holder}
use Rattle.es_event.specs.Rows.{held_by, moved, line_of, rows_by}

-- the holder on the first line of this serial
abbrev pub holder_at : ℕ → List Entry → Option Holder
holder_at k t = option_map (λ e. e.holder) (line_of k t)

pub at_other : (j k : ℕ) (who : Holder) (t : List Entry) → j ≢ k → holder_at j (moved k who t) ≡ holder_at j t
at_other j k who [] apart = refl
at_other j k who (e ∷ es) apart = step (e.row.serial == k) refl (at_other j k who es apart)
  where
    first : Entry → Bool → Option Entry → Option Holder
    first x b rest = option_map (λ e. e.holder) (cond b (Some x) rest)

    later : (b : Bool) → holder_at j (moved k who es) ≡ holder_at j es → first e b (line_of j (moved k who es)) ≡ first e b (line_of j es)
    later true ih = refl
    later false ih = ih

    step : (b : Bool) → (e.row.serial == k) ≡ b → holder_at j (moved k who es) ≡ holder_at j es
        → holder_at j (cond b (held_by who e.row) e ∷ moved k who es) ≡ holder_at j (e ∷ es)
    step true is ih =
        let away : (e.row.serial == j) ≡ false = ne_eqb e.row.serial j (λ same. apart (sym same ∙ eqb-true e.row.serial k is)) in
        ap (λ b. first (held_by who e.row) b (line_of j (moved k who es))) away ∙ ih ∙ sym (ap (λ b. first e b (line_of j es)) away)
    step false is ih = later (e.row.serial == j) ih

pub at_first : (k : ℕ) (h : Holder) (t us : List Entry) → holder_at k t ≡ Some h → holder_at k (t ++ us) ≡ Some h
at_first k h [] us e = cc
at_first k h (x ∷ xs) us e = step (x.row.serial == k) e (at_first k h xs us)
  where
    step : (b : Bool) → option_map (λ e. e.holder) (cond b (Some x) (line_of k xs)) ≡ Some h → (holder_at k xs ≡ Some h → holder_at k (xs ++ us) ≡ Some h)
        → option_map (λ e. e.holder) (cond b (Some x) (line_of k (xs ++ us))) ≡ Some h
    step true e ih = e
    step false e ih = ih e

pub at_last : (k : ℕ) (t us : List Entry) → holder_at k t ≡ None → holder_at k (t ++ us) ≡ holder_at k us
at_last k [] us e = refl
at_last k (x ∷ xs) us e = step (x.row.serial == k) e (at_last k xs us)
  where
    step : (b : Bool) → option_map (λ e. e.holder) (cond b (Some x) (line_of k xs)) ≡ None → (holder_at k xs ≡ None → holder_at k (xs ++ us) ≡ holder_at k us)
        → option_map (λ e. e.holder) (cond b (Some x) (line_of k (xs ++ us))) ≡ holder_at k us
    step true e ih = cc
    step false e ih = ih e

-- each line of this serial has this holder
abbrev pub OnlyBy : ℕ → Holder → List Entry → Type 0
OnlyBy k who [] = Unit {0}
OnlyBy k who (e ∷ es) = ((e.row.serial == k) ≡ true → e.holder ≡ who) × OnlyBy k who es

pub rows_moved : (test : Holder → Bool) (k : ℕ) (from to : Holder) (t : List Entry) → test from ≡ false → test to ≡ false → OnlyBy k from t
    → rows_by test (moved k to t) ≡ rows_by test t
rows_moved test k from to [] f g only = refl
rows_moved test k from to (e ∷ es) f g only = step (e.row.serial == k) only.0 (rows_moved test k from to es f g only.1)
  where
    step : (b : Bool) → (b ≡ true → e.holder ≡ from) → rows_by test (moved k to es) ≡ rows_by test es
        → rows_by test (cond b (held_by to e.row) e ∷ moved k to es) ≡ rows_by test (e ∷ es)
    step true is ih =
        ap (λ b. cond b (e.row ∷ rows_by test (moved k to es)) (rows_by test (moved k to es))) g
        ∙ ih
        ∙ sym (ap (λ b. cond b (e.row ∷ rows_by test es) (rows_by test es)) (ap test (is refl) ∙ f))
    step false is ih = ap (λ l. cond (test e.holder) (e.row ∷ l) l) ih

pub rows_append : (test : Holder → Bool) (t us : List Entry) → rows_by test (t ++ us) ≡ rows_by test t ++ rows_by test us
rows_append test [] us = refl
rows_append test (e ∷ es) us = step (test e.holder) (rows_append test es us)
  where
    step : (b : Bool) → rows_by test (es ++ us) ≡ rows_by test es ++ rows_by test us
        → cond b (e.row ∷ rows_by test (es ++ us)) (rows_by test (es ++ us)) ≡ cond b (e.row ∷ rows_by test es) (rows_by test es) ++ rows_by test us
    step true ih = ap (λ l. e.row ∷ l) ih
    step false ih = ih
