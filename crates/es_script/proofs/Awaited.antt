-- What the shape of a job says of its keys.
use Rattle.std.proofs.Common.{ℕ, ◌≡◌, ◌==◌, ◌&&◌, ◌||◌, Bool, true, false, List, Some, None, refl, sym, ap, ◌∙◌, length, ◌⊎◌, inl, inr, Ordering, Less, Equal, Greater}
use Rattle.std.specs.Prelude.{codes}
use Rattle.std.specs.Ordering.{nat_cmp, match_ordering}
use Rattle.std.specs.Cmp.Lexicographic.{slice_cmp}
use Rattle.std.proofs.lemmas.Bool.{and_parts, eqb-true}
use Rattle.std.proofs.lemmas.Map.Lookups.{exact_bytes}
use Rattle.serde_json.specs.Data.{Data, object, no_members, member}
use Rattle.serde_json.specs.Find.{get}
use Rattle.es_reading.specs.Parts.{size}
use Rattle.es_reading.specs.Shape.{is_array_of, is_command, is_text_pair, is_job}

-- one key is not both
not_both : (k : List ℕ) (e : Data) (o p : Ordering) → slice_cmp nat_cmp (codes "run") k ≡ o → slice_cmp nat_cmp (codes "on") k ≡ p
    → is_array_of is_command (match_ordering o None (Some e) None) ≡ true → match_ordering p None (Some e) None ≡ None
not_both k e Equal Equal a b h =
    let same : codes "run" ≡ codes "on" = exact_bytes (codes "run") k a ∙ sym (exact_bytes (codes "on") k b) in
    let lengths : ◌≡◌ {A = ℕ} 3 2 = ap length same in
    cc
not_both k e Equal Less a b h = refl
not_both k e Equal Greater a b h = refl
not_both k e Less p a b h = cc
not_both k e Greater p a b h = cc

-- where run is the one key, there is no on
only_run : (d : Data) → is_array_of is_command (get (codes "run") d) ≡ true → size d ≡ 1 → get (codes "on") d ≡ None
only_run (object (member k e no_members)) h n = not_both k e (slice_cmp nat_cmp (codes "run") k) (slice_cmp nat_cmp (codes "on") k) refl refl h
only_run (object (member k e (member l f ms))) h n = cc
only_run (object no_members) h n = cc
only_run _ h n = cc

either : (b c : Bool) → b || c ≡ true → (b ≡ true) ⊎ (c ≡ true)
either true c h = inl refl
either false c h = inr h

-- a job has no on, or one that is a pair of texts
abbrev pub Awaits : Data → Type 0
Awaits d = ((size d ≡ 1) × (get (codes "on") d ≡ None)) ⊎ ((size d ≡ 2) × (is_text_pair (get (codes "on") d) ≡ true))

awaits_by : (d : Data) → is_array_of is_command (get (codes "run") d) ≡ true → (size d == 1 ≡ true) ⊎ ((size d == 2) && is_text_pair (get (codes "on") d) ≡ true) → Awaits d
awaits_by d h (inl one) = let n = eqb-true (size d) 1 one in inl (n, only_run d h n)
awaits_by d h (inr two) = let both = and_parts (size d == 2) _ two in inr (eqb-true (size d) 2 both.0, both.1)

pub job_shape : (d : Data) → is_job d ≡ true → (is_array_of is_command (get (codes "run") d) ≡ true) × Awaits d
job_shape d h =
    let hs = and_parts (is_array_of is_command (get (codes "run") d)) _ h in
    (hs.0, awaits_by d hs.0 (either (size d == 1) _ hs.1))
