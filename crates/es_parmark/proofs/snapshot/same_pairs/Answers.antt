use Rattle.std.proofs.Common.{ℕ, ◌≡◌, ◌==◌, ◌&&◌, ap, refl}
use Rattle.std.specs.Bool.{Decides}
use Rattle.std.proofs.lemmas.Bool.{and_parts}
use Rattle.std.proofs.lemmas.Bool.Decides.{Decides-eqb}
use Rattle.std.proofs.lemmas.Slice.Eq.{slice_eq-Decides}
use Rattle.es_parmark.proofs.snapshot.same_pairs.Goals as goal

pair_decides : (p q : ℕ × ℕ) → Decides ((p.0 == q.0) && (p.1 == q.1)) (p ≡ q)
pair_decides p q = (
  (λ e.
      let r = and_parts (p.0 == q.0) (p.1 == q.1) e in
      let a = (Decides-eqb p.0 q.0).0 r.0 in
      let b = (Decides-eqb p.1 q.1).0 r.1 in
      (λ i. (a i, b i))),
  (λ e. rw ((Decides-eqb p.0 q.0).1 (ap (λ z. z.0) e), (Decides-eqb p.1 q.1).1 (ap (λ z. z.1) e)) refl),
)

pub returns : goal.returns
returns c = slice_eq-Decides pair_decides _ _ _ c.eq.ensures
