-- What one agent does leaves the others, by their own names, as they are.
use Rattle.std.proofs.Common.{◌≡◌, ℕ, zero, suc, ◌≤◌, ◌==◌, cond, ◌∙◌, ap, refl, arith, List, [], ◌∷◌, ◌++◌, map, Some, inl, inr}
use Rattle.std.specs.Prelude.{slice_get, slice_set}
use Rattle.std.proofs.lemmas.Bool.{cases_Bool, eqb-true}
use Rattle.es_event.specs.declared.ledger_event.Body.{Body}
use Rattle.es_event.specs.declared.ledger_event.Body.TheVariants.{Plain, Block}
use Rattle.es_event.specs.declared.ledger_event.LedgerEvent.{LedgerEvent}
use Rattle.es_event.specs.declared.ledger_event.LedgerEvent.TheVariants.{Opened}
use Rattle.es_event.specs.Ledger.{Ledger, opened, size}
use Rattle.es_event.specs.LegalLedger.{LegalSoFar, owed}
use Rattle.es_event.specs.Rows.{row}
use Rattle.es_event.specs.Sharing.{Buffers}
use Rattle.es_match.specs.Deeds.{Deed, Posts, part}
use Rattle.es_record.specs.AgentView.{AgentView}
use Rattle.es_cluster.specs.Tied.{GrowsBy}
use Rattle.es_cluster.proofs.Growing.{part_stays}
use Rattle.es_theorems.specs.Alone.{over_block}
use Rattle.es_theorems.specs.Renamed.{AreOpened, AreSent, IsOpened, IsSent, got_in, letter_of, local_of, name, posted_in, renamed, renamed_row, sent_in}
use Rattle.es_theorems.proofs.Names.{grown, may_open, name_stays}

pub size_stays : (n : ℕ) (es : List LedgerEvent) (l : Ledger) → LegalSoFar n (es ++ l) → (b : ℕ) → b ≤ opened l → size (es ++ l) b ≡ size l b
size_stays n [] l legal b less = refl
size_stays n (Opened d w s a ∷ es) l legal b less = elim (cases_Bool (d == b)) [
  | inl e ↦ (let here = eqb-true d b e in let may = (may_open n (es ++ l) d w s a (owed (es ++ l)) legal.0).0 in let more = grown es l in absurd (omega (arith, here, may, more, less)))
  | inr e ↦ ap (λ t. cond t w (size (es ++ l) b)) e ∙ size_stays n es l legal.1 b less
]
size_stays n (_ ∷ es) l legal b less = size_stays n es l legal.1 b less

pub renamed_stays : (n : ℕ) (es : List LedgerEvent) (l : Ledger) → LegalSoFar n (es ++ l) → (over : Buffers) → AreOpened l over → renamed (name n (es ++ l)) over ≡ renamed (name n l) over
renamed_stays n es l legal [] all = refl
renamed_stays n es l legal (p ∷ over) all =
    ap (λ b. (p.0, row 0 b p.1.words) ∷ renamed (name n (es ++ l)) over) (name_stays n es l legal p.1.block all.0) ∙ ap (λ x. (p.0, renamed_row (name n l) p.1) ∷ x) (renamed_stays n es l legal over all.1)

letter_stays : (n : ℕ) (es : List LedgerEvent) (l : Ledger) → LegalSoFar n (es ++ l) → (m : Body) → IsOpened l m → letter_of n (es ++ l) m ≡ letter_of n l m
letter_stays n es l legal (Plain v) is = refl
letter_stays n es l legal (Block b s) is =
    ap (λ c. over_block (row 0 c (size (es ++ l) b))) (name_stays n es l legal b is) ∙ ap (λ w. over_block (row 0 (name n l b) w)) (size_stays n es l legal b is)

pub sent_stays : (n : ℕ) (es : List LedgerEvent) (l : Ledger) → LegalSoFar n (es ++ l) → (ds : List Deed) → AreSent l ds → sent_in (letter_of n (es ++ l)) ds ≡ sent_in (letter_of n l) ds
sent_stays n es l legal [] all = refl
sent_stays n es l legal (d ∷ ds) all = ap (λ x. x ++ sent_in (letter_of n (es ++ l)) ds) (one d all.0) ∙ ap (λ x. posted_in (letter_of n l) d ++ x) (sent_stays n es l legal ds all.1)
  where
    one : (d : Deed) → IsSent l d → posted_in (letter_of n (es ++ l)) d ≡ posted_in (letter_of n l) d
    one (Posts r m) is = ap (λ x. (r, x) ∷ []) (letter_stays n es l legal m is)
    one _ is = refl

pub other_stays : (n i : ℕ) (es : List LedgerEvent) (l : Ledger) → LegalSoFar n (es ++ l) → GrowsBy i l (es ++ l) → (b : AgentView) → (b.number ≡ i → ⊥) → AreOpened l b.over → AreSent l (part l b.number) → local_of n (es ++ l) b ≡ local_of n l b
other_stays n i es l legal grows b other over sent =
    let same : part (es ++ l) b.number ≡ part l b.number = part_stays i b.number l (es ++ l) grows other in
    ap (λ p. record { plan = b.plan; over = renamed (name n (es ++ l)) b.over; history = b.history; sent = sent_in (letter_of n (es ++ l)) p; got = got_in p }) same
    ∙ ap (λ x. record { plan = b.plan; over = x; history = b.history; sent = sent_in (letter_of n (es ++ l)) (part l b.number); got = got_in (part l b.number) }) (renamed_stays n es l legal b.over over)
    ∙ ap (λ x. record { plan = b.plan; over = renamed (name n l) b.over; history = b.history; sent = x; got = got_in (part l b.number) }) (sent_stays n es l legal (part l b.number) sent)

maps_same : {X Y : Type 0} (f g : X → Y) (xs : List X) → ((j : ℕ) (x : X) → slice_get xs j ≡ Some x → f x ≡ g x) → map f xs ≡ map g xs
maps_same f g [] same = refl
maps_same f g (x ∷ xs) same = ap (λ z. z ∷ map f xs) (same zero x refl) ∙ ap (λ zs. g x ∷ zs) (maps_same f g xs (λ j z at. same (suc j) z at))

-- where all but one are the same, one new one more is the same
pub set_over : {X Y : Type 0} (f g : X → Y) (xs : List X) (i : ℕ) (y : Y) → ((j : ℕ) (x : X) → (j ≡ i → ⊥) → slice_get xs j ≡ Some x → f x ≡ g x) → slice_set (map f xs) i y ≡ slice_set (map g xs) i y
set_over f g [] i y same = refl
set_over f g (x ∷ xs) zero y same = ap (λ zs. y ∷ zs) (maps_same f g xs (λ j z at. same (suc j) z (λ off. cc) at))
set_over f g (x ∷ xs) (suc i) y same = ap (λ z. z ∷ slice_set (map f xs) i y) (same zero x (λ off. cc) refl) ∙ ap (λ zs. g x ∷ zs) (set_over f g xs i y (λ j z other at. same (suc j) z (λ off. other (let less : j ≡ i = cc in less)) at))
