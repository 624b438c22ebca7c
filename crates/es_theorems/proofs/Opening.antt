-- The name of a block that an agent opens in its turn: as which of its own it opens it, its history says.
use Rattle.std.proofs.Common.{◌≡◌, ℕ, ◌+◌, cond, ◌∙◌, ap, arith, List, [], ◌∷◌, ◌++◌, eq-eqb}
use Rattle.es_event.specs.declared.ledger_event.LedgerEvent.{LedgerEvent}
use Rattle.es_event.specs.declared.ledger_event.LedgerEvent.TheVariants.{Opened}
use Rattle.es_event.specs.Ledger.{Ledger, opened}
use Rattle.es_event.specs.LegalLedger.{LegalSoFar, owed}
use Rattle.es_event.proofs.Entries.{inner}
use Rattle.es_match.specs.Deeds.{part}
use Rattle.es_cluster.specs.Tied.{AreDeedsOf}
use Rattle.es_theorems.specs.Alone.{named}
use Rattle.es_theorems.specs.Renamed.{name, opens_in}
use Rattle.es_theorems.proofs.Names.{may_open}
use Rattle.es_theorems.proofs.Weighing.{grown_weight, ledger_opened}

-- while it opens none, it has opened as many
none_opened : (n : ℕ) (es : List LedgerEvent) (l : Ledger) → AreDeedsOf n es l → opened (es ++ l) ≡ opened l → opens_in (part (es ++ l) n) ≡ opens_in (part l n)
none_opened n es l are same =
    let all = grown_weight 1 0 0 n es l are in
    let now = ledger_opened (es ++ l) in
    let before = ledger_opened l in
    omega (arith, all, now, before, same)

-- the one that it opens is named by those before
pub opened_name : (k n : ℕ) (es : List LedgerEvent) (l : Ledger) → AreDeedsOf n es l → LegalSoFar k (es ++ l) → opened (es ++ l) ≡ opened l + 1 → name k (es ++ l) (opened l + 1) ≡ named k n (opens_in (part l n))
opened_name k n [] l are legal one = absurd (omega (arith, one))
opened_name k n (Opened b w s a ∷ es) l are legal one =
    let may = (may_open k (es ++ l) b w s a (owed (es ++ l)) legal.0).0 in
    let before : opened (es ++ l) ≡ opened l = omega (arith, one) in
    let new : b ≡ opened l + 1 = omega (arith, may, before) in
    let who : a ≡ n = ap (λ p. p.0) (inner are.0.1) in
    ap (λ t. cond t (named k a (opens_in (part (es ++ l) a))) (name k (es ++ l) (opened l + 1))) (eq-eqb b (opened l + 1) new)
    ∙ ap (λ a. named k a (opens_in (part (es ++ l) a))) who ∙ ap (named k n) (none_opened n es l are.1 before)
opened_name k n (_ ∷ es) l are legal one = opened_name k n es l are.1 legal.1 (omega (arith, one))
