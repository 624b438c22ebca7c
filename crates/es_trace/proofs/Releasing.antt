-- The blocks of tickets that are spent, from the last event to the first.
use Rattle.std.proofs.Common.{◌≡◌, ℕ, ◌+◌, ◌<◌, sym, ◌∙◌, ap, List, length, drop, get_or}
use Rattle.std.specs.Option.{option_and_then}
use Rattle.std.proofs.lemmas.List.{at_drop_more}
use Rattle.es_event.specs.declared.ledger_event.LedgerEvent.{LedgerEvent}
use Rattle.es_event.specs.Ledger.{Ledger}
use Rattle.es_trace.specs.Released.{block_of, spends, spent_blocks, with_block}

-- what is added for an event stands before what is there of those after it
pub one_before : (h : Ledger) (es : List LedgerEvent) (i n : ℕ) (e : LedgerEvent) (bs : List ℕ) → i < length es → n ≡ i + 1 → e ≡ get_or es i e
    → bs ≡ spent_blocks h (drop n es) → with_block (option_and_then (block_of h) (spends e)) bs ≡ spent_blocks h (drop i es)
one_before h es i n e bs within next is are =
    ap (with_block (option_and_then (block_of h) (spends e))) (are ∙ ap (λ m. spent_blocks h (drop m es)) next)
    ∙ ap (λ y. with_block (option_and_then (block_of h) (spends y)) (spent_blocks h (drop (i + 1) es))) is
    ∙ sym (at_drop_more (spent_blocks h) es i e within)
