-- An event that asks nothing is passed by.
use Rattle.std.proofs.Common.{◌≡◌, ◌<◌, ℕ, ◌+◌, Bool, List, [], ◌∷◌, ◌++◌, drop, take, length, get_or, append-nil, sym, ◌∙◌, ap}
use Rattle.std.specs.Option.{option_and_then}
use Rattle.std.proofs.lemmas.List.{drop_more}
use Rattle.es_event.specs.declared.event.Event.{Event}
use Rattle.es_match.specs.Asks.{nothing, asks, ends_job}
use Rattle.es_match.specs.Deeds.{Deed}
use Rattle.es_match.specs.Goes.{asked, goes}
use Rattle.es_match.specs.Meets.{Came, came_after}

pub passes_by : (es : List Event) (i : ℕ) (b : Bool) (c : Came) (e : Event) (ds : List Deed) → i < length es → e ≡ get_or es i e → asks b e ≡ nothing
    → goes b c (drop i es) ds ≡ goes (ends_job e) c (drop (i + 1) es) ds
passes_by es i b c e ds within at none =
    let rest = drop (i + 1) es in
    ap (λ l. goes b c l ds) (drop_more es i e within ∙ ap (λ x. x ∷ drop (i + 1) es) (sym at))
    ∙ ap (λ w. option_and_then (λ d. goes (ends_job e) d rest (drop (asked c.tickets w) ds)) (came_after c w (take (asked c.tickets w) ds))) none
    ∙ ap (λ v. goes (ends_job e) (record { tickets = c.tickets; ever = v; refused = c.refused ++ [] }) rest ds) (append-nil c.ever)
    ∙ ap (λ v. goes (ends_job e) (record { tickets = c.tickets; ever = c.ever; refused = v }) rest ds) (append-nil c.refused)
