-- What calls beside each other gave, each of one history.
use Rattle.std.proofs.Common.{◌≡◌, ℕ, ◌<◌, true, List, [], length, slice_index_or, Option, Some, None, sym, ◌∙◌, ap, subst, Result, Ok, Err, IfOk, IfSome, IfNone}
use Rattle.std.specs.Prelude.{map}
use Rattle.std.proofs.Math.ListN.{get_or-map}
use Rattle.es_event.specs.declared.event.Event.{Event}
use Rattle.es_match.specs.declared.stretch.Stretch.{Stretch}
use Rattle.es_match.specs.Goes.{goes}
use Rattle.es_match.specs.Meets.{Came, nothing_came}
use Rattle.es_match.specs.Split.{part_at}
use Rattle.es_match.specs.Going.{AllGo, SomeStops}

-- each call, where it gave something, gave what comes of the history of its number
abbrev pub AreCalls : {E : Type 0} → List (Result (Option Came) E) → List (List Event) → List (List Stretch) → Type 0
AreCalls {E} gone hs ps = (i : ℕ) (d : Result (Option Came) E) → i < length hs → IfOk (slice_index_or gone i d) (λ o. o ≡ goes true nothing_came (slice_index_or hs i []) (part_at ps i))

pub all_gave : {E X F : Type 0} (items : X → List Came) (r : Result (Option X) F) (gone : List (Result (Option Came) E)) (hs : List (List Event)) (ps : List (List Stretch))
    → AreCalls gone hs ps → IfOk r (λ o. IfSome o (λ cs. gone ≡ map (λ c. Ok (Some c)) (items cs))) → IfOk r (λ o. IfSome o (λ cs. AllGo hs ps (items cs)))
all_gave items (Err e) gone hs ps each is = tt
all_gave items (Ok None) gone hs ps each is = tt
all_gave {E} items (Ok (Some cs)) gone hs ps each is = λ a inside.
    let other : Result (Option Came) E = Ok (Some nothing_came) in
    let found : slice_index_or gone a other ≡ Ok (Some (slice_index_or (items cs) a nothing_came)) =
    ap (λ g. slice_index_or g a other) is ∙ get_or-map (λ c. Ok (Some c)) (items cs) a nothing_came in
    sym (subst (λ w. IfOk w (λ o. o ≡ goes true nothing_came (slice_index_or hs a []) (part_at ps a))) found (each a other inside))

pub one_stops : {E X F : Type 0} (r : Result (Option X) F) (gone : List (Result (Option Came) E)) (hs : List (List Event)) (ps : List (List Stretch))
    → length gone ≡ length hs → AreCalls gone hs ps → IfOk r (λ o. IfNone o ((a : ℕ) × (a < length gone) × (slice_index_or gone a (Ok None) ≡ Ok None))) → IfOk r (λ o. IfNone o (SomeStops hs ps))
one_stops (Err e) gone hs ps size each is = tt
one_stops (Ok (Some cs)) gone hs ps size each is = tt
one_stops (Ok None) gone hs ps size each is =
    let inside : is.0 < length hs = subst (λ n. is.0 < n) size is.1 in
    (is.0, sym (subst (λ w. IfOk w (λ o. o ≡ goes true nothing_came (slice_index_or hs is.0 []) (part_at ps is.0))) is.2 (each is.0 (Ok None) inside)))
