-- A report in parts: the agent at a place, those that are left, and the whole.
use Rattle.std.proofs.Common.{◌≡◌, ℕ, suc, ◌+◌, ◌<◌, List, [], ◌∷◌, ◌++◌, Option, length, drop, slice_index_or, reverse, sym, ◌∙◌, ap, subst, arith, Result}
use Rattle.std.specs.Io.KnownBytes.{Appends}
use Rattle.std.specs.Result.{OnOk}
use Rattle.std.proofs.KnownBytes.{Appends-trans}
use Rattle.std.proofs.lemmas.List.{get_or-map}
use Rattle.std.proofs.lemmas.Result.{on_ok_weaker}
use Rattle.std.proofs.Math.Seq.{drop-cons}
use Rattle.es_event.specs.declared.event.Event.{Event}
use Rattle.es_event.specs.declared.outcome.Outcome.{Outcome}
use Rattle.es_event.specs.Report.{agent_text, agents_text, cluster_text, report}
use Rattle.es_registry.specs.declared.slot.Tally.{Tally}
use Rattle.es_report.specs.Counts.{IsCountsOf, CountsView}
use Rattle.es_report.specs.Tallies.{AreTallies, end_tally}
use Rattle.es_report.specs.Totals.{counts_text}

-- the tally at a place is that of the history there
pub tally_there : (hs : List (List Event)) (ts : List Tally) (i : ℕ) (d : Tally) (h : List Event) → i < length hs → AreTallies hs ts → h ≡ slice_index_or hs i h → slice_index_or ts i d ≡ end_tally (reverse h)
tally_there hs ts i d h inside tallied is =
    ap (λ ts. slice_index_or ts i d) tallied ∙ get_or-map (λ events. end_tally (reverse events)) hs i h d inside ∙ ap (λ h. end_tally (reverse h)) (sym is)

-- the agents from a place on are the one there and those after it
pub from_place : (ns : List (List ℕ)) (hs : List (List Event)) (i : ℕ) → i < length hs → length ns ≡ length hs
    → agents_text (drop i ns) (drop i hs) ≡ agent_text (slice_index_or ns i []) (slice_index_or hs i []) ++ agents_text (drop (suc i) ns) (drop (suc i) hs)
from_place ns hs i inside size =
    ap (λ m. agents_text m (drop i hs)) (drop-cons ns i [] (subst (λ n. i < n) (sym size) inside)) ∙ ap (agents_text (slice_index_or ns i [] ∷ drop (suc i) ns)) (drop-cons hs i [] inside)

-- so with its lines written those after it are left
pub place_written : (a b last : Option (List ℕ)) (ns : List (List ℕ)) (hs : List (List Event)) (i : ℕ) → i < length hs → length ns ≡ length hs
    → Appends a b (agent_text (slice_index_or ns i []) (slice_index_or hs i [])) → Appends b last (agents_text (drop (i + 1) ns) (drop (i + 1) hs))
    → Appends a last (agents_text (drop i ns) (drop i hs))
place_written a b last ns hs i inside size here rest =
    let next : i + 1 ≡ suc i = omega arith in
    let others : Appends b last (agents_text (drop (suc i) ns) (drop (suc i) hs)) = subst (λ k. Appends b last (agents_text (drop k ns) (drop k hs))) next rest in
    subst (Appends a last) (sym (from_place ns hs i inside size))
    (Appends-trans a b last (agent_text (slice_index_or ns i []) (slice_index_or hs i [])) (agents_text (drop (suc i) ns) (drop (suc i) hs)) here others)

-- the lines of the agents and then the totals are the report, where the totals are the outcome's
pub whole_written : {X E : Type 0} (o : Outcome) (s : CountsView) (r : Result X E) (a b c : Option (List ℕ)) → IsCountsOf o s → Appends a b (agents_text o.names o.histories) → OnOk r (Appends b c (counts_text s)) → OnOk r (Appends a c (report o))
whole_written o s r a b c counted agents totals =
    let same : counts_text s ≡ cluster_text (reverse o.ledger) = ap counts_text counted in
    let told : OnOk r (Appends b c (cluster_text (reverse o.ledger))) = subst (λ t. OnOk r (Appends b c t)) same totals in
    on_ok_weaker r (Appends-trans a b c (agents_text o.names o.histories) (cluster_text (reverse o.ledger)) agents) told
