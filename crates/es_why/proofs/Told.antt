-- The values that are told: all, or those that are held weakly with what their ways come from.
use Rattle.std.proofs.Common.{◌≡◌, ℕ, ◌≤◌, true, sym, ◌∙◌, ap, List, [], map, refl}
use Rattle.std.specs.List.{AllByRecursion}
use Rattle.std.proofs.lemmas.Bool.{false≢true}
use Rattle.es_event.specs.Identities.{made}
use Rattle.es_event.specs.Jobs.{receivers}
use Rattle.es_event.specs.Sharing.{Buffers}
use Rattle.es_event.specs.Legal.{LegalBy}
use Rattle.es_mark.specs.declared.kept.Kept.{Kept}
use Rattle.es_mark.specs.declared.way.Way.{Way}
use Rattle.es_mark.specs.Ways.{AreOrdered}
use Rattle.es_mark.proofs.Lists.{all_mono}
use Rattle.es_record.specs.AgentView.{AgentView}
use Rattle.es_why.specs.Kept.{kept_by, AreKept}
use Rattle.es_why.specs.Leads.{LeadsTo, AreReasons}
use Rattle.es_why.proofs.Bounds.{bound}
use Rattle.es_why.proofs.Sources.{all_ways, ordered_led}

-- no value of a way was not made
pub values_within : (over : Buffers) (b : AgentView) (names : List (List ℕ)) → LegalBy over (receivers b.plan.jobs) b.history → (n : ℕ) → n ≡ made b.history → (ws : List Way)
    → AreOrdered (LeadsTo b names) [] ws → AllByRecursion (λ w. w.value ≤ n) ws
values_within over b names legal n is ws ordered =
    all_mono (λ w. LeadsTo b names w.step w.value) (λ w. w.value ≤ n) ws (λ w led. bound over b names legal n is w.step w.value led) (ordered_led (LeadsTo b names) [] ws ordered)

pub all_are_kept : (b : AgentView) (names : List (List ℕ)) (ws : List Way) (ks : List Kept) → AreReasons b names ws → ks ≡ map (kept_by b.history names) ws → AreKept b true ks
all_are_kept b names ws ks reasons is = record {
  names = names;
  ways = ws;
  told = λ i. true;
  reasons = reasons;
  every = λ e i. refl;
  weak = λ e i. absurd (false≢true (sym e));
  are = is ∙ ap (map (kept_by b.history names)) (sym (all_ways ws));
}
