-- What an agent of an outcome emptied was not live.
use Rattle.std.proofs.Common.{◌≡◌, List, [], ◌∷◌, map, reverse, subst}
use Rattle.std.specs.List.{AllByRecursion}
use Rattle.es_event.specs.declared.event.Event.{Event}
use Rattle.es_event.specs.declared.plan.AgentPlan.{AgentPlan}
use Rattle.es_event.specs.Jobs.{receivers}
use Rattle.es_event.specs.Live.{Honest}
use Rattle.es_event.proofs.Alive.{honest_along}
use Rattle.es_match.specs.Cluster.{Account}
use Rattle.es_cluster.specs.Ends.{IsWhole}
use Rattle.es_outcome.specs.Laws.{AreHonest}

pub all_honest : (ps : List AgentPlan) (hs : List (List Event)) (all : List Account) → map (λ a. a.plan) all ≡ ps → map (λ a. a.history) all ≡ map (λ h. reverse h) hs → AllByRecursion IsWhole all → AreHonest ps hs
all_honest [] [] all plans are whole = tt
all_honest [] (h ∷ hs) [] plans are whole = cc
all_honest [] (h ∷ hs) (a ∷ all) plans are whole = cc
all_honest (p ∷ ps) hs [] plans are whole = cc
all_honest (p ∷ ps) [] (a ∷ all) plans are whole = cc
all_honest (p ∷ ps) (h ∷ hs) (a ∷ all) plans are whole =
    let plan : a.plan ≡ p = cc in
    let history : a.history ≡ reverse h = cc in
    let honest : Honest (receivers a.plan.jobs) a.history = honest_along a.over a.plan a.history whole.0.0 whole.0.1.0 in
    (subst (λ (p : AgentPlan). Honest (receivers p.jobs) (reverse h)) plan (subst (Honest (receivers a.plan.jobs)) history honest), all_honest ps hs all (cc) (cc) whole.1)
