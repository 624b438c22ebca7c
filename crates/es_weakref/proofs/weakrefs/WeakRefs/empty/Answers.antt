use Rattle.std.proofs.Common.{◌≡◌, ap, filter, rules, ◌∙◌}
use Rattle.std.proofs.lemmas.Map.Made.{filter_same_pairs}
use Rattle.es_value.specs.Ids.{is_in}
use Rattle.es_weakref.specs.WeakRefs.{found}
use Rattle.es_weakref.proofs.Found.{fails_at, found_kept}
use Rattle.es_weakref.proofs.weakrefs.WeakRefs.empty.Goals as goal

pub returns-clause-targets : goal.returns-clause-targets
returns-clause-targets c =
    let test = is_in c.of-named.result in
    let kept : c.retain.new.self.entries ≡ filter (fails_at test) c.self.inside.targets.entries =
    filter_same_pairs _ (fails_at test) _ (λ k v b w f' t. search rules) _ _ c.retain.ensures.filtered in
    rw (← c.of-named.ensures, ← c.self.view_is)
    (λ v. ap (λ fs. found fs v) kept ∙ found_kept test c.self.inside.targets.entries v c.retain.ensures.was_unique)
