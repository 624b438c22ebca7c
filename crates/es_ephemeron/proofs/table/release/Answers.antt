use Rattle.std.proofs.Common.{◌≡◌, ap, not, filter, rules, ◌∙◌}
use Rattle.std.proofs.lemmas.Map.Made.{filter_same_pairs}
use Rattle.es_value.specs.Ids.{is_in}
use Rattle.es_ephemeron.specs.Ephemerons.{held_by}
use Rattle.es_ephemeron.proofs.Looked.{held_by_kept}
use Rattle.es_ephemeron.proofs.table.release.Goals as goal

pub returns-clause-released : goal.returns-clause-released
returns-clause-released g c =
    let test = is_in c.args.holders.now in
    let kept : c.retain.new.self.entries ≡ filter (λ e. not (test e.0)) c.args.table.now.entries =
    filter_same_pairs _ (λ e. not (test e.0)) _ (λ k v b w f' t. search rules) _ _ c.retain.ensures.filtered in
    λ n. ap (λ es. held_by es n) kept ∙ held_by_kept test c.args.table.now.entries n
