use Rattle.std.proofs.Common.{◌≡◌, ◌++◌, flat_map, option_to_list, slice_get, take, Some, subst, sym, append-nil, ap, ◌∙◌}
use Rattle.std.specs.Io.KnownBytes.{Appends}
use Rattle.std.proofs.KnownBytes.{Appends-trans}
use Rattle.std.proofs.lemmas.Option.{slice_get-get_or}
use Rattle.es_warnings.specs.Texts.{warning_text, warnings_text}
use Rattle.es_warnings.proofs.Telling.{flat_map_take}
use Rattle.es_warnings.proofs.text.write_warnings.Goals as goal

pub loop-warning-preserved : goal.loop-warning-preserved
loop-warning-preserved g c =
    let p = c.args.plan.now in
    let ws = c.args.warnings.now in
    let i = c.loop-warning.warning-index in
    let w = c.warning-item.result in
    let at : slice_get ws i ≡ Some w = slice_get-get_or ws i w c.loop-warning-test.true ∙ ap Some (sym c.warning-item.is) in
    let more = flat_map_take (warning_text p) i ws ∙ ap (λ o. warnings_text p (take i ws) ++ flat_map (warning_text p) (option_to_list o)) at ∙ ap (λ l. warnings_text p (take i ws) ++ l) (append-nil (warning_text p w)) in
    subst (Appends _ _) (sym more) (Appends-trans _ _ _ (warnings_text p (take i ws)) (warning_text p w) c.loop-warning.invariant c.in_ok-write_warning.ensures)
