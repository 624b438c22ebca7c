use Rattle.std.proofs.Common.{◌∙◌, sym, subst}
use Rattle.std.proofs.lemmas.Result.{on_ok_weaker}
use Rattle.es_mark.specs.Search.{HasRoom}
use Rattle.es_mark.proofs.Finding.{found_fit, entries_fit, next_within}
use Rattle.es_mark.proofs.FollowingSteps.{waits_fit, followed, still_sorted}
use Rattle.es_mark.proofs.search.follow.Goals as goal

pub add_all-requires : goal.add_all-requires
add_all-requires g c = rw c.as_slice.ensures.value (found_fit c.in_ok-find_properties.ensures _ c.requires.room)

pub enter_all-requires-clause-within : goal.enter_all-requires-clause-within
enter_all-requires-clause-within g c = next_within _ _ _ _ c.requires.within (rw c.as_slice.ensures.value at c.in_ok-add_all.ensures.added)

pub enter_all-requires-clause-room : goal.enter_all-requires-clause-room
enter_all-requires-clause-room g c =
    let leads = g.H.Heap.leads c.args.heap.now in
    rw c.as_slice-2.ensures.value (entries_fit c.in_ok-find_entries.ensures _ (subst (HasRoom leads) (sym c.in_ok-add_all.ensures.room) c.requires.room))

pub release-requires : goal.release-requires
release-requires g c =
    let leads = g.H.Heap.leads c.args.heap.now in
    rw c.at.ensures
    (waits_fit leads _ _ _ _ c.requires.searching c.requires.within c.value_at-id.ensures _ _ c.in_ok-find_properties.ensures
    (rw c.as_slice.ensures.value at c.in_ok-add_all.ensures.added) _ c.in_ok-find_entries.ensures _ _ (rw c.as_slice-2.ensures.value at c.in_ok-enter_all.ensures.entered) _
    (subst (HasRoom leads) (sym (c.in_ok-enter_all.ensures.room ∙ c.in_ok-add_all.ensures.room)) c.requires.room))

pub returns-clause-searching : goal.returns-clause-searching
returns-clause-searching g c =
    let leads = g.H.Heap.leads c.args.heap.now in
    on_ok_weaker c.release.result
    (λ freed.
    followed leads _ _ _ _ c.requires.searching c.requires.within c.value_at-id.ensures _ _ c.in_ok-find_properties.ensures
    (rw c.as_slice.ensures.value at c.in_ok-add_all.ensures.added) _ c.in_ok-find_entries.ensures _ _ (rw c.as_slice-2.ensures.value at c.in_ok-enter_all.ensures.entered) _
    (rw c.at.ensures at freed))
    c.release.ensures.added

pub returns-clause-sorting : goal.returns-clause-sorting
returns-clause-sorting g c =
    let leads = g.H.Heap.leads c.args.heap.now in
    on_ok_weaker c.release.result
    (λ freed.
    still_sorted leads _ _ _ _ c.requires.searching c.requires.within c.value_at-id.ensures _ _ c.in_ok-find_properties.ensures
    (rw c.as_slice.ensures.value at c.in_ok-add_all.ensures.added) _ c.in_ok-find_entries.ensures _ _ (rw c.as_slice-2.ensures.value at c.in_ok-enter_all.ensures.entered) _
    (rw c.at.ensures at freed) c.requires.sorting)
    c.release.ensures.added
