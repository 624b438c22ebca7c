use Rattle.std.proofs.Common.{◌≡◌, ◌∙◌, ℕ, ap, true}
use Rattle.std.specs.List.{list_any}
use Rattle.es_value.specs.Ids.{is_in}
use Rattle.es_registry.specs.Slots.{has_token, passes_at, unregistered_by}
use Rattle.es_registry.proofs.Indexing.{any_at_listed, all_changed, none_unregistered, unregistered_stays_indexed}
use Rattle.es_registry.proofs.registries.Registries.unregister.Goals as goal

pub invariant_of-self : goal.invariant_of-self
invariant_of-self c =
    let r = c.args.registry in
    let t = c.args.token in
    let all_listed : (k : ℕ) → passes_at (has_token r t) c.self.inside.cells.all k ≡ true → is_in c.as_slice-places.result.now k ≡ true = λ k h. ap (λ ks. is_in ks k) (c.as_slice-places.ensures ∙ c.take-listed.ensures.places) ∙ c.self.invariant.by_token r t k h in
    rw (all_changed (unregistered_by r t) (has_token r t) (none_unregistered r t) c.self.inside.cells.all c.take_out.new.cells.all c.as_slice-places.result.now all_listed c.take_out.ensures.cells)
    (unregistered_stays_indexed r t c.self.inside.cells.all c.self.inside.tokens c.take-listed.new.tokens c.self.inside.waiting c.take_out.new.waiting c.self.invariant c.take-listed.ensures.after c.as_slice-places.result.now all_listed c.take_out.ensures.waiting)

pub returns-clause-found : goal.returns-clause-found
returns-clause-found c =
    let r = c.args.registry in
    let t = c.args.token in
    let all_listed : (k : ℕ) → passes_at (has_token r t) c.self.inside.cells.all k ≡ true → is_in c.as_slice-places.result.now k ≡ true = λ k h. ap (λ ks. is_in ks k) (c.as_slice-places.ensures ∙ c.take-listed.ensures.places) ∙ c.self.invariant.by_token r t k h in
    rw (← c.self.view_is)
    (c.any_has_token-found.ensures ∙ ap (λ xs. list_any (passes_at (has_token r t) xs) c.as_slice-places.result.now) c.all.ensures.all
    ∙ any_at_listed (has_token r t) c.self.inside.cells.all c.as_slice-places.result.now all_listed)

pub returns-clause-cells : goal.returns-clause-cells
returns-clause-cells c =
    let r = c.args.registry in
    let t = c.args.token in
    let all_listed : (k : ℕ) → passes_at (has_token r t) c.self.inside.cells.all k ≡ true → is_in c.as_slice-places.result.now k ≡ true = λ k h. ap (λ ks. is_in ks k) (c.as_slice-places.ensures ∙ c.take-listed.ensures.places) ∙ c.self.invariant.by_token r t k h in
    rw (← c.self.view_is)
    (all_changed (unregistered_by r t) (has_token r t) (none_unregistered r t) c.self.inside.cells.all c.take_out.new.cells.all c.as_slice-places.result.now all_listed c.take_out.ensures.cells)
