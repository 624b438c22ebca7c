use Rattle.std.proofs.Common.{◌∙◌, ◌++◌, ap, map, append_assoc}
use Rattle.std.proofs.lemmas.Result.{on_ok_weaker}
use Rattle.es_registry.proofs.Listing.{held_at, in_roots}
use Rattle.es_registry.proofs.registries.Registries.roots.Goals as goal

pub returns : goal.returns
returns c =
    rw (← c.self.view_is)
    (on_ok_weaker c.add_held.result
    (λ all. (
      map (λ e. e.0) c.self.inside.callbacks.entries ++ held_at c.self.inside.cells.all c.present.result.now,
      all ∙ ap (λ l. l ++ held_at c.all.result.now c.present.result.now) c.in_ok-add_registries.ensures
          ∙ append_assoc c.args.found.now.items (map (λ e. e.0) c.self.inside.callbacks.entries) (held_at c.all.result.now c.present.result.now)
          ∙ ap (λ xs. c.args.found.now.items ++ (map (λ e. e.0) c.self.inside.callbacks.entries ++ held_at xs c.present.result.now)) c.all.ensures.all,
      in_roots c.self.inside.callbacks.entries c.self.inside.cells.all c.present.result.now c.present.ensures,
    ))
    c.add_held.ensures)
