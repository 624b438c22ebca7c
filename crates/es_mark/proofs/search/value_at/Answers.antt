use Rattle.std.proofs.Common.{◌∙◌, ap, sym, refl, take, [], ◌∷◌, ◌++◌}
use Rattle.std.proofs.lemmas.List.{take_more}
use Rattle.es_mark.specs.declared.way.Way.{Way}
use Rattle.es_mark.proofs.search.value_at.Goals as goal

pub returns : goal.returns
returns c = record {
  way = c.index.result.now;
  value = refl;
  split =
      take_more c.args.ways.now.list.items c.args.at c.index.result.now c.requires
      ∙ ap (λ (w : Way). take c.args.at c.args.ways.now.list.items ++ w ∷ []) (sym c.index.ensures);
}
