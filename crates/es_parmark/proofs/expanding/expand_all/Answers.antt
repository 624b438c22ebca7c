use Rattle.std.proofs.Common.{ℕ, List, map, ◌≡◌, ap, ◌∙◌, subst, arith, Bor}
use Rattle.std.specs.List.{flat_map}
use Rattle.rayon.proofs.ToStd.{chunks_of-concat}
use Rattle.es_parmark.specs.Gathered.{IsPart}
use Rattle.es_parmark.proofs.Gathering.{parts_whole, ok_pieces, ok_parts}
use Rattle.es_parmark.proofs.expanding.expand_all.Goals as goal

pub returns : goal.returns
returns g c =
    let h = c.in_ok-parts.ensures in
    let made = g.G.Graph.made_of c.args.graph.now in
    let edges = g.G.Graph.has_edges c.args.graph.now in
    let entries = g.G.Graph.has_entries c.args.graph.now in
    let marks = c.args.marks.now in
    let front = c.args.front.now in
    let chain = rw (c.map.ensures.base, c.map.ensures.f, c.with_min_len.ensures.base, c.par_chunks.ensures.slice) at h.1 in
    let now = λ (z : Bor (List ℕ)). z.now in
    ok_parts c.in_ok-parts.parts h.0 _ _ _ h.2 (λ w vs rs is.
    let zipped = ok_pieces (λ l p. IsPart made marks edges entries l p.ids.items p.pairs.items) chain.0 h.0 vs rs chain.2 in
    let whole : flat_map (λ l. l) (map now chain.0) ≡ front = ap (flat_map (λ l. l)) chain.1 ∙ chunks_of-concat _ front (omega arith) in
    rw is
    (subst (λ l. IsPart made marks edges entries l (flat_map (λ p. p.ids.items) vs) (flat_map (λ p. p.pairs.items) vs)) whole
    (parts_whole made marks edges entries (λ p. p.ids.items) (λ p. p.pairs.items) (map now chain.0) vs zipped)))
