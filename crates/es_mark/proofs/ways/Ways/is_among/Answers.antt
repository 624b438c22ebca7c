use Rattle.es_mark.proofs.Placing.{is_placed, is_past}
use Rattle.es_mark.proofs.ways.Ways.is_among.Goals as goal

pub returns-in-Some : goal.returns-in-Some
returns-in-Some c =
    let found = rw c.deref.ensures.value at c.in-Some.ensures.lookup in
    is_placed c.args.self.now.list.items c.args.self.now.places.items _ _ _ _ _ c.args.self.now.placed c.number.ensures.same found.3.0 found.1 c.is_within.ensures

pub returns-in-None : goal.returns-in-None
returns-in-None c =
    let lost = rw c.deref.ensures.value at c.in-None.ensures.lookup in
    is_past c.args.self.now.list.items c.args.self.now.places.items _ _ _ c.args.self.now.placed c.number.ensures.same lost.3
