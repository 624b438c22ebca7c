use Rattle.std.proofs.Common.{arith, sym, ◌∙◌}
use Rattle.es_match.proofs.Counting.{none_struck, some_struck, Off, off_counts}
use Rattle.es_match.proofs.spending.Left.strike.Goals as goal

pub returns-then-count-eq0 : goal.returns-then-count-eq0
returns-then-count-eq0 c = λ ns left. none_struck c.args.serial ns (sym (left.counts c.args.serial)
    ∙ sym c.count_of-count.ensures ∙ c.if-count-eq0.true)

pub returns : goal.returns
returns c = λ ns left.
    let here = left.counts c.args.serial in
    let n = c.count_of-count.ensures in
    let o : Off c.args.serial ns = some_struck c.args.serial ns (omega (arith, here, n)) in (
      o.left,
      o.struck,
      record {
        counts = off_counts c.args.self.now.counts c.put.new.map c.args.serial c.count_of-count.result ns o.left left.counts n
            (c.in_ok-put.ensures).0 o.counts;
        size = let a = left.size in let b = o.size in let d = c.saturating_sub-self.ensures in omega (arith, a, b, d);
      },
    )
