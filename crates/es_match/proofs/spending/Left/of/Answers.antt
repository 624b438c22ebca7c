use Rattle.std.proofs.Common.{arith, slice_index_or}
use Rattle.es_match.proofs.Counting.{of_few, of_more}
use Rattle.es_match.proofs.spending.Left.of.Goals as goal

pub overflow_add-count : goal.overflow_add-count
overflow_add-count c =
    let n = of_few c.loop-serial.counts c.args.serials.now c.loop-serial.serial-index
    (slice_index_or c.args.serials.now c.loop-serial.serial-index 0)
    c.count_of-count.result c.loop-serial.invariant c.count_of-count.ensures c.loop-serial-test.true in
    omega (arith, n)

pub loop-serial-preserved : goal.loop-serial-preserved
loop-serial-preserved c = of_more c.loop-serial.counts c.put.new.map c.args.serials.now c.loop-serial.serial-index
    c.count_of-count.result
    c.loop-serial.invariant c.count_of-count.ensures c.loop-serial-test.true (c.in_ok-put.ensures).0
