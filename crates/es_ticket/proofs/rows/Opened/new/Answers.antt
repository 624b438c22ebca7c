use Rattle.std.specs.declared.vec.Vec.{Vec}
use Rattle.std.specs.declared.alloc.Global.{Global}
use Rattle.es_event.specs.declared.row.Entry.{Entry}
use Rattle.es_ticket.proofs.Plays.{begins}
use Rattle.es_ticket.proofs.rows.Opened.new.Goals as goal

pub of_words-requires : goal.of_words-requires
of_words-requires c = begins (Vec Entry Global)
