use Rattle.std.proofs.lemmas.Result.{IfOk-weaker}
use Rattle.es_parmark.proofs.CallerLemmas.{marks_made}
use Rattle.es_parmark.proofs.MoreRoots.{had_already}
use Rattle.es_parmark.proofs.more.marks_with.Goals as goal

pub returns-clause-least : goal.returns-clause-least
returns-clause-least c = IfOk-weaker c.copy.result _ _ (λ m is. rw is (had_already c.args.snapshot.now c.args.marks.now c.args.more.now c.requires.marks c.requires.has)) c.copy.ensures

pub returns-clause-made : goal.returns-clause-made
returns-clause-made c = IfOk-weaker c.copy.result _ _ (λ m is. rw is (marks_made c.args.snapshot.now c.all_roots-roots.ensures.sound c.args.marks.now c.requires.marks)) c.copy.ensures
