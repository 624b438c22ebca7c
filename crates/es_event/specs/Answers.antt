-- To believe: what a command gave, as the event that did it shows it.
use Rattle.es_event.specs.declared.event.Answer.{Answer}
use Rattle.es_event.specs.declared.event.Answer.TheVariants.{Nothing, Gives, Listed}
use Rattle.es_event.specs.declared.done.AnswerRef.{AnswerRef}
use Rattle.es_event.specs.declared.done.AnswerRef.TheVariants.{Nothing as NothingShown, Gives as GivesShown, Listed as ListedShown}

abbrev pub answer_said : AnswerRef → Answer
answer_said NothingShown = Nothing
answer_said (GivesShown v) = Gives v.now
answer_said (ListedShown ks) = Listed ks.now
