-- To believe: what an answer of the code says that an agent asks for: each variant of its own types is the word of Needs of that meaning.
use Rattle.es_rules.specs.declared.need.Need.{Need}
use Rattle.es_rules.specs.declared.need.Need.TheVariants.{Local, Collect, Later, Finish, Ledger, Message, Close, Ended}
use Rattle.es_rules.specs.declared.need.Request.{Request}
use Rattle.es_rules.specs.declared.need.Request.TheVariants.{NewBlock, Post, PostBuffer, Word}
use Rattle.es_rules.specs.Needs.{Request as RequestSaid, for_block, for_post, for_buffer_post, for_word, Need as NeedSaid, asks_nobody, asks_marks, asks_copy, asks_late_marks, asks_ledger, asks_message, asks_closing, asks_nothing}

-- what the ledger is asked for
abbrev pub requested : Request → RequestSaid
requested (NewBlock n) = for_block n
requested (Post a v) = for_post a v.now
requested (PostBuffer a o) = for_buffer_post a o
requested (Word o i t) = for_word o i t

-- what the agent asks for
abbrev pub shown : Need → NeedSaid
shown Local = asks_nobody
shown Collect = asks_marks
shown Later = asks_copy
shown Finish = asks_late_marks
shown (Ledger r) = asks_ledger (requested r)
shown (Message s) = asks_message s
shown Close = asks_closing
shown Ended = asks_nothing
