-- Internal: commands that leave an agent's counts as they are, and of those the ones that change no table.
use Rattle.std.specs.Prelude.{◌≡◌, false, List, None}
use Rattle.es_value.specs.declared.value.Value.{Value}
use Rattle.es_event.specs.declared.command.Command.{Command}
use Rattle.es_event.specs.declared.event.Answer.{Answer}
use Rattle.es_event.specs.History.{History}
use Rattle.es_event.specs.Later.{taken_by}
use Rattle.es_event.specs.Commands.{opens_words, posts}
use Rattle.es_tables.specs.declared.table_change.TableChange.TheVariants.{NoChange}
use Rattle.es_tables.specs.Changes.{table_change_by}

-- whatever it read and gave, the command changes no table
abbrev pub IsAssignment : Command → Type 0
IsAssignment c = (vs : List Value) (r : Answer) → NoChange ≡ table_change_by c vs r

-- the command opens no block, posts nothing and opens no later collection
pub record IsPlain (c : Command) : Type 0 where
  pub block : opens_words c ≡ None
  pub post : posts c ≡ false
  pub later : (h : History) → taken_by c h ≡ None
