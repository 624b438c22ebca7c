-- A command that opens no block, posts nothing and opens no later collection leaves what is counted.
use Rattle.std.proofs.Common.{◌≡◌, ◌∷◌, ap, List, if◌then◌else◌}
use Rattle.std.specs.Prelude.{unwrap_or}
use Rattle.std.specs.Option.{option_map_or}
use Rattle.es_value.specs.declared.value.Value.{Value}
use Rattle.es_event.specs.declared.command.Command.{Command}
use Rattle.es_event.specs.declared.event.Answer.{Answer}
use Rattle.es_event.specs.declared.event.Event.TheVariants.{Did}
use Rattle.es_event.specs.History.{History}
use Rattle.es_event.specs.Later.{snapshot}
use Rattle.es_event.specs.Sharing.{opens_at, posts_at}
use Rattle.es_tables.specs.Plain.{IsPlain}

pub opens_none : (c : Command) (vs : List Value) (r : Answer) → IsPlain c → opens_at (Did (c, vs, r)) ≡ 0
opens_none c vs r plain = ap (λ o. option_map_or (λ n. 1) o 0) plain.block

pub posts_none : (c : Command) (vs : List Value) (r : Answer) → IsPlain c → posts_at (Did (c, vs, r)) ≡ 0
posts_none c vs r plain = ap (λ b. if b then 1 else 0) plain.post

pub opens_no_later : (c : Command) (vs : List Value) (r : Answer) (h : History) → IsPlain c → snapshot (Did (c, vs, r) ∷ h) ≡ snapshot h
opens_no_later c vs r h plain = ap (λ o. unwrap_or o (snapshot h)) (plain.later (Did (c, vs, r) ∷ h))
