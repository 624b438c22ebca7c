-- An agent has opened 256 blocks at most, and posted 10,000 messages; each event adds one to either count at most.
use Rattle.std.proofs.Common.{◌≡◌, ◌+◌, ◌≤◌, arith, List, [], ◌∷◌, None, nat_lt}
use Rattle.std.proofs.lemmas.Bool.{ltb-true}
use Rattle.es_value.specs.declared.value.Value.{Value}
use Rattle.es_event.specs.declared.event.Answer.{Answer}
use Rattle.es_event.specs.declared.command.Command.{Command}
use Rattle.es_event.specs.declared.command.Command.TheVariants.{SharedArrayBuffer, Post}
use Rattle.es_event.specs.declared.event.Event.TheVariants.{Did}
use Rattle.es_event.specs.declared.event.Refusal.TheVariants.{TooManyValues, TooManyBlocks, NotPostable, TooManyPosts}
use Rattle.es_event.specs.Commands.{first}
use Rattle.es_event.specs.History.{History}
use Rattle.es_event.specs.Identities.{made}
use Rattle.es_event.specs.Jobs.{Receivers}
use Rattle.es_event.specs.Sharing.{Buffers, opens_at, blocks_opened, posts_at, messages_posted}
use Rattle.es_event.specs.Rules.{first_refusal, tests, room_for_block, room_for_post, is_postable}
use Rattle.es_event.specs.Heard.{heard_by}
use Rattle.es_event.specs.Legal.{LegalBy}
use Rattle.es_event.proofs.Accepted.{is_accepted, first_holds}

-- what was done had room

opened_after : (over : Buffers) (h : History) (c : Command) (vs : List Value) (r : Answer) → first_refusal (tests over h c vs) ≡ None → blocks_opened h ≤ 256 → opens_at (Did (c, vs, r)) + blocks_opened h ≤ 256
opened_after over h (SharedArrayBuffer to n) vs r e small =
    let later = first_holds (nat_lt (made h) 1000000) TooManyValues (room_for_block h ∷ []) e in
    let room = ltb-true (blocks_opened h) 256 (first_holds (nat_lt (blocks_opened h) 256) TooManyBlocks [] later.1).0 in
    omega (arith, room)
opened_after over h _ vs r e small = omega (arith, small)

posted_after : (over : Buffers) (h : History) (c : Command) (vs : List Value) (r : Answer) → first_refusal (tests over h c vs) ≡ None → messages_posted h ≤ 10000 → posts_at (Did (c, vs, r)) + messages_posted h ≤ 10000
posted_after over h (Post a y) vs r e small =
    let later = first_holds (is_postable h (first vs)) NotPostable (room_for_post h ∷ []) e in
    let room = ltb-true (messages_posted h) 10000 (first_holds (nat_lt (messages_posted h) 10000) TooManyPosts [] later.1).0 in
    omega (arith, room)
posted_after over h _ vs r e small = omega (arith, small)

pub opened_small : (over : Buffers) (into : Receivers) (h : History) → LegalBy over into h → blocks_opened h ≤ 256
opened_small over into [] l = omega arith
opened_small over into (Did (c, vs, r) ∷ h) l = opened_after over h c vs r (is_accepted over h c vs (heard_by c r) r l.0.1) (opened_small over into h l.1)
opened_small over into (e ∷ h) l = let small : blocks_opened h ≤ 256 = opened_small over into h l.1 in omega (arith, small)

pub posted_small : (over : Buffers) (into : Receivers) (h : History) → LegalBy over into h → messages_posted h ≤ 10000
posted_small over into [] l = omega arith
posted_small over into (Did (c, vs, r) ∷ h) l = posted_after over h c vs r (is_accepted over h c vs (heard_by c r) r l.0.1) (posted_small over into h l.1)
posted_small over into (e ∷ h) l = let small : messages_posted h ≤ 10000 = posted_small over into h l.1 in omega (arith, small)
