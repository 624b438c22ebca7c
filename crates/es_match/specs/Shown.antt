-- Internal: what is asked, as the code has it.
use Rattle.std.specs.Prelude.{ℕ, ℤ, Bool, List, [], ◌∷◌, Option, Some, None}
use denote.Ref.{Bor}
use Rattle.es_value.specs.declared.value.Value.{Value}
use Rattle.es_value.specs.declared.value.Value.TheVariants.{Undefined}
use Rattle.es_match.specs.declared.want.Want.{Want}
use Rattle.es_match.specs.declared.want.Want.TheVariants.{Nothing, Opening, Length, SameBlock, OneDeed as MetByOne, Receiving, Refusal, Emptying, Closing}
use Rattle.es_match.specs.declared.one_deed.OneDeed.{OneDeed}
use Rattle.es_match.specs.declared.one_deed.OneDeed.TheVariants.{AtWord, Posting, Passing}
use Rattle.es_event.specs.declared.access.Task.{Task}
use Rattle.es_event.specs.declared.access.WaitResult.{WaitResult}
use Rattle.es_event.specs.Commands.{first}
use Rattle.es_event.specs.Heard.{wait_given}
use Rattle.es_event.specs.Numbers.{index_of, task_of}
use Rattle.es_match.specs.Deeds.{Deed}
use Rattle.es_match.specs.Meets.{Tickets, is_access, is_end_of_sleep, is_miss, is_notify, is_pass, is_post}
use Rattle.es_match.specs.Asks.{Asking, nothing, to_open, to_measure, to_compare, to_post, to_receive, to_refuse, to_pass, to_empty, to_close, asks_word}

-- no value stands for undefined
abbrev pub said : Option (Bor Value) → Value
said None = Undefined
said (Some v) = v.now

abbrev pub asking_one : OneDeed → Asking
asking_one (AtWord a vs v) = asks_word (first vs.now) (index_of a.now vs.now) (task_of a.now vs.now) (said v)
asking_one (Posting a v) = to_post a (said v)
asking_one (Passing s) = to_pass s

-- the deed meets a wait that ended so, where the agent has these tickets
abbrev pub meets_wait : Tickets → Value → ℤ → ℕ → WaitResult → Deed → Bool
meets_wait t b i w WaitResult.Woken = is_end_of_sleep t b i w WaitResult.Woken
meets_wait t b i w WaitResult.NotEqual = is_miss t b i w
meets_wait t b i w WaitResult.TimedOut = is_end_of_sleep t b i w WaitResult.TimedOut

-- the deed meets this at a word
abbrev pub meets_task : Tickets → Value → ℤ → Task → Value → Deed → Bool
meets_task t b i (Task.Access m) v = is_access t b i m v
meets_task t b i (Task.Sleep w) v = meets_wait t b i w (wait_given v)
meets_task t b i (Task.Notify n) v = is_notify t b i n v

-- the deed meets it, where the agent has these tickets
abbrev pub meets_one : Tickets → OneDeed → Deed → Bool
meets_one t (AtWord a vs v) = meets_task t (first vs.now) (index_of a.now vs.now) (task_of a.now vs.now) (said v)
meets_one t (Posting a v) = is_post t a (said v)
meets_one t (Passing s) = is_pass s

abbrev pub asking : Want → Asking
asking Nothing = nothing
asking (Opening n v) = to_open n (said v)
asking (Length b v) = to_measure (said b) (said v)
asking (SameBlock b c v) = to_compare (said b) (said c) (said v)
asking (MetByOne w) = asking_one w
asking (Receiving s v) = to_receive s v.now
asking Refusal = to_refuse
asking (Emptying ids) = to_empty ids.now
asking Closing = to_close

-- the one that is there, or none, as a list
abbrev pub listed : {X : Type 0} → Option X → List X
listed None = []
listed (Some x) = x ∷ []
