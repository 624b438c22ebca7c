-- What one deed meets leaves what has come as it was.
use Rattle.std.proofs.Common.{◌≡◌, ℕ, ℤ, Bool, true, false, List, [], ◌++◌, append-nil, refl, ◌∙◌, ap}
use Rattle.std.specs.Prelude.{Some}
use Rattle.std.specs.Option.{option_map}
use Rattle.es_match.specs.declared.one_deed.OneDeed.{OneDeed}
use Rattle.es_match.specs.declared.one_deed.OneDeed.TheVariants.{AtWord, Posting, Passing}
use Rattle.es_value.specs.declared.value.Value.{Value}
use Rattle.es_event.specs.declared.access.Task.{Task}
use Rattle.es_event.specs.declared.access.WaitResult.{WaitResult}
use Rattle.es_event.specs.Commands.{first}
use Rattle.es_event.specs.Heard.{wait_given}
use Rattle.es_event.specs.Numbers.{index_of, task_of}
use Rattle.es_match.specs.Asks.{asks_wait, asks_word}
use Rattle.es_match.specs.Deeds.{Deed}
use Rattle.es_match.specs.Goes.{asked}
use Rattle.es_match.specs.Meets.{Came, Tickets, came_after, is_one, some_if}
use Rattle.es_match.specs.Shown.{asking_one, meets_one, meets_task, meets_wait, said}

-- nothing comes, where this is whether the deeds are what is wanted
pub unchanged : (c : Came) (b : Bool)
    → option_map (λ (t : Tickets). record { tickets = t; ever = c.ever ++ []; refused = c.refused ++ [] }) (some_if b c.tickets) ≡ some_if b c
unchanged c true =
    ap (λ v. Some (record { tickets = c.tickets; ever = v; refused = c.refused ++ [] })) (append-nil c.ever)
    ∙ ap (λ v. Some (record { tickets = c.tickets; ever = c.ever; refused = v })) (append-nil c.refused)
unchanged c false = refl

after_wait : (c : Came) (b : Value) (i : ℤ) (w : ℕ) (r : WaitResult) (ds : List Deed) → came_after c (asks_wait b i w r) ds ≡ some_if (is_one (meets_wait c.tickets b i w r) ds) c
after_wait c b i w WaitResult.Woken ds = unchanged c (is_one (meets_wait c.tickets b i w WaitResult.Woken) ds)
after_wait c b i w WaitResult.NotEqual ds = unchanged c (is_one (meets_wait c.tickets b i w WaitResult.NotEqual) ds)
after_wait c b i w WaitResult.TimedOut ds = unchanged c (is_one (meets_wait c.tickets b i w WaitResult.TimedOut) ds)

after_task : (c : Came) (b : Value) (i : ℤ) (k : Task) (v : Value) (ds : List Deed) → came_after c (asks_word b i k v) ds ≡ some_if (is_one (meets_task c.tickets b i k v) ds) c
after_task c b i (Task.Access m) v ds = unchanged c (is_one (meets_task c.tickets b i (Task.Access m) v) ds)
after_task c b i (Task.Sleep w) v ds = after_wait c b i w (wait_given v) ds
after_task c b i (Task.Notify n) v ds = unchanged c (is_one (meets_task c.tickets b i (Task.Notify n) v) ds)

pub after_one : (c : Came) (w : OneDeed) (ds : List Deed) → came_after c (asking_one w) ds ≡ some_if (is_one (meets_one c.tickets w) ds) c
after_one c (AtWord a vs v) ds = after_task c (first vs.now) (index_of a.now vs.now) (task_of a.now vs.now) (said v) ds
after_one c (Posting a v) ds = unchanged c (is_one (meets_one c.tickets (Posting a v)) ds)
after_one c (Passing s) ds = unchanged c (is_one (meets_one c.tickets (Passing s)) ds)

asks_one_wait : (t : Tickets) (b : Value) (i : ℤ) (w : ℕ) (r : WaitResult) → asked t (asks_wait b i w r) ≡ 1
asks_one_wait t b i w WaitResult.Woken = refl
asks_one_wait t b i w WaitResult.NotEqual = refl
asks_one_wait t b i w WaitResult.TimedOut = refl

asks_one_task : (t : Tickets) (b : Value) (i : ℤ) (k : Task) (v : Value) → asked t (asks_word b i k v) ≡ 1
asks_one_task t b i (Task.Access m) v = refl
asks_one_task t b i (Task.Sleep w) v = asks_one_wait t b i w (wait_given v)
asks_one_task t b i (Task.Notify n) v = refl

pub asks_one : (t : Tickets) (w : OneDeed) → asked t (asking_one w) ≡ 1
asks_one t (AtWord a vs v) = asks_one_task t (first vs.now) (index_of a.now vs.now) (task_of a.now vs.now) (said v)
asks_one t (Posting a v) = refl
asks_one t (Passing s) = refl
