use Rattle.std.proofs.Common.{◌≡◌, ◌≤◌, length, Some, None, arith}
use Rattle.json.specs.Json.{read_key}
use Rattle.es_value.specs.Limits.{most_callbacks}
use Rattle.es_reading.specs.Reading.{said}
use Rattle.es_script.proofs.TakingCallbacks.{so_far_none, so_far_more, so_far_all}
use Rattle.es_script.proofs.callback.callbacks_in.Goals as goal

pub callbacks-init : goal.callbacks-init
callbacks-init c = so_far_none (λ k. k.now) (said c.args.scope.now) c.args.agent c.args.reader.now c.open_object.new.reader c.new-callbacks.result.entries c.in_ok-open_object.ensures c.new-callbacks.ensures.empty

pub callbacks-preserved : goal.callbacks-preserved
callbacks-preserved c =
    let l = c.callbacks in
    let key : read_key l.reader ≡ Some (Some c.in-Some.key.now, c.next_key.new.self) = grind arith in
    rw c.in_ok-put.ensures
    (so_far_more (λ k. k.now) (said c.args.scope.now) c.args.agent c.args.reader.now l.reader c.next_key.new.self c.callback_in.new.reader l.callbacks.entries c.in-Some.key c.in_ok-callback.callback l.invariant key c.in_ok-callback.ensures)

pub returns : goal.returns
returns c =
    let l = c.callbacks in
    let closed : read_key l.reader ≡ Some (None, c.next_key.new.self) = grind arith in
    let few : length c.in_ok-callbacks.callbacks ≤ most_callbacks = grind arith in
    so_far_all (λ k. k.now) (said c.args.scope.now) c.args.agent c.args.reader.now l.reader c.next_key.new.self l.callbacks.entries c.in_ok-callbacks.callbacks l.invariant closed c.in_ok-callbacks.ensures few
