use Rattle.std.proofs.Common.{◌≡◌, ◌+◌, [], ◌∷◌, ◌++◌, Ok, vec_len, string_bytes, sym, ap, ◌∙◌, arith}
use Rattle.serde_json.specs.View.{view, members_view}
use Rattle.es_reading.specs.declared.fault.Place.TheVariants.{Callback as CallbackPlace}
use Rattle.es_reading.specs.Reading.{said, after, callback_read, callbacks_read}
use Rattle.es_reading.proofs.Steps.{callbacks_step}
use Rattle.es_reading.proofs.agent.callbacks_in.Goals as goal

pub loop-name-preserved : goal.loop-name-preserved
loop-name-preserved c =
    let front = c.loop-name.callbacks.items in
    let number = vec_len c.loop-name.callbacks + 1 in
    let callback = c.in_ok-callback.callback in
    let left = members_view c.next.new.self in
    let here : callback_read (said c.args.scope.now) (CallbackPlace c.args.agent number) (string_bytes c.in-Some.name.now) (view c.in-Some.value.now) ≡ Ok callback =
    rw (← c.as_str.ensures.value, ← c.len.ensures) c.in_ok-callback.ensures in
    let all : c.push.new.self.items ≡ front ++ callback ∷ [] = c.in_ok-push.ensures.items in
    let next : vec_len c.push.new.self + 1 ≡ number + 1 = omega (arith, c.in_ok-push.ensures.len) in
    c.loop-name.invariant
    ∙ ap (λ es. after front (callbacks_read (said c.args.scope.now) c.args.agent number (members_view es))) c.in-Some.ensures.steps
    ∙ callbacks_step (said c.args.scope.now) c.args.agent number front callback (string_bytes c.in-Some.name.now) (view c.in-Some.value.now) left here
    ∙ sym (ap (λ xs. after xs (callbacks_read (said c.args.scope.now) c.args.agent (vec_len c.push.new.self + 1) left)) all ∙ ap (λ n. after (front ++ callback ∷ []) (callbacks_read (said c.args.scope.now) c.args.agent n left)) next)
