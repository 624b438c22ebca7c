-- The step of a loop that reads one part after another.
use Rattle.std.proofs.Common.{ℕ, ◌≡◌, ◌+◌, List, [], ◌∷◌, ◌++◌, Result, Ok, Err, ap, refl, append-nil, append_assoc}
use Rattle.serde_json.specs.Data.{Data, Items, item, Members, member}
use Rattle.es_event.specs.declared.plan.Callback.{Callback}
use Rattle.es_reading.specs.declared.fault.Place.{Place}
use Rattle.es_reading.specs.declared.fault.Place.TheVariants.{Callback as CallbackPlace}
use Rattle.es_reading.specs.declared.fault.ScriptFault.{ScriptFault}
use Rattle.es_reading.specs.Scope.{Scope}
use Rattle.es_reading.specs.Reading.{and_rest, after, line_read, lines_read, callback_read, callbacks_read}
use Rattle.es_reading.specs.Lines.{Line}

-- a part that was read goes to the end of what was read before
pub after_more : {A : Type 0} (front : List A) (x : A) (rest : Result (List A) ScriptFault) → after front (and_rest (Ok x) rest) ≡ after (front ++ x ∷ []) rest
after_more front x (Ok xs) = simp append_assoc
after_more front x (Err f) = refl

-- nothing was read before
pub after_none : {A : Type 0} (read : Result (List A) ScriptFault) → after [] read ≡ read
after_none (Ok xs) = refl
after_none (Err f) = refl

-- and nothing is left
pub after_all : {A : Type 0} (front : List A) → after front (Ok []) ≡ Ok front
after_all front = ap Ok (append-nil front)

-- the next line
pub lines_step : (scope : Scope) (p : Place) (k : ℕ) (front : List Line) (l : Line) (d : Data) (ds : Items) → line_read scope (record { place = p; command = k }) d ≡ Ok l → after front (lines_read scope p k (item d ds)) ≡ after (front ++ l ∷ []) (lines_read scope p (k + 1) ds)
lines_step scope p k front l d ds e = rw e (after_more front l (lines_read scope p (k + 1) ds))

-- the next callback
pub callbacks_step : (scope : Scope) (a k : ℕ) (front : List Callback) (c : Callback) (n : List ℕ) (d : Data) (ms : Members) → callback_read scope (CallbackPlace a k) n d ≡ Ok c → after front (callbacks_read scope a k (member n d ms)) ≡ after (front ++ c ∷ []) (callbacks_read scope a (k + 1) ms)
callbacks_step scope a k front c n d ms e = rw e (after_more front c (callbacks_read scope a (k + 1) ms))
