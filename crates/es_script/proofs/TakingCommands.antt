-- Commands and bodies, from their tokens.
use Rattle.std.proofs.Common.{◌≡◌, ℕ, ◌-◌, ◌<◌, ◌≤◌, true, List, ◌∷◌, length, Some, None, Ok, refl, ◌∙◌, arith}
use Rattle.std.specs.Prelude.{nat_le}
use Rattle.std.proofs.lemmas.Bool.{le-leb}
use Rattle.json.specs.Token.{Token}
use Rattle.serde_json.specs.Data.{string, array, Items, item}
use Rattle.serde_json.specs.Events.{items_len}
use Rattle.es_value.specs.Limits.{most_commands}
use Rattle.es_event.specs.declared.command.Command.{Command}
use Rattle.es_reading.specs.declared.fault.Place.{Place}
use Rattle.es_reading.specs.declared.fault.Spot.{Spot}
use Rattle.es_reading.specs.Scope.{Scope}
use Rattle.es_reading.specs.Forms.{form}
use Rattle.es_reading.specs.Parts.{items_in}
use Rattle.es_reading.specs.Shape.{is_command, is_callback}
use Rattle.es_reading.specs.Reading.{form_read, line_read, lines_read, body_read}
use Rattle.es_script.specs.Taking.{plain, TakesItems, IsRead, Took, TookItems}
use Rattle.es_script.specs.Drafts.{IsRun}
use Rattle.es_script.proofs.Counted.{items_count}
use Rattle.es_script.proofs.Plain.{no_try, plain_length}
use Rattle.es_script.proofs.Sound.{form_is}
use Rattle.es_script.proofs.Taking.{takes_array, takes_item, takes_string, took_array}

pub took_command : (scope : Scope) (spot : Spot) (w : List ℕ) (ds : Items) (c : Command) (ts s r : List Token) → ts ≡ Token.begin_array ∷ Token.string w ∷ s → ((depth : ℕ) → TakesItems depth s ds r) → length r < length s
    → form_read scope spot (form scope.version w (items_len ds)) ds ≡ Ok c → Took 1 (IsRead is_command (line_read scope spot)) ts (None, c) r
took_command scope spot w ds c ts s r is taken less e =
    record {
      value = array (item (string w) ds);
      taken = λ depth h. rw is (takes_array depth (Token.string w ∷ s) r (item (string w) ds) h (takes_item (depth - 1) (Token.string w ∷ s) s r (string w) ds refl (omega arith) (takes_string (depth - 1) w s) (taken (depth - 1))));
      is = (refl, read);
      shorter = rw is (omega (arith, less));
    }
  where
    read : line_read scope spot (array (item (string w) ds)) ≡ Ok (None, c)
    read = let is = form_is scope spot (form scope.version w (items_len ds)) ds c e in rw (no_try scope.version w (items_len ds) is.0 is.1, e) refl

pub took_run : (scope : Scope) (p : Place) (cs : List Command) (ts s r : List Token) → ts ≡ Token.begin_array ∷ s → TookItems 1 is_command (lines_read scope p 1) s (plain cs) r → length cs ≤ most_commands → Took 2 (IsRun scope p) ts cs r
took_run scope p cs ts s r is all few =
    rw is (record { value = lines.value; taken = lines.taken; is = lines.is; shorter = lines.shorter })
  where
    body : (ds : Items) → lines_read scope p 1 ds ≡ Ok (plain cs) → body_read scope p ds ≡ Ok (plain cs)
    body ds e =
        let count : items_len ds ≡ length cs = items_count (λ k d. line_read scope (record { place = p; command = k }) d) (lines_read scope p) (λ k. refl) (λ k d es. refl) 1 ds (plain cs) e ∙ plain_length cs in
        let short : nat_le (items_len ds) most_commands ≡ true = le-leb (items_len ds) most_commands (rw count few) in
        rw short e

    lines : Took 2 (IsRead is_callback (λ d. body_read scope p (items_in (Some d)))) (Token.begin_array ∷ s) (plain cs) r
    lines = took_array 1 is_command is_callback (lines_read scope p 1) (λ d. body_read scope p (items_in (Some d))) (plain cs) (plain cs) s r (λ ds h. h) body all
