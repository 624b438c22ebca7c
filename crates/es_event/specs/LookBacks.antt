-- To believe: all that the rules look back at in a history.
use Rattle.std.specs.Prelude.{ℕ, ◌≡◌, ◌↔◌, List}
use Rattle.es_event.specs.History.{History}
use Rattle.es_event.specs.Identities.{made, gone, kind}
use Rattle.es_event.specs.Jobs.{Receivers, job}
use Rattle.es_event.specs.Variables.{var}
use Rattle.es_event.specs.Properties.{prop, keys}
use Rattle.es_event.specs.WeakRefs.{kept, target}
use Rattle.es_event.specs.Ephemerons.{entry, is_member}
use Rattle.es_event.specs.Registrations.{registered, cell, fate}
use Rattle.es_event.specs.Sharing.{blocks_opened, messages_posted}
use Rattle.es_event.specs.Reach.{IsReached}

-- the look-backs of two histories that speak of no variable are the same
pub record SameButVariables (g h : History) : Type 0 where
  pub properties : (o : ℕ) (k : List ℕ) → prop g o k ≡ prop h o k
  pub keys : (o : ℕ) → keys g o ≡ keys h o
  pub kept : kept g ≡ kept h
  pub gone : gone g ≡ gone h
  pub targets : (w : ℕ) → target g w ≡ target h w
  pub entries : (w k : ℕ) → entry g w k ≡ entry h w k
  pub members : (s v : ℕ) → is_member g s v ≡ is_member h s v
  pub registered : registered g ≡ registered h
  pub cells : (n : ℕ) → cell g n ≡ cell h n
  pub fates : (n : ℕ) → fate g n ≡ fate h n
  pub kinds : (o : ℕ) → kind g o ≡ kind h o
  pub made : made g ≡ made h
  pub job : job g ≡ job h
  pub blocks : blocks_opened g ≡ blocks_opened h
  pub messages : messages_posted g ≡ messages_posted h

-- the look-backs of two histories are the same, but for where the agent stands in its plan
pub record LookAlike (into : Receivers) (g h : History) : Type 0 where
  pub variables : (x : List ℕ) → var into g x ≡ var into h x
  pub besides : SameButVariables g h
  pub reached : (i : ℕ) → IsReached into g i ↔ IsReached into h i
