-- The open later collection: the history since its copy was taken.
use Rattle.std.proofs.Common.{◌≡◌, ap, refl, ◌∙◌, [], ◌∷◌, ◌++◌, Some}
use Rattle.es_event.specs.declared.event.Event.{Event}
use Rattle.es_event.specs.declared.event.Event.TheVariants.{Did, Emptied}
use Rattle.es_event.specs.declared.command.Command.TheVariants.{CollectLater}
use Rattle.es_event.specs.History.{History}
use Rattle.es_event.specs.Identities.{gone}
use Rattle.es_event.specs.Derefs.{derefs}
use Rattle.es_event.specs.Later.{snapshot, derefed_since}
use Rattle.es_event.specs.Late.{derefed}

pub record Since (h p : History) : Type 0 where
  pub later : History
  pub whole : h ≡ later ++ p
  pub gave : derefed_since h ≡ derefed later
  pub still : gone h ≡ gone p

one_since : (e : Event) (h p : History) → derefed_since (e ∷ h) ≡ derefs e ++ derefed_since h → gone (e ∷ h) ≡ gone h → Since h p → Since (e ∷ h) p
one_since e h p is same s = record {
  later = e ∷ s.later;
  whole = ap (λ l. e ∷ l) s.whole;
  gave = is ∙ ap (λ l. derefs e ++ l) s.gave;
  still = same ∙ s.still;
}

pub since_copy : (h p : History) → snapshot h ≡ Some p → Since h p
since_copy [] p e = cc
since_copy (Did (CollectLater, vs, r) ∷ h) p e = let same_copy : Did (CollectLater, vs, r) ∷ h ≡ p = cc in record { later = []; whole = same_copy; gave = refl; still = ap gone same_copy }
since_copy (Did (c, vs, r) ∷ h) p e = one_since (Did (c, vs, r)) h p refl refl (since_copy h p e)
since_copy (Emptied ids ∷ h) p e = cc
since_copy (x ∷ h) p e = one_since x h p refl refl (since_copy h p e)
