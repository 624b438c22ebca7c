-- How long a later collection is open: it is finished in the job that opened it.
use Rattle.std.proofs.Common.{◌≡◌, ℕ, true, false, sym, ◌∙◌, ap, refl, List, [], ◌∷◌, Some, None}
use Rattle.std.specs.List.{list_any}
use Rattle.std.proofs.lemmas.Bool.{or_parts, false≢true}
use Rattle.es_value.specs.declared.value.Value.{Value}
use Rattle.es_event.specs.declared.event.Answer.{Answer}
use Rattle.es_event.specs.declared.event.Event.{Event}
use Rattle.es_event.specs.declared.event.Event.TheVariants.{Did}
use Rattle.es_event.specs.declared.command.Command.{Command}
use Rattle.es_event.specs.declared.command.Command.TheVariants.{CollectLater}
use Rattle.es_event.specs.declared.plan.AgentPlan.{AgentPlan}
use Rattle.es_event.specs.Commands.{opens_or_collects}
use Rattle.es_event.specs.History.{History}
use Rattle.es_event.specs.Jobs.{receivers, cleaning, callbacks_collect_nothing}
use Rattle.es_event.specs.Later.{snapshot}
use Rattle.es_event.specs.Sharing.{Buffers}
use Rattle.es_event.specs.Order.{Phase, between, inside, stopped, ended, phase, left, queue}
use Rattle.es_event.specs.Follows.{Follows}
use Rattle.es_event.specs.Runs.{IsWholeRunOver}
use Rattle.es_event.proofs.Awaiting.{between_clean}
use Rattle.es_event.proofs.Coming.{Comes, begins_job, begins_handed, receives, skips, refuses_message, begins_cleanup, does, refuses, empties_dead, takes, ends, stops, finishes, finishes_stopped, closes, comes, of_done}
use Rattle.es_event.proofs.Work.{quiet}
use Rattle.es_laws.specs.Later.{is_under_way}

-- Where no job is under way

still_under : (p q : Phase) → p ≡ q → is_under_way q ≡ true → is_under_way p ≡ false → ⊥
still_under p q same is none = false≢true (sym none ∙ ap is_under_way same ∙ is)

none_next : (over : Buffers) (plan : AgentPlan) (h : History) (at : Phase) (e : Event) → Comes over (receivers plan.jobs) plan h at e → phase h ≡ at → (is_under_way at ≡ false → snapshot h ≡ None)
    → is_under_way (phase (e ∷ h)) ≡ false → snapshot (e ∷ h) ≡ None
none_next over plan h at _ (receives j s v b none is on room) here before off = before (ap is_under_way b)
none_next over plan h at _ (skips k j s b none is on same) here before off = before (ap is_under_way b)
none_next over plan h at _ (does b d cs vs a i is by) here before off = absurd (still_under (phase h) inside (here ∙ i) refl off)
none_next over plan h at _ (empties_dead d cs ids i is co dead) here before off = refl
none_next over plan h at _ (takes m v i is next) here before off = absurd (still_under (phase h) inside (here ∙ i) refl off)
none_next over plan h at _ (ends i is none shut) here before off = shut
none_next over plan h at _ (stops s shut) here before off = shut
none_next over plan h at _ (finishes ids i is none fin) here before off = refl
none_next over plan h at _ (finishes_stopped ids s fin) here before off = refl
none_next over plan h at _ (closes b none) here before off = before (ap is_under_way b)
none_next over plan h at _ _ here before off = cc

pub none_open : (over : Buffers) (plan : AgentPlan) (h : History) → Follows over plan h → is_under_way (phase h) ≡ false → snapshot h ≡ None
none_open over plan [] f off = refl
none_open over plan (e ∷ h) f off = none_next over plan h (phase h) e (comes over plan h e f.0) refl (none_open over plan h f.1) off

-- In a cleanup job

not_opened : (c : Command) (vs : List Value) (a : Answer) (h : History) → opens_or_collects c ≡ false → snapshot (Did (c, vs, a) ∷ h) ≡ snapshot h
not_opened CollectLater vs a h e = cc
not_opened _ vs a h e = refl

shut_next : (over : Buffers) (plan : AgentPlan) (h : History) (at : Phase) (e : Event) → Comes over (receivers plan.jobs) plan h at e → phase h ≡ at → (is_under_way at ≡ false → snapshot h ≡ None)
    → ((r : ℕ) → cleaning h ≡ Some r → list_any opens_or_collects (left plan h) ≡ false) → ((r : ℕ) → cleaning h ≡ Some r → snapshot h ≡ None)
    → (r : ℕ) → cleaning (e ∷ h) ≡ Some r → snapshot (e ∷ h) ≡ None
shut_next over plan h at _ (begins_job k j b none is same) here off calm before r e = off (ap is_under_way b)
shut_next over plan h at _ (begins_handed k i same) here off calm before r e = off (ap is_under_way i)
shut_next over plan h at _ (receives j s v b none is on room) here off calm before r e = off (ap is_under_way b)
shut_next over plan h at _ (skips k j s b none is on same) here off calm before r e = off (ap is_under_way b)
shut_next over plan h at _ (refuses_message j code b none is on same) here off calm before r e = off (ap is_under_way b)
shut_next over plan h at _ (begins_cleanup q rs b is) here off calm before r e = off (ap is_under_way b)
shut_next over plan h at _ (does b d cs vs a i is by) here off calm before r e =
    let none : list_any opens_or_collects (b ∷ cs) ≡ false = ap (list_any opens_or_collects) (sym is) ∙ calm r e in
    let itself = (or_parts (opens_or_collects b) (list_any opens_or_collects cs) none).0 in
    not_opened d vs a h (of_done (λ d. opens_or_collects d ≡ false) b d by itself (λ x t. refl)) ∙ before r e
shut_next over plan h at _ (refuses d cs code i is) here off calm before r e = before r e
shut_next over plan h at _ (takes m v i is next) here off calm before r e = before r e
shut_next over plan h at _ (ends i is none shut) here off calm before r e = shut
shut_next over plan h at _ (stops s shut) here off calm before r e = shut
shut_next over plan h at _ (closes b none) here off calm before r e = off (ap is_under_way b)
shut_next over plan h at _ _ here off calm before r e = refl

pub none_in_cleanup : (over : Buffers) (plan : AgentPlan) (h : History) (r : ℕ) → callbacks_collect_nothing plan ≡ true → Follows over plan h → cleaning h ≡ Some r → snapshot h ≡ None
none_in_cleanup over plan [] r all f is = refl
none_in_cleanup over plan (e ∷ h) r all f is =
    shut_next over plan h (phase h) e (comes over plan h e f.0) refl (none_open over plan h f.1) (quiet over plan h all f.1) (λ q here. none_in_cleanup over plan h q all f.1 here) r is

-- At the end of a run

end_next : (over : Buffers) (plan : AgentPlan) (h : History) (at : Phase) (e : Event) → Comes over (receivers plan.jobs) plan h at e → phase h ≡ at → phase (e ∷ h) ≡ ended → (queue (e ∷ h) ≡ []) × (cleaning (e ∷ h) ≡ None)
end_next over plan h at _ (skips k j s b none is on same) here last = let clash : between ≡ ended = sym (here ∙ b) ∙ last in cc
end_next over plan h at _ (does b d cs vs a i is by) here last = let clash : inside ≡ ended = sym (here ∙ i) ∙ last in cc
end_next over plan h at _ (empties_dead d cs ids i is co dead) here last = let clash : inside ≡ ended = sym (here ∙ i) ∙ last in cc
end_next over plan h at _ (takes m v i is next) here last = let clash : inside ≡ ended = sym (here ∙ i) ∙ last in cc
end_next over plan h at _ (finishes ids i is none fin) here last = let clash : inside ≡ ended = sym (here ∙ i) ∙ last in cc
end_next over plan h at _ (finishes_stopped ids s fin) here last = let clash : stopped ≡ ended = sym (here ∙ s) ∙ last in cc
end_next over plan h at _ (closes b none) here last = (none, between_clean h (here ∙ b))
end_next over plan h at _ _ here last = cc

pub nothing_left : (over : Buffers) (plan : AgentPlan) (h : History) → IsWholeRunOver over plan h → (snapshot h ≡ None) × (queue h ≡ []) × (cleaning h ≡ None)
nothing_left over plan h run =
    let off : is_under_way (phase h) ≡ false = ap is_under_way run.1.1 in
    let rest = at h run.1.0 run.1.1 in
    (none_open over plan h run.1.0 off, rest.0, rest.1)
  where
    at : (h : History) → Follows over plan h → phase h ≡ ended → (queue h ≡ []) × (cleaning h ≡ None)
    at [] f last = cc
    at (e ∷ h) f last = end_next over plan h (phase h) e (comes over plan h e f.0) refl last
