-- Each run so far comes to its end, and what a run hears from outside settles it.
use Rattle.std.proofs.Common.{◌≡◌, ℕ, zero, suc, ◌<◌, ◌≤◌, true, sym, ◌∙◌, ap, refl, subst, arith, List, [], ◌∷◌, ◌++◌, map, Option, Some, None, ◌⊎◌, inl, inr}
use Rattle.std.proofs.lemmas.Bool.{cases_Bool}
use Rattle.std.proofs.lemmas.List.{append_assoc}
use Rattle.es_event.specs.Later.{snapshot}
use Rattle.es_event.specs.declared.event.Event.{Event}
use Rattle.es_event.specs.declared.command.Command.{Command}
use Rattle.es_event.specs.declared.plan.AgentPlan.{AgentPlan}
use Rattle.es_event.specs.History.{History}
use Rattle.es_event.specs.Jobs.{receivers, job, callbacks_collect_nothing}
use Rattle.es_event.specs.Sharing.{Buffers, AgreeSoFar}
use Rattle.es_event.specs.Order.{Phase, between, handed, inside, stopped, ended, phase, left, catching, queue, nothing, due_after, due_inside, due_job, due_between, due_at, is_cleaning_up, due_end}
use Rattle.es_event.specs.Heard.{Heard}
use Rattle.es_event.specs.Runs.{ComesNext, heard, IsRunOver, IsWholeRunOver}
use Rattle.es_event.proofs.Coming.{next_cell}
use Rattle.es_event.proofs.Extending.{agrees_with_itself, agrees_before, agrees_through, still_legal, still_follows}
use Rattle.es_event.proofs.Next.{one_next, some_next}
use Rattle.es_event.proofs.Work.{plan_work, cleanup_work, cleanup_less, plan_less}

due_job_some : (n : ℕ) (at : Option (Option (ℕ × List ℕ))) → due_job n at ≡ nothing → ⊥
due_job_some n None e = cc
due_job_some n (Some None) e = cc
due_job_some n (Some (Some on)) e = cc

end_some : (o : Option History) → due_end o ≡ nothing → ⊥
end_some None e = cc
end_some (Some p) e = cc

after_some : (h : History) (o : Option ℕ) → due_after h o ≡ nothing → ⊥
after_some h None e = end_some (snapshot h) e
after_some h (Some n) e = cc

inside_some : (h : History) (x : Option (List ℕ)) (cs : List Command) → due_inside h x cs ≡ nothing → ⊥
inside_some h x [] e = after_some h (next_cell h) e
inside_some h x (c ∷ cs) e = cc

between_some : (plan : AgentPlan) (h : History) (rs : List ℕ) → due_between plan h rs ≡ nothing → ⊥
between_some plan h [] e = due_job_some (job h) _ e
between_some plan h (r ∷ rs) e = cc

due_some : (plan : AgentPlan) (h : History) (at : Phase) → (at ≡ ended → ⊥) → due_at plan h at ≡ nothing → ⊥
due_some plan h between un e = between_some plan h (queue h) e
due_some plan h handed un e = cc
due_some plan h inside un e = inside_some h (catching plan h) (left plan h) e
due_some plan h stopped un e = end_some (snapshot h) e
due_some plan h ended un e = un refl

is_ended : (at : Phase) → (at ≡ ended) ⊎ (at ≡ ended → ⊥)
is_ended between = inr (λ e. cc)
is_ended handed = inr (λ e. cc)
is_ended inside = inr (λ e. cc)
is_ended stopped = inr (λ e. cc)
is_ended ended = inl refl

-- what may come after h to make it whole, over a table that says the same so far
pub record Ending (over : Buffers) (plan : AgentPlan) (h : History) : Type 0 where
  pub more : Buffers
  pub agrees : AgreeSoFar h over more
  pub later : History
  pub whole : IsWholeRunOver more plan (later ++ h)

one_before : (over more : Buffers) (plan : AgentPlan) (e : Event) (h : History) → AgreeSoFar h over more → Ending more plan (e ∷ h) → Ending over plan h
one_before over more plan e h a end = record {
  more = end.more;
  agrees = agrees_through h over more end.more a (agrees_before e h more end.more end.agrees);
  later = end.later ++ e ∷ [];
  whole = subst (IsWholeRunOver end.more plan) (sym (append_assoc end.later (e ∷ []) h)) end.whole;
}

-- each run so far whose jobs leave less than this has an ending
abbrev EndsBelow : AgentPlan → ℕ → Type 0
EndsBelow plan n = (over : Buffers) (h : History) → plan_work plan h < n → IsRunOver over plan h → Ending over plan h

-- where the next event leaves an ending, so does this
step : (over : Buffers) (plan : AgentPlan) (h : History) → IsRunOver over plan h
    → ((more : Buffers) (e : Event) → IsRunOver more plan h → ComesNext more plan h e → Ending more plan (e ∷ h)) → Ending over plan h
step over plan h r rest =
    elim (is_ended (phase h)) [
      | inl e ↦ record { more = over; agrees = agrees_with_itself h over; later = []; whole = (r.0, (r.1, e)) }
      | inr un ↦
          let next = some_next over plan h (λ d. due_some plan h (phase h) un d) in
          one_before over next.more plan next.event h next.agrees
          (rest next.more next.event (still_legal over next.more (receivers plan.jobs) h next.agrees r.0, still_follows over next.more plan h next.agrees r.0 r.1) (next.lawful, next.permitted))
    ]

-- the work on the cleanup queue ends, and then a job of the plan goes on
cleanup_ending : (plan : AgentPlan) → callbacks_collect_nothing plan ≡ true → (n : ℕ) → EndsBelow plan n → (m : ℕ) (over : Buffers) (h : History) → cleanup_work plan h < m
    → plan_work plan h ≤ n → IsRunOver over plan h → Ending over plan h
cleanup_ending plan quiet n below zero over h less le r = absurd (omega arith)
cleanup_ending plan quiet n below (suc m) over h less le r =
    step over plan h r (λ more e s next. elim (cases_Bool (is_cleaning_up h)) [
      | inl up ↦
          let falls = cleanup_less more more plan h e quiet s.0 s.1 up next in
          cleanup_ending plan quiet n below m more (e ∷ h) (omega (arith, falls.0, less)) (omega (arith, falls.1, le)) ((next.0, s.0), (next.1, s.1))
      | inr not_up ↦ below more (e ∷ h) (omega (arith, plan_less more more plan h e s.1 not_up next, le)) ((next.0, s.0), (next.1, s.1))
    ])

ending : (plan : AgentPlan) → callbacks_collect_nothing plan ≡ true → (n : ℕ) → EndsBelow plan n
ending plan quiet zero over h less r = absurd (omega arith)
ending plan quiet (suc n) over h less r =
    cleanup_ending plan quiet n (ending plan quiet n) (suc (cleanup_work plan h)) over h (omega arith) (omega (arith, less)) r

pub comes_to_its_end : (over : Buffers) (plan : AgentPlan) (h : History) → callbacks_collect_nothing plan ≡ true → IsRunOver over plan h
    → (more : Buffers) × AgreeSoFar h over more × (f : History) × IsWholeRunOver more plan (f ++ h)
comes_to_its_end over plan h quiet r = let end = ending plan quiet (suc (plan_work plan h)) over h (omega arith) r in (end.more, end.agrees, end.later, end.whole)

-- What is heard settles a run

heads : {a b : Heard} {xs ys : List Heard} → a ∷ xs ≡ b ∷ ys → (a ≡ b) × (xs ≡ ys)
heads e = (cc, cc)

pub settled_by_hearing : (over : Buffers) (plan : AgentPlan) (g h : History) → IsRunOver over plan g → IsRunOver over plan h → map heard g ≡ map heard h → g ≡ h
settled_by_hearing over plan [] [] r s e = refl
settled_by_hearing over plan [] (f ∷ h) r s e = cc
settled_by_hearing over plan (x ∷ g) [] r s e = cc
settled_by_hearing over plan (x ∷ g) (y ∷ h) r s e =
    let parts = heads e in
    let before : g ≡ h = settled_by_hearing over plan g h (r.0.1, r.1.1) (s.0.1, s.1.1) parts.1 in
    let next : ComesNext over plan h x = subst (λ h. ComesNext over plan h x) before (r.0.0, r.1.0) in
    ap (λ g. x ∷ g) before ∙ ap (λ x. x ∷ h) (one_next over plan h x y next (s.0.0, s.1.0) parts.0)
