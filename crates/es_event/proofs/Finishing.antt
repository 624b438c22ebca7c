-- How identities come to be emptied: all that is dead by a command, or all that is late at the end of a job.
use Rattle.std.proofs.Common.{◌≡◌, ℕ, ◌-◌, refl, List, [], ◌∷◌, Option, Some, None, ◌⊎◌, inl, inr}
use Rattle.std.specs.Prelude.{slice_get}
use Rattle.std.specs.Option.{option_map, option_and_then}
use Rattle.es_event.specs.declared.event.Event.TheVariants.{Emptied}
use Rattle.es_event.specs.declared.command.Command.{Command}
use Rattle.es_event.specs.declared.plan.AgentPlan.{AgentPlan}
use Rattle.es_event.specs.History.{History}
use Rattle.es_event.specs.Jobs.{Receivers, job, cleaning}
use Rattle.es_event.specs.Registrations.{first_awaiting}
use Rattle.es_event.specs.Sharing.{Buffers}
use Rattle.es_event.specs.Reach.{AreDead}
use Rattle.es_event.specs.Later.{snapshot, derefed_since}
use Rattle.es_event.specs.Late.{AreLate}
use Rattle.es_event.specs.Order.{Phase, between, handed, inside, stopped, ended, phase, left, catching, queue, Due, run, finish, due_end, due_after, due_inside, due_job, due_between, due_at, due}
use Rattle.es_event.specs.Follows.{Permits}

end_finishes : (o : Option History) (p : History) → due_end o ≡ finish p → o ≡ Some p
end_finishes None p e = cc
end_finishes (Some q) p e = cc

after_finishes : (h : History) (o : Option ℕ) (p : History) → due_after h o ≡ finish p → snapshot h ≡ Some p
after_finishes h None p e = end_finishes (snapshot h) p e
after_finishes h (Some n) p e = cc

inside_finishes : (h : History) (x : Option (List ℕ)) (cs : List Command) (p : History) → due_inside h x cs ≡ finish p → snapshot h ≡ Some p
inside_finishes h x [] p e = after_finishes h (option_and_then (first_awaiting h) (cleaning h)) p e
inside_finishes h x (c ∷ cs) p e = cc

job_not : (n : ℕ) (at : Option (Option (ℕ × List ℕ))) (p : History) → due_job n at ≡ finish p → ⊥
job_not n None p e = cc
job_not n (Some None) p e = cc
job_not n (Some (Some on)) p e = cc

between_not : (plan : AgentPlan) (h : History) (rs : List ℕ) (p : History) → due_between plan h rs ≡ finish p → ⊥
between_not plan h [] p e = job_not (job h) (option_map (λ j. j.on) (slice_get plan.jobs (job h - 1))) p e
between_not plan h (r ∷ rs) p e = cc

at_finishes : (plan : AgentPlan) (h : History) (at : Phase) (p : History) → due_at plan h at ≡ finish p → snapshot h ≡ Some p
at_finishes plan h between p e = absurd (between_not plan h (queue h) p e)
at_finishes plan h handed p e = cc
at_finishes plan h inside p e = inside_finishes h (catching plan h) (left plan h) p e
at_finishes plan h stopped p e = end_finishes (snapshot h) p e
at_finishes plan h ended p e = cc

-- where a finish is due, the collection is open over this beginning
pub is_open : (plan : AgentPlan) (h p : History) → due plan h ≡ finish p → snapshot h ≡ Some p
is_open plan h p e = at_finishes plan h (phase h) p e

-- all that is late, by the open collection
pub record IsFinish (into : Receivers) (h : History) (ids : List ℕ) : Type 0 where
  pub copy : History
  pub open_at : snapshot h ≡ Some copy
  pub late : AreLate into copy (derefed_since h) ids

how_at : (over : Buffers) (into : Receivers) (h : History) (d : Due) (ids : List ℕ) → ((p : History) → d ≡ finish p → snapshot h ≡ Some p) → Permits over into h d (Emptied ids) → AreDead into h ids ⊎ IsFinish into h ids
how_at over into h (run x c) ids is p = inl p.1
how_at over into h (finish q) ids is p = inr (record { copy = q; open_at = is q refl; late = p })
how_at over into h _ ids is p = absurd p

pub emptied_how : (over : Buffers) (into : Receivers) (plan : AgentPlan) (h : History) (ids : List ℕ) → Permits over into h (due plan h) (Emptied ids) → AreDead into h ids ⊎ IsFinish into h ids
emptied_how over into plan h ids p = how_at over into h (due plan h) ids (is_open plan h) p
