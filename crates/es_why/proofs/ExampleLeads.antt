-- Examples of steps in legal histories, and their neighbours, which the definitions refuse.
use Rattle.std.proofs.Common.{◌≡◌, ℕ, true, false, List, [], ◌∷◌, Option, Some, None, refl, codes}
use Rattle.es_event.specs.declared.plan.AgentPlan.{AgentPlan}
use Rattle.es_event.specs.declared.event.Event.TheVariants.{Emptied}
use Rattle.es_event.specs.History.{History}
use Rattle.es_event.proofs.ExampleReach.{plan_weakref, forgotten, ended}
use Rattle.es_laws.proofs.ExampleEphemerons.{plan_chain, first_key_held, no_key_held}
use Rattle.es_laws.proofs.ExampleRegistries.{plan_held, forgot_held}
use Rattle.es_mark.specs.declared.step.Step.TheVariants.{Variable, Kept, Registry, Held, Property, Entry}
use Rattle.es_mark.specs.Search.{way_to}
use Rattle.es_mark.specs.Ways.{AreOrdered}
use Rattle.es_record.specs.AgentView.{AgentView}
use Rattle.es_why.specs.Leads.{LeadsTo}

abbrev view : AgentPlan → History → AgentView
view plan h = record { plan = plan; number = 0; agents = 1; over = []; history = h }

-- A chain of entries: WeakMap 4 has object 2 under key 1, and object 3 under key 2; variables hold 1 and 4

abbrev names_chain : List (List ℕ)
names_chain = codes "k1" ∷ codes "m" ∷ []

pub along_the_chain : AreOrdered (LeadsTo (view plan_chain first_key_held) names_chain) [] (way_to 1 (Variable 0) ∷ way_to 4 (Variable 1) ∷ way_to 2 (Entry 4 1) ∷ way_to 3 (Entry 4 2) ∷ [])
along_the_chain = (
  record { led = refl; comes = tt; first = refl },
  (
    record { led = refl; comes = tt; first = refl },
    (
      record { led = (refl, refl); comes = (refl, (refl, tt)); first = refl },
      (record { led = (refl, refl); comes = (refl, (refl, tt)); first = refl }, tt),
    ),
  ),
)

-- the second entry before the first: its key is not reached yet
pub key_comes_later : AreOrdered (LeadsTo (view plan_chain first_key_held) names_chain) [] (way_to 1 (Variable 0) ∷ way_to 4 (Variable 1) ∷ way_to 3 (Entry 4 2) ∷ way_to 2 (Entry 4 1) ∷ []) → ⊥
key_comes_later all = let e : false ≡ true = all.1.1.0.comes.1.0 in cc

-- the other way round the entry leads nowhere: the key is no WeakMap
pub key_is_no_map : LeadsTo (view plan_chain first_key_held) names_chain (Entry 1 4) 2 → ⊥
key_is_no_map led = let e : ◌≡◌ {A = Option ℕ} None (Some 2) = led.1 in cc

-- no variable holds the first key any more: nothing leads to it, though the entry is still there
pub key_not_held : AreOrdered (LeadsTo (view plan_chain no_key_held) names_chain) [] (way_to 4 (Variable 1) ∷ way_to 2 (Entry 4 1) ∷ []) → ⊥
key_not_held all = let e : false ≡ true = all.1.0.comes.1.0 in cc

pub variable_holds_nothing : LeadsTo (view plan_chain no_key_held) names_chain (Variable 0) 1 → ⊥
variable_holds_nothing led = let e : ◌≡◌ {A = Option ℕ} None (Some 1) = led in cc

-- and once the key is emptied, the entry is gone
pub entry_is_gone : LeadsTo (view plan_chain (Emptied (1 ∷ 2 ∷ 3 ∷ []) ∷ no_key_held)) names_chain (Entry 4 1) 2 → ⊥
entry_is_gone led = let e : ◌≡◌ {A = Option ℕ} None (Some 2) = led.1 in cc

-- A cell: registration 1 of registry 1 has target 2 and holds object 3, whose property p holds 2

abbrev names_held : List (List ℕ)
names_held = codes "r" ∷ []

pub from_the_cell : AreOrdered (LeadsTo (view plan_held forgot_held) names_held) [] (way_to 1 Registry ∷ way_to 3 (Held 1) ∷ way_to 2 (Property 3 0) ∷ [])
from_the_cell = (
  record { led = refl; comes = tt; first = refl },
  (
    record { led = refl; comes = tt; first = refl },
    (record { led = (refl, refl); comes = (refl, tt); first = refl }, tt),
  ),
)

-- the cell holds its held value, and not its target
pub cell_holds_no_target : LeadsTo (view plan_held forgot_held) names_held (Held 1) 2 → ⊥
cell_holds_no_target led = let e : ◌≡◌ {A = Option ℕ} (Some 3) (Some 2) = led in cc

-- there is one registration, and one property
pub no_second_registration : LeadsTo (view plan_held forgot_held) names_held (Held 2) 3 → ⊥
no_second_registration led = let e : ◌≡◌ {A = Option ℕ} None (Some 3) = led in cc

pub no_second_property : LeadsTo (view plan_held forgot_held) names_held (Property 3 1) 2 → ⊥
no_second_property led = let e : ◌≡◌ {A = Option ℕ} None (Some 2) = led.1 in cc

-- what is no registry is no root for that
pub no_registry : LeadsTo (view plan_held forgot_held) names_held Registry 2 → ⊥
no_registry led = let e : false ≡ true = led in cc

-- KeptAlive: the making of WeakRef 2 keeps object 1 until the job ends; the WeakRef itself never leads to it

pub kept_in_its_job : LeadsTo (view plan_weakref forgotten) (codes "w" ∷ []) Kept 1
kept_in_its_job = refl

pub kept_no_more : LeadsTo (view plan_weakref ended) (codes "w" ∷ []) Kept 1 → ⊥
kept_no_more led = let e : false ≡ true = led in cc

pub weakref_leads_nowhere : LeadsTo (view plan_weakref ended) (codes "w" ∷ []) (Property 2 0) 1 → ⊥
weakref_leads_nowhere led = let e : ◌≡◌ {A = Option ℕ} None (Some 1) = led.1 in cc
