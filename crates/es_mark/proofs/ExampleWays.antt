-- Examples of ways: a list that the definitions accept, and its neighbours, which they refuse.
use Rattle.std.proofs.Common.{◌≡◌, ℕ, ◌==◌, ◌&&◌, Bool, true, false, [], ◌∷◌, refl, if◌then◌else◌}
use Rattle.es_mark.specs.declared.step.Step.{Step}
use Rattle.es_mark.specs.declared.step.Step.TheVariants.{Variable, Kept, Registry, Held, Property, Entry}
use Rattle.es_mark.specs.Ways.{AreOrdered, IsReached, AreWays, IsWithin, AreShortest}
use Rattle.es_mark.specs.Search.{way_to}

-- variable 0 holds object 1, whose first property holds WeakMap 2; this has the value 3 under key 1, and the value 4 under key 5. The cell of
-- registration 7 holds 3 too
abbrev leads_test : Step → ℕ → Bool
leads_test (Variable n) i = (n == 0) && (i == 1)
leads_test Kept i = false
leads_test Registry i = false
leads_test (Held n) i = (n == 7) && (i == 3)
leads_test (Property o n) i = (o == 1) && ((n == 0) && (i == 2))
leads_test (Entry m k) i = (m == 2) && (if k == 1 then i == 3 else (k == 5) && (i == 4))

abbrev leads : Step → ℕ → Type 0
leads s i = leads_test s i ≡ true

-- each comes after what it comes from: the cell before the variable, or after it

pub in_order : AreOrdered leads [] (way_to 1 (Variable 0) ∷ way_to 3 (Held 7) ∷ way_to 2 (Property 1 0) ∷ [])
in_order = (
  record { led = refl; comes = tt; first = refl },
  (
    record { led = refl; comes = tt; first = refl },
    (record { led = refl; comes = (refl, tt); first = refl }, tt),
  ),
)

-- an entry comes after its WeakMap and its key
pub by_entry : AreOrdered leads [] (way_to 1 (Variable 0) ∷ way_to 2 (Property 1 0) ∷ way_to 3 (Entry 2 1) ∷ [])
by_entry = (
  record { led = refl; comes = tt; first = refl },
  (
    record { led = refl; comes = (refl, tt); first = refl },
    (record { led = refl; comes = (refl, (refl, tt)); first = refl }, tt),
  ),
)

-- a way that begins nowhere: no way leads to its object
pub begins_nowhere : AreOrdered leads [] (way_to 2 (Property 1 0) ∷ way_to 1 (Variable 0) ∷ []) → ⊥
begins_nowhere all = let e : false ≡ true = all.0.comes.0 in cc

-- a way by an entry whose key is not reached
pub key_not_reached : AreOrdered leads [] (way_to 1 (Variable 0) ∷ way_to 2 (Property 1 0) ∷ way_to 4 (Entry 2 5) ∷ []) → ⊥
key_not_reached all = let e : false ≡ true = all.1.1.0.comes.1.0 in cc

-- a way by an entry whose WeakMap comes later
pub map_not_reached : AreOrdered leads [] (way_to 1 (Variable 0) ∷ way_to 3 (Entry 2 1) ∷ way_to 2 (Property 1 0) ∷ []) → ⊥
map_not_reached all = let e : false ≡ true = all.1.0.comes.0 in cc

-- a step that leads elsewhere
pub leads_elsewhere : AreOrdered leads [] (way_to 2 (Variable 0) ∷ []) → ⊥
leads_elsewhere all = let e : false ≡ true = all.0.led in cc

-- two ways to one value
pub stands_twice : AreOrdered leads [] (way_to 1 (Variable 0) ∷ way_to 1 (Variable 0) ∷ []) → ⊥
stands_twice all = let e : true ≡ false = all.1.0.first in cc

-- a value left out: 2 is reached
pub reached : IsReached leads 2
reached t closed = closed (Property 1 0) 2 refl (closed (Variable 0) 1 refl tt, tt)

pub left_out : AreWays leads (way_to 1 (Variable 0) ∷ way_to 3 (Held 7) ∷ []) → ⊥
left_out ways = let e : false ≡ true = ways.every 2 reached in cc

-- the way to 3 by the cell is shortest, and that by the entry is not, as one step leads there
pub by_cell_shortest : IsWithin leads 1 3
by_cell_shortest = (Held 7, refl, tt)

pub by_entry_longer : AreShortest leads (way_to 1 (Variable 0) ∷ way_to 2 (Property 1 0) ∷ way_to 3 (Entry 2 1) ∷ []) → ⊥
by_entry_longer all = (all.1.1.0 0 by_cell_shortest).0

-- three steps lead to 3 by the entry: to its key in one, to its WeakMap in two
pub entry_within : IsWithin leads 3 3
entry_within = (Entry 2 1, refl, ((Property 1 0, refl, ((Variable 0, refl, tt), tt)), ((Variable 0, refl, tt), tt)))
