-- What the definition `object` finds in the places.
use Rattle.std.proofs.Common.{◌≡◌, ◌≢◌, ℕ, Option, length, map, ap, subst, ◌+◌, ◌-◌, ◌≤◌, ◌<◌, suc, zero, nat_lt, List, [], ◌∷◌, Some, None, refl, arith, if◌then◌else◌, slice_index_or}
use Rattle.std.proofs.lemmas.Bool.Decides.{nat_tests}
use Rattle.std.specs.Option.{option_map_or}
use Rattle.es_props.specs.Heap.{Properties, object, room_at, KeepsRoom, KeepsRoomBut}
use Rattle.es_props.specs.Slots.{SlotView, objects_from, place_at}

nowhere : SlotView
nowhere = record { object = None; room = 0 }

-- an identity below the first is nobody's
below : (ps : List SlotView) (n p : ℕ) → p < n → object (objects_from n ps) p ≡ None
below [] n p less = refl
below (q ∷ ps) n p less =
    let rest : object (objects_from (n + 1) ps) p ≡ None = below ps (n + 1) p (omega (arith, less)) in
    at_place q.object rest
  where
    at_place : (o : Option Properties) → object (objects_from (n + 1) ps) p ≡ None → object (option_map_or (λ o. (n, o) ∷ objects_from (n + 1) ps) o (objects_from (n + 1) ps)) p ≡ None
    at_place None rest = rest
    at_place (Some o) rest = grind (arith, nat_tests, rest, less)

found : (ps : List SlotView) (n i : ℕ) → object (objects_from n ps) (n + i) ≡ (slice_index_or ps i (record { object = None; room = 0 })).object
found [] n i = refl
found (q ∷ ps) n zero = at_place q.object (below ps (n + 1) n (omega arith))
  where
    at_place : (o : Option Properties) → object (objects_from (n + 1) ps) n ≡ None → object (option_map_or (λ o. (n, o) ∷ objects_from (n + 1) ps) o (objects_from (n + 1) ps)) (n + 0) ≡ o
    at_place None rest = grind (arith, nat_tests, rest)
    at_place (Some o) rest = grind (arith, nat_tests)
found (q ∷ ps) n (suc i) = at_place q.object (found ps (n + 1) i)
  where
    at_place : (o : Option Properties) → object (objects_from (n + 1) ps) (n + 1 + i) ≡ (slice_index_or ps i (record { object = None; room = 0 })).object
        → object (option_map_or (λ o. (n, o) ∷ objects_from (n + 1) ps) o (objects_from (n + 1) ps)) (n + suc i) ≡ (slice_index_or ps i (record { object = None; room = 0 })).object
    at_place None rest = grind (arith, nat_tests, rest)
    at_place (Some o) rest = grind (arith, nat_tests, rest)

pub object_of : (ps : List SlotView) (p : ℕ) → object (objects_from 1 ps) p ≡ (if nat_lt 0 p then (place_at ps p).object else None)
object_of ps p =
    let counted : 0 < p → 1 + (p - 1) ≡ p = λ less. omega (arith, less) in
    let here : 0 < p → object (objects_from 1 ps) p ≡ (place_at ps p).object = λ less. subst (λ q. object (objects_from 1 ps) q ≡ (place_at ps p).object) (counted less) (found ps 1 (p - 1)) in
    let nobody : p < 1 → object (objects_from 1 ps) p ≡ None = below ps 1 p in
    grind (arith, nat_tests, here, nobody)

-- the room of a place
index_map : (ps : List SlotView) (i : ℕ) → slice_index_or (map (λ p. p.room) ps) i 0 ≡ (slice_index_or ps i (record { object = None; room = 0 })).room
index_map [] i = refl
index_map (q ∷ ps) zero = refl
index_map (q ∷ ps) (suc i) = index_map ps i

pub room_of : (ps : List SlotView) (p : ℕ) → room_at (map (λ p. p.room) ps) p ≡ (place_at ps p).room
room_of ps p = index_map ps (p - 1)

pub places_of : (ps : List SlotView) → length (map (λ p. p.room) ps) ≡ length ps
places_of [] = refl
places_of (q ∷ ps) = ap (λ n. suc n) (places_of ps)

-- no place is lost, and no room
pub keeps_room : (ss ts : List SlotView) → length ss ≤ length ts → ((p : ℕ) → (place_at ss p).room ≤ (place_at ts p).room) → KeepsRoom (map (λ p. p.room) ss) (map (λ p. p.room) ts)
keeps_room ss ts longer more = record {
  places = let before = places_of ss in let after = places_of ts in omega (arith, longer, before, after);
  rooms = λ p. let before = room_of ss p in let after = room_of ts p in let less = more p in omega (arith, less, before, after);
}

-- no place is lost, and no room but one
pub keeps_room_but : (i : ℕ) (ss ts : List SlotView) → length ss ≤ length ts → ((p : ℕ) → 0 < p → p ≢ i → (place_at ss p).room ≤ (place_at ts p).room)
    → KeepsRoomBut i (map (λ p. p.room) ss) (map (λ p. p.room) ts)
keeps_room_but i ss ts longer more = record {
  places = let before = places_of ss in let after = places_of ts in omega (arith, longer, before, after);
  rooms = λ p positive other. let before = room_of ss p in let after = room_of ts p in let less = more p positive other in omega (arith, less, before, after);
}
