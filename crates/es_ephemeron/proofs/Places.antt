-- The records and the room of a key are those of its slot.
use Rattle.std.proofs.Common.{◌≡◌, ◌≤◌, ◌-◌, ◌==◌, ℕ, suc, zero, List, [], ◌∷◌, map, ap, refl, arith, if◌then◌else◌, slice_index_or}
use Rattle.std.proofs.lemmas.Bool.Decides.{nat_tests}
use Rattle.es_ephemeron.specs.Ephemerons.{records_at, room_at, KeepsRoom}
use Rattle.es_ephemeron.specs.Slots.{SlotView, place_at}

index_records : {V : Type 0} (ps : List (SlotView V)) (i : ℕ) → slice_index_or (map (λ p. p.records) ps) i [] ≡ (slice_index_or ps i (record { records = []; room = 0 })).records
index_records [] i = refl
index_records (q ∷ ps) zero = refl
index_records (q ∷ ps) (suc i) = index_records ps i

index_room : {V : Type 0} (ps : List (SlotView V)) (i : ℕ) → slice_index_or (map (λ p. p.room) ps) i 0 ≡ (slice_index_or ps i (record { records = []; room = 0 })).room
index_room [] i = refl
index_room (q ∷ ps) zero = refl
index_room (q ∷ ps) (suc i) = index_room ps i

pub records_of : {V : Type 0} (ps : List (SlotView V)) (k : ℕ) → records_at (map (λ p. p.records) ps) k ≡ (if k == 0 then [] else (place_at ps k).records)
records_of ps k = ap (λ rs. if k == 0 then [] else rs) (index_records ps (k - 1))

pub room_of : {V : Type 0} (ps : List (SlotView V)) (k : ℕ) → room_at (map (λ p. p.room) ps) k ≡ (if k == 0 then 0 else (place_at ps k).room)
room_of ps k = ap (λ n. if k == 0 then 0 else n) (index_room ps (k - 1))

-- no key loses room
pub keeps_room : {V : Type 0} (ss ts : List (SlotView V)) → ((p : ℕ) → (place_at ss p).room ≤ (place_at ts p).room) → KeepsRoom (map (λ p. p.room) ss) (map (λ p. p.room) ts)
keeps_room ss ts more j =
    let before = room_of ss j in
    let after = room_of ts j in
    let less = more j in
    grind (arith, nat_tests, before, after, less)
