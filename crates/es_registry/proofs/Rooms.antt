-- Room for one more registration.
use Rattle.std.proofs.Common.{◌≡◌, ℕ, Bool, true, false, cond, List, [], ◌∷◌, Option, Some, None, Result, Ok, Err, OnOk, OnErr, map, refl}
use Rattle.std.specs.Option.{option_map_or}
use Rattle.std.specs.Map.{lookup}
use Rattle.es_registry.specs.Places.{Tokens, PlacesView, CanList}
use Rattle.es_registry.specs.Registries.{pair_eq, room_at, HasTokenRoom}

abbrev pub rooms_of : List ((ℕ × ℕ) × PlacesView) → List ((ℕ × ℕ) × ℕ)
rooms_of es = map (λ e. (e.0, e.1.room)) es

room_found : (es : List ((ℕ × ℕ) × PlacesView)) (r k : ℕ) → room_at (rooms_of es) r k ≡ option_map_or (λ p. p.room) (lookup (pair_eq (r, k)) es) 0
room_found [] r k = refl
room_found (e ∷ es) r k = by_key (pair_eq (r, k) e.0) (room_found es r k)
  where
    by_key : (b : Bool) → room_at (rooms_of es) r k ≡ option_map_or (λ p. p.room) (lookup (pair_eq (r, k)) es) 0
        → cond b e.1.room (room_at (rooms_of es) r k) ≡ option_map_or (λ p. p.room) (cond b (Some e.1) (lookup (pair_eq (r, k)) es)) 0
    by_key true rest = refl
    by_key false rest = rest

pub can_list : (m : Tokens) (r : ℕ) (token : Option ℕ) → HasTokenRoom (rooms_of m.entries) r token → CanList m r token
can_list m r None can = tt
can_list m r (Some k) can = rw room_found at can

pub has_token_room : (m : Tokens) (r : ℕ) (token : Option ℕ) → CanList m r token → HasTokenRoom (rooms_of m.entries) r token
has_token_room m r None can = tt
has_token_room m r (Some k) can = rw room_found can

-- what follows from either outcome
pub either_way : {T E P Q R : Type 0} (r : Result T E) → OnOk r P → OnErr r Q → (P → R) → (Q → R) → R
either_way (Ok x) p q f g = f p
either_way (Err e) p q f g = g q
