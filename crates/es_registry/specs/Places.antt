-- Internal: lists of places by key: for each registry, or each registry and token, where its cells stand.
use Rattle.std.specs.Prelude.{ℕ, ◌≡◌, ◌-◌, ◌<◌, Bool, true, false, nat_eq, List, [], ◌∷◌, Option, Some, None, vec_len, vec_capacity, ⊤}
use Rattle.std.specs.Ordering.{nat_cmp}
use Rattle.std.specs.Option.{option_map_or}
use Rattle.std.specs.declared.hash.FoldHasher.{FoldHasher}
use Rattle.std.specs.declared.hash.BuildHasherDefault.{BuildHasherDefault}
use Rattle.std.specs.HashMap.{get, HashMap}
use Rattle.std.specs.BTreeSet.{contains, BTreeSet}
use Rattle.es_value.specs.Ids.{is_in}
use Rattle.es_registry.specs.declared.places.Kept.{Kept}
use Rattle.es_registry.specs.declared.places.Kept.TheVariants.{Nothing, One, Many}
use Rattle.es_registry.specs.declared.slot.Slot.{Slot}
use Rattle.es_registry.specs.Slots.{passes_at, awaits, has_token, is_of}
use Rattle.es_registry.specs.Registries.{pair_eq}

-- places, and for how many more there is room
pub record PlacesView : Type 0 where
  pub items : List ℕ
  pub room : ℕ

abbrev pub listing_of : Kept → PlacesView
listing_of Nothing = record { items = []; room = 1 }
listing_of (One k) = record { items = k ∷ []; room = 0 }
listing_of (Many ks) = record { items = ks.value.items; room = vec_capacity ks.value - vec_len ks.value }

-- for each registry the places of cells that may await their callback
abbrev pub Waiting : Type 0
Waiting = HashMap ℕ (BTreeSet ℕ) (BuildHasherDefault FoldHasher)

-- place k is listed for registry r
abbrev pub waits : Waiting → ℕ → ℕ → Bool
waits w r k = option_map_or (λ s. contains nat_cmp s k) (get nat_eq w r) false

-- for each registry and token the places of the cells that were registered with them
abbrev pub Tokens : Type 0
Tokens = HashMap (ℕ × ℕ) PlacesView (BuildHasherDefault FoldHasher)

-- the places listed for registry r and token t
abbrev pub listed : Tokens → ℕ → ℕ → List ℕ
listed m r t = option_map_or (λ p. p.items) (get pair_eq m (r, t)) []

-- for how many more places there is room in the list of registry r and token t
abbrev pub spare_at : Tokens → ℕ → ℕ → ℕ
spare_at m r t = option_map_or (λ p. p.room) (get pair_eq m (r, t)) 0

-- a place can be listed for r and the token, if there is one
abbrev pub CanList : Tokens → ℕ → Option ℕ → Type 0
CanList m r None = ⊤
CanList m r (Some t) = 0 < spare_at m r t

-- each cell that is there is listed under its registry and token, and where its target was emptied
-- also under its registry; and a place that is listed under a registry has a cell of it, so that what
-- awaits its callback is found without passing over what is gone
pub record IsIndexed (cells : List Slot) (tokens : Tokens) (waiting : Waiting) : Type 0 where
  pub by_token : (r t k : ℕ) → passes_at (has_token r t) cells k ≡ true → is_in (listed tokens r t) k ≡ true
  pub by_registry : (r k : ℕ) → passes_at (awaits r) cells k ≡ true → waits waiting r k ≡ true
  pub there : (r k : ℕ) → waits waiting r k ≡ true → passes_at (is_of r) cells k ≡ true
