-- Objects, member by member, in whatever order the members come.
use Rattle.std.proofs.Common.{◌≡◌, ℕ, ◌+◌, ◌-◌, ◌≤◌, List, ◌∷◌, Option, Some, None, refl, arith}
use Rattle.json.specs.Token.{Token}
use Rattle.json.specs.Json.{read_key}
use Rattle.json.proofs.Grammar.{read_key-shorter}
use Rattle.serde_json.specs.Data.{Data, object, Members, no_members, put}
use Rattle.es_script.specs.Taking.{Took, TookMembers}
use Rattle.es_script.specs.Drafts.{IsKept}
use Rattle.es_script.proofs.Taking.{takes_object, takes_member, takes_close}

-- behind the brace that opens it
pub took_none : (levels : ℕ) (old now : List Token) → old ≡ Token.begin_object ∷ now → TookMembers levels no_members old now
took_none levels old now opened =
    record {
      taken = λ ms r rest depth h. rw opened (takes_object depth now r ms (omega (arith, h)) (rest (depth - 1) (omega (arith, h))));
      shorter = rw opened (omega arith);
    }

-- one member more
pub took_put : {A : Type 0} (levels inside : ℕ) (Of : Data → A → Type 0) (found : Members) (old now s t : List Token) (k : List ℕ) (x : A) → inside ≤ levels → TookMembers levels found old now → read_key now ≡ Some (Some k, s)
    → (value : Took inside Of s x t) → TookMembers levels (put k value.value found) old t
took_put levels inside Of found old now s t k x within so_far key value =
    let less = read_key-shorter now (Some k) s key in
    record {
      taken = λ ms r rest. so_far.taken ms r (λ depth h. takes_member depth found now s t r k value.value ms key value.shorter (value.taken depth (omega (arith, h, within))) (rest depth h));
      shorter = omega (arith, so_far.shorter, value.shorter, less);
    }

-- up to the brace that closes it
pub took_object : {A : Type 0} (levels : ℕ) (Of : Data → A → Type 0) (x : A) (found : Members) (old now new : List Token) → TookMembers levels found old now → read_key now ≡ Some (None, new) → Of (object found) x → Took (levels + 1) Of old x new
took_object levels Of x found old now new so_far closed is =
    let less = read_key-shorter now None new closed in
    record {
      value = object found;
      taken = so_far.taken found new (λ depth h. takes_close depth found now new closed);
      is = is;
      shorter = omega (arith, so_far.shorter, less);
    }

-- the value that something is kept of
pub kept_some : {A : Type 0} (Of : Data → A → Type 0) (value : Option Data) (x : A) → IsKept Of value (Some x) → (d : Data) × (value ≡ Some d) × Of d x
kept_some Of None x h = absurd h
kept_some Of (Some d) x h = (d, refl, h)
