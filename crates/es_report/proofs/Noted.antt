-- What commands say of registrations, as the definitions say it.
use Rattle.std.proofs.Common.{◌≡◌, ℕ, Bool, true, false, cond, ◌∙◌, ap, refl, List, [], ◌∷◌, Option, Some, None}
use Rattle.std.specs.Prelude.{unwrap_or}
use Rattle.std.specs.Option.{option_map, option_map_or, option_or}
use Rattle.es_value.specs.declared.value.Value.{Value}
use Rattle.es_value.specs.declared.value.Value.TheVariants.{Object}
use Rattle.es_event.specs.declared.event.Answer.{Answer}
use Rattle.es_event.specs.declared.event.Event.TheVariants.{Did}
use Rattle.es_event.specs.declared.command.Command.{Command}
use Rattle.es_event.specs.declared.command.Command.TheVariants.{Register, Unregister}
use Rattle.es_event.specs.Commands.{first}
use Rattle.es_event.specs.History.{History}
use Rattle.es_event.specs.Identities.{identity}
use Rattle.es_event.specs.Registrations.{Cell, registers_by, unregistered, is_under, unregisters_by, removes}
use Rattle.es_report.specs.declared.registered.Made.{Made}
use Rattle.es_report.specs.Registered.{made_of, made_by, made_with, named_by, identity_at}

made_here : (r : ℕ) (held : Value) (rest : List Value) (w : Value) (o : Option ℕ) → identity_at (Object r ∷ w ∷ held ∷ rest) 3 ≡ identity (first rest)
    → option_map (made_with (Object r ∷ w ∷ held ∷ rest) r) o ≡ option_map made_of (option_map (λ i. record { registry = r; target = i; held = held; token = identity (first rest) }) o)
made_here r held rest w None e = refl
made_here r held rest w (Some i) e = ap (λ t. Some (record { registry = r; target = i; token = t })) e

token_here : (r w held : Value) (rest : List Value) → identity_at (r ∷ w ∷ held ∷ rest) 3 ≡ identity (first rest)
token_here r w held [] = refl
token_here r w held (t ∷ rest) = refl

pub made_is : (c : Command) (vs : List Value) → made_by c vs ≡ option_map made_of (registers_by c vs)
made_is (Register q y v t) [] = refl
made_is (Register q y v t) (Object r ∷ []) = refl
made_is (Register q y v t) (_ ∷ []) = refl
made_is (Register q y v t) (Object r ∷ w ∷ []) = refl
made_is (Register q y v t) (_ ∷ w ∷ []) = refl
made_is (Register q y v t) (Object r ∷ w ∷ held ∷ rest) = made_here r held rest w (identity w) (token_here (Object r) w held rest)
made_is (Register q y v t) (_ ∷ w ∷ held ∷ rest) = refl
made_is _ vs = refl

named_here : (h : History) (n r : ℕ) (o : Option ℕ) → option_map_or (λ i. is_under h r i n) o false ≡ option_map_or (λ (k : ℕ × ℕ). is_under h k.0 k.1 n) (option_map (λ i. (r, i)) o) false
named_here h n r None = refl
named_here h n r (Some i) = refl

pub named_is : (c : Command) (vs : List Value) (h : History) (n : ℕ) → unregisters_by c vs h n ≡ option_map_or (λ (k : ℕ × ℕ). is_under h k.0 k.1 n) (named_by c vs) false
named_is (Unregister to q t) [] h n = refl
named_is (Unregister to q t) (Object r ∷ []) h n = refl
named_is (Unregister to q t) (_ ∷ []) h n = refl
named_is (Unregister to q t) (Object r ∷ w ∷ []) h n = named_here h n r (identity w)
named_is (Unregister to q t) (_ ∷ w ∷ []) h n = refl
named_is (Unregister to q t) (Object r ∷ w ∷ x ∷ rest) h n = refl
named_is (Unregister to q t) (_ ∷ w ∷ x ∷ rest) h n = refl
named_is _ vs h n = refl

-- a command that makes a registration names none
pub makes_alone : (c : Command) (vs : List Value) (q : Cell) → registers_by c vs ≡ Some q → named_by c vs ≡ None
makes_alone (Unregister to q t) vs c e = cc
makes_alone _ vs c e = refl

pub or_none : {A : Type 0} (a : Option A) → option_or a None ≡ a
or_none None = refl
or_none (Some x) = refl

pub either_cell : (b : Bool) (q : Cell) (o : Option Cell) (k : Option Made) → option_map made_of o ≡ k → option_map made_of (unwrap_or (cond b (Some (Some q)) None) o) ≡ cond b (Some (made_of q)) k
either_cell true q o k e = refl
either_cell false q o k e = e

-- a command that names none takes none out
pub unmoved_by : (c : Command) (vs : List Value) (a : Answer) (h : History) → named_by c vs ≡ None → (n : ℕ) → removes n h (Did (c, vs, a)) ≡ None
unmoved_by c vs a h none n =
    ap (λ b. cond b (Some unregistered) None) (named_is c vs h n) ∙ ap (λ o. cond (option_map_or (λ (k : ℕ × ℕ). is_under h k.0 k.1 n) o false) (Some unregistered) None) none
