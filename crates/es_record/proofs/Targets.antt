-- The identity that the table keeps tells the target of a WeakRef: an object where the heap has it, and else a symbol.
use Rattle.std.proofs.Common.{◌≡◌, ℕ, Bool, true, false, cond, not, ◌&&◌, sym, ◌∙◌, ap, refl, Option, Some, None}
use Rattle.std.specs.Prelude.{is_some}
use Rattle.std.specs.Option.{option_map_or, option_and_then}
use Rattle.es_value.specs.declared.value.Value.{Value}
use Rattle.es_value.specs.declared.value.Value.TheVariants.{Object, Symbol}
use Rattle.es_props.specs.Heap.{has}
use Rattle.es_event.specs.Commands.{Kind}
use Rattle.es_event.specs.History.{History}
use Rattle.es_event.specs.Identities.{identity, gone, is_gone, is_in, kind}
use Rattle.es_event.specs.Jobs.{Receivers}
use Rattle.es_event.specs.WeakRefs.{first_target, target as target_said}
use Rattle.es_event.specs.Sharing.{Buffers}
use Rattle.es_event.specs.Legal.{LegalBy}
use Rattle.es_event.proofs.Objects.{with_identity, target_told, target_identity}
use Rattle.es_event.proofs.Targets.{target_from}
use Rattle.es_tables.specs.Tables.{TablesView, Says, target}

chosen : (k : Option Kind) (b : Bool) (i : ℕ) → b ≡ (is_some k && not false) → cond b (Object i) (Symbol i) ≡ with_identity k i
chosen None true i e = cc
chosen None false i e = refl
chosen (Some k) true i e = refl
chosen (Some k) false i e = cc

pub value_told : (over : Buffers) (into : Receivers) (h : History) (s : TablesView) → LegalBy over into h → Says into h s → (w i : ℕ) → is_gone h w ≡ false
    → target s.weakrefs w ≡ Some i → target_said h w ≡ Some (cond (has s.heap i) (Object i) (Symbol i))
value_told over into h s legal says w i here is = at_said (target_said h w) refl (sym (says.targets w here) ∙ is)
  where
    at_said : (o : Option Value) → target_said h w ≡ o → option_and_then identity o ≡ Some i → target_said h w ≡ Some (cond (has s.heap i) (Object i) (Symbol i))
    at_said None said e = cc
    at_said (Some v) said e =
        let from = target_from (gone h) (first_target h w) v said in
        let alive : is_gone h i ≡ false = sym (ap (λ o. option_map_or (is_in (gone h)) o false) e) ∙ from.1 in
        said ∙ ap Some (target_told over into h legal w v i from.0 e ∙ sym (chosen (kind h i) (has s.heap i) i (says.objects i ∙ ap (λ g. is_some (kind h i) && not g) alive)))

pub none_told : (over : Buffers) (into : Receivers) (h : History) (s : TablesView) → LegalBy over into h → Says into h s → (w : ℕ) → is_gone h w ≡ false
    → target s.weakrefs w ≡ None → target_said h w ≡ None
none_told over into h s legal says w here is = at_said (target_said h w) refl (sym (says.targets w here) ∙ is)
  where
    at_said : (o : Option Value) → target_said h w ≡ o → option_and_then identity o ≡ None → target_said h w ≡ None
    at_said None said e = said
    at_said (Some v) said e =
        let known = target_identity over into h legal w v (target_from (gone h) (first_target h w) v said).0 in
        let both : Some known.0 ≡ None = sym known.1 ∙ e in
        cc
