-- The tables still say what the history says after values were emptied.
use Rattle.std.proofs.Common.{◌≡◌, ℕ, ◌+◌, ◌||◌, ◌&&◌, not, Bool, true, false, cond, nat_lt, nat_le, sym, ◌∙◌, ap, refl, arith, List, [], ◌∷◌, ◌++◌, map, length, Option, Some, None, if◌then◌else◌, reverse}
use Rattle.std.specs.Prelude.{is_some}
use Rattle.std.specs.Option.{option_map_or, option_and_then}
use Rattle.std.proofs.lemmas.Bool.Decides.{nat_tests}
use Rattle.es_value.specs.declared.value.Value.{Value}
use Rattle.es_props.specs.Heap.{Properties, object, keys_of, value_at}
use Rattle.es_weakref.specs.WeakRefs.{target, unless_among}
use Rattle.es_ephemeron.specs.Ephemerons.{record_at}
use Rattle.es_event.specs.declared.event.Event.TheVariants.{Emptied}
use Rattle.es_event.specs.Commands.{Kind}
use Rattle.es_event.specs.Sharing.{Buffers}
use Rattle.es_event.specs.History.{History}
use Rattle.es_event.specs.Identities.{identity, made, gone, is_gone, is_in, has_identity_in, kind}
use Rattle.es_event.specs.Jobs.{Receivers}
use Rattle.es_event.specs.WeakRefs.{first_target, unless_gone}
use Rattle.es_event.specs.Ephemerons.{first_entry, first_member}
use Rattle.es_event.proofs.Lists.{in_both, out_of_both}
use Rattle.es_tables.specs.Tags.{tag_of}
use Rattle.es_event.specs.Order.{queue}
use Rattle.es_event.specs.Legal.{LegalBy}
use Rattle.es_registry.specs.Slots.{emptied}
use Rattle.es_tables.proofs.Queued.{joined}
use Rattle.es_tables.proofs.Slots.{slots_emptied}
use Rattle.es_tables.specs.Tables.{TablesView, Says, Emptying}
use Rattle.es_tables.proofs.Weak.{dropped}

-- an object is there unless it is among these
left_of : (b s g : Bool) (o : Option Properties) → is_some o ≡ (s && not g) → is_some (cond b None o) ≡ (s && not (b || g))
left_of true true g o e = refl
left_of true false g o e = refl
left_of false s g o e = e

-- a target that was there stays unless it is among these
aimed_still : (ids : List ℕ) (gone : List ℕ) (s : Option ℕ) (f : Option Value) → s ≡ option_and_then identity (option_and_then (unless_gone gone) f)
    → option_and_then (unless_among ids) s ≡ option_and_then identity (option_and_then (unless_gone (ids ++ gone)) f)
aimed_still ids gone s None e = ap (option_and_then (unless_among ids)) e
aimed_still ids gone s (Some v) e = ap (option_and_then (unless_among ids)) e ∙ at_value (identity v) (has_identity_in gone v) refl refl
  where
    there : (o : Option ℕ) (g : Bool) → identity v ≡ o → g ≡ has_identity_in gone v → has_identity_in (ids ++ gone) v ≡ (option_map_or (is_in ids) o false || g)
    there None g is e = ap (λ o. option_map_or (is_in (ids ++ gone)) o false) is ∙ sym (e ∙ ap (λ o. option_map_or (is_in gone) o false) is)
    there (Some i) g is e =
        ap (λ o. option_map_or (is_in (ids ++ gone)) o false) is
        ∙ in_both ids gone i
        ∙ ap (λ b. is_in ids i || b) (sym (e ∙ ap (λ o. option_map_or (is_in gone) o false) is))

    or_true : (b : Bool) → (b || true) ≡ true
    or_true true = refl
    or_true false = refl

    or_false : (b : Bool) → (b || false) ≡ b
    or_false true = refl
    or_false false = refl

    unless : (b : Bool) (i : ℕ) → identity v ≡ Some i → cond b None (Some i) ≡ option_and_then identity (cond b None (Some v))
    unless true i is = refl
    unless false i is = sym is

    kept_target : (o : Option ℕ) → identity v ≡ o → option_and_then (unless_among ids) o ≡ option_and_then identity (cond (option_map_or (is_in ids) o false) None (Some v))
    kept_target None is = sym is
    kept_target (Some i) is = unless (is_in ids i) i is

    at_value : (o : Option ℕ) (g : Bool) → identity v ≡ o → g ≡ has_identity_in gone v
        → option_and_then (unless_among ids) (option_and_then identity (cond (has_identity_in gone v) None (Some v))) ≡ option_and_then identity (cond (has_identity_in (ids ++ gone) v) None (Some v))
    at_value o true is g =
        ap (λ b. option_and_then (unless_among ids) (option_and_then identity (cond b None (Some v)))) (sym g)
        ∙ ap (λ b. option_and_then identity (cond b None (Some v))) (sym (there o true is g ∙ or_true (option_map_or (is_in ids) o false)))
    at_value o false is g =
        ap (λ b. option_and_then (unless_among ids) (option_and_then identity (cond b None (Some v)))) (sym g)
        ∙ ap (option_and_then (unless_among ids)) is
        ∙ kept_target o is
        ∙ ap (λ b. option_and_then identity (cond b None (Some v))) (sym (there o false is g ∙ or_false (option_map_or (is_in ids) o false)))

-- a tag stays unless its identity is among these
shown_emptied : (b g : Bool) (i m : ℕ) (k : Option Kind)
    → (if b then None else (if (nat_lt 0 i && nat_le i m) && not g then Some (tag_of k) else None)) ≡ (if (nat_lt 0 i && nat_le i (0 + m)) && not (b || g) then Some (tag_of k) else None)
shown_emptied true g i m k = grind (arith, nat_tests)
shown_emptied false g i m k = grind (arith, nat_tests)

some_left : {A : Type 0} (b : Bool) (o : Option A) → is_some (cond b None o) ≡ cond b false (is_some o)
some_left true o = refl
some_left false o = refl

pub says_emptied : (over : Buffers) (into : Receivers) (h : History) (s t : TablesView) (ids : List ℕ) → LegalBy over into h → Says into h s → Emptying s ids t → Says into (Emptied ids ∷ h) t
says_emptied over into h s t ids legal says new = record {
  variables = λ x. new.variables x ∙ says.variables x;
  objects = λ o.
      ap is_some (new.objects o) ∙ left_of (is_in ids o) (is_some (kind h o)) (is_gone h o) (object s.heap o) (says.objects o)
      ∙ ap (λ g. is_some (kind h o) && not g) (sym (in_both ids (gone h) o));
  properties = λ o k here. let out = out_of_both ids (gone h) o here in
      ap (option_and_then (λ ps. value_at ps k)) (new.objects o ∙ ap (λ b. cond b None (object s.heap o)) out.0) ∙ says.properties o k out.1;
  keys = λ o here. let out = out_of_both ids (gone h) o here in
      ap (λ ps. option_map_or keys_of ps []) (new.objects o ∙ ap (λ b. cond b None (object s.heap o)) out.0) ∙ says.keys o out.1;
  targets = λ w here. let out = out_of_both ids (gone h) w here in
      new.targets w ∙ ap (λ b. cond b None (option_and_then (unless_among ids) (target s.weakrefs w))) out.0
      ∙ aimed_still ids (gone h) (target s.weakrefs w) (first_target h w) (says.targets w out.1);
  kept = ap (λ k. reverse k) new.kept ∙ says.kept;
  entries = λ m k. new.entries m k ∙ ap (cond (is_in ids m || is_in ids k) None) (says.entries m k) ∙ dropped None ids h m k (first_entry h m k);
  members = λ m k. ap is_some (new.members m k) ∙ some_left (is_in ids m || is_in ids k) (record_at s.weak.members.all m k)
      ∙ ap (cond (is_in ids m || is_in ids k) false) (says.members m k) ∙ dropped false ids h m k (first_member h m k);
  callbacks = λ r. new.callbacks r ∙ says.callbacks r;
  cells = new.cells ∙ ap (map (emptied ids)) says.cells ∙ slots_emptied ids h;
  queue = new.queue.1 ∙ ap (λ q. q ++ new.queue.0) says.queue ∙ ap (λ q. queue h ++ q) (joined over into h s ids new.queue.0 legal says new.queue.2);
  tags = λ i positive. new.tags i positive
      ∙ ap (λ o. if is_in ids i then None else o) (says.tags i positive)
      ∙ shown_emptied (is_in ids i) (is_gone h i) i (made h) (kind h i)
      ∙ ap (λ g. if (nat_lt 0 i && nat_le i (0 + made h)) && not g then Some (tag_of (kind h i)) else None) (sym (in_both ids (gone h) i));
  made = let same : length t.tags.all ≡ made h = new.made ∙ says.made in omega (arith, same);
}
