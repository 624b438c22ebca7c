-- What is reached, computed: a list that is closed, and to each of whose members a chain of steps leads.
use Rattle.std.proofs.Common.{◌≡◌, ℕ, ◌==◌, ◌&&◌, Bool, true, false, cond, sym, ◌∙◌, refl, subst, List, [], ◌∷◌, ◌++◌, map, Option, Some, None, inl, inr}
use Rattle.std.specs.List.{list_all}
use Rattle.std.specs.Option.{option_map, option_map_or, option_and_then, option_to_list}
use Rattle.std.proofs.lemmas.Bool.{eq-eqb, and_parts, and_from, or_left, or_right, or_cases}
use Rattle.std.proofs.lemmas.List.Folds.{list_all-append, list_all-map}
use Rattle.es_value.specs.declared.value.Value.{Value}
use Rattle.es_event.specs.History.{History}
use Rattle.es_event.specs.Identities.{identity, is_in}
use Rattle.es_event.specs.Jobs.{Receivers}
use Rattle.es_event.specs.Variables.{var, assigned}
use Rattle.es_event.specs.Properties.{prop}
use Rattle.es_event.specs.WeakRefs.{kept}
use Rattle.es_event.specs.Ephemerons.{entry}
use Rattle.es_event.specs.Registrations.{Cell, callback, numbered_cell, cell, fate, is_present}
use Rattle.es_event.specs.Reach.{IsClosed, IsReached, LedTo, by_variable, by_keeping, by_registry, by_cell, by_property, by_entry}
use Rattle.es_event.proofs.Lists.{in_both, in_option}
use Rattle.es_event.proofs.Deciding.{implies, implies_true, said, all_born, all_puts, all_entered, registry_at, held_at, if_present, closed_variable, closed_registry, closed_cell, closed_property, closed_entry}

-- Rules: where a set has all of the first, it has the second, if there is one

abbrev pub Rule : Type 0
Rule = List ℕ × Option ℕ

abbrev pub has_each : List ℕ → List ℕ → Bool
has_each ids [] = true
has_each ids (i ∷ []) = is_in ids i
has_each ids (i ∷ j ∷ js) = is_in ids i && has_each ids (j ∷ js)

abbrev pub has : List ℕ → Option ℕ → Bool
has ids o = option_map_or (is_in ids) o true

abbrev pub obeys : List ℕ → Rule → Bool
obeys ids r = implies (has_each ids r.0) (has ids r.1)

abbrev Has : (ℕ → Type 0) → Option ℕ → Type 0
Has P None = Unit {0}
Has P (Some i) = P i

abbrev HasEach : (ℕ → Type 0) → List ℕ → Type 0
HasEach P [] = Unit {0}
HasEach P (i ∷ is) = P i × HasEach P is

abbrev Respects : (ℕ → Type 0) → List Rule → Type 0
Respects P [] = Unit {0}
Respects P (r ∷ rs) = (HasEach P r.0 → Has P r.1) × Respects P rs

respects_map : {K : Type 0} (P : ℕ → Type 0) (rule : K → Rule) → ((k : K) → HasEach P (rule k).0 → Has P (rule k).1) → (ks : List K) → Respects P (map rule ks)
respects_map P rule each [] = tt
respects_map P rule each (k ∷ ks) = (each k, respects_map P rule each ks)

respects_both : (P : ℕ → Type 0) (rs ss : List Rule) → Respects P rs → Respects P ss → Respects P (rs ++ ss)
respects_both P [] ss a b = b
respects_both P (r ∷ rs) ss a b = (a.0, respects_both P rs ss a.1 b)

-- a list with all of ids that obeys the rules, and has nothing but what P has
pub record Closing (P : ℕ → Type 0) (rules : List Rule) (ids : List ℕ) : Type 0 where
  pub list : List ℕ
  pub grows : (i : ℕ) → is_in ids i ≡ true → is_in list i ≡ true
  pub closed : list_all (obeys list) rules ≡ true
  pub only : (i : ℕ) → is_in list i ≡ true → P i

had_each : (P : ℕ → Type 0) (ids needs : List ℕ) → ((i : ℕ) → is_in ids i ≡ true → P i) → has_each ids needs ≡ true → HasEach P needs
had_each P ids [] only e = tt
had_each P ids (i ∷ []) only e = (only i e, tt)
had_each P ids (i ∷ j ∷ js) only e = let both = and_parts (is_in ids i) (has_each ids (j ∷ js)) e in (only i both.0, had_each P ids (j ∷ js) only both.1)

option_had : (P : ℕ → Type 0) (o : Option ℕ) (i : ℕ) → Has P o → o ≡ Some i → P i
option_had P o i h e = let at : Has P (Some i) = subst (Has P) e h in at

has_own : (ids : List ℕ) (o : Option ℕ) (jds : List ℕ) → ((i : ℕ) → is_in (option_to_list o ++ ids) i ≡ true → is_in jds i ≡ true) → has jds o ≡ true
has_own ids None jds sub = refl
has_own ids (Some i) jds sub = sub i (or_left (i == i) (is_in ids i) (eq-eqb i i refl))

-- one more rule: where the list has its first, the list is closed once more with its second
one_rule : (P : ℕ → Type 0) (r : Rule) (rs : List Rule) (ids : List ℕ) → (HasEach P r.0 → Has P r.1)
    → ((jds : List ℕ) → ((i : ℕ) → is_in jds i ≡ true → P i) → Closing P rs jds)
    → (c : Closing P rs ids) (b : Bool) → has_each c.list r.0 ≡ b → Closing P (r ∷ rs) ids
one_rule P r rs ids respects again c false e = record {
  list = c.list;
  grows = c.grows;
  closed = and_from (obeys c.list r) (list_all (obeys c.list) rs) (subst (λ b. implies b (has c.list r.1) ≡ true) (sym e) refl) c.closed;
  only = c.only;
}
one_rule P r rs ids respects again c true e =
    let new : Has P r.1 = respects (had_each P c.list r.0 c.only e) in
    let more : Closing P rs (option_to_list r.1 ++ c.list) = again (option_to_list r.1 ++ c.list) (λ i m.
    elim (or_cases (is_in (option_to_list r.1) i) (is_in c.list i) (sym (in_both (option_to_list r.1) c.list i) ∙ m)) [
      | inl a ↦ option_had P r.1 i new (in_option r.1 i a)
      | inr b ↦ c.only i b
    ]) in
    record {
      list = more.list;
      grows = λ i m. more.grows i (in_both (option_to_list r.1) c.list i ∙ or_right (is_in (option_to_list r.1) i) (is_in c.list i) (c.grows i m));
      closed = and_from (obeys more.list r) (list_all (obeys more.list) rs)
          (subst (λ b. implies (has_each more.list r.0) b ≡ true) (sym (has_own c.list r.1 more.list more.grows)) (implies_true (has_each more.list r.0))) more.closed;
      only = more.only;
    }

pub closing : (P : ℕ → Type 0) (rs : List Rule) → Respects P rs → (ids : List ℕ) → ((i : ℕ) → is_in ids i ≡ true → P i) → Closing P rs ids
closing P [] respects ids all = record { list = ids; grows = λ i m. m; closed = refl; only = all }
closing P (r ∷ rs) respects ids all =
    let before : Closing P rs ids = closing P rs respects.1 ids all in
    one_rule P r rs ids respects.0 (λ jds each. closing P rs respects.1 jds each) before (has_each before.list r.0) refl

-- What is reached

abbrev pub of_variable : Receivers → History → List ℕ → Rule
of_variable into h x = ([], identity (var into h x))

abbrev pub of_registry : History → ℕ → Rule
of_registry h r = ([], registry_at h r)

abbrev pub of_cell : History → ℕ → Rule
of_cell h n = ([], held_at h n)

abbrev pub of_property : History → ℕ × List ℕ → Rule
of_property h p = (p.0 ∷ [], option_and_then identity (prop h p.0 p.1))

abbrev pub of_entry : History → ℕ × ℕ → Rule
of_entry h p = (p.0 ∷ p.1 ∷ [], option_and_then identity (entry h p.0 p.1))

-- the rules of all keys that are said, kind by kind
abbrev pub of_variables : Receivers → History → List Rule
of_variables into h = map (of_variable into h) (said (assigned into) h)

abbrev pub of_registries : History → List Rule
of_registries h = map (of_registry h) (said all_born h)

abbrev pub of_cells : History → List Rule
of_cells h = map (of_cell h) (said numbered_cell h)

abbrev pub of_properties : History → List Rule
of_properties h = map (of_property h) (said all_puts h)

abbrev pub of_entries : History → List Rule
of_entries h = map (of_entry h) (said all_entered h)

abbrev pub rules_of : Receivers → History → List Rule
rules_of into h = of_variables into h ++ (of_registries h ++ (of_cells h ++ (of_properties h ++ of_entries h)))

variable_led : (into : Receivers) (h : History) (x : List ℕ) (o : Option ℕ) → identity (var into h x) ≡ o → Has (LedTo into h) o
variable_led into h x None e = tt
variable_led into h x (Some i) e = by_variable x i e

registry_led : (into : Receivers) (h : History) (r : ℕ) (o : Option ℕ) → callback h r ≡ o → Has (LedTo into h) (option_map (λ c. r) o)
registry_led into h r None e = tt
registry_led into h r (Some c) e = by_registry r c e

at_cell : (into : Receivers) (h : History) (n : ℕ) (c : Cell) (b : Bool) (i : Option ℕ) → cell h n ≡ Some c → is_present (fate h n) ≡ b → identity c.held ≡ i → Has (LedTo into h) (cond b i None)
at_cell into h n c false i e present f = tt
at_cell into h n c true None e present f = tt
at_cell into h n c true (Some i) e present f = by_cell n c i e present f

cell_led : (into : Receivers) (h : History) (n : ℕ) (o : Option Cell) → cell h n ≡ o → Has (LedTo into h) (if_present h n o)
cell_led into h n None e = tt
cell_led into h n (Some c) e = at_cell into h n c (is_present (fate h n)) (identity c.held) e refl refl

at_property : (into : Receivers) (h : History) (o : ℕ) (k : List ℕ) (v : Value) (i : Option ℕ) → LedTo into h o → prop h o k ≡ Some v → identity v ≡ i → Has (LedTo into h) i
at_property into h o k v None l e f = tt
at_property into h o k v (Some i) l e f = by_property o k v i l e f

property_led : (into : Receivers) (h : History) (o : ℕ) (k : List ℕ) (p : Option Value) → prop h o k ≡ p → LedTo into h o → Has (LedTo into h) (option_and_then identity p)
property_led into h o k None e l = tt
property_led into h o k (Some v) e l = at_property into h o k v (identity v) l e refl

at_entry : (into : Receivers) (h : History) (w k : ℕ) (v : Value) (i : Option ℕ) → LedTo into h w → LedTo into h k → entry h w k ≡ Some v → identity v ≡ i → Has (LedTo into h) i
at_entry into h w k v None a b e f = tt
at_entry into h w k v (Some i) a b e f = by_entry w k v i a b e f

entry_led : (into : Receivers) (h : History) (w k : ℕ) (p : Option Value) → entry h w k ≡ p → LedTo into h w → LedTo into h k → Has (LedTo into h) (option_and_then identity p)
entry_led into h w k None e a b = tt
entry_led into h w k (Some v) e a b = at_entry into h w k v (identity v) a b e refl

respected : (into : Receivers) (h : History) → Respects (LedTo into h) (rules_of into h)
respected into h =
    let P : ℕ → Type 0 = LedTo into h in
    let entries : Respects P (of_entries h) = respects_map P (of_entry h) (λ p l. entry_led into h p.0 p.1 (entry h p.0 p.1) refl l.0 l.1.0) (said all_entered h) in
    let properties : Respects P (of_properties h) = respects_map P (of_property h) (λ p l. property_led into h p.0 p.1 (prop h p.0 p.1) refl l.0) (said all_puts h) in
    let cells : Respects P (of_cells h) = respects_map P (of_cell h) (λ n u. cell_led into h n (cell h n) refl) (said numbered_cell h) in
    let registries : Respects P (of_registries h) = respects_map P (of_registry h) (λ r u. registry_led into h r (callback h r) refl) (said all_born h) in
    let variables : Respects P (of_variables into h) = respects_map P (of_variable into h) (λ x u. variable_led into h x (identity (var into h x)) refl) (said (assigned into) h) in
    respects_both P (of_variables into h) _ variables
    (respects_both P (of_registries h) _ registries (respects_both P (of_cells h) _ cells (respects_both P (of_properties h) _ properties entries)))

-- the same of any closed set

variable_in : (P : ℕ → Type 0) (into : Receivers) (h : History) → IsClosed into h P → (x : List ℕ) (o : Option ℕ) → identity (var into h x) ≡ o → Has P o
variable_in P into h c x None e = tt
variable_in P into h c x (Some i) e = c.variables x i e

registry_in : (P : ℕ → Type 0) (into : Receivers) (h : History) → IsClosed into h P → (r : ℕ) (o : Option ℕ) → callback h r ≡ o → Has P (option_map (λ c. r) o)
registry_in P into h c r None e = tt
registry_in P into h c r (Some k) e = c.registries r k e

in_cell : (P : ℕ → Type 0) (into : Receivers) (h : History) → IsClosed into h P → (n : ℕ) (c : Cell) (b : Bool) (i : Option ℕ) → cell h n ≡ Some c → is_present (fate h n) ≡ b → identity c.held ≡ i → Has P (cond b i None)
in_cell P into h closed n c false i e present f = tt
in_cell P into h closed n c true None e present f = tt
in_cell P into h closed n c true (Some i) e present f = closed.cells n c i e present f

cell_in : (P : ℕ → Type 0) (into : Receivers) (h : History) → IsClosed into h P → (n : ℕ) (o : Option Cell) → cell h n ≡ o → Has P (if_present h n o)
cell_in P into h closed n None e = tt
cell_in P into h closed n (Some c) e = in_cell P into h closed n c (is_present (fate h n)) (identity c.held) e refl refl

in_property : (P : ℕ → Type 0) (into : Receivers) (h : History) → IsClosed into h P → (o : ℕ) (k : List ℕ) (v : Value) (i : Option ℕ) → P o → prop h o k ≡ Some v → identity v ≡ i → Has P i
in_property P into h c o k v None l e f = tt
in_property P into h c o k v (Some i) l e f = c.properties o k v i l e f

property_in : (P : ℕ → Type 0) (into : Receivers) (h : History) → IsClosed into h P → (o : ℕ) (k : List ℕ) (p : Option Value) → prop h o k ≡ p → P o → Has P (option_and_then identity p)
property_in P into h c o k None e l = tt
property_in P into h c o k (Some v) e l = in_property P into h c o k v (identity v) l e refl

in_entry : (P : ℕ → Type 0) (into : Receivers) (h : History) → IsClosed into h P → (w k : ℕ) (v : Value) (i : Option ℕ) → P w → P k → entry h w k ≡ Some v → identity v ≡ i → Has P i
in_entry P into h c w k v None a b e f = tt
in_entry P into h c w k v (Some i) a b e f = c.entries w k v i a b e f

entry_in : (P : ℕ → Type 0) (into : Receivers) (h : History) → IsClosed into h P → (w k : ℕ) (p : Option Value) → entry h w k ≡ p → P w → P k → Has P (option_and_then identity p)
entry_in P into h c w k None e a b = tt
entry_in P into h c w k (Some v) e a b = in_entry P into h c w k v (identity v) a b e refl

respected_by : (P : ℕ → Type 0) (into : Receivers) (h : History) → IsClosed into h P → Respects P (rules_of into h)
respected_by P into h c =
    let entries : Respects P (of_entries h) = respects_map P (of_entry h) (λ p l. entry_in P into h c p.0 p.1 (entry h p.0 p.1) refl l.0 l.1.0) (said all_entered h) in
    let properties : Respects P (of_properties h) = respects_map P (of_property h) (λ p l. property_in P into h c p.0 p.1 (prop h p.0 p.1) refl l.0) (said all_puts h) in
    let cells : Respects P (of_cells h) = respects_map P (of_cell h) (λ n u. cell_in P into h c n (cell h n) refl) (said numbered_cell h) in
    let registries : Respects P (of_registries h) = respects_map P (of_registry h) (λ r u. registry_in P into h c r (callback h r) refl) (said all_born h) in
    let variables : Respects P (of_variables into h) = respects_map P (of_variable into h) (λ x u. variable_in P into h c x (identity (var into h x)) refl) (said (assigned into) h) in
    respects_both P (of_variables into h) _ variables
    (respects_both P (of_registries h) _ registries (respects_both P (of_cells h) _ cells (respects_both P (of_properties h) _ properties entries)))

abbrev pub Reached : Receivers → History → Type 0
Reached into h = Closing (LedTo into h) (rules_of into h) (kept h)

pub reached : (into : Receivers) (h : History) → Reached into h
reached into h = closing (LedTo into h) (rules_of into h) (respected into h) (kept h) (λ i e. by_keeping i e)

-- two lists of rules that a list obeys together
obeys_both : (ids : List ℕ) (rs ss : List Rule) → list_all (obeys ids) (rs ++ ss) ≡ true → (list_all (obeys ids) rs ≡ true) × (list_all (obeys ids) ss ≡ true)
obeys_both ids rs ss e = and_parts (list_all (obeys ids) rs) (list_all (obeys ids) ss) (sym (list_all-append (obeys ids) rs ss) ∙ e)

pub reached_closed : (into : Receivers) (h : History) (r : Reached into h) → IsClosed into h (λ j. is_in r.list j ≡ true)
reached_closed into h r =
    let vs = obeys_both r.list (of_variables into h) _ r.closed in
    let rs = obeys_both r.list (of_registries h) _ vs.1 in
    let cs = obeys_both r.list (of_cells h) _ rs.1 in
    let ps = obeys_both r.list (of_properties h) _ cs.1 in
    record {
      variables = closed_variable into h r.list (sym (list_all-map (obeys r.list) (of_variable into h) (said (assigned into) h)) ∙ vs.0);
      kept = r.grows;
      registries = closed_registry h r.list (sym (list_all-map (obeys r.list) (of_registry h) (said all_born h)) ∙ rs.0);
      cells = closed_cell h r.list (sym (list_all-map (obeys r.list) (of_cell h) (said numbered_cell h)) ∙ cs.0);
      properties = closed_property h r.list (sym (list_all-map (obeys r.list) (of_property h) (said all_puts h)) ∙ ps.0);
      entries = closed_entry h r.list (sym (list_all-map (obeys r.list) (of_entry h) (said all_entered h)) ∙ ps.1);
    }

-- what a chain of steps leads to is in each closed set, also one that no test decides
pub led_in : (P : ℕ → Type 0) (into : Receivers) (h : History) → IsClosed into h P → (i : ℕ) → LedTo into h i → P i
led_in P into h c i (by_variable x j e) = c.variables x i e
led_in P into h c i (by_keeping j e) = c.kept i e
led_in P into h c i (by_registry r n e) = c.registries i n e
led_in P into h c i (by_cell n d j e present f) = c.cells n d i e present f
led_in P into h c i (by_property o k v j l e f) = c.properties o k v i (led_in P into h c o l) e f
led_in P into h c i (by_entry w k v j a b e f) = c.entries w k v i (led_in P into h c w a) (led_in P into h c k b) e f

pub led_reached : (into : Receivers) (h : History) (i : ℕ) → LedTo into h i → IsReached into h i
led_reached into h i l = λ m c. led_in (λ j. m j ≡ true) into h c i l

pub reached_led : (into : Receivers) (h : History) (i : ℕ) → IsReached into h i → LedTo into h i
reached_led into h i r = let all = reached into h in all.only i (r (is_in all.list) (reached_closed into h all))

-- a list that is closed, has all of ids and KeptAlive, and nothing but what a closed P has
pub closing_of : (P : ℕ → Type 0) (into : Receivers) (h : History) → IsClosed into h P → (ids : List ℕ) → ((i : ℕ) → is_in ids i ≡ true → P i) → Closing P (rules_of into h) ids
closing_of P into h c ids all = closing P (rules_of into h) (respected_by P into h c) ids all

pub closing_closed : (P : ℕ → Type 0) (into : Receivers) (h : History) (ids : List ℕ) (r : Closing P (rules_of into h) ids) → ((i : ℕ) → is_in (kept h) i ≡ true → is_in ids i ≡ true) → IsClosed into h (λ j. is_in r.list j ≡ true)
closing_closed P into h ids r keeps =
    let vs = obeys_both r.list (of_variables into h) _ r.closed in
    let rs = obeys_both r.list (of_registries h) _ vs.1 in
    let cs = obeys_both r.list (of_cells h) _ rs.1 in
    let ps = obeys_both r.list (of_properties h) _ cs.1 in
    record {
      variables = closed_variable into h r.list (sym (list_all-map (obeys r.list) (of_variable into h) (said (assigned into) h)) ∙ vs.0);
      kept = λ i e. r.grows i (keeps i e);
      registries = closed_registry h r.list (sym (list_all-map (obeys r.list) (of_registry h) (said all_born h)) ∙ rs.0);
      cells = closed_cell h r.list (sym (list_all-map (obeys r.list) (of_cell h) (said numbered_cell h)) ∙ cs.0);
      properties = closed_property h r.list (sym (list_all-map (obeys r.list) (of_property h) (said all_puts h)) ∙ ps.0);
      entries = closed_entry h r.list (sym (list_all-map (obeys r.list) (of_entry h) (said all_entered h)) ∙ ps.1);
    }
