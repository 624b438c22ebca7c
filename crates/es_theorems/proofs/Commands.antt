-- A command that is done does what the ledger and the agent's tickets say, and hears it.
use Rattle.std.proofs.Common.{◌≡◌, ℕ, ◌+◌, ◌==◌, ◌&&◌, ◌||◌, not, Bool, true, false, sym, ◌∙◌, ap, refl, subst, if◌then◌else◌, List, [], ◌∷◌, ◌++◌, Option, Some, None, eqb-true}
use Rattle.std.specs.Prelude.{ℤ, pos, unsigned_abs, is_some, slice_get}
use Rattle.std.specs.Option.{option_and_then, option_map, option_map_or}
use Rattle.std.specs.Cmp.{booleans_Decides}
use Rattle.std.specs.Str.{bytes_eq}
use Rattle.std.proofs.lemmas.Slice.Eq.{bytes_eq-Decides}
use Rattle.std.proofs.lemmas.Bool.{and_parts}
use Rattle.std.proofs.lemmas.Bool.Decides.{Decides-int_eq}
use Rattle.es_value.specs.Values.{is_same}
use Rattle.es_value.specs.declared.value.Value.{Value}
use Rattle.es_value.specs.declared.value.Value.TheVariants.{Undefined, Boolean, Number, Text, Registered, Object, Symbol}
use Rattle.es_event.specs.declared.access.Access.{Access}
use Rattle.es_event.specs.declared.atomic.AtomicParts.{AtomicParts}
use Rattle.es_event.specs.declared.command.Command.{Command}
use Rattle.es_event.specs.declared.command.Command.TheVariants.{SharedArrayBuffer, Length, SameBlock, Atomic, Post}
use Rattle.es_event.specs.declared.event.Answer.{Answer}
use Rattle.es_event.specs.declared.event.Answer.TheVariants.{Gives}
use Rattle.es_event.specs.declared.ledger_event.Body.{Body}
use Rattle.es_event.specs.declared.ledger_event.Body.TheVariants.{Plain, Block}
use Rattle.es_event.specs.declared.row.Row.{Row}
use Rattle.es_event.specs.Access.{is_of_sleep, is_same_change, change_by}
use Rattle.es_event.specs.Commands.{first}
use Rattle.es_event.specs.Identities.{object_of}
use Rattle.es_event.specs.Heard.{a_word, heard_by, silence, word_in}
use Rattle.es_event.specs.Ledger.{Ledger, opened, serials, holder_of, word}
use Rattle.es_event.specs.LegalLedger.{Reaches}
use Rattle.es_event.specs.Numbers.{access_of, index_of}
use Rattle.es_event.specs.Rows.{row}
use Rattle.es_event.specs.Sharing.{row_of}
use Rattle.es_event.proofs.Accesses.{same_change}
use Rattle.es_match.specs.Asks.{asks_did, asks_word, given}
use Rattle.es_match.specs.Deeds.{Deed, Opens, Posts, Accesses}
use Rattle.es_match.specs.Meets.{Tickets, add_ticket, after, answers, carries, has_ticket, is_access, is_number, is_object, is_one, is_post, is_ticket, no_more, opening, opened_ticket, same_index, sole, some_if, ticket_in}
use Rattle.es_theorems.specs.Doing.{AllFit, Fits, IsNew}
use Rattle.es_theorems.specs.Settled.{access_by, block_at, body_for, came_row, deeds_of, heard_from, row_from, serial_at, word_at}
use Rattle.es_theorems.specs.Sleepless.{is_for_sleep}
use Rattle.es_theorems.proofs.Calm.{heard_is, task_access}

-- Parts of what meets what is asked

pub some_if_true : {A : Type 0} (b : Bool) (x y : A) → some_if b x ≡ Some y → b ≡ true
some_if_true true x y e = refl
some_if_true false x y e = cc

pub none_more : (ds : List Deed) → no_more ds ≡ true → ds ≡ []
none_more [] e = refl
none_more (d ∷ ds) e = cc

-- there is one
pub one_of : (test : Deed → Bool) (ds : List Deed) → is_one test ds ≡ true → (d : Deed) × (ds ≡ d ∷ []) × (test d ≡ true)
one_of test (d ∷ []) e = (d, refl, e)
one_of test [] e = cc
one_of test (c ∷ d ∷ ds) e = cc

pub sole_of : {A : Type 0} (f : Deed → Option A) (ds : List Deed) (x : A) → option_and_then f (sole ds) ≡ Some x → (d : Deed) × (ds ≡ d ∷ []) × (f d ≡ Some x)
sole_of f (d ∷ []) x e = (d, refl, e)
sole_of f [] x e = cc
sole_of f (c ∷ d ∷ ds) x e = cc

has_row : (o : Option Row) (test : Row → Bool) → option_map_or test o false ≡ true → (r : Row) × (o ≡ Some r) × (test r ≡ true)
has_row None test e = cc
has_row (Some r) test e = (r, refl, e)

pub its_serial : (t : Tickets) (v : Value) (s : ℕ) → is_ticket t v s ≡ true → s ≡ serial_at t v
its_serial t v s e =
    let r = has_row (row_of t v) (λ r. r.serial == s) e in
    sym (eqb-true r.0.serial s r.2) ∙ sym (ap (λ o. option_map_or (λ r. r.serial) o 0) r.1)

its_block : (t : Tickets) (v : Value) (k : ℕ) → has_ticket t v (λ r. r.block == k) ≡ true → k ≡ block_at t v
its_block t v k e =
    let r = has_row (row_of t v) (λ r. r.block == k) e in
    sym (eqb-true r.0.block k r.2) ∙ sym (ap (λ o. option_map_or (λ r. r.block) o 0) r.1)

pub its_index : (i : ℤ) (j : ℕ) → same_index i j ≡ true → j ≡ unsigned_abs i
its_index i j e = sym (ap unsigned_abs ((Decides-int_eq i (pos j)).0 e))

pub its_word : (l : Ledger) (s i w : ℕ) → Reaches (holder_of l s) i (λ r. w ≡ word l r.block i) → w ≡ word_at l s i
its_word l s i w is = by_holder (holder_of l s) is
  where
    by_holder : (o : Option (ℕ × Row)) → Reaches o i (λ r. w ≡ word l r.block i) → w ≡ option_map_or (λ p. word l p.1.block i) o 0
    by_holder None is = absurd is
    by_holder (Some p) is = is.1

-- a command's answer that is this number
pub its_answer : (r : Answer) (w : ℕ) → is_number (given r) w ≡ true → word_in r ≡ w
its_answer (Gives (Number i)) w e = by_sign i ((Decides-int_eq i (pos w)).0 e)
  where
    by_sign : (i : ℤ) → i ≡ pos w → word_in (Gives (Number i)) ≡ w
    by_sign i same = ap (λ i. word_in (Gives (Number i))) same
its_answer _ w e = cc

-- Two values that are the same

text_eq : (a b : List ℕ) → bytes_eq a b ≡ true → a ≡ b
text_eq a b e = (bytes_eq-Decides a b).0 e

pub same_value : (v u : Value) → is_same v u ≡ true → v ≡ u
same_value Undefined Undefined e = refl
same_value (Boolean a) (Boolean b) e = ap Boolean ((booleans_Decides a b).0 e)
same_value (Number a) (Number b) e = ap Number ((Decides-int_eq a b).0 e)
same_value (Text a) (Text b) e = ap Text (text_eq a b e)
same_value (Registered a) (Registered b) e = ap Registered (text_eq a b e)
same_value (Object a) (Object b) e = ap Object (eqb-true a b e)
same_value (Symbol a) (Symbol b) e = ap Symbol (eqb-true a b e)
same_value _ _ e = cc

its_body : (l : Ledger) (t : Tickets) (v : Value) (m : Body) → carries t v m ≡ true → IsNew l m → m ≡ body_for l t v
its_body l t (Object o) (Plain u) e new = cc
its_body l t (Object o) (Block b s) e new = ap (λ b. Block b s) (its_block t (Object o) b e) ∙ ap (Block (block_at t (Object o))) new
its_body l t v (Plain u) e new = sym (plain v u (and_parts (not (is_object v)) (is_same v u) e))
  where
    plain : (v u : Value) → (not (is_object v) ≡ true) × (is_same v u ≡ true) → body_for l t v ≡ Plain u
    plain (Object o) u e = absurd (let no : not (is_object (Object o)) ≡ true = e.0 in cc)
    plain v u e = ap Plain (same_value v u e.1)
its_body l t v (Block b s) e new = cc

-- The command

-- it does this, hears this, and this ticket comes
pub record Settles (l : Ledger) (t : Tickets) (m : ℕ) (c : Command) (vs : List Value) (a : Answer) (r : Option Row) (ds : List Deed) : Type 0 where
  pub deeds : ds ≡ deeds_of l t c vs
  pub hears : heard_by c a ≡ heard_from l t c vs
  pub row : r ≡ row_from l c

pub no_row : (m : ℕ) (r : Option Row) → [] ≡ came_row m r → r ≡ None
no_row m None e = refl
no_row m (Some r) e = cc

pub its_row : (m : ℕ) (o : Option ℕ) (q : Row) (r : Option Row) → is_some o ≡ true → option_map_or (λ o. (o, q) ∷ []) o [] ≡ came_row m r → r ≡ Some q
its_row m None q r some e = cc
its_row m (Some o) q None some e = cc
its_row m (Some o) q (Some r) some e = ap Some (sym (ap (λ t. option_map_or (λ p. p.1) (slice_get t 0) r) e))

pub mapped_some : {A B : Type 0} (f : A → B) (o : Option A) (x : B) → option_map f o ≡ Some x → is_some o ≡ true
mapped_some f None x e = cc
mapped_some f (Some a) x e = refl

settles_open : (n : ℕ) (l : Ledger) (t left : Tickets) (m : ℕ) (to : List ℕ) (k : ℕ) (vs : List Value) (a : Answer) (r : Option Row) (ds : List Deed)
    → option_and_then (opening t k (given a)) (sole ds) ≡ Some left → option_map_or (opened_ticket (given a)) (sole ds) [] ≡ came_row m r → AllFit n ds l → Settles l t m (SharedArrayBuffer to k) vs a r ds
settles_open n l t left m to k vs a r ds met came fit =
    let one = sole_of (opening t k (given a)) ds left met in
    at one.0 one.2 (subst (λ ds. option_map_or (opened_ticket (given a)) (sole ds) [] ≡ came_row m r) one.1 came) (subst (λ ds. AllFit n ds l) one.1 fit).0 one.1
  where
    at : (d : Deed) → opening t k (given a) d ≡ Some left → opened_ticket (given a) d ≡ came_row m r → Fits l n d → ds ≡ d ∷ [] → Settles l t m (SharedArrayBuffer to k) vs a r ds
    at (Opens b w s) met came fit is = by_size (w == k) refl met
      where
        by_size : (x : Bool) → (w == k) ≡ x → (if x then add_ticket t (given a) (row s b w) else None) ≡ Some left → Settles l t m (SharedArrayBuffer to k) vs a r ds
        by_size true size met =
            let words = eqb-true w k size in
            let row_is : row s b w ≡ row (serials l + 1) (opened l + 1) k = ap (λ s. row s b w) fit.1 ∙ ap (λ b. row (serials l + 1) b w) fit.0 ∙ ap (row (serials l + 1) (opened l + 1)) words in
            record {
              deeds = is ∙ ap (λ b. Opens b w s ∷ []) fit.0 ∙ ap (λ w. Opens (opened l + 1) w s ∷ []) words ∙ ap (λ s. Opens (opened l + 1) k s ∷ []) fit.1;
              hears = refl;
              row = its_row m (object_of (given a)) (row s b w) r (mapped_some (λ o. t ++ (o, row s b w) ∷ []) (object_of (given a)) left met) came ∙ ap Some row_is;
            }
        by_size false size met = cc
    at _ met came fit is = cc

-- an access was done as the command asks, over the word that was there, which it hears where it gives one
record IsAccessBy (l : Ledger) (t : Tickets) (vs : List Value) (i : ℤ) (m : Access) (a : Answer) (ds : List Deed) : Type 0 where
  pub deeds : ds ≡ access_by l t vs i m
  pub word : m.gives_word ≡ true → word_in a ≡ word_at l (serial_at t (first vs)) (unsigned_abs i)

answered : (gives right : Bool) → gives ≡ true → (not gives || right) ≡ true → right ≡ true
answered true right given is = is
answered false right given is = cc

accessed : (n : ℕ) (l : Ledger) (t : Tickets) (i : ℤ) (m : Access) (vs : List Value) (a : Answer) (ds : List Deed)
    → is_one (is_access t (first vs) i m (given a)) ds ≡ true → AllFit n ds l → IsAccessBy l t vs i m a ds
accessed n l t i m vs a ds met fit =
    let one = one_of (is_access t (first vs) i m (given a)) ds met in
    at one.0 one.2 (subst (λ ds. AllFit n ds l) one.1 fit).0 one.1
  where
    at : (d : Deed) → is_access t (first vs) i m (given a) d ≡ true → Fits l n d → ds ≡ d ∷ [] → IsAccessBy l t vs i m a ds
    at (Accesses s j done old) met fit is =
        let parts = and_parts (is_ticket t (first vs) s) (same_index i j && (is_same_change (change_by m.edit old) done && answers m (given a) old)) met in
        let rest = and_parts (same_index i j) (is_same_change (change_by m.edit old) done && answers m (given a) old) parts.1 in
        let last = and_parts (is_same_change (change_by m.edit old) done) (answers m (given a) old) rest.1 in
        let serial = its_serial t (first vs) s parts.0 in
        let index = its_index i j rest.0 in
        let word_is = its_word l s j old fit ∙ ap (λ s. word_at l s j) serial ∙ ap (word_at l (serial_at t (first vs))) index in
        record {
          deeds = is ∙ ap (λ s. Accesses s j done old ∷ []) serial ∙ ap (λ j. Accesses (serial_at t (first vs)) j done old ∷ []) index
              ∙ ap (λ done. Accesses (serial_at t (first vs)) (unsigned_abs i) done old ∷ []) (same_change (change_by m.edit old) done last.0)
              ∙ ap (λ old. Accesses (serial_at t (first vs)) (unsigned_abs i) (change_by m.edit old) old ∷ []) word_is;
          word = λ gives. its_answer a old (answered m.gives_word (is_number (given a) old) gives last.1) ∙ word_is;
        }
    at _ met fit is = cc

-- a word is heard where one is given
hears_if : (gives : Bool) (v w : ℕ) → (gives ≡ true → v ≡ w) → (if gives then a_word v else silence) ≡ (if gives then a_word w else silence)
hears_if true v w is = ap a_word (is refl)
hears_if false v w is = refl

settles_access : (n : ℕ) (l : Ledger) (t : Tickets) (m : ℕ) (c : AtomicParts) (vs : List Value) (a : Answer) (r : Option Row) (ds : List Deed)
    → is_of_sleep c.operation ≡ false → is_one (is_access t (first vs) (index_of c vs) (access_of c vs) (given a)) ds ≡ true → [] ≡ came_row m r → AllFit n ds l → Settles l t m (Atomic c) vs a r ds
settles_access n l t m c vs a r ds calm met came fit =
    let is = accessed n l t (index_of c vs) (access_of c vs) vs a ds met fit in
    record {
      deeds = is.deeds;
      hears = heard_is c.operation a calm ∙ hears_if (access_of c vs).gives_word (word_in a) (word_at l (serial_at t (first vs)) (unsigned_abs (index_of c vs))) is.word;
      row = no_row m r came;
    }

settles_post : (n : ℕ) (l : Ledger) (t : Tickets) (m : ℕ) (q : ℕ) (y : List ℕ) (vs : List Value) (a : Answer) (r : Option Row) (ds : List Deed)
    → is_one (is_post t q (first vs)) ds ≡ true → [] ≡ came_row m r → AllFit n ds l → Settles l t m (Post q y) vs a r ds
settles_post n l t m q y vs a r ds met came fit =
    let one = one_of (is_post t q (first vs)) ds met in
    at one.0 one.2 (subst (λ ds. AllFit n ds l) one.1 fit).0 one.1
  where
    at : (d : Deed) → is_post t q (first vs) d ≡ true → Fits l n d → ds ≡ d ∷ [] → Settles l t m (Post q y) vs a r ds
    at (Posts u b) met fit is =
        let parts = and_parts (u == q) (carries t (first vs) b) met in
        record {
          deeds = is ∙ ap (λ u. Posts u b ∷ []) (eqb-true u q parts.0) ∙ ap (λ b. Posts q b ∷ []) (its_body l t (first vs) b parts.1 fit);
          hears = refl;
          row = no_row m r came;
        }
    at _ met fit is = cc

quiet : (l : Ledger) (t : Tickets) (m : ℕ) (c : Command) (vs : List Value) (a : Answer) (r : Option Row) (ds : List Deed) → deeds_of l t c vs ≡ [] → heard_by c a ≡ heard_from l t c vs → row_from l c ≡ None → no_more ds ≡ true → [] ≡ came_row m r → Settles l t m c vs a r ds
quiet l t m c vs a r ds none hears row met came = record { deeds = none_more ds met ∙ sym none; hears = hears; row = no_row m r came ∙ sym row }

pub settles : (n : ℕ) (l : Ledger) (t left : Tickets) (m : ℕ) (c : Command) (vs : List Value) (a : Answer) (r : Option Row) (ds : List Deed)
    → is_for_sleep c ≡ false → after t (asks_did c vs a) ds ≡ Some left → ticket_in (asks_did c vs a) ds ≡ came_row m r → AllFit n ds l → Settles l t m c vs a r ds
settles n l t left m (SharedArrayBuffer to k) vs a r ds calm met came fit = settles_open n l t left m to k vs a r ds met came fit
settles n l t left m (Atomic c) vs a r ds calm met came fit =
    let task = task_access c vs calm in
    settles_access n l t m c vs a r ds calm (some_if_true _ t left (ap (λ k. after t (asks_word (first vs) (index_of c vs) k (given a)) ds) (sym task) ∙ met))
    (ap (λ k. ticket_in (asks_word (first vs) (index_of c vs) k (given a)) ds) (sym task) ∙ came) fit
settles n l t left m (Post q y) vs a r ds calm met came fit = settles_post n l t m q y vs a r ds (some_if_true _ t left met) came fit
settles n l t left m (Length to x) vs a r ds calm met came fit = quiet l t m (Length to x) vs a r ds refl refl refl (and_parts (no_more ds) _ (some_if_true _ t left met)).0 came
settles n l t left m (SameBlock to x y) vs a r ds calm met came fit = quiet l t m (SameBlock to x y) vs a r ds refl refl refl (and_parts (no_more ds) _ (some_if_true _ t left met)).0 came
settles n l t left m c vs a r ds calm met came fit = quiet l t m c vs a r ds refl refl refl (some_if_true _ t left met) came
