-- Where a job waits for a message, what the ledger says of it settles what comes: the message, its refusal, or that the job is skipped.
use Rattle.std.proofs.Common.{◌≡◌, ℕ, ◌+◌, ◌==◌, not, Bool, true, false, sym, ◌∙◌, ap, refl, subst, List, [], ◌∷◌, ◌++◌, Option, Some, None, eqb-true, if◌then◌else◌}
use Rattle.std.specs.Prelude.{is_some, slice_get}
use Rattle.std.specs.Option.{option_and_then, option_map_or}
use Rattle.std.proofs.lemmas.Bool.{and_parts}
use Rattle.es_value.specs.Values.{is_same}
use Rattle.es_value.specs.declared.value.Value.{Value}
use Rattle.es_value.specs.declared.value.Value.TheVariants.{Object}
use Rattle.es_event.specs.declared.ledger_event.Body.{Body}
use Rattle.es_event.specs.declared.ledger_event.Body.TheVariants.{Plain, Block}
use Rattle.es_event.specs.declared.row.Row.{Row}
use Rattle.es_event.specs.History.{History}
use Rattle.es_event.specs.Identities.{made, object_of}
use Rattle.es_event.specs.Legal.{Arrives}
use Rattle.es_event.specs.Ledger.{Ledger, front}
use Rattle.es_event.specs.LegalLedger.{has_message}
use Rattle.es_event.specs.Rows.{row}
use Rattle.es_event.specs.Sharing.{Buffers}
use Rattle.es_match.specs.Deeds.{Deed, Takes, Spends, Passes, words_in}
use Rattle.es_match.specs.Meets.{Tickets, gives, is_object, is_one, is_pass, is_refusal, pair, receiving, sender_of, sole, spends_ticket_in, taken_ticket, ticket_under}
use Rattle.es_theorems.specs.Doing.{AllFit, Fits}
use Rattle.es_theorems.specs.Settled.{came_row}
use Rattle.es_theorems.proofs.Commands.{its_row, mapped_some, no_row, one_of, same_value, sole_of, some_if_true}

-- the number of words of the message that is next
abbrev pub next_words : Ledger → ℕ → ℕ → ℕ
next_words l s n = option_map_or (words_in l) (front l s n) 0

-- the message that is taken there
abbrev pub taking_next : Ledger → ℕ → ℕ → Deed
taking_next l s n = Takes s (front l s n) (next_words l s n)

taken_is : (l : Ledger) (n s : ℕ) (m : Option Body) (w : ℕ) → Fits l n (Takes s m w) → Takes s m w ≡ taking_next l s n
taken_is l n s m w fit = ap (λ w. Takes s m w) fit.1 ∙ ap (λ m. Takes s m (option_map_or (words_in l) m 0)) fit.0

-- A message that is received

-- it is the next one, and the value and the ticket that comes are what it says
abbrev pub Says : Body → ℕ → ℕ → Value → Option Row → Type 0
Says (Plain u) w m v r = (v ≡ u) × (r ≡ None)
Says (Block b k) w m v r = (v ≡ Object (m + 1)) × (r ≡ Some (row k b w))

pub record Receives (l : Ledger) (n s : ℕ) (m : ℕ) (v : Value) (r : Option Row) (ds : List Deed) : Type 0 where
  pub body : Body
  pub front_is : front l s n ≡ Some body
  pub says : Says body (next_words l s n) m v r
  pub there : has_message l s n ≡ true
  pub deeds : ds ≡ taking_next l s n ∷ []

new_object : (over : Buffers) (h : History) (v : Value) (o : ℕ) → object_of v ≡ Some o → Arrives over h v → v ≡ Object (made h + 1)
new_object over h (Object i) o is new = ap Object new.0
new_object over h _ o is new = cc

some_object : (v : Value) (q : Row) (m : ℕ) (r : Option Row) → is_some (object_of v) ≡ true → ticket_under v q ≡ came_row m r → (o : ℕ) × (object_of v ≡ Some o) × (r ≡ Some q)
some_object v q m r some e = by_object (object_of v) refl some e
  where
    by_object : (x : Option ℕ) → object_of v ≡ x → is_some x ≡ true → option_map_or (λ o. (o, q) ∷ []) x [] ≡ came_row m r → (o : ℕ) × (object_of v ≡ Some o) × (r ≡ Some q)
    by_object None is some e = cc
    by_object (Some o) is some e = (o, is, its_row m (Some o) q r refl e)

says : (over : Buffers) (h : History) (t left : Tickets) (v : Value) (b : Body) (w : ℕ) (r : Option Row) → Arrives over h v → gives t v b w ≡ Some left → taken_ticket v (Takes 0 (Some b) w) ≡ came_row (made h) r → Says b w (made h) v r
says over h t left v (Plain u) w r new gave came =
    let parts = and_parts (not (is_object v)) (is_same v u) (some_if_true _ t left gave) in
    (same_value v u parts.1, no_row (made h) r came)
says over h t left v (Block b k) w r new gave came =
    let found = some_object v (row k b w) (made h) r (mapped_some (λ o. t ++ (o, row k b w) ∷ []) (object_of v) left gave) came in
    (new_object over h v found.0 found.1 new, found.2)

of_sender : (s k : ℕ) (v : Value) (m : Option Body) (w : ℕ) → taken_ticket v (Takes s m w) ≡ taken_ticket v (Takes k m w)
of_sender s k v None w = refl
of_sender s k v _ w = refl

pub receives : (over : Buffers) (h : History) (n : ℕ) (l : Ledger) (t left : Tickets) (s : ℕ) (v : Value) (r : Option Row) (ds : List Deed) → Arrives over h v
    → option_and_then (receiving t s v) (sole ds) ≡ Some left → option_map_or (taken_ticket v) (sole ds) [] ≡ came_row (made h) r → AllFit n ds l → Receives l n s (made h) v r ds
receives over h n l t left s v r ds new met came fit =
    let one = sole_of (receiving t s v) ds left met in
    at one.0 one.2 (subst (λ ds. option_map_or (taken_ticket v) (sole ds) [] ≡ came_row (made h) r) one.1 came) (subst (λ ds. AllFit n ds l) one.1 fit).0 one.1
  where
    at : (d : Deed) → receiving t s v d ≡ Some left → taken_ticket v d ≡ came_row (made h) r → Fits l n d → ds ≡ d ∷ [] → Receives l n s (made h) v r ds
    at (Takes u m w) met came fit is = by_sender (u == s) refl met
      where
        by_body : (o : Option Body) → m ≡ o → u ≡ s → option_and_then (λ b. gives t v b w) o ≡ Some left → Receives l n s (made h) v r ds
        by_body None body same met = cc
        by_body (Some b) body same met =
            let here = sym fit.0 ∙ body in
            let words : w ≡ next_words l s n = fit.1 ∙ ap (λ m. option_map_or (words_in l) m 0) fit.0 ∙ ap (λ s. next_words l s n) same in
            record {
              body = b;
              front_is = ap (λ s. front l s n) (sym same) ∙ here;
              says = subst (λ w. Says b w (made h) v r) words (says over h t left v b w r new met (of_sender 0 u v (Some b) w ∙ ap (λ m. taken_ticket v (Takes u m w)) (sym body) ∙ came));
              there = ap (λ s. has_message l s n) (sym same) ∙ fit.2;
              deeds = is ∙ ap (λ d. d ∷ []) (taken_is l n u m w fit ∙ ap (λ s. taking_next l s n) same);
            }

        by_sender : (x : Bool) → (u == s) ≡ x → (if x then option_and_then (λ b. gives t v b w) m else None) ≡ Some left → Receives l n s (made h) v r ds
        by_sender true same met = by_body m refl (eqb-true u s same) met
        by_sender false same met = cc
    at _ met came fit is = cc

-- A message that finds no room

-- it is the next one, it carries a block, and its ticket is spent
pub record Refuses (l : Ledger) (n s : ℕ) (ds : List Deed) : Type 0 where
  pub block : ℕ
  pub serial : ℕ
  pub front_is : front l s n ≡ Some (Block block serial)
  pub there : has_message l s n ≡ true
  pub deeds : ds ≡ taking_next l s n ∷ Spends serial ∷ []

pub two_of : (test : Deed × Deed → Bool) (ds : List Deed) → option_map_or test (pair ds) false ≡ true → (c d : Deed) × (ds ≡ c ∷ d ∷ []) × (test (c, d) ≡ true)
two_of test (c ∷ d ∷ []) e = (c, d, refl, e)
two_of test [] e = cc
two_of test (d ∷ []) e = cc
two_of test (b ∷ c ∷ d ∷ ds) e = cc

its_ticket : (m : Option Body) (d : Deed) → spends_ticket_in m d ≡ true → (b k : ℕ) × (m ≡ Some (Block b k)) × (d ≡ Spends k)
its_ticket (Some (Block b k)) (Spends q) e = (b, k, refl, ap Spends (eqb-true q k e))
its_ticket (Some (Block b k)) _ e = cc
its_ticket (Some (Plain v)) d e = cc
its_ticket None d e = cc

pub refuses : (n : ℕ) (l : Ledger) (s : ℕ) (ds : List Deed) → option_map_or (λ p. is_refusal p.0 p.1) (pair ds) false ≡ true → option_map_or (λ p. sender_of p.0) (pair ds) [] ≡ s ∷ [] → AllFit n ds l → Refuses l n s ds
refuses n l s ds met sender fit =
    let two = two_of (λ p. is_refusal p.0 p.1) ds met in
    at two.0 two.1 two.3 (subst (λ ds. option_map_or (λ p. sender_of p.0) (pair ds) [] ≡ s ∷ []) two.2 sender) (subst (λ ds. AllFit n ds l) two.2 fit).0 two.2
  where
    at : (c d : Deed) → is_refusal c d ≡ true → sender_of c ≡ s ∷ [] → Fits l n c → ds ≡ c ∷ d ∷ [] → Refuses l n s ds
    at (Takes u m w) d met sender fit is =
        let same : u ≡ s = ap (λ ns. option_map_or (λ n. n) (slice_get ns 0) u) sender in
        let ticket = its_ticket m d met in
        record {
          block = ticket.0;
          serial = ticket.1;
          front_is = ap (λ s. front l s n) (sym same) ∙ sym fit.0 ∙ ticket.2;
          there = ap (λ s. has_message l s n) (sym same) ∙ fit.2;
          deeds = is ∙ ap (λ c. c ∷ d ∷ []) (taken_is l n u m w fit ∙ ap (λ s. taking_next l s n) same) ∙ ap (λ d. taking_next l s n ∷ d ∷ []) ticket.3;
        }
    at _ d met sender fit is = cc

-- A job that is skipped

pub record Skips (l : Ledger) (n s : ℕ) (ds : List Deed) : Type 0 where
  pub none : has_message l s n ≡ false
  pub deeds : ds ≡ Passes s ∷ []

pub skips : (n : ℕ) (l : Ledger) (s : ℕ) (ds : List Deed) → is_one (is_pass s) ds ≡ true → AllFit n ds l → Skips l n s ds
skips n l s ds met fit =
    let one = one_of (is_pass s) ds met in
    at one.0 one.2 (subst (λ ds. AllFit n ds l) one.1 fit).0 one.1
  where
    at : (d : Deed) → is_pass s d ≡ true → Fits l n d → ds ≡ d ∷ [] → Skips l n s ds
    at (Passes u) met fit is =
        let same = eqb-true u s met in
        record { none = ap (λ s. has_message l s n) (sym same) ∙ fit; deeds = is ∙ ap (λ s. Passes s ∷ []) same }
    at _ met fit is = cc
