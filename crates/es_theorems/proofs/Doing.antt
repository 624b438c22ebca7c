-- What an agent's deeds find in a ledger they find in each that tells the same, and they leave the same of it.
use Rattle.std.proofs.Common.{◌≡◌, ℕ, ◌+◌, ◌==◌, ◌∙◌, not, filter, length, take, sym, ap, refl, subst, List, [], ◌∷◌, ◌++◌, Option, Some, None}
use Rattle.std.specs.List.{list_any}
use Rattle.std.specs.Option.{option_map, option_map_or}
use Rattle.std.proofs.lemmas.Bool.{and_parts, not-true}
use Rattle.es_event.specs.declared.ledger_event.Body.{Body}
use Rattle.es_event.specs.declared.ledger_event.Body.TheVariants.{Plain, Block}
use Rattle.es_event.specs.declared.ledger_event.LedgerEvent.{LedgerEvent}
use Rattle.es_event.specs.declared.ledger_event.LedgerEvent.TheVariants.{Opened, Posted, Taken, Spent, Accessed, Drained, Acted}
use Rattle.es_event.specs.declared.ledger_event.Act.{Act}
use Rattle.es_event.specs.declared.ledger_event.Act.TheVariants.{Waiting}
use Rattle.es_event.specs.declared.row.Row.{Row}
use Rattle.es_event.specs.Access.{IsStorable}
use Rattle.es_event.specs.Ledger.{Ledger, front, holder_of, word}
use Rattle.es_event.specs.Waiters.{is_at, is_listed, taken_there}
use Rattle.es_event.specs.LegalLedger.{Reaches, ReachesAs, has_message, IsPostable, MayCome}
use Rattle.es_match.specs.Deeds.{Deed, Opens, Posts, Takes, Spends, Accesses, Passes, Sleeps, Notifies, Wakes, TimesOut, Owned, acting, deed, taking, words_in, sleep_of}
use Rattle.es_match.specs.declared.deed.Sleep.{Sleep}
use Rattle.es_theorems.specs.Alike.{Alike}
use Rattle.es_theorems.specs.Doing.{event_of, did, IsNew, Fits, AllFit}
use Rattle.es_theorems.proofs.Telling.{same_front, same_message, same_holder, after_one}

-- In a ledger that tells the same

pub reaches_so : (o : Option (ℕ × Row)) (i : ℕ) (f g : Row → Type 0) → ((r : Row) → f r → g r) → Reaches o i f → Reaches o i g
reaches_so None i f g so is = is
reaches_so (Some p) i f g so is = (is.0, so p.1 is.1)

pub reaches_as : (o : Option (ℕ × Row)) (a i : ℕ) (f g : Row → Type 0) → ((r : Row) → f r → g r) → ReachesAs a o i f → ReachesAs a o i g
reaches_as None a i f g so is = is
reaches_as (Some p) a i f g so is = (is.0, is.1, so p.1 is.2)

reaches_same : (l m : Ledger) (s i w : ℕ) → Alike l m → Reaches (holder_of l s) i (λ r. w ≡ word l r.block i) → Reaches (holder_of m s) i (λ r. w ≡ word m r.block i)
reaches_same l m s i w a is =
    subst (λ o. Reaches o i (λ r. w ≡ word m r.block i)) (same_holder l m s a)
    (reaches_so (holder_of l s) i (λ r. w ≡ word l r.block i) (λ r. w ≡ word m r.block i) (λ r e. e ∙ a.words r.block i) is)

new_same : (l m : Ledger) (b : Body) → Alike l m → IsNew l b → IsNew m b
new_same l m (Plain v) a is = is
new_same l m (Block b s) a is = is ∙ ap (λ n. n + 1) a.serials

pub same_words_in : (l m : Ledger) (b : Option Body) → Alike l m → option_map_or (words_in l) b 0 ≡ option_map_or (words_in m) b 0
same_words_in l m None a = refl
same_words_in l m (Some (Plain v)) a = refl
same_words_in l m (Some (Block b s)) a = a.sizes b

pub same_taken : (l m : Ledger) (b i c : ℕ) → Alike l m → taken_there l b i c ≡ taken_there m b i c
same_taken l m b i c a = ap (λ ws. length (take c (filter (is_at b i) ws))) a.waiters

pub same_listed : (l m : Ledger) (n : ℕ) → Alike l m → is_listed l n ≡ is_listed m n
same_listed l m n a = ap (λ ws. list_any (λ w. w.agent == n) ws) a.waiters

pub fits_same : (l m : Ledger) (n : ℕ) (d : Deed) → Alike l m → Fits l n d → Fits m n d
fits_same l m n (Opens b w s) a is = (is.0 ∙ ap (λ n. n + 1) a.opened, is.1 ∙ ap (λ n. n + 1) a.serials)
fits_same l m n (Posts r b) a is = new_same l m b a is
fits_same l m n (Takes s b w) a is = (is.0 ∙ same_front l m s n a, is.1 ∙ same_words_in l m b a, sym (same_message l m s n a) ∙ is.2)
fits_same l m n (Accesses s i done old) a is = reaches_same l m s i old a is
fits_same l m n (Passes s) a is = sym (same_message l m s n a) ∙ is
fits_same l m n (Sleeps s i w) a is =
    subst (λ o. ReachesAs n o i (λ r. w ≡ word m r.block i)) (same_holder l m s a) (reaches_as (holder_of l s) n i (λ r. w ≡ word l r.block i) (λ r. w ≡ word m r.block i) (λ r e. e ∙ a.words r.block i) is)
fits_same l m n (Notifies s i c k) a is =
    subst (λ o. ReachesAs n o i (λ r. k ≡ taken_there m r.block i c)) (same_holder l m s a)
    (reaches_as (holder_of l s) n i (λ r. k ≡ taken_there l r.block i c) (λ r. k ≡ taken_there m r.block i c) (λ r e. e ∙ same_taken l m r.block i c a) is)
fits_same l m n (Wakes o) a is = sym (same_listed l m n a) ∙ is
fits_same l m n (TimesOut o) a is = sym (same_listed l m n a) ∙ is
fits_same l m n _ a is = is

pub all_fit_same : (l m : Ledger) (n : ℕ) (ds : List Deed) → Alike l m → AllFit n ds l → AllFit n ds m
all_fit_same l m n [] a fit = fit
all_fit_same l m n (d ∷ ds) a fit = (fits_same l m n d a fit.0, all_fit_same (event_of n d ∷ l) (event_of n d ∷ m) n ds (after_one l m (event_of n d) a) fit.1)

pub did_same : (l m : Ledger) (n : ℕ) (ds : List Deed) → Alike l m → Alike (did n ds l) (did n ds m)
did_same l m n [] a = a
did_same l m n (d ∷ ds) a = did_same (event_of n d ∷ l) (event_of n d ∷ m) n ds (after_one l m (event_of n d) a)

-- One deed more

pub did_more : (l : Ledger) (n : ℕ) (ds : List Deed) (d : Deed) → did n (ds ++ d ∷ []) l ≡ event_of n d ∷ did n ds l
did_more l n [] d = refl
did_more l n (c ∷ ds) d = did_more (event_of n c ∷ l) n ds d

pub all_fit_more : (l : Ledger) (n : ℕ) (ds : List Deed) (d : Deed) → AllFit n ds l → Fits (did n ds l) n d → AllFit n (ds ++ d ∷ []) l
all_fit_more l n [] d fit is = (is, tt)
all_fit_more l n (c ∷ ds) d fit is = (fit.0, all_fit_more (event_of n c ∷ l) n ds d fit.1 is)

-- What an event means as a deed

of_pair : (a n : ℕ) (x d : Deed) → ◌≡◌ {A = Owned} (Some (a, x)) (Some (n, d)) → (a ≡ n) × (x ≡ d)
of_pair a n x d is = (ap (λ o. option_map_or (λ p. p.0) o n) is, ap (λ o. option_map_or (λ p. p.1) o d) is)

deed_is : (e : LedgerEvent) (a n : ℕ) (x d : Deed) → e ≡ event_of a x → ◌≡◌ {A = Owned} (Some (a, x)) (Some (n, d)) → e ≡ event_of n d
deed_is e a n x d event is = let parts = of_pair a n x d is in event ∙ ap (λ a. event_of a x) parts.0 ∙ ap (event_of n) parts.1

held_is : (e : LedgerEvent) (o : Option (ℕ × Row)) (n : ℕ) (x d : Deed) → ((a : ℕ) → e ≡ event_of a x) → option_map {U = ℕ × Deed} (λ p. (p.0, x)) o ≡ Some (n, d) → e ≡ event_of n d
held_is e None n x d event is = cc
held_is e (Some p) n x d event is = deed_is e p.0 n x d (event p.0) is

acted_is : (a : ℕ) (o : Option Sleep) (act : Act) → Acted a act ≡ event_of a (acting o act)
acted_is a o (Waiting s) = refl
acted_is a o _ = refl

pub event_is : (l : Ledger) (e : LedgerEvent) (n : ℕ) (d : Deed) → deed l e ≡ Some (n, d) → e ≡ event_of n d
event_is l (Opened b w s a) n d is = deed_is _ a n (Opens b w s) d refl is
event_is l (Posted a r m) n d is = deed_is _ a n (Posts r m) d refl is
event_is l (Taken s r) n d is = deed_is _ r n (taking l s (front l s r)) d refl is
event_is l (Spent s) n d is = held_is _ (holder_of l s) n (Spends s) d (λ a. refl) is
event_is l (Accessed s i m old) n d is = held_is _ (holder_of l s) n (Accesses s i m old) d (λ a. refl) is
event_is l (Acted a act) n d is = deed_is _ a n (acting (sleep_of l a) act) d (acted_is a (sleep_of l a) act) is
event_is l (Drained s r) n d is = cc

-- What an event that may come finds

pub record Meant (l : Ledger) (e : LedgerEvent) (n : ℕ) (d : Deed) : Type 0 where
  pub event : e ≡ event_of n d
  pub fits : Fits l n d

postable_new : (l : Ledger) (a : ℕ) (m : Body) → IsPostable l a m → IsNew l m
postable_new l a (Plain v) is = tt
postable_new l a (Block b s) is = is.0

fits_when : (k : ℕ) (l : Ledger) (n : ℕ) (d : Deed) → MayCome k l (event_of n d) → deed l (event_of n d) ≡ Some (n, d) → Fits l n d
fits_when k l n (Opens b w s) may is = (may.0, may.1)
fits_when k l n (Posts r m) may is = postable_new l n m may.3
fits_when k l n (Takes s m w) may is = subst (Fits l n) (of_pair n n (taking l s (front l s n)) (Takes s m w) is).1 (refl, refl, may)
fits_when k l n (Accesses s i m old) may is = reaches_so (holder_of l s) i (λ r. (old ≡ word l r.block i) × IsStorable m) (λ r. old ≡ word l r.block i) (λ r e. e.0) may
fits_when k l n (Passes s) may is = not-true (has_message l s n) (and_parts (not (has_message l s n)) _ may.1).0
fits_when k l n (Sleeps s i w) may is = may.0
fits_when k l n (Notifies s i m c) may is = may
fits_when k l n (Wakes o) may is = may.1
fits_when k l n (TimesOut o) may is = may.0
fits_when k l n _ may is = tt

pub meant : (k : ℕ) (l : Ledger) (e : LedgerEvent) (n : ℕ) (d : Deed) → MayCome k l e → deed l e ≡ Some (n, d) → Meant l e n d
meant k l e n d may is =
    let event = event_is l e n d is in
    record { event = event; fits = fits_when k l n d (subst (MayCome k l) event may) (ap (deed l) (sym event) ∙ is) }
