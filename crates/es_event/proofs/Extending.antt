-- A history stays legal, and follows its plan, over another table that says the same of the objects that were made so far.
use Rattle.std.proofs.Common.{◌≡◌, ℕ, ◌+◌, ◌==◌, Bool, true, false, cond, ◌∙◌, ap, refl, arith, List, [], ◌∷◌, Option, Some, None, Ok, Err, inl, inr, map, sym}
use Rattle.std.specs.Prelude.{ℤ, pos, is_some}
use Rattle.std.specs.Option.{option_map, option_map_or}
use Rattle.std.proofs.lemmas.Bool.{cases_Bool, eqb-true}
use Rattle.es_value.specs.declared.value.Value.{Value}
use Rattle.es_value.specs.declared.value.Value.TheVariants.{Boolean, Number, Object}
use Rattle.es_event.specs.declared.row.Row.{Row}
use Rattle.es_event.specs.declared.event.Answer.{Answer}
use Rattle.es_event.specs.declared.event.Answer.TheVariants.{Gives}
use Rattle.es_event.specs.declared.event.Event.{Event}
use Rattle.es_event.specs.declared.event.Event.TheVariants.{Received, Did, Refused}
use Rattle.es_event.specs.declared.event.Refusal.{Refusal}
use Rattle.es_event.specs.declared.event.Refusal.TheVariants.{NotASharedArrayBuffer, IndexOutOfRange}
use Rattle.es_event.specs.declared.command.Command.{Command}
use Rattle.es_event.specs.declared.command.Command.TheVariants.{SharedArrayBuffer, Length, SameBlock, Atomic}
use Rattle.es_event.specs.declared.plan.AgentPlan.{AgentPlan}
use Rattle.es_event.specs.Commands.{first, second, Kind, reads, opens_words}
use Rattle.es_event.specs.History.{History}
use Rattle.es_event.specs.Identities.{kind, made}
use Rattle.es_event.specs.Jobs.{Receivers, receivers}
use Rattle.es_event.specs.Sharing.{Buffers, row_at, row_of, block_of, is_index, AgreeSoFar}
use Rattle.es_event.specs.Numbers.{index_of, index_read, words_read}
use Rattle.es_event.specs.Rules.{Test, is_buffer, kind_of, of_buffer, of_number, of_index, refusal, first_refusal, result, refuse_or, completion}
use Rattle.es_event.specs.Heard.{Heard, heard_by, silence}
use Rattle.es_event.specs.Legal.{HasWords, Arrives, Lawful, LegalBy, values_of}
use Rattle.es_event.specs.Order.{Due, run, due}
use Rattle.es_event.specs.Follows.{Permits, Follows, done_for}
use Rattle.es_event.proofs.Births.{kind_within}

-- Tables that agree

pub agrees_with_itself : (h : History) (over : Buffers) → AgreeSoFar h over over
agrees_with_itself h over o within = refl

pub agrees_before : (e : Event) (h : History) (over more : Buffers) → AgreeSoFar (e ∷ h) over more → AgreeSoFar h over more
agrees_before e h over more a o within = a o (omega (arith, within))

pub agrees_through : (h : History) (over more most : Buffers) → AgreeSoFar h over more → AgreeSoFar h more most → AgreeSoFar h over most
agrees_through h over more most a b o within = b o within ∙ a o within

-- one more buffer, which has the next number
pub agrees_longer : (h : History) (over : Buffers) (r : Row) → AgreeSoFar h over ((made h + 1, r) ∷ over)
agrees_longer h over r o within = elim (cases_Bool (made h + 1 == o)) [
  | inl t ↦ absurd (omega (arith, within, eqb-true (made h + 1) o t))
  | inr f ↦ ap (λ b. cond b (Some r) (row_at over o)) f
]

-- What a command is told by the table

-- the two tables say the same of the value
abbrev SameOf : Buffers → Buffers → Value → Type 0
SameOf over more v = row_of more v ≡ row_of over v

a_kind : (k : Option Kind) → is_buffer k ≡ true → (kd : Kind) × (k ≡ Some kd)
a_kind None e = cc
a_kind (Some kd) e = (kd, refl)

-- of a buffer that was made they do
same_of : (over more : Buffers) (into : Receivers) (h : History) → LegalBy over into h → AgreeSoFar h over more → (v : Value) → is_buffer (kind_of h v) ≡ true → SameOf over more v
same_of over more into h l a (Object o) is = let k = a_kind (kind h o) is in a o (kind_within over into h l o k.0 k.1).1
same_of over more into h l a _ is = cc

-- where a test fails, no more is asked
by_test : (b : Bool) (code : Refusal) (f g : Option Refusal) (x y : Answer) → (b ≡ true → refuse_or f x ≡ refuse_or g y) → refuse_or (cond b f (Some code)) x ≡ refuse_or (cond b g (Some code)) y
by_test true code f g x y e = e refl
by_test false code f g x y e = refl

-- a buffer's index is judged alike
same_index : (over more : Buffers) (into : Receivers) (h : History) → LegalBy over into h → AgreeSoFar h over more → (v : Value) (n : Test) (i : ℤ) (ts : List Test) (x : Answer)
    → refuse_or (first_refusal (of_buffer h v ∷ n ∷ of_index more v i ∷ ts)) x ≡ refuse_or (first_refusal (of_buffer h v ∷ n ∷ of_index over v i ∷ ts)) x
same_index over more into h l a v n i ts x =
    by_test (is_buffer (kind_of h v)) NotASharedArrayBuffer _ _ x x
    (λ is. ap (λ r. refuse_or (cond n.0 (cond (is_index i (option_map_or (λ r. r.words) r 0)) (first_refusal ts) (Some IndexOutOfRange)) (Some n.1)) x) (same_of over more into h l a v is))

pub same_completion : (over more : Buffers) (into : Receivers) (h : History) → LegalBy over into h → AgreeSoFar h over more → (c : Command) (vs : List Value) (w : Heard) → completion more h c vs w ≡ completion over h c vs w
same_completion over more into h l a (Length to b) vs w =
    by_test (is_buffer (kind_of h (first vs))) NotASharedArrayBuffer None None _ _
    (λ is. ap (λ r. Ok (Gives (Number (pos (option_map_or (λ r. r.words) r 0))))) (same_of over more into h l a (first vs) is))
same_completion over more into h l a (SameBlock to b c) vs w =
    by_test (is_buffer (kind_of h (first vs))) NotASharedArrayBuffer _ _ _ _
    (λ left. by_test (is_buffer (kind_of h (second vs))) NotASharedArrayBuffer None None _ _
    (λ right. ap (λ n. Ok (Gives (Boolean (n == block_of more (second vs))))) (ap (λ r. option_map_or (λ r. r.block) r 0) (same_of over more into h l a (first vs) left))
    ∙ ap (λ n. Ok (Gives (Boolean (block_of over (first vs) == n)))) (ap (λ r. option_map_or (λ r. r.block) r 0) (same_of over more into h l a (second vs) right))))
same_completion over more into h l a (Atomic c) vs w = same_index over more into h l a (first vs) (of_number (index_read c vs)) (index_of c vs) (map of_number (words_read c vs)) _
same_completion over more into h l a _ vs w = refl

pub refuses_so : (f : Option Refusal) (x : Answer) (code : Refusal) → refuse_or f x ≡ Err code → f ≡ Some code
refuses_so None x code e = cc
refuses_so (Some d) x code e = cc

same_code : (f g : Option Refusal) (x y : Answer) → refuse_or f x ≡ refuse_or g y → f ≡ g
same_code None None x y e = refl
same_code None (Some d) x y e = cc
same_code (Some d) None x y e = cc
same_code (Some d) (Some b) x y e = let same : d ≡ b = cc in ap Some same

pub all_refusals : (over more : Buffers) (into : Receivers) (h : History) → LegalBy over into h → AgreeSoFar h over more → (c : Command) (vs : List Value) → refusal over h c vs ≡ refusal more h c vs
all_refusals over more into h l a c vs = same_code _ _ (result over h c vs silence) (result more h c vs silence) (sym (same_completion over more into h l a c vs silence))

-- One more event

still_has : (over more : Buffers) (h : History) (c : Command) (vs : List Value) (r : Answer) → AgreeSoFar (Did (c, vs, r) ∷ h) over more → HasWords over (made h + 1) (opens_words c) → HasWords more (made h + 1) (opens_words c)
still_has over more h (SharedArrayBuffer to n) vs r a e = ap (option_map (λ r. r.words)) (a (made h + 1) (omega arith)) ∙ e
still_has over more h _ vs r a e = tt

still_arrives : (over more : Buffers) (h : History) (t : ℕ) (v : Value) → AgreeSoFar (Received t v ∷ h) over more → Arrives over h v → Arrives more h v
still_arrives over more h t (Object o) a x = (x.0, ap is_some (a o (omega (arith, x.0))) ∙ x.1)
still_arrives over more h t _ a x = x

pub still_lawful : (over more : Buffers) (into : Receivers) (h : History) (e : Event) → LegalBy over into h → AgreeSoFar (e ∷ h) over more → Lawful over into h e → Lawful more into h e
still_lawful over more into h (Did (c, vs, r)) l a x =
    (x.0, same_completion over more into h l (agrees_before (Did (c, vs, r)) h over more a) c vs (heard_by c r) ∙ x.1, x.2, still_has over more h c vs r a x.3)
still_lawful over more into h (Received t v) l a x = still_arrives over more h t v a x
still_lawful over more into h _ l a x = x

pub still_permitted : (over more : Buffers) (into : Receivers) (h : History) (d : Due) (e : Event) → LegalBy over into h → AgreeSoFar h over more → Permits over into h d e → Permits more into h d e
still_permitted over more into h (run x c) (Did (d, vs, r)) l a p = p ∙ ap (λ o. done_for o x c) (all_refusals over more into h l a c (values_of into h (reads c)))
still_permitted over more into h (run x c) (Refused code) l a p = (p.0, sym (all_refusals over more into h l a c (values_of into h (reads c))) ∙ p.1)
still_permitted over more into h d e l a p = p

pub still_legal : (over more : Buffers) (into : Receivers) (h : History) → AgreeSoFar h over more → LegalBy over into h → LegalBy more into h
still_legal over more into [] a l = tt
still_legal over more into (e ∷ h) a l = (still_lawful over more into h e l.1 a l.0, still_legal over more into h (agrees_before e h over more a) l.1)

pub still_follows : (over more : Buffers) (plan : AgentPlan) (h : History) → AgreeSoFar h over more → LegalBy over (receivers plan.jobs) h → Follows over plan h → Follows more plan h
still_follows over more plan [] a l f = tt
still_follows over more plan (e ∷ h) a l f =
    let before : AgreeSoFar h over more = agrees_before e h over more a in
    (still_permitted over more (receivers plan.jobs) h (due plan h) e l.1 before f.0, still_follows over more plan h before l.1 f.1)
