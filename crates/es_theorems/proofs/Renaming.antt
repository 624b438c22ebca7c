-- What comes next to an agent comes next to it under other names of blocks too.
use Rattle.std.proofs.Common.{◌≡◌, ℕ, ◌+◌, ◌==◌, cond, sym, ◌∙◌, ap, refl, List, [], ◌∷◌, Option, Some, None, inl, inr, map}
use Rattle.std.specs.Prelude.{pos, is_some}
use Rattle.std.specs.Option.{option_map, option_map_or, option_and_then}
use Rattle.std.proofs.lemmas.Bool.{cases_Bool}
use Rattle.es_value.specs.declared.value.Value.{Value}
use Rattle.es_value.specs.declared.value.Value.TheVariants.{Boolean, Number, Object}
use Rattle.es_event.specs.declared.atomic.AtomicParts.{AtomicParts}
use Rattle.es_event.specs.declared.command.Command.{Command}
use Rattle.es_event.specs.declared.command.Command.TheVariants.{Length, SameBlock, Atomic}
use Rattle.es_event.specs.declared.event.Answer.TheVariants.{Gives}
use Rattle.es_event.specs.declared.event.Event.{Event}
use Rattle.es_event.specs.declared.event.Event.TheVariants.{Received, Did, Refused}
use Rattle.es_event.specs.declared.event.Refusal.{Refusal}
use Rattle.es_event.specs.declared.event.Refusal.TheVariants.{IndexOutOfRange}
use Rattle.es_event.specs.declared.plan.AgentPlan.{AgentPlan}
use Rattle.es_event.specs.declared.row.Row.{Row}
use Rattle.es_event.specs.Commands.{first, opens_words, reads, second}
use Rattle.es_event.specs.Follows.{Follows, Permits, done_for}
use Rattle.es_event.specs.History.{History}
use Rattle.es_event.specs.Identities.{made, object_of}
use Rattle.es_event.specs.Jobs.{Receivers, receivers}
use Rattle.es_event.specs.Heard.{Heard, heard_by}
use Rattle.es_event.specs.Legal.{Arrives, HasWords, Lawful, LegalBy, values_of}
use Rattle.es_event.specs.Numbers.{index_of, index_read, words_read}
use Rattle.es_event.specs.Order.{Due, due, run}
use Rattle.es_event.specs.Rules.{completion, first_refusal, of_buffer, refusal, refuse_or, result, of_number}
use Rattle.es_event.specs.Runs.{ComesNext, IsRunOver}
use Rattle.es_event.specs.Sharing.{Buffers, block_of, is_index, row_at, row_of, words_of}
use Rattle.es_theorems.specs.Alone.{with_new}
use Rattle.es_theorems.specs.Renamed.{TellsApart, renamed, renamed_row}

pub row_renamed : (f : ℕ → ℕ) (over : Buffers) (o : ℕ) → row_at (renamed f over) o ≡ option_map (renamed_row f) (row_at over o)
row_renamed f [] o = refl
row_renamed f (p ∷ over) o = elim (cases_Bool (p.0 == o)) [
  | inl e ↦ ap (λ b. cond b (Some (renamed_row f p.1)) (row_at (renamed f over) o)) e ∙ sym (ap (λ b. option_map (renamed_row f) (cond b (Some p.1) (row_at over o))) e)
  | inr e ↦ ap (λ b. cond b (Some (renamed_row f p.1)) (row_at (renamed f over) o)) e ∙ row_renamed f over o ∙ sym (ap (λ b. option_map (renamed_row f) (cond b (Some p.1) (row_at over o))) e)
]

row_of_renamed : (f : ℕ → ℕ) (over : Buffers) (v : Value) → row_of (renamed f over) v ≡ option_map (renamed_row f) (row_of over v)
row_of_renamed f over v = at (object_of v)
  where
    at : (o : Option ℕ) → option_and_then (row_at (renamed f over)) o ≡ option_map (renamed_row f) (option_and_then (row_at over) o)
    at None = refl
    at (Some o) = row_renamed f over o

pub words_renamed : (f : ℕ → ℕ) (over : Buffers) (v : Value) → words_of (renamed f over) v ≡ words_of over v
words_renamed f over v = ap (λ r. option_map_or (λ r. r.words) r 0) (row_of_renamed f over v) ∙ at (row_of over v)
  where
    at : (r : Option Row) → option_map_or (λ r. r.words) (option_map (renamed_row f) r) 0 ≡ option_map_or (λ r. r.words) r 0
    at None = refl
    at (Some r) = refl

pub block_renamed : (f : ℕ → ℕ) (over : Buffers) (v : Value) → f 0 ≡ 0 → block_of (renamed f over) v ≡ f (block_of over v)
block_renamed f over v none = ap (λ r. option_map_or (λ r. r.block) r 0) (row_of_renamed f over v) ∙ at (row_of over v)
  where
    at : (r : Option Row) → option_map_or (λ r. r.block) (option_map (renamed_row f) r) 0 ≡ f (option_map_or (λ r. r.block) r 0)
    at None = sym none
    at (Some r) = refl

-- A command

-- the first refusal of a command on a word, where its block has this many words
abbrev refused_of : History → AtomicParts → List Value → ℕ → Option Refusal
refused_of h c vs k = first_refusal (of_buffer h (first vs) ∷ of_number (index_read c vs) ∷ (is_index (index_of c vs) k, IndexOutOfRange) ∷ map of_number (words_read c vs))

completed : (f : ℕ → ℕ) (over : Buffers) (h : History) → TellsApart f over → (c : Command) (vs : List Value) (w : Heard) → completion (renamed f over) h c vs w ≡ completion over h c vs w
completed f over h a (Length to b) vs w = ap (λ k. refuse_or (refusal over h (Length to b) vs) (Gives (Number (pos k)))) (words_renamed f over (first vs))
completed f over h a (SameBlock to b c) vs w =
    ap (λ x. refuse_or (refusal over h (SameBlock to b c) vs) (Gives (Boolean x)))
    (ap (λ k. k == block_of (renamed f over) (second vs)) (block_renamed f over (first vs) a.none)
    ∙ ap (λ k. f (block_of over (first vs)) == k) (block_renamed f over (second vs) a.none)
    ∙ a.apart (first vs) (second vs))
completed f over h a (Atomic c) vs w =
    ap (λ k. refuse_or (refused_of h c vs k) (result over h (Atomic c) vs w)) (words_renamed f over (first vs))
completed f over h a _ vs w = refl

refused : (f : ℕ → ℕ) (over : Buffers) (h : History) (c : Command) (vs : List Value) → refusal (renamed f over) h c vs ≡ refusal over h c vs
refused f over h (Atomic c) vs = ap (refused_of h c vs) (words_renamed f over (first vs))
refused f over h _ vs = refl

-- One more event

has_words : (f : ℕ → ℕ) (over : Buffers) (o : ℕ) (n : Option ℕ) → HasWords over o n → HasWords (renamed f over) o n
has_words f over o None has = tt
has_words f over o (Some n) has = ap (option_map (λ r. r.words)) (row_renamed f over o) ∙ at (row_at over o) ∙ has
  where
    at : (r : Option Row) → option_map (λ r. r.words) (option_map (renamed_row f) r) ≡ option_map (λ r. r.words) r
    at None = refl
    at (Some r) = refl

arrives : (f : ℕ → ℕ) (over : Buffers) (h : History) (v : Value) → Arrives over h v → Arrives (renamed f over) h v
arrives f over h (Object o) x = (x.0, ap is_some (row_renamed f over o) ∙ at (row_at over o) ∙ x.1)
  where
    at : (r : Option Row) → is_some (option_map (renamed_row f) r) ≡ is_some r
    at None = refl
    at (Some r) = refl
arrives f over h _ x = x

lawful : (f : ℕ → ℕ) (over : Buffers) (into : Receivers) (h : History) → TellsApart f over → (e : Event) → Lawful over into h e → Lawful (renamed f over) into h e
lawful f over into h a (Did (c, vs, r)) x = (x.0, completed f over h a c vs (heard_by c r) ∙ x.1, x.2, has_words f over (made h + 1) (opens_words c) x.3)
lawful f over into h a (Received t v) x = arrives f over h v x
lawful f over into h a _ x = x

permitted : (f : ℕ → ℕ) (over : Buffers) (into : Receivers) (h : History) (d : Due) (e : Event) → Permits over into h d e → Permits (renamed f over) into h d e
permitted f over into h (run x c) (Did (d, vs, r)) p = p ∙ ap (λ o. done_for o x c) (sym (refused f over h c (values_of into h (reads c))))
permitted f over into h (run x c) (Refused code) p = (p.0, refused f over h c (values_of into h (reads c)) ∙ p.1)
permitted f over into h d e p = p

pub comes_renamed : (f : ℕ → ℕ) (over : Buffers) (plan : AgentPlan) (h : History) (e : Event) → TellsApart f over → ComesNext over plan h e → ComesNext (renamed f over) plan h e
comes_renamed f over plan h e a next = (lawful f over (receivers plan.jobs) h a e next.0, permitted f over (receivers plan.jobs) h (due plan h) e next.1)

legal_renamed : (f : ℕ → ℕ) (over : Buffers) (into : Receivers) (h : History) → TellsApart f over → LegalBy over into h → LegalBy (renamed f over) into h
legal_renamed f over into [] a l = tt
legal_renamed f over into (e ∷ h) a l = (lawful f over into h a e l.0, legal_renamed f over into h a l.1)

follows_renamed : (f : ℕ → ℕ) (over : Buffers) (plan : AgentPlan) (h : History) → Follows over plan h → Follows (renamed f over) plan h
follows_renamed f over plan [] x = tt
follows_renamed f over plan (e ∷ h) x = (permitted f over (receivers plan.jobs) h (due plan h) e x.0, follows_renamed f over plan h x.1)

pub run_renamed : (f : ℕ → ℕ) (over : Buffers) (plan : AgentPlan) (h : History) → TellsApart f over → IsRunOver over plan h → IsRunOver (renamed f over) plan h
run_renamed f over plan h a ran = (legal_renamed f over (receivers plan.jobs) h a ran.0, follows_renamed f over plan h ran.1)

pub new_renamed : (f : ℕ → ℕ) (r : Option Row) (h : History) (over : Buffers) → with_new (option_map (renamed_row f) r) h (renamed f over) ≡ renamed f (with_new r h over)
new_renamed f None h over = refl
new_renamed f (Some r) h over = refl
