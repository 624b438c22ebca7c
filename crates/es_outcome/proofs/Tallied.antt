-- The totals of registrations of agents, one after the other.
use Rattle.std.proofs.Common.{◌≡◌, ℕ, zero, suc, ◌+◌, ◌≤◌, List, [], ◌∷◌, ◌++◌, map, take, reverse, length, sym, ◌∙◌, ap, refl, arith, Some}
use Rattle.std.specs.Prelude.{slice_get}
use Rattle.es_event.specs.declared.event.Event.{Event}
use Rattle.es_event.specs.History.{History}
use Rattle.es_event.specs.Registrations.{live, awaiting, unregistered, taken, tally}
use Rattle.es_record.specs.AgentView.{AgentView}
use Rattle.es_registry.specs.declared.slot.Tally.{Tally}
use Rattle.es_report.specs.Tallies.{end_tally}

tally_is : (t : Tally) (h : History) → t.live ≡ tally h live → t.awaiting ≡ tally h awaiting → t.unregistered ≡ tally h unregistered → t.taken ≡ tally h taken → t ≡ end_tally h
tally_is t h a b c d = λ i. record { live = a i; awaiting = b i; unregistered = c i; taken = d i }

take_more : (bs : List AgentView) (i : ℕ) (b : AgentView) → slice_get bs i ≡ Some b → take (i + 1) bs ≡ take i bs ++ b ∷ []
take_more [] i b is = cc
take_more (c ∷ bs) zero b is = let same : c ≡ b = cc in ap (λ b. b ∷ []) same
take_more (c ∷ bs) (suc i) b is =
    let next : suc i + 1 ≡ suc (i + 1) = omega arith in
    ap (λ n. take n (c ∷ bs)) next ∙ ap (λ bs. c ∷ bs) (take_more bs i b is)

take_all : (bs : List AgentView) (n : ℕ) → length bs ≤ n → take n bs ≡ bs
take_all [] zero all = refl
take_all [] (suc n) all = refl
take_all (b ∷ bs) zero all = absurd (omega (arith, all))
take_all (b ∷ bs) (suc n) all = ap (λ bs. b ∷ bs) (take_all bs n (omega (arith, all)))

mapped_last : {X : Type 0} (f : AgentView → X) (bs : List AgentView) (b : AgentView) → map f (bs ++ b ∷ []) ≡ map f bs ++ f b ∷ []
mapped_last f [] b = refl
mapped_last f (c ∷ bs) b = ap (λ xs. f c ∷ xs) (mapped_last f bs b)

pub mapped_more : {X : Type 0} (f : AgentView → X) (bs : List AgentView) (i : ℕ) (b : AgentView) (xs more : List X) (x : X) → slice_get bs i ≡ Some b → xs ≡ map f (take i bs) → more ≡ xs ++ x ∷ [] → x ≡ f b → more ≡ map f (take (i + 1) bs)
mapped_more f bs i b xs more x is before pushed here =
    pushed ∙ ap (λ xs. xs ++ x ∷ []) before ∙ ap (λ x. map f (take i bs) ++ x ∷ []) here ∙ sym (ap (map f) (take_more bs i b is) ∙ mapped_last f (take i bs) b)

pub mapped_all : {X : Type 0} (f : AgentView → X) (bs : List AgentView) (n : ℕ) (xs : List X) → n ≡ length bs → xs ≡ map f (take n bs) → xs ≡ map f bs
mapped_all f bs n xs size are = are ∙ ap (map f) (take_all bs n (omega (arith, size)))

pub tallies_more : (bs : List AgentView) (i : ℕ) (b : AgentView) (ts more : List Tally) (t : Tally) → slice_get bs i ≡ Some b → ts ≡ map (λ b. end_tally b.history) (take i bs) → more ≡ ts ++ t ∷ []
    → t.live ≡ tally b.history live → t.awaiting ≡ tally b.history awaiting → t.unregistered ≡ tally b.history unregistered → t.taken ≡ tally b.history taken
    → more ≡ map (λ b. end_tally b.history) (take (i + 1) bs)
tallies_more bs i b ts more t is before pushed a c d e = mapped_more (λ b. end_tally b.history) bs i b ts more t is before pushed (tally_is t b.history a c d e)

pub tallies_all : (bs : List AgentView) (n : ℕ) (ts : List Tally) → n ≡ length bs → ts ≡ map (λ b. end_tally b.history) (take n bs) → ts ≡ map (λ b. end_tally b.history) bs
tallies_all bs n ts size are = mapped_all (λ b. end_tally b.history) bs n ts size are

pub of_events : (hs : List (List Event)) → map (λ events. end_tally (reverse events)) hs ≡ map end_tally (map (λ h. reverse h) hs)
of_events [] = refl
of_events (h ∷ hs) = ap (λ ts. end_tally (reverse h) ∷ ts) (of_events hs)

pub of_cores : (bs : List AgentView) → map (λ b. end_tally b.history) bs ≡ map end_tally (map (λ b. b.history) bs)
of_cores [] = refl
of_cores (b ∷ bs) = ap (λ ts. end_tally b.history ∷ ts) (of_cores bs)
