-- A receipt that finds no room takes a message of the sender that its job names, and of nobody else.
use Rattle.std.proofs.Common.{◌≡◌, ℕ, Bool, true, false, cond, List, [], ◌∷◌, ◌++◌, Option, Some, refl, sym, ap, ◌∙◌}
use Rattle.es_event.specs.declared.ledger_event.Body.{Body}
use Rattle.es_event.specs.declared.ledger_event.Body.TheVariants.{Block}
use Rattle.es_event.specs.declared.event.Event.TheVariants.{Refused}
use Rattle.es_event.specs.declared.event.Refusal.TheVariants.{TooManyValues}
use Rattle.es_event.specs.declared.plan.AgentPlan.{AgentPlan}
use Rattle.es_event.specs.History.{History}
use Rattle.es_event.specs.Jobs.{job}
use Rattle.es_event.specs.Sharing.{Buffers}
use Rattle.es_match.specs.Asks.{to_refuse, asks, between_jobs}
use Rattle.es_match.specs.Cluster.{IsSaid, DeedsMeet, awaited, is_refusal_asked, refused_senders}
use Rattle.es_match.specs.Deeds.{Deed, Takes, Spends}
use Rattle.es_match.specs.Meets.{Came, Tickets, after, came_after, is_refusal, refused_in, some_if}
use Rattle.es_match.proofs.Bridge.{mapped}

last_of : {A : Type 0} (xs ys : List A) (x y : A) → xs ++ x ∷ [] ≡ ys ++ y ∷ [] → x ≡ y
last_of [] [] x y e = cc
last_of [] (b ∷ []) x y e = cc
last_of [] (b ∷ c ∷ ys) x y e = cc
last_of (a ∷ []) [] x y e = cc
last_of (a ∷ b ∷ xs) [] x y e = cc
last_of (a ∷ xs) (b ∷ ys) x y e = last_of xs ys x y (let rest : xs ++ x ∷ [] ≡ ys ++ y ∷ [] = cc in rest)

-- what a refusal takes
taken : (t u : Tickets) (ds : List Deed) → after t to_refuse ds ≡ Some u → (s : ℕ) × (m : Option Body) × (w : ℕ) × (c : Deed) × (ds ≡ Takes s m w ∷ c ∷ []) × (refused_in to_refuse ds ≡ s ∷ [])
taken t u [] met = cc
taken t u (d ∷ []) met = cc
taken t u (Takes s m w ∷ c ∷ []) met = (s, m, w, c, refl, refl)
taken t u (d ∷ c ∷ []) met = by (is_refusal d c) refl met
  where
    by : (b : Bool) → is_refusal d c ≡ b → some_if b t ≡ Some u → (s : ℕ) × (m : Option Body) × (w : ℕ) × (e : Deed) × (d ∷ c ∷ [] ≡ Takes s m w ∷ e ∷ []) × (refused_in to_refuse (d ∷ c ∷ []) ≡ s ∷ [])
    by false is e = cc
    by true is e = at d is
      where
        at : (d : Deed) → is_refusal d c ≡ true → (s : ℕ) × (m : Option Body) × (w : ℕ) × (e : Deed) × (d ∷ c ∷ [] ≡ Takes s m w ∷ e ∷ []) × (refused_in to_refuse (d ∷ c ∷ []) ≡ s ∷ [])
        at (Takes s m w) is = (s, m, w, c, refl, refl)
        at _ is = cc
taken t u (d ∷ c ∷ b ∷ ds) met = cc

-- it is of the sender that the job names
named : (plan : AgentPlan) (over : Buffers) (h : History) (s : ℕ) (ds : List Deed) (c : Came) → awaited plan (job h) ≡ s ∷ [] → between_jobs h ≡ true
    → DeedsMeet (Refused TooManyValues ∷ h) ds c → IsSaid (record { plan = plan; over = over; history = Refused TooManyValues ∷ h }) c
    → (before : List Deed) × (m : Option Body) × (w : ℕ) × (d : Deed) × (ds ≡ before ++ Takes s m w ∷ d ∷ [])
named plan over h s ds c waits free ties said =
    let asked : asks (between_jobs h) (Refused TooManyValues) ≡ to_refuse = ap (λ b. asks b (Refused TooManyValues)) free in
    let met : came_after ties.2 to_refuse ties.1 ≡ Some c = ap (λ q. came_after ties.2 q ties.1) (sym asked) ∙ ties.5 in
    let m = mapped _ (after ties.2.tickets to_refuse ties.1) c met in
    let t = taken ties.2.tickets m.0 ties.1 m.1 in
    let came : c.refused ≡ ties.2.refused ++ t.0 ∷ [] = ap (λ c. c.refused) (sym m.2) ∙ ap (λ ns. ties.2.refused ++ ns) t.5 in
    let told : c.refused ≡ refused_senders plan h ++ s ∷ [] = said.senders ∙ ap (λ ns. refused_senders plan h ++ ns) (ap (λ q. cond (is_refusal_asked q) (awaited plan (job h)) []) asked ∙ waits) in
    let same : t.0 ≡ s = last_of ties.2.refused (refused_senders plan h) t.0 s (sym came ∙ told) in
    (ties.0, t.1, t.2, t.3, ties.3 ∙ ap (λ ds. ties.0 ++ ds) t.4 ∙ ap (λ s. ties.0 ++ Takes s t.1 t.2 ∷ t.3 ∷ []) same)

last_two : {A : Type 0} (xs ys : List A) (x y a b : A) → xs ++ x ∷ a ∷ [] ≡ ys ++ y ∷ b ∷ [] → x ≡ y
last_two [] [] x y a b e = cc
last_two [] (c ∷ []) x y a b e = cc
last_two [] (c ∷ d ∷ []) x y a b e = cc
last_two [] (c ∷ d ∷ f ∷ ys) x y a b e = cc
last_two (c ∷ []) [] x y a b e = cc
last_two (c ∷ d ∷ []) [] x y a b e = cc
last_two (c ∷ d ∷ f ∷ xs) [] x y a b e = cc
last_two (c ∷ xs) (d ∷ ys) x y a b e = last_two xs ys x y a b (let rest : xs ++ x ∷ a ∷ [] ≡ ys ++ y ∷ b ∷ [] = cc in rest)

-- a worker whose job waits for agent 0, and that refuses what agent 1 posted
another_sender : (plan : AgentPlan) (over : Buffers) (h : History) (earlier : List Deed) (c : Came) → awaited plan (job h) ≡ 0 ∷ [] → between_jobs h ≡ true
    → DeedsMeet (Refused TooManyValues ∷ h) (earlier ++ Takes 1 (Some (Block 1 2)) 1 ∷ Spends 2 ∷ []) c → IsSaid (record { plan = plan; over = over; history = Refused TooManyValues ∷ h }) c → ⊥
another_sender plan over h earlier c waits free ties said =
    let n = named plan over h 0 _ c waits free ties said in
    let clash : Takes 1 (Some (Block 1 2)) 1 ≡ Takes 0 n.1 n.2 = last_two earlier n.0 _ _ (Spends 2) n.3 n.4 in
    cc
