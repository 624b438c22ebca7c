-- Each step on a ledger's proof word keeps the rule.
use Rattle.std.proofs.Common.{◌≡◌, ◌≢◌, ℕ, List, [], ◌∷◌, ◌++◌, length, set, Bool, true, false, true≢false, cond, ◌==◌, ◌&&◌, refl, sym, ap, ◌∙◌, subst, ⊎_elim, eq-eqb, ne_eqb}
use mathlib.Core.Option.{some}
use mathlib.Core.Logic.{dite}
use native.Mathlib.Decide.{ℕ_discrete}
use lib.ListN.{get_elem?}
use Rattle.atomic_table.specs.Table.{Splits, Joins}
use Rattle.atomic_table.proofs.Lists.{at_set}
use Rattle.es_ticket.specs.declared.view.View.{View}
use Rattle.es_ticket.specs.declared.view.LedgerPart.{LedgerPart}
use Rattle.es_ticket.specs.declared.view.AgentPart.{AgentPart}
use Rattle.es_ticket.specs.Views.{nobody, ledger_only, agent_only, Tie, FitsLedger, FitsAgent, Fits, AllFit, Kept}
use Rattle.es_ticket.proofs.Places.{at_new}

pub off : {A : Type 0} → false ≡ true → A
off e = absurd (true≢false (sym e))

nobody_fits : (t : Tie) (by : ℕ) → Fits t by nobody
nobody_fits t by = (off, off)

-- the ledger's part goes to the place k where l is true, and the agent's of number n where a is true
abbrev move : Tie → Bool → Bool → ℕ → ℕ → Tie
move t l a n k = record { desk = cond l k t.desk; seats = λ m. cond (a && (m == n)) k (t.seats m); rows = t.rows; word = t.word; agents = t.agents }

-- who does not have what goes
stays_ledger : (t : Tie) (i k j : ℕ) (l a : Bool) (n : ℕ) (p : LedgerPart) → (l ≡ true → i ≡ t.desk) → j ≢ i → FitsLedger t j p → FitsLedger (move t l a n k) j p
stays_ledger t i k j true a n p mine apart f = absurd (apart (f.here ∙ sym (mine refl)))
stays_ledger t i k j false a n p mine apart f = record { here = f.here; rows = f.rows; word = f.word; agents = f.agents }

stays_here : (t : Tie) (i k j : ℕ) (a : Bool) (n m : ℕ) → (a ≡ true → t.seats n ≡ i) → j ≢ i → t.seats m ≡ j → cond (a && (m == n)) k (t.seats m) ≡ j
stays_here t i k j true n m mine apart here =
    dite (ℕ_discrete m n)
    (λ e. absurd (apart (sym here ∙ ap t.seats e ∙ mine refl)))
    (λ ne. subst (λ b. cond b k (t.seats m) ≡ j) (sym (ne_eqb m n ne)) here)
stays_here t i k j false n m mine apart here = here

stays_agent : (t : Tie) (i k j : ℕ) (l a : Bool) (n : ℕ) (p : AgentPart) → (a ≡ true → t.seats n ≡ i) → j ≢ i → FitsAgent t j p → FitsAgent (move t l a n k) j p
stays_agent t i k j l a n p mine apart f = record { here = stays_here t i k j a n p.number mine apart f.here; below = f.below; mine = f.mine }

stays : (t : Tie) (i k j : ℕ) (l a : Bool) (n : ℕ) (u : View) → (l ≡ true → i ≡ t.desk) → (a ≡ true → t.seats n ≡ i) → j ≢ i → Fits t j u → Fits (move t l a n k) j u
stays t i k j l a n u desk seat apart f = ((λ h. stays_ledger t i k j l a n u.ledger desk apart (f.0 h)), (λ h. stays_agent t i k j l a n u.agent seat apart (f.1 h)))

-- who gets it
comes_ledger : (t : Tie) (i k : ℕ) (a : Bool) (n : ℕ) (p : LedgerPart) → p.keeps ≡ true → FitsLedger t i p → FitsLedger (move t p.keeps a n k) k p
comes_ledger t i k a n p h f = record { here = ap (λ b. cond b k t.desk) (sym h); rows = f.rows; word = f.word; agents = f.agents }

comes_agent : (t : Tie) (i k : ℕ) (l : Bool) (p : AgentPart) → p.claims ≡ true → FitsAgent t i p → FitsAgent (move t l p.claims p.number k) k p
comes_agent t i k l p h f = record {
  here = ap (λ b. cond (b && (p.number == p.number)) k (t.seats p.number)) h ∙ ap (λ b. cond b k (t.seats p.number)) (eq-eqb p.number p.number refl);
  below = f.below;
  mine = f.mine;
}

-- what is not moved stays where it is
same_ledger : (t : Tie) (k j : ℕ) (a : Bool) (n : ℕ) (p : LedgerPart) → FitsLedger t j p → FitsLedger (move t false a n k) j p
same_ledger t k j a n p f = record { here = f.here; rows = f.rows; word = f.word; agents = f.agents }

same_agent : (t : Tie) (k j : ℕ) (l : Bool) (n : ℕ) (p : AgentPart) → FitsAgent t j p → FitsAgent (move t l false n k) j p
same_agent t k j l n p f = record { here = f.here; below = f.below; mine = f.mine }

-- a view is cut: what the places of the two parts are, and the rest
pub cut : (t : Tie) (views : List View) (id : ℕ) (left right : View)
    → ((j : ℕ) (u : View) → j ≢ id → get_elem? views j ≡ some u → Fits t j u) → Fits t id left → Fits t (length (set views id left)) right
    → AllFit t (set views id left ++ right ∷ [])
cut t views id left right others l r j u e =
    ⊎_elim
    (λ was. ⊎_elim
    (λ (x : (j ≡ id) × (left ≡ u)). subst (λ (y : ℕ × View). Fits t y.0 y.1) (λ i. (sym x.0 i, x.1 i)) l)
    (λ (x : (j ≢ id) × (get_elem? views j ≡ some u)). others j u x.0 x.1)
    (at_set views id j left u was))
    (λ (x : (j ≡ length (set views id left)) × (right ≡ u)). subst (λ (y : ℕ × View). Fits t y.0 y.1) (λ i. (sym x.0 i, x.1 i)) r)
    (at_new (set views id left) right u j e)

-- two views are joined in the place id
glue : (t : Tie) (views : List View) (id other : ℕ) (both : View)
    → ((j : ℕ) (u : View) → j ≢ id → j ≢ other → get_elem? views j ≡ some u → Fits t j u) → Fits t id both
    → AllFit t (set (set views id both) other nobody)
glue t views id other both others b j u e =
    ⊎_elim
    (λ (x : (j ≡ other) × (nobody ≡ u)). subst (λ (y : ℕ × View). Fits t y.0 y.1) (λ i. (sym x.0 i, x.1 i)) (nobody_fits t other))
    (λ (x : (j ≢ other) × (get_elem? (set views id both) j ≡ some u)). ⊎_elim
    (λ (y : (j ≡ id) × (both ≡ u)). subst (λ (z : ℕ × View). Fits t z.0 z.1) (λ i. (sym y.0 i, y.1 i)) b)
    (λ (y : (j ≢ id) × (get_elem? views j ≡ some u)). others j u y.0 x.0 y.1)
    (at_set views id j both u x.1))
    (at_set (set views id both) other j nobody u e)

there_before : (views : List View) (id other : ℕ) (both w : View) → ¬ (other ≡ id) → get_elem? (set views id both) other ≡ some w → get_elem? views other ≡ some w
there_before views id other both w apart e = ⊎_elim (λ (x : (other ≡ id) × (both ≡ w)). absurd (apart x.0)) (λ (x : (other ≢ id) × (get_elem? views other ≡ some w)). x.1) (at_set views id other both w e)

module _ {S : Type 0} where
  pub whole : (id : ℕ) (v : View) → Splits (Kept {S = S}) id v nobody v
  whole id v s h at =
      let t = h.0 in let mine = h.2 id v at in let k = length (set s.views id nobody) in let m = move t v.ledger.keeps v.agent.claims v.agent.number k in (
        m,
        h.1,
        cut m s.views id nobody v
            (λ j u apart e. stays t id k j v.ledger.keeps v.agent.claims v.agent.number u (λ l. (mine.0 l).here) (λ a. (mine.1 a).here) apart (h.2 j u e))
            (nobody_fits m id)
            ((λ l. comes_ledger t id k v.agent.claims v.agent.number v.ledger l (mine.0 l)), (λ a. comes_agent t id k v.ledger.keeps v.agent a (mine.1 a))),
      )

  pub part : (id : ℕ) (v : View) → Splits (Kept {S = S}) id v (ledger_only v) (agent_only v)
  part id v s h at =
      let t = h.0 in let mine = h.2 id v at in let k = length (set s.views id (ledger_only v)) in let m = move t false v.agent.claims v.agent.number k in (
        m,
        h.1,
        cut m s.views id (ledger_only v) (agent_only v)
            (λ j u apart e. stays t id k j false v.agent.claims v.agent.number u off (λ a. (mine.1 a).here) apart (h.2 j u e))
            ((λ l. same_ledger t k id v.agent.claims v.agent.number v.ledger (mine.0 l)), off)
            (off, (λ a. comes_agent t id k false v.agent a (mine.1 a))),
      )

  pub beside : (id : ℕ) (v : View) (other : ℕ) (w : View) → Joins (Kept {S = S}) id v other w (record { ledger = v.ledger; agent = w.agent }) nobody
  beside id v other w s h at apart e =
      let t = h.0 in let both : View = record { ledger = v.ledger; agent = w.agent } in let mine = h.2 id v at in let theirs = h.2 other w (there_before s.views id other both w apart e) in
      let m = move t false w.agent.claims w.agent.number id in (
        m,
        h.1,
        glue m s.views id other both
            (λ j u _ far e'. stays t other id j false w.agent.claims w.agent.number u off (λ a. (theirs.1 a).here) far (h.2 j u e'))
            ((λ l. same_ledger t id id w.agent.claims w.agent.number v.ledger (mine.0 l)), (λ a. comes_agent t other id false w.agent a (theirs.1 a))),
      )

  pub under : (id : ℕ) (v : View) (other : ℕ) (w : View) → Joins (Kept {S = S}) id v other w (record { ledger = w.ledger; agent = v.agent }) nobody
  under id v other w s h at apart e =
      let t = h.0 in let both : View = record { ledger = w.ledger; agent = v.agent } in let mine = h.2 id v at in let theirs = h.2 other w (there_before s.views id other both w apart e) in
      let m = move t w.ledger.keeps false 0 id in (
        m,
        h.1,
        glue m s.views id other both
            (λ j u _ far e'. stays t other id j w.ledger.keeps false 0 u (λ l. (theirs.0 l).here) off far (h.2 j u e'))
            ((λ l. comes_ledger t other id false 0 w.ledger l (theirs.0 l)), (λ a. same_agent t id id w.ledger.keeps 0 v.agent (mine.1 a))),
      )

  pub back : (id : ℕ) (v : View) (other : ℕ) (w : View) → Joins (Kept {S = S}) id v other w w nobody
  back id v other w s h at apart e =
      let t = h.0 in let theirs = h.2 other w (there_before s.views id other w w apart e) in
      let m = move t w.ledger.keeps w.agent.claims w.agent.number id in (
        m,
        h.1,
        glue m s.views id other w
            (λ j u _ far e'. stays t other id j w.ledger.keeps w.agent.claims w.agent.number u (λ l. (theirs.0 l).here) (λ a. (theirs.1 a).here) far (h.2 j u e'))
            ((λ l. comes_ledger t other id w.agent.claims w.agent.number w.ledger l (theirs.0 l)), (λ a. comes_agent t other id w.ledger.keeps w.agent a (theirs.1 a))),
      )
