-- Each step on the word keeps the rule.
use Rattle.std.proofs.Common.{◌≡◌, ◌≢◌, ℕ, zero, suc, List, [], ◌∷◌, length, set, true, cond, ◌==◌, refl, sym, ap, ◌∙◌, subst, ⊎_elim, arith, eq-eqb, ne_eqb}
use Rattle.std.specs.Prelude.{slice_index, slice_set}
use mathlib.Core.Option.{some, some-injective, some-ne-none}
use prog.Atomic.{either}
use lib.ListN.{get_elem?}
use Rattle.std.specs.declared.vec.Vec.{Vec}
use Rattle.std.specs.declared.alloc.Global.{Global}
use Rattle.atomic_table.specs.Table.{Me, step, keeps, Allows, Splits, opening}
use Rattle.atomic_table.proofs.Lists.{at_set, set_again}
use Rattle.es_event.specs.declared.row.Entry.{Entry}
use Rattle.es_ticket.specs.declared.view.View.{View}
use Rattle.es_ticket.specs.declared.view.AgentPart.{AgentPart}
use Rattle.es_event.specs.Rows.{held}
use Rattle.es_ticket.specs.Views.{ledger_part, agent_part, ledger_view, one_more, newcomer, Tie, FitsAgent, Fits, AllFit, Kept, Looked, Offered, Taken, Settled}
use Rattle.es_ticket.proofs.Moves.{off, cut}

pub begins : (S : Type 0) → Kept {S = S} (opening (0 ∷ []) [] (ledger_view [] 0 0))
begins S = (record { desk = 0; seats = λ _. 0; rows = []; word = 0; agents = 0 }, refl, one)
  where
    one : AllFit (record { desk = 0; seats = λ _. 0; rows = []; word = 0; agents = 0 }) (ledger_view [] 0 0 ∷ [])
    one zero v e = subst (Fits (record { desk = 0; seats = λ _. 0; rows = []; word = 0; agents = 0 }) 0) (some-injective _ _ e) ((λ _. record { here = refl; rows = refl; word = refl; agents = refl }), off)
    one (suc by) v e = absurd (some-ne-none v (sym e))

-- all but the place id keep to u, and id to w
changed : (t : Tie) (views : List View) (id : ℕ) (w : View) → ((j : ℕ) (u : View) → j ≢ id → get_elem? views j ≡ some u → Fits t j u) → Fits t id w → AllFit t (set views id w)
changed t views id w others mine j u e =
    ⊎_elim
    (λ (x : (j ≡ id) × (w ≡ u)). subst (λ (y : ℕ × View). Fits t y.0 y.1) (λ i. (sym x.0 i, x.1 i)) mine)
    (λ (x : (j ≢ id) × (get_elem? views j ≡ some u)). others j u x.0 x.1)
    (at_set views id j w u e)

pub looks : {S : Type 0} (slots id : ℕ) (me : Me S View) → Allows (Kept {S = S}) slots id me 0 (λ n. n) (λ _ w. Looked me w)
looks slots id me s h len at small =
    let t = h.0 in let mine = h.2 id me.0 at in (
      me.0,
      keeps,
      tt,
      (t, ap (λ l. slice_set l 0 (slice_index l 0)) h.1, subst (AllFit t) (sym (set_again s.views id me.0 at)) h.2),
      (refl, λ settled l a. (mine.1 a).mine (λ e. let is : t.word ≡ 0 = sym (mine.0 l).word ∙ settled in omega arith) ∙ ap (held me.0.agent.number) (sym (mine.0 l).rows)),
    )

-- only the agent that the word names may have other rows in the new table
pub offers : (slots id : ℕ) (me : Me (Vec Entry Global) View) (rows : Vec Entry Global) (new : ℕ) → me.0.ledger.keeps ≡ true → me.0.ledger.word ≡ 0
    → ((b : ℕ) → new ≢ suc b → held b rows.items ≡ held b me.0.ledger.rows)
    → Allows (Kept {S = Vec Entry Global}) slots id me 0 (λ n. either (n == 0) new n) (λ _ w. Offered (step slots 0 0 new (some rows)) me w)
offers slots id me rows new l settled others s h len at small =
    let t = h.0 in let mine = h.2 id me.0 at in let known = mine.0 l in
    let is : t.word ≡ 0 = sym known.word ∙ settled in
    let now : Tie = record { desk = t.desk; seats = t.seats; rows = rows.items; word = new; agents = t.agents } in
    let fits_agent : (j : ℕ) (p : AgentPart) → FitsAgent t j p → FitsAgent now j p =
    λ j p f. record {
      here = f.here;
      below = f.below;
      mine = λ (away : new ≢ suc p.number). f.mine (λ e. omega arith) ∙ ap (held p.number) (sym known.rows) ∙ sym (others p.number away);
    } in
    let w : View = record { ledger = ledger_part rows.items new me.0.ledger.agents; agent = me.0.agent } in (
      w,
      keeps,
      tt,
      (
        now,
        ap (λ l. slice_set l 0 (either (slice_index l 0 == 0) new (slice_index l 0))) h.1 ∙ ap (λ n. either (n == 0) new n ∷ []) is,
        changed now s.views id w
            (λ j u apart e. ((λ k. absurd (apart (((h.2 j u e).0 k).here ∙ sym known.here))), (λ k. fits_agent j u.agent ((h.2 j u e).1 k))))
            ((λ _. record { here = known.here; rows = refl; word = refl; agents = known.agents }), (λ k. fits_agent id me.0.agent (mine.1 k))),
      ),
      refl,
    )

pub takes : {S : Type 0} (slots id : ℕ) (me : Me S View) → me.0.ledger.keeps ≡ true → me.0.agent.claims ≡ true → Allows (Kept {S = S}) slots id me 0 (λ n. n) (λ _ w. Taken me w)
takes slots id me l a s h len at small =
    let t = h.0 in let mine = h.2 id me.0 at in let known = mine.0 l in let claim = mine.1 a in
    let w : View = record { ledger = me.0.ledger; agent = agent_part me.0.agent.number (held me.0.agent.number me.0.ledger.rows) } in (
      w,
      keeps,
      tt,
      (
        t,
        ap (λ l. slice_set l 0 (slice_index l 0)) h.1,
        changed t s.views id w
            (λ j u _ e. h.2 j u e)
            ((λ _. known), (λ _. record { here = claim.here; below = claim.below; mine = λ _. ap (held me.0.agent.number) known.rows })),
      ),
      refl,
    )

pub settles : {S : Type 0} (slots id : ℕ) (me : Me S View) → me.0.ledger.keeps ≡ true → me.0.agent.claims ≡ true → me.0.ledger.word ≡ suc me.0.agent.number → me.0.agent.mine ≡ held me.0.agent.number me.0.ledger.rows
    → Allows (Kept {S = S}) slots id me 0 (λ _. 0) (λ _ w. Settled me w)
settles slots id me l a names same s h len at small =
    let t = h.0 in let mine = h.2 id me.0 at in let known = mine.0 l in let claim = mine.1 a in
    let now : Tie = record { desk = t.desk; seats = t.seats; rows = t.rows; word = 0; agents = t.agents } in
    let w : View = record { ledger = ledger_part me.0.ledger.rows 0 me.0.ledger.agents; agent = me.0.agent } in (
      w,
      keeps,
      tt,
      (
        now,
        ap (λ l. slice_set l 0 0) h.1,
        changed now s.views id w
            (λ j u apart e. (
              (λ k. let f = (h.2 j u e).0 k in record { here = f.here; rows = f.rows; word = absurd (apart (f.here ∙ sym known.here)); agents = f.agents }),
              (λ k. let f = (h.2 j u e).1 k in record {
                here = f.here;
                below = f.below;
                mine = λ _. f.mine (λ eq. apart (sym f.here ∙ ap t.seats (let n : u.agent.number ≡ me.0.agent.number = (let e1 : suc me.0.agent.number ≡ suc u.agent.number = sym names ∙ known.word ∙ eq in omega arith) in n) ∙ claim.here));
              }),
            ))
            ((λ _. record { here = known.here; rows = known.rows; word = refl; agents = known.agents }), (λ _. record { here = claim.here; below = claim.below; mine = λ _. same ∙ ap (held me.0.agent.number) known.rows })),
      ),
      refl,
    )

pub deals : {S : Type 0} (id : ℕ) (v : View) → v.ledger.keeps ≡ true → v.ledger.rows ≡ [] → Splits (Kept {S = S}) id v (one_more v) (newcomer v)
deals id v l empty s h at =
    let t = h.0 in let mine = h.2 id v at in let known = mine.0 l in let k = length (set s.views id (one_more v)) in
    let now : Tie = record { desk = t.desk; seats = λ m. cond (m == t.agents) k (t.seats m); rows = t.rows; word = t.word; agents = suc t.agents } in (
      now,
      h.1,
      cut now s.views id (one_more v) (newcomer v)
          (λ j u apart e. (
            (λ x. let f = (h.2 j u e).0 x in record { here = f.here; rows = f.rows; word = f.word; agents = absurd (apart (f.here ∙ sym known.here)) }),
            (λ x. let f = (h.2 j u e).1 x in record {
              here = subst (λ b. cond b k (t.seats u.agent.number) ≡ j) (sym (ne_eqb u.agent.number t.agents (λ eq. let b = f.below in omega arith))) f.here;
              below = (let b = f.below in omega arith);
              mine = f.mine;
            }),
          ))
          ((λ _. record { here = known.here; rows = known.rows; word = known.word; agents = ap suc known.agents }), off) (
            off,
            (λ _. record {
              here = ap (λ b. cond b k (t.seats v.ledger.agents)) (eq-eqb v.ledger.agents t.agents known.agents);
              below = (let e = known.agents in omega arith);
              mine = λ _. ap (held v.ledger.agents) (sym empty ∙ known.rows);
            }),
          ),
    )
