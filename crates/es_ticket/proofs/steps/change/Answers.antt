use Rattle.std.proofs.Common.{◌≡◌, suc, refl, sym, ap, ◌∙◌, subst, add-one}
use Rattle.es_ticket.specs.declared.view.View.{View}
use Rattle.es_event.specs.Rows.{held}
use Rattle.es_ticket.proofs.Moves.{whole, part, under, back}
use Rattle.es_ticket.proofs.Plays.{offers, takes, settles}
use Rattle.es_ticket.proofs.steps.change.Goals as goal

pub compare_exchange_with-requires : goal.compare_exchange_with-requires
compare_exchange_with-requires c =
    let l = c.requires.ledger in (
      c.requires.table.0,
      c.requires.table.2,
      offers _ _ _ c.args.rows.now _ (ap (λ m. m.0.ledger.keeps) l) (ap (λ m. m.0.ledger.word) l) (λ b away. c.requires.others b (λ e. away (add-one c.args.number ∙ ap suc (sym e)))),
    )

pub split_seat-all-requires : goal.split_seat-all-requires
split_seat-all-requires c = (c.compare_exchange_with.ensures.0 ∙ c.requires.table.0, c.requires.table.2, whole _ _)

pub join_seat-requires : goal.join_seat-requires
join_seat-requires c =
    let s = c.split_seat-all.ensures in
    (c.requires.table.1, s.3 ∙ c.compare_exchange_with.ensures.0 ∙ c.requires.table.0, ap (λ m. m.1) s.4, c.requires.table.2, under _ _ _ _)

pub load-requires : goal.load-requires
load-requires c =
    let j = ap (λ m. m.0) c.join_seat.ensures.2 in
    let s = ap (λ m. m.0) c.split_seat-all.ensures.4 in
    let o = ap (λ m. m.0) c.compare_exchange_with.ensures.2 in (
      c.join_seat.ensures.0 ∙ c.requires.table.1,
      c.requires.table.2,
      takes _ _ _ (ap (λ (v : View). v.ledger.keeps) j ∙ ap (λ (v : View). v.ledger.keeps) s ∙ ap (λ (v : View). v.ledger.keeps) o)
          (ap (λ (v : View). v.agent.claims) j ∙ ap (λ m. m.0.agent.claims) c.requires.agent),
    )

pub split_seat-all-requires-2 : goal.split_seat-all-requires-2
split_seat-all-requires-2 c = (c.load.ensures.0 ∙ c.join_seat.ensures.0 ∙ c.requires.table.1, c.requires.table.2, whole _ _)

pub join_seat-requires-2 : goal.join_seat-requires-2
join_seat-requires-2 c =
    let s = c.split_seat-all.ensures in
    let t = c.split_seat-all-2.ensures in
    (s.0 ∙ c.compare_exchange_with.ensures.0 ∙ c.requires.table.0, t.3 ∙ c.load.ensures.0 ∙ c.join_seat.ensures.0 ∙ c.requires.table.1, ap (λ m. m.1) t.4, c.requires.table.2, back _ _ _ _)

pub store-requires : goal.store-requires
store-requires c =
    let o = ap (λ m. m.0) c.compare_exchange_with.ensures.2 in
    let s = ap (λ m. m.0) c.split_seat-all.ensures.4 in
    let j = ap (λ m. m.0) c.join_seat.ensures.2 in
    let k = ap (λ m. m.0) c.join_seat-2.ensures.2 ∙ ap (λ m. m.0) c.split_seat-all-2.ensures.4 ∙ ap (λ m. m.0) c.load.ensures.2 in
    let Q : View → Type 0 = λ v. v.agent.mine ≡ held v.agent.number v.ledger.rows in
    let number = ap (λ (v : View). v.agent.number) k ∙ ap (λ (v : View). v.agent.number) j ∙ sym c.requires.number.0 in (
      c.join_seat-2.ensures.0 ∙ c.split_seat-all.ensures.0 ∙ c.compare_exchange_with.ensures.0 ∙ c.requires.table.0,
      c.requires.table.2,
      settles _ _ _
          (ap (λ (v : View). v.ledger.keeps) k ∙ ap (λ (v : View). v.ledger.keeps) j ∙ ap (λ (v : View). v.ledger.keeps) s ∙ ap (λ (v : View). v.ledger.keeps) o)
          (ap (λ (v : View). v.agent.claims) k)
          (ap (λ (v : View). v.ledger.word) k ∙ ap (λ (v : View). v.ledger.word) j ∙ ap (λ (v : View). v.ledger.word) s ∙ ap (λ (v : View). v.ledger.word) o ∙ add-one c.args.number ∙ sym (ap suc number))
          (subst Q (sym k) refl),
    )

pub split_seat-part-requires : goal.split_seat-part-requires
split_seat-part-requires c = (c.store.ensures.0 ∙ c.join_seat-2.ensures.0 ∙ c.split_seat-all.ensures.0 ∙ c.compare_exchange_with.ensures.0 ∙ c.requires.table.0, c.requires.table.2, part _ _)

pub join_seat-requires-3 : goal.join_seat-requires-3
join_seat-requires-3 c =
    let s = c.split_seat-all-2.ensures in
    let t = c.split_seat-part.ensures in
    (s.0 ∙ c.load.ensures.0 ∙ c.join_seat.ensures.0 ∙ c.requires.table.1, t.3 ∙ c.store.ensures.0 ∙ c.join_seat-2.ensures.0 ∙ c.split_seat-all.ensures.0 ∙ c.compare_exchange_with.ensures.0 ∙ c.requires.table.0, ap (λ m. m.1) t.4, c.requires.table.2, back _ _ _ _)
