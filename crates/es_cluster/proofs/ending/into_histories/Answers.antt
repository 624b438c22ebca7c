use Rattle.std.proofs.Common.{◌≡◌, ◌≤◌, refl, sym, ◌∙◌, ap, subst, arith, List, [], ◌∷◌, ◌++◌, append_assoc, length, length-append, reverse}
use Rattle.std.specs.Prelude.{slice_get}
use Rattle.std.proofs.lemmas.List.{length-reverse, reverse-reverse}
use Rattle.es_cluster.specs.Ends.{AreHistories, HaveNoTicket}
use Rattle.es_cluster.specs.State.{cores}
use Rattle.es_cluster.specs.Members.{MemberView}
use Rattle.es_cluster.proofs.Beginning.{next_last}
use Rattle.es_cluster.proofs.Histories.{all_done, at_done, cores_more, histories_more, none_more}
use Rattle.es_cluster.proofs.ending.into_histories.Goals as goal

pub loop-init : goal.loop-init
loop-init g c =
    let size = c.len-end.ensures ∙ c.reverse.new.self.ok.0 in
    let count = ap length c.reverse.ensures.items ∙ length-reverse c.args.members.items in
    let place = c.requires.place in
    record {
      done = [];
      left = sym (ap reverse c.reverse.ensures.items ∙ reverse-reverse c.args.members.items);
      size = omega (arith, size);
      taken = ap length c.requires.empty;
      room = omega (arith, size, count, place);
      same = refl;
      histories = subst (AreHistories []) (sym c.requires.empty) (record { are = refl; runs = tt });
      none = λ n b is. cc;
    }

pub into_history-requires : goal.into_history-requires
into_history-requires g c =
    let front = next_last c.loop.members.items c.pop.new.self.items c.in-Some.member c.in-Some.ensures.items in
    c.requires.ended (length c.loop.invariant.done) c.in-Some.member.core
    (ap (λ ms. slice_get (cores ms) (length c.loop.invariant.done)) (c.loop.invariant.left ∙ ap (λ ms. c.loop.invariant.done ++ ms) front) ∙ at_done c.loop.invariant.done (reverse c.pop.new.self.items) c.in-Some.member)

pub loop-preserved : goal.loop-preserved
loop-preserved g c =
    let was = c.loop.invariant in
    let m = c.in-Some.member in
    let front = next_last c.loop.members.items c.pop.new.self.items m c.in-Some.ensures.items in
    let short = ap length c.in-Some.ensures.items ∙ length-append c.pop.new.self.items (m ∷ []) in
    let long = ap length c.push_reserved.ensures.items ∙ length-append c.loop.histories.items (c.into_history.result ∷ []) in
    let size = was.size in
    let taken = was.taken in
    let over = c.requires.ended (length was.done) m.core (ap (λ ms. slice_get (cores ms) (length was.done)) (was.left ∙ ap (λ ms. was.done ++ ms) front) ∙ at_done was.done (reverse c.pop.new.self.items) m) in
    record {
      done = was.done ++ m ∷ [];
      left = was.left ∙ ap (λ ms. was.done ++ ms) front ∙ sym (append_assoc was.done (m ∷ []) (reverse c.pop.new.self.items));
      size = omega (arith, size, short);
      taken = omega (arith, taken, long);
      room = subst (λ n. c.len-end.result ≤ n) (sym c.push_reserved.ensures.capacity) was.room;
      same = c.into_history.ensures.same ∙ was.same;
      histories = subst (λ bs. AreHistories bs c.push_reserved.new.self.items) (sym (cores_more was.done m))
          (subst (λ hs. AreHistories (cores was.done ++ m.core ∷ []) hs) (sym c.push_reserved.ensures.items)
          (histories_more (cores was.done) c.loop.histories.items m.core c.into_history.result was.histories c.into_history.ensures.events c.into_history.ensures.run over));
      none = subst (λ bs. HaveNoTicket bs c.into_history.new.ledger.history) (sym (cores_more was.done m))
          (subst (λ l. HaveNoTicket (cores was.done ++ m.core ∷ []) l.history) (sym c.into_history.ensures.same)
          (none_more (cores was.done) m.core c.loop.ledger.history was.none c.into_history.ensures.none));
    }

pub returns-clause-none : goal.returns-clause-none
returns-clause-none g c =
    let past = c.loop-test.false in
    let size = c.loop.invariant.size in
    let few : length c.loop.members.items ≡ 0 = omega (arith, past, size) in
    let all = all_done c.args.members.items c.loop.invariant.done c.loop.members.items c.loop.invariant.left (empty c.loop.members.items few) in
    subst (λ ms. HaveNoTicket (cores ms) c.args.ledger.now.history) (sym all) (subst (λ l. HaveNoTicket (cores c.loop.invariant.done) l.history) c.loop.invariant.same c.loop.invariant.none)
  where
    empty : (ms : List MemberView) → length ms ≡ 0 → ms ≡ []
    empty [] few = refl
    empty (m ∷ ms) few = cc
