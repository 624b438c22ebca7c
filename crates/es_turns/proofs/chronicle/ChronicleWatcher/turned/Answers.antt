use Rattle.std.proofs.Common.{◌∙◌, sym, ap, subst, arith, length}
use Rattle.std.specs.Prelude.{slice_set}
use Rattle.es_turns.specs.declared.chronicle.Chronicle.{Chronicle}
use Rattle.es_turns.specs.Known.{HaveScribes, Knows, Says, Tells}
use Rattle.es_turns.proofs.Growing.{ready}
use Rattle.es_turns.proofs.Scribing.{both_ok, have_length, knows_more, on_ok, takes_there, tells_more}
use Rattle.es_turns.proofs.chronicle.ChronicleWatcher.turned.Goals as goal

pub write_moved-requires : goal.write_moved-requires
write_moved-requires g c =
    let expects = c.requires.2 in
    let size = ap (λ (w : Chronicle). length w.scribes.items) expects.1 in
    let each = have_length c.requires.1.names.items c.requires.0.agents c.requires.1.scribes.items expects.0.scribes in
    let within = expects.2 in
    omega (arith, size, each, within)

pub write_added-requires-clause-written : goal.write_added-requires-clause-written
write_added-requires-clause-written g c =
    let known : Knows c.requires.0 c.args.self.now = subst (λ w. Knows c.requires.0 w) (sym c.requires.2.1) c.requires.2.0 in
    let same = c.in_ok-write_moved.ensures.same in
    let later = c.requires.3.ledger in
    (ready c.requires.0.ledger.history c.args.cluster.now.ledger.history c.write_moved.new.self.written c.args.self.now.blocks (later.0, later.1) (same.2 ∙ known.written) known.blocks).0

pub write_added-requires-clause-blocks : goal.write_added-requires-clause-blocks
write_added-requires-clause-blocks g c =
    let known : Knows c.requires.0 c.args.self.now = subst (λ w. Knows c.requires.0 w) (sym c.requires.2.1) c.requires.2.0 in
    let same = c.in_ok-write_moved.ensures.same in
    let later = c.requires.3.ledger in
    let says = subst (λ b. Says c.requires.0.ledger.history b) (sym same.3) known.blocks in
    (ready c.requires.0.ledger.history c.args.cluster.now.ledger.history c.write_moved.new.self.written c.write_moved.new.self.blocks (later.0, later.1) (same.2 ∙ known.written) says).1

pub returns-clause-knows : goal.returns-clause-knows
returns-clause-knows g c =
    let known : Knows c.requires.0 c.args.self.now = subst (λ w. Knows c.requires.0 w) (sym c.requires.2.1) c.requires.2.0 in
    let moved = c.in_ok-write_moved.ensures in
    let same = c.write_added.ensures.same in
    both_ok c.write_added.result _ _ _ (λ written blocks.
    knows_more c.args.progress c.args.agent c.requires.0 c.args.cluster.now c.args.self.now c.write_added.new.self c.agent.result.now c.requires.3 c.agent.ensures known
    (same.1 ∙ moved.same.1)
    (λ bs b is have takes. subst (λ ss. HaveScribes c.args.self.now.names.items (slice_set bs c.args.agent c.agent.result.now) ss) (sym same.2) (moved.scribes bs b is have takes))
    written blocks)
    c.write_added.ensures.written c.write_added.ensures.blocks

pub returns-clause-tells : goal.returns-clause-tells
returns-clause-tells g c =
    let moved = c.in_ok-write_moved.ensures in
    let same = c.write_added.ensures.same in
    on_ok c.write_added.result _ _ (λ added before was expects turned.
    (let known : Knows before c.args.self.now = subst (λ w. Knows before w) (sym expects.1) expects.0 in
    let text = moved.text before.agents turned.before turned.agent known.scribes (takes_there c.args.progress c.args.agent before c.args.cluster.now turned c.agent.result.now c.agent.ensures) in
    subst (λ w. Tells (record { progress = c.args.progress; agent = c.args.agent; before = before; after = c.args.cluster.now }) w c.write_added.new.self) expects.1
    (tells_more c.args.progress c.args.agent before c.args.cluster.now c.args.self.now c.write_moved.new.self c.write_added.new.self c.agent.result.now c.agent.ensures known
    moved.same.0 moved.same.1 moved.same.2 text same.0 same.1 added)))
    c.write_added.ensures.text
