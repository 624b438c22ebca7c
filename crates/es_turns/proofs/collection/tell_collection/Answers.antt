use Rattle.std.proofs.Common.{sym, subst}
use Rattle.es_turns.specs.Known.{Grows}
use Rattle.es_turns.specs.Told.{IsCollectionTold}
use Rattle.es_turns.proofs.Scribing.{on_ok}
use Rattle.es_turns.proofs.collection.tell_collection.Goals as goal

pub returns-in-Rows : goal.returns-in-Rows
returns-in-Rows c =
    on_ok c.tell_kept.result _ _ (λ told names h keeps.
    subst (λ f. Grows c.args.text.now.items c.tell_kept.new.text.items (IsCollectionTold f c.args.all names c.args.agent.now c.args.emptied.now)) (sym c.in-Rows.is) (told names h c.args.emptied.now keeps))
    c.tell_kept.ensures

pub returns-in-Lines : goal.returns-in-Lines
returns-in-Lines c =
    on_ok c.tell_kept_lines.result _ _ (λ told names h keeps.
    subst (λ f. Grows c.args.text.now.items c.tell_kept_lines.new.text.items (IsCollectionTold f c.args.all names c.args.agent.now c.args.emptied.now)) (sym c.in-Lines.is) (told names c.args.emptied.now))
    c.tell_kept_lines.ensures

pub returns-in-Pictures : goal.returns-in-Pictures
returns-in-Pictures c =
    on_ok c.draw.result _ _ (λ told names h keeps.
    subst (λ f. Grows c.args.text.now.items c.draw.new.text.items (IsCollectionTold f c.args.all names c.args.agent.now c.args.emptied.now)) (sym c.in-Pictures.is) (told c.args.all names))
    c.draw.ensures
