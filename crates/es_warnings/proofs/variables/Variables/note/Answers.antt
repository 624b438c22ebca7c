use Rattle.std.proofs.Common.{IfSome, ◌≡◌, subst, sym, ap, ◌∙◌}
use Rattle.std.specs.Option.{option_copied}
use Rattle.es_warnings.specs.Known.{Knows, noted}
use Rattle.es_warnings.specs.Mentions.{mention}
use Rattle.es_warnings.proofs.Noting.{knows_put}
use Rattle.es_warnings.proofs.variables.Variables.note.Goals as goal

pub returns : goal.returns
returns c =
    let m = mention c.args.place c.args.manner c.args.name.now in
    let told = subst (λ o. IfSome o (λ k. k ≡ noted (option_copied c.get.result) m)) c.in-Some.is c.noted.ensures.more in
    λ past knows. knows_put past m c.self.inside.known c.insert.new.self _ _ c.in_ok-name.ensures (told ∙ ap (λ o. noted o m) c.get.ensures.value) c.in_ok-insert.ensures.updates c.in_ok-insert.ensures.entries (subst (Knows past) (sym c.self.view_is) knows)
