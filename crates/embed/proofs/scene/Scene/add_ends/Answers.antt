use Rattle.std.proofs.Common.{rules}
use Rattle.std.proofs.lemmas.Grind.{common_steps}
use Rattle.embed.proofs.Linking.{finds_ends}
use Rattle.embed.proofs.scene.Scene.add_ends.Goals as goal

pub returns : goal.returns
returns c = finds_ends _ c.args.self.now.links.items c.args.start _ _ (search (rules, common_steps))
