use Rattle.embed.proofs.Linking.{finds_none}
use Rattle.embed.proofs.scene.SceneGraph.entries.Goals as goal

pub returns : goal.returns
returns c = finds_none _ _
