use Rattle.std.proofs.Common.{◌≡◌, ◌++◌, take}
use Rattle.embed.specs.Scene.{leads_to}
use Rattle.embed.proofs.scene.Scene.add_ends.Given as goal

abbrev pub invariant-loop-from : goal.invariant-loop-from
invariant-loop-from l = l.found.items ≡ l.initial.found.items ++ leads_to l.self.made (take l.from-index l.from-items) l.start
