-- To believe: how a cluster that is kept is laid out and owned, in the logic's words.
use denote.RattleType.{RattleType}
use Rattle.core.specs.contracts.mem.manually_drop.ManuallyDrop.{the_row as manual_row}
use Rattle.core.specs.declared.mem.manually_drop.ManuallyDrop.{ManuallyDrop}
use Rattle.std.specs.contracts.marker.Brand.{the_row as brand_row}
use Rattle.atomic_table.specs.Seated.{TableId}
use Rattle.es_event.specs.declared.plan.Plan.{Plan}
use Rattle.es_cluster.specs.State.{ClusterView}
use Rattle.es_cluster.specs.contracts.cluster.ClusterCore.{the_row as cluster_row}

-- the type that stands for the name of a run in what C keeps
abbrev pub run_row : RattleType
run_row = brand_row

-- a cluster of the run that has this name, this table and this plan; it is not dropped where it is let go
abbrev pub kept_row : (name : RattleType) → TableId → Plan → RattleType
kept_row name table plan = manual_row (cluster_row name (record { plan = plan }) (record { table = table }))

abbrev pub undropped : ClusterView → ManuallyDrop ClusterView
undropped c = record { value = c }
