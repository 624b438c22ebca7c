-- Internal: what is written of what an agent's record gives.
use Rattle.std.specs.Prelude.{ℕ, List, [], ◌++◌, Option, Some, None, codes}
use Rattle.es_value.specs.Values.{identity}
use Rattle.es_registry.specs.declared.slot.Registration.{Registration}
use Rattle.es_tables.specs.declared.tags.Tag.{Tag}
use Rattle.es_tables.specs.declared.tags.Tag.TheVariants.{Symbol, Ordinary, WeakRef, WeakMap, WeakSet, FinalizationRegistry, SharedArrayBuffer}
use Rattle.es_why.specs.Lines.{node_line, target_line, held_line}
use Rattle.es_why.specs.Picture.{if_some}

-- the word for what has this tag
abbrev pub tag_text : Tag → List ℕ
tag_text Symbol = codes "symbol"
tag_text Ordinary = codes "object"
tag_text WeakRef = codes "WeakRef"
tag_text WeakMap = codes "WeakMap"
tag_text WeakSet = codes "WeakSet"
tag_text FinalizationRegistry = codes "FinalizationRegistry"
tag_text SharedArrayBuffer = codes "SharedArrayBuffer"

-- its shape
abbrev pub tag_shape : Tag → List ℕ
tag_shape Symbol = codes ",shape=ellipse"
tag_shape Ordinary = []
tag_shape WeakRef = codes ",style=dashed"
tag_shape WeakMap = codes ",shape=cylinder"
tag_shape WeakSet = codes ",shape=folder"
tag_shape FinalizationRegistry = codes ",shape=component"
tag_shape SharedArrayBuffer = codes ",shape=box3d"

-- what has this tag, if it has one
abbrev pub tagged_line : ℕ → Option Tag → List ℕ
tagged_line i None = []
tagged_line i (Some t) = node_line (tag_text t) (tag_shape t) i

-- a registration whose cell is in its registry, if it is
abbrev pub registration_line : ℕ → Option Registration → List ℕ
registration_line n None = []
registration_line n (Some r) = if_some (target_line r.registry n) r.target ++ if_some (held_line r.registry n) (identity r.cell.held)
