-- To believe: the lines of a picture in Graphviz's language: nodes and edges.
use Rattle.std.specs.Prelude.{ℕ, List, [], ◌∷◌, ◌++◌, Option, Some, None, codes, decimal}
use Rattle.std.specs.List.{flat_map}
use Rattle.es_event.specs.Commands.{Kind, ordinary, weakref_to, weak_map, weak_set, registry_of, shared_buffer}

-- the first lines, with the agent's name above all
abbrev pub head : List ℕ → List ℕ
head x = codes "digraph {\n  label=\"" ++ (x ++ codes "\"\n  labelloc=t\n  node [shape=box]\n")

-- Nodes

-- what is of no kind is a symbol
abbrev pub kind_text : Option Kind → List ℕ
kind_text None = codes "symbol"
kind_text (Some ordinary) = codes "object"
kind_text (Some (weakref_to v)) = codes "WeakRef"
kind_text (Some weak_map) = codes "WeakMap"
kind_text (Some weak_set) = codes "WeakSet"
kind_text (Some (registry_of c)) = codes "FinalizationRegistry"
kind_text (Some shared_buffer) = codes "SharedArrayBuffer"

-- its shape; an object of no other kind is a box
abbrev pub kind_shape : Option Kind → List ℕ
kind_shape None = codes ",shape=ellipse"
kind_shape (Some ordinary) = []
kind_shape (Some (weakref_to v)) = codes ",style=dashed"
kind_shape (Some weak_map) = codes ",shape=cylinder"
kind_shape (Some weak_set) = codes ",shape=folder"
kind_shape (Some (registry_of c)) = codes ",shape=component"
kind_shape (Some shared_buffer) = codes ",shape=box3d"

-- an object or a symbol of this number
abbrev pub node_line : List ℕ → List ℕ → ℕ → List ℕ
node_line what shape i = codes "  n" ++ (decimal i ++ (codes " [label=\"" ++ (what ++ (codes " " ++ (decimal i ++ (codes "\"" ++ (shape ++ codes "]\n")))))))

-- one that is there, with its kind
abbrev pub thing_line : ℕ → Option Kind → List ℕ
thing_line i k = node_line (kind_text k) (kind_shape k) i

-- one that was emptied
abbrev pub emptied_line : ℕ → List ℕ
emptied_line i = node_line (codes "emptied") (codes ",style=filled,color=gray80,fontcolor=gray40") i

-- Edges

-- what the variable of this name holds
abbrev pub variable_lines : List ℕ → ℕ → List ℕ
variable_lines x i = codes "  \"var " ++ (x ++ (codes "\" [label=\"" ++ (x ++ (codes "\",shape=plaintext]\n  \"var " ++ (x ++ (codes "\" -> n" ++ (decimal i ++ codes "\n")))))))

-- what KeptAlive has, if anything
abbrev pub kept_line : ℕ → List ℕ
kept_line i = codes "  KeptAlive -> n" ++ (decimal i ++ codes "\n")

abbrev pub kept_lines : List ℕ → List ℕ
kept_lines [] = []
kept_lines (i ∷ is) = codes "  KeptAlive [shape=plaintext]\n" ++ flat_map kept_line (i ∷ is)

-- what a property of o holds
abbrev pub property_line : ℕ → List ℕ → ℕ → List ℕ
property_line o k i = codes "  n" ++ (decimal o ++ (codes " -> n" ++ (decimal i ++ (codes " [label=\"" ++ (k ++ codes "\"]\n")))))

-- the point at which the WeakMap m and the key k come together, and the edges from both to it
abbrev pub point_line : ℕ → ℕ → List ℕ
point_line m k = codes "  e" ++ (decimal m ++ (codes "_" ++ (decimal k ++ codes " [shape=point]\n")))

abbrev pub map_line : ℕ → ℕ → List ℕ
map_line m k = codes "  n" ++ (decimal m ++ (codes " -> e" ++ (decimal m ++ (codes "_" ++ (decimal k ++ codes " [arrowhead=none]\n")))))

abbrev pub key_line : ℕ → ℕ → List ℕ
key_line m k = codes "  n" ++ (decimal k ++ (codes " -> e" ++ (decimal m ++ (codes "_" ++ (decimal k ++ codes " [arrowhead=none,style=dashed]\n")))))

-- from there to the entry's value, if it has an identity
abbrev pub value_line : ℕ → ℕ → Option ℕ → List ℕ
value_line m k None = []
value_line m k (Some i) = codes "  e" ++ (decimal m ++ (codes "_" ++ (decimal k ++ (codes " -> n" ++ (decimal i ++ codes "\n")))))

abbrev pub entry_lines : ℕ → ℕ → Option ℕ → List ℕ
entry_lines m k o = point_line m k ++ (map_line m k ++ (key_line m k ++ value_line m k o))

-- what holds the value weakly: a WeakRef its target, a WeakSet its member
abbrev pub weak_line : ℕ → ℕ → List ℕ
weak_line w i = codes "  n" ++ (decimal w ++ (codes " -> n" ++ (decimal i ++ codes " [style=dashed]\n")))

-- the target of registration n in the registry r, and its held value
abbrev pub target_line : ℕ → ℕ → ℕ → List ℕ
target_line r n i = codes "  n" ++ (decimal r ++ (codes " -> n" ++ (decimal i ++ (codes " [style=dashed,label=\"registration " ++ (decimal n ++ codes "\"]\n")))))

abbrev pub held_line : ℕ → ℕ → ℕ → List ℕ
held_line r n i = codes "  n" ++ (decimal r ++ (codes " -> n" ++ (decimal i ++ (codes " [label=\"held " ++ (decimal n ++ codes "\"]\n")))))
