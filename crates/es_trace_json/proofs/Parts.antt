-- Parts of a line that are written one after the other.
use Rattle.std.proofs.Common.{ℕ, List, ◌++◌, Option, append_assoc, subst}
use Rattle.std.specs.Prelude.{codes}
use Rattle.std.specs.Io.KnownBytes.{Appends}
use Rattle.std.proofs.KnownBytes.{Appends-trans}
use Rattle.es_value.specs.Printed.{quoted}
use Rattle.es_trace_json.specs.Events.{agent_line}

pub two_parts : (a b c : Option (List ℕ)) (x y : List ℕ) → Appends a b x → Appends b c y → Appends a c (x ++ y)
two_parts a b c x y p q = Appends-trans a b c x y p q

pub four_parts : (a b c d e : Option (List ℕ)) (w x y z : List ℕ) → Appends a b w → Appends b c x → Appends c d y → Appends d e z → Appends a e (w ++ (x ++ (y ++ z)))
four_parts a b c d e w x y z p q r s = Appends-trans a b e w (x ++ (y ++ z)) p (Appends-trans b c e x (y ++ z) q (Appends-trans c d e y z r s))

pub six_parts : (a b c d e f g : Option (List ℕ)) (u v w x y z : List ℕ) → Appends a b u → Appends b c v → Appends c d w → Appends d e x → Appends e f y → Appends f g z
    → Appends a g (u ++ (v ++ (w ++ (x ++ (y ++ z)))))
six_parts a b c d e f g u v w x y z p q r s t o =
    Appends-trans a b g u (v ++ (w ++ (x ++ (y ++ z)))) p (Appends-trans b c g v (w ++ (x ++ (y ++ z))) q (four_parts c d e f g w x y z r s t o))

-- a line of an agent: its beginning, its members, and its end
pub line_parts : (a b c d : Option (List ℕ)) (name text : List ℕ) → Appends a b (codes "{\"agent\":" ++ (quoted name ++ codes ",")) → Appends b c text → Appends c d (codes "}\n")
    → Appends a d (agent_line name text)
line_parts a b c d name text p q r =
    subst (λ t. Appends a d (codes "{\"agent\":" ++ t)) (append_assoc (quoted name) (codes ",") (text ++ codes "}\n"))
    (Appends-trans a b d _ _ p (Appends-trans b c d text (codes "}\n") q r))
