-- The parts of a picture, one after the other.
use Rattle.std.proofs.Common.{◌≡◌, ℕ, ◌==◌, false, List, [], ◌∷◌, ◌++◌, Option, refl, reverse, codes, length}
use Rattle.std.specs.List.{flat_map, IsDistinct}
use Rattle.std.specs.Str.{bytes_eq}
use Rattle.std.specs.Io.KnownBytes.{Appends}
use Rattle.std.proofs.KnownBytes.{Appends-trans}
use Rattle.es_event.specs.Identities.{made}
use Rattle.es_event.specs.WeakRefs.{kept}
use Rattle.es_record.specs.AgentView.{AgentView}
use Rattle.es_why.specs.Leads.{AreAllNames}
use Rattle.es_why.specs.Lines.{head, emptied_line, entry_lines, kept_line, kept_lines, key_line, map_line, point_line, value_line}
use Rattle.es_why.specs.Picture.{registrations, things, variable_at, IsPicture}
use Rattle.es_why.proofs.Ranged.{WritesEach}

pub drawn : (b : AgentView) (ids : List ℕ) (names : List (List ℕ)) (w0 w1 w2 w3 w4 w5 w6 w7 w8 : Option (List ℕ)) → AreAllNames b names → IsDistinct bytes_eq names
    → Appends w0 w1 (head b.plan.name)
    → Appends w1 w2 (flat_map emptied_line ids)
    → Appends w2 w3 (things b.history)
    → Appends w3 w4 (flat_map (variable_at b) names)
    → Appends w4 w5 (kept_lines (reverse (kept b.history)))
    → WritesEach b.history (made b.history) w5 w6
    → Appends w6 w7 (registrations b.history)
    → Appends w7 w8 (codes "}\n")
    → (text : List ℕ) × IsPicture b ids text × Appends w0 w8 text
drawn b ids names w0 w1 w2 w3 w4 w5 w6 w7 w8 all once first gone there roots kept_alive around cells last = (
  head b.plan.name
      ++ (flat_map emptied_line ids
      ++ (things b.history ++ (flat_map (variable_at b) names ++ (kept_lines (reverse (kept b.history)) ++ (around.0 ++ (registrations b.history ++ codes "}\n")))))),
  record { names = names; edges = around.0; names_all = all; names_once = once; edges_are = around.1; is = refl },
  Appends-trans w0 w1 w8 _ _ first
      (Appends-trans w1 w2 w8 _ _ gone
      (Appends-trans w2 w3 w8 _ _ there
      (Appends-trans w3 w4 w8 _ _ roots
      (Appends-trans w4 w5 w8 _ _ kept_alive (Appends-trans w5 w6 w8 _ _ around.2 (Appends-trans w6 w7 w8 _ _ cells last)))))),
)

-- The first lines

pub head_written : (x : List ℕ) (w0 w1 w2 w3 : Option (List ℕ)) → Appends w0 w1 (codes "digraph {\n  label=\"") → Appends w1 w2 x → Appends w2 w3 (codes "\"\n  labelloc=t\n  node [shape=box]\n") → Appends w0 w3 (head x)
head_written x w0 w1 w2 w3 first name last = Appends-trans w0 w1 w3 _ _ first (Appends-trans w1 w2 w3 _ _ name last)

-- What KeptAlive has

pub kept_written : (is : List ℕ) (w0 w1 w2 : Option (List ℕ)) → (length is == 0) ≡ false → Appends w0 w1 (codes "  KeptAlive [shape=plaintext]\n") → Appends w1 w2 (flat_map kept_line is) → Appends w0 w2 (kept_lines is)
kept_written [] w0 w1 w2 some first rest = cc
kept_written (i ∷ is) w0 w1 w2 some first rest = Appends-trans w0 w1 w2 _ _ first rest

-- An entry

pub entry_written : (m k : ℕ) (o : Option ℕ) (w0 w1 w2 w3 w4 : Option (List ℕ)) → Appends w0 w1 (point_line m k) → Appends w1 w2 (map_line m k) → Appends w2 w3 (key_line m k) → Appends w3 w4 (value_line m k o)
    → Appends w0 w4 (entry_lines m k o)
entry_written m k o w0 w1 w2 w3 w4 point map key value = Appends-trans w0 w1 w4 _ _ point (Appends-trans w1 w2 w4 _ _ map (Appends-trans w2 w3 w4 _ _ key value))
