-- To believe: where the links of a scene lead.
use Rattle.std.specs.Prelude.{ℕ, ◌==◌, ◌&&◌, List, map}
use Rattle.std.specs.List.{filter}
use Rattle.es_mark.specs.Made.{is_made}

-- where the links from i lead, but for those to what was not made
abbrev pub leads_to : ℕ → List (ℕ × ℕ) → ℕ → List ℕ
leads_to made links i = map (λ l. l.1) (filter (λ l. (l.0 == i) && is_made made l.1) links)
