use Rattle.std.proofs.Common.{◌≡◌, ℕ, sym, ap, subst, List, [], ◌++◌, Option, codes}
use Rattle.std.specs.Io.KnownBytes.{Appends}
use Rattle.std.specs.Option.{option_map_or}
use Rattle.std.proofs.KnownBytes.{Appends-trans, Appends-nil}
use Rattle.std.proofs.lemmas.Result.{on_ok_weaker}
use Rattle.es_races.specs.declared.place.Place.{Place}
use Rattle.es_races.specs.Texts.{place_text}
use Rattle.es_races.proofs.text.write_line.Goals as goal
use Rattle.es_races.proofs.text.write_line.Goals.{in-Some+in_ok-write_place, in_default}

-- a name, a place if there is one, and the line's end
line : (a b d e : Option (List ℕ)) (named name : List ℕ) (o : Option Place) (t : List ℕ) → named ≡ name → option_map_or place_text o [] ≡ t
    → Appends a b named → Appends b d t → Appends d e (codes "\n") → Appends a e (name ++ option_map_or place_text o [] ++ codes "\n")
line a b d e named name o t same is p q r =
    let all = Appends-trans a d e (named ++ t) (codes "\n") (Appends-trans a b d named t p q) r in
    subst (λ n. Appends a e (n ++ option_map_or place_text o [] ++ codes "\n")) same (subst (λ t. Appends a e (named ++ t ++ codes "\n")) (sym is) all)

pub returns : goal.returns
returns g c = elim c.match-spot.branch [
  | in-Some+in_ok-write_place w ↦
      on_ok_weaker c.write_all-2.result
      (λ last. line _ _ _ _ _ c.args.spot.name.now c.args.spot.place (place_text w.in-Some.place) c.as_bytes.ensures.value (ap (λ o. option_map_or place_text o []) w.in-Some.is)
      c.in_ok-write_all.ensures.bytes w.in_ok-write_place.ensures (subst (λ v. Appends (g.W.Write.contents v) (g.W.Write.contents c.write_all-2.new.self) (codes "\n")) w.writer-is last))
      c.write_all-2.ensures.bytes
  | in_default w ↦
      on_ok_weaker c.write_all-2.result
      (λ last. line _ _ _ _ _ c.args.spot.name.now c.args.spot.place [] c.as_bytes.ensures.value (ap (λ o. option_map_or place_text o []) w.in_default.is)
      c.in_ok-write_all.ensures.bytes (Appends-nil _) (subst (λ v. Appends (g.W.Write.contents v) (g.W.Write.contents c.write_all-2.new.self) (codes "\n")) w.writer-is last))
      c.write_all-2.ensures.bytes
]
