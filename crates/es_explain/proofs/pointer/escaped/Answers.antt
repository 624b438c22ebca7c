use Rattle.std.proofs.Common.{ℕ, ◌≡◌, List, [], ◌∷◌, length, chars, sym, ◌∙◌, refl, append_assoc, append-nil}
use Rattle.std.proofs.lemmas.Str.{IsUtf8-past_char, chars_past_char, chars-nil}
use Rattle.es_explain.specs.Texts.{escape_all}
use Rattle.es_explain.proofs.pointer.escaped.Goals as goal

nothing_left : (rest : List ℕ) → length rest ≡ 0 → escape_all (chars rest) ≡ []
nothing_left [] none = rw chars-nil refl
nothing_left (b ∷ rest) none = cc

pub loop-letter-preserved : goal.loop-letter-preserved
loop-letter-preserved c =
    let held = c.loop-letter.invariant in
    let parts = c.in-Some.ensures.steps.0 in
    let step = chars_past_char _ _ c.in-Some.letter held.0 parts in (
      IsUtf8-past_char _ _ c.in-Some.letter held.0 parts,
      rw (c.in_ok-push_escaped.ensures, append_assoc) (rw step at held.1),
    )

pub returns : goal.returns
returns c = sym (append-nil _) ∙ rw (nothing_left _ c.in-None.ensures.steps.0.0) at c.loop-letter.invariant.1
