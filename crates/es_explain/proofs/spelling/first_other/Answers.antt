use Rattle.std.proofs.Common.{ℕ, ◌≡◌, Bool, List, [], ◌∷◌, length, chars, sym, ◌∙◌, refl, true, false, Some, None, arith}
use Rattle.std.proofs.lemmas.Str.{IsUtf8-past_char, chars_past_char, chars-nil}
use Rattle.es_explain.specs.Causes.{first_other}
use Rattle.es_explain.specs.Coded.{has_letter}
use Rattle.es_explain.proofs.spelling.first_other.Goals as goal

nothing_left : (test : ℕ → Bool) (rest : List ℕ) → length rest ≡ 0 → first_other test (chars rest) ≡ None
nothing_left test [] none = rw chars-nil refl
nothing_left test (b ∷ rest) none = cc

passed : (test : ℕ → Bool) (c : ℕ) (cs : List ℕ) → test c ≡ true → first_other test (c ∷ cs) ≡ first_other test cs
passed test c cs has = rw has refl

failed : (test : ℕ → Bool) (c : ℕ) (cs : List ℕ) → test c ≡ false → first_other test (c ∷ cs) ≡ Some c
failed test c cs lacks = rw lacks refl

pub returns-then-not-has_letter : goal.returns-then-not-has_letter
returns-then-not-has_letter c =
    let held = c.loop-letter.invariant in
    let step = chars_past_char _ _ c.in-Some.letter held.0 c.in-Some.ensures.steps.0 in
    let lacks : has_letter c.args.alphabet c.in-Some.letter ≡ false = grind arith in
    sym (failed (has_letter c.args.alphabet) _ _ lacks) ∙ rw step at held.1

pub loop-letter-preserved : goal.loop-letter-preserved
loop-letter-preserved c =
    let held = c.loop-letter.invariant in
    let parts = c.in-Some.ensures.steps.0 in
    let step = chars_past_char _ _ c.in-Some.letter held.0 parts in
    let has : has_letter c.args.alphabet c.in-Some.letter ≡ true = grind arith in (
      IsUtf8-past_char _ _ c.in-Some.letter held.0 parts,
      sym (passed (has_letter c.args.alphabet) _ _ has) ∙ rw step at held.1,
    )

pub returns : goal.returns
returns c = sym (nothing_left _ _ c.in-None.ensures.steps.0.0) ∙ c.loop-letter.invariant.1
