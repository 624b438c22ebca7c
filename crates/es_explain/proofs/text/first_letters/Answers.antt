use Rattle.std.proofs.Common.{ℕ, zero, suc, ◌≡◌, ◌≢◌, ◌-◌, List, [], ◌∷◌, ◌++◌, length, chars, sym, ◌∙◌, refl, append_assoc, append-nil, arith}
use Rattle.std.proofs.lemmas.Str.{IsUtf8-past_char, chars_past_char, chars-nil}
use Rattle.std.specs.Char.{encode_utf8}
use Rattle.es_explain.specs.Texts.{first_letters}
use Rattle.es_explain.proofs.text.first_letters.Goals as goal

nothing_left : (n : ℕ) (rest : List ℕ) → length rest ≡ 0 → first_letters n (chars rest) ≡ []
nothing_left n [] none = rw chars-nil refl
nothing_left n (b ∷ rest) none = cc

one_more : (n c : ℕ) (cs : List ℕ) → n ≢ 0 → first_letters n (c ∷ cs) ≡ encode_utf8 c ++ first_letters (n - 1) cs
one_more zero c cs some = absurd (some refl)
one_more (suc n) c cs some = let e : suc n - 1 ≡ n = omega arith in rw e refl

pub returns-then-left-eq0 : goal.returns-then-left-eq0
returns-then-left-eq0 c =
    let held = c.loop-character.invariant in
    let step = chars_past_char _ _ c.in-Some.character held.0 c.in-Some.ensures.steps.0 in
    c.in_ok-push_str.ensures.bytes ∙ rw (step, c.if-left-eq0.true) at held.1

pub loop-character-preserved : goal.loop-character-preserved
loop-character-preserved c =
    let held = c.loop-character.invariant in
    let parts = c.in-Some.ensures.steps.0 in
    let step = chars_past_char _ _ c.in-Some.character held.0 parts in (
      IsUtf8-past_char _ _ c.in-Some.character held.0 parts,
      rw (c.in_ok-push.ensures.bytes, append_assoc) (rw (step, one_more _ _ _ c.if-left-eq0.false) at held.1),
    )

pub returns : goal.returns
returns c = sym (append-nil _) ∙ rw (nothing_left _ _ c.in-None.ensures.steps.0.0) at c.loop-character.invariant.1
