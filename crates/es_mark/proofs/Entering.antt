-- Entries that are entered, one alone and one after another.
use Rattle.std.proofs.Common.{◌≡◌, ℕ, ◌≤◌, ◌==◌, true, false, sym, ◌∙◌, ap, List, [], ◌∷◌, ◌++◌, length, take, inl, inr, refl}
use Rattle.std.proofs.lemmas.Bool.{cases_Bool, eqb-true}
use Rattle.std.proofs.lemmas.List.{append-nil, append_assoc}
use Rattle.es_mark.specs.declared.step.Step.TheVariants.{Entry}
use Rattle.es_mark.specs.declared.way.Way.{Way}
use Rattle.es_mark.specs.Ways.{has_way}
use Rattle.es_mark.specs.Added.{with_ways, AreAdded}
use Rattle.es_mark.specs.Search.{ready, delayed, way_to, AreEntered}
use Rattle.es_mark.specs.WaitingEntries.{WaitingEntriesView, waiting_for, Waits}
use Rattle.es_mark.proofs.Adding.{with_append, front_all}
use Rattle.es_mark.proofs.Pairs.{ready_append, delayed_append}

-- no entry
pub entered_nothing : (count k : ℕ) (ws : List Way) (waiting : WaitingEntriesView) → AreEntered count k [] ws waiting ws waiting
entered_nothing count k ws waiting = record { listed = refl; waits = λ m. sym (append-nil (waiting_for waiting m)) }

-- its WeakMap is followed
pub entered_now : (count k : ℕ) (e : ℕ × ℕ) (old new : List Way) (waiting : WaitingEntriesView) → has_way (take count old) e.0 ≡ true → AreAdded (way_to e.1 (Entry e.0 k) ∷ []) old new
    → AreEntered count k (e ∷ []) old waiting new waiting
entered_now count k e old new waiting s a = record {
  listed = rw s a.added;
  waits = λ m. rw s (sym (append-nil (waiting_for waiting m)));
}

-- it waits
pub entered_later : (count k : ℕ) (e : ℕ × ℕ) (ws : List Way) (waited waiting : WaitingEntriesView) → has_way (take count ws) e.0 ≡ false → Waits waited e.0 (k, e.1) waiting
    → AreEntered count k (e ∷ []) ws waited ws waiting
entered_later count k e ws waited waiting s w = record {
  listed = rw s refl;
  waits = λ m. elim (cases_Bool (e.0 == m)) [
    | inl t ↦
        let here = rw t at (w m) in
        rw (s, t) (here ∙ ap (λ (j : ℕ). waiting_for waited j ++ (k, e.1) ∷ []) (eqb-true e.0 m t))
    | inr t ↦
        let there = rw t at (w m) in
        rw (s, t) (there ∙ sym (append-nil (waiting_for waited m)))
  ];
}

-- one entry more
pub entered_more : (count k : ℕ) (es : List (ℕ × ℕ)) (e : ℕ × ℕ) (a b c : List Way) (u v w : WaitingEntriesView) → count ≤ length a → AreEntered count k es a u b v → AreEntered count k (e ∷ []) b v c w
    → AreEntered count k (es ++ e ∷ []) a u c w
entered_more count k es e a b c u v w l p q =
    let front : take count b ≡ take count a = ap (take count) p.listed ∙ front_all count a (ready (take count a) k es) l in
    record {
      listed =
          q.listed ∙ ap (λ (f : List Way). with_ways b (ready f k (e ∷ []))) front ∙ ap (λ (ws : List Way). with_ways ws (ready (take count a) k (e ∷ []))) p.listed
          ∙ sym (with_append a (ready (take count a) k es) (ready (take count a) k (e ∷ []))) ∙ ap (with_ways a) (sym (ready_append (take count a) k es (e ∷ [])));
      waits = λ m.
          q.waits m ∙ ap (λ (f : List Way). waiting_for v m ++ delayed f k (e ∷ []) m) front ∙ ap (λ (x : List (ℕ × ℕ)). x ++ delayed (take count a) k (e ∷ []) m) (p.waits m)
          ∙ append_assoc (waiting_for u m) (delayed (take count a) k es m) (delayed (take count a) k (e ∷ []) m)
          ∙ ap (λ (x : List (ℕ × ℕ)). waiting_for u m ++ x) (sym (delayed_append (take count a) k es (e ∷ []) m));
    }
