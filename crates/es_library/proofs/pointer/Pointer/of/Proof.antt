-- `of` has the pointer and the allocator of a box from `into_raw_with_allocator`. A `Pointer` is owned as its box is.
use Rattle.es_library.proofs.Steps.{◌≡◌, List, [], ◌∷◌, ◌++◌, refl, sym, ap, ◌∙◌, subst, a_type, dcons, dnil, Val, vstruct, of_list, inst_fn, SProp, ent, id⊢, never, fst∗, emp, ftrue, flft, WpFn, sem, Item, ‵, raw, ◌⊛◌, some, later, ◌$◌, ◌∵◌, !, qed, by, move, keep, drop, split, split3, join, fsplit, fjoin, fpick, pick, suffices, use0, use1, await, rewrite, feq_l, stop, fld, of_opd, no_more, and_then, returns, enter, alloc_all, pass_all, free_all, look_at, get, get_in, sets, lands_as, agg, sub, whole, fact, fact_i, tables, no, RawPtr, owns, types_at, plain, Ptr, block_ptr, null_ptr, ptr_val, in_a_block, nothing, heard, only, Tuple, bounded, Lasts, lasts, triple_of, calls_at, framed, Stays, stay_dropped, walk_of, Goes-blank, handle_tells, token, box_owns, Bx, D, R, P, B, τ, word, box_typed, box_out, box_in, proved_at, leaves}
use mir.Raw.{raw as bare}
use Rattle.std_alloc.specs.contracts.boxed.Box.into_raw_with_allocator as callee
use Rattle.std_alloc.proofs.boxed.Box.into_raw_with_allocator.Met.{met}
use Rattle.es_library.specs.contracts.pointer.Pointer.of.{ended, clauses}
use Rattle.es_library.specs.contracts.pointer.Pointer.of.Key.{name as key}
use Rattle.es_library.proofs.pointer.Pointer.of.Statement.{statement}
use Rattle.es_library.proofs.pointer.Pointer.of.Code as code

pub of_spec : {M : Type 1} → statement M
of_spec 𝓤 𝓛 𝓜 𝓡 wired T A LT LA g methods drop_T drop_A allocator glue glued =
    let E : Bx = record { row = T; laws = LT; al = record { row = A; laws = LA; g = g; d = methods; drops = drop_A } } in
    let given = bounded (a_type ∷ a_type ∷ []) (T, (A, tt)) (dcons methods (dcons drop_T (dcons drop_A dnil))) in
    let function = inst_fn given code.function in
    let 𝓣 = tables 𝓤 𝓛.H 𝓜 𝓡 𝓡.env in
    let ends = ended T A g methods drop_T drop_A in
    let says = clauses T A g methods drop_T drop_A 𝓛 𝓜.mem 𝓡.returns in
    let stays : Stays ends.signature.params ends.kept = (stay_dropped (plain (λ _. B E)) no, tt) in
    proved_at 𝓛 ends stays says 𝓜 𝓡 (Goes-blank 𝓛 2 (plain (λ _. B E)) no (λ κs x f. tt), tt) (key given) function (code.unfolded 𝓤 𝓛.H 𝓜 𝓡 wired (T, (A, tt)) methods drop_T drop_A) (λ z are.
    let κs = z.0.0 in let qs = z.0.1 in let boxed : D E = z.0.3.0 in
    let Post : Val → SProp 𝓤 = (walk_of 𝓛 ends stays says).post z in
    let Runs : List Val → SProp 𝓤 = λ words. WpFn 𝓤 𝓛.H 𝓣.C 𝓣.Λ function words Post in
    let alive : Item 𝓤 = ‵ (flft κs.0 qs.0) ⊛ ‵ (flft κs.1.0 qs.1.0) ⊛ ‵ ftrue in
    let Parts = Tuple (RawPtr ∷ P E ∷ []) in
    qed 𝓛 ((alive ⊛ ‵ (owns (types_at ends.signature.params κs) z.0.3 z.0.4)) ∷ raw ((says κs z.0.3).requires z.1) ∷ []) ∵
    split ! $ move ! (1 ∷ []) $ fsplit ! $ box_out E ! boxed z.0.4.0 (λ b o h at_block words fits. box_in E ! boxed b o boxed.value at_block refl $
    let call = triple_of 𝓛 (callee.signature T A g methods drop_A drop_T) (callee.spec T A g methods drop_A drop_T 𝓛 𝓜.mem 𝓡.returns) in
    let picked : call.Ghost = ((κs, qs, tt, (boxed, tt), (word E h b o ∷ [], tt)), tt) in
    let typed = box_typed E h b o fits in
    -- [the box; nothing; the tokens; what is required]
    fjoin ! $ move ! (1 ∷ 0 ∷ []) $ join ! $ join ! $ use1 𝓛 (raw (call.pre picked)) (id⊢ 𝓤 _) $
    suffices ! (Runs (word E h b o ∷ [])) (subst (λ (us : List Val). ent 𝓤 (Runs (word E h b o ∷ [])) (Runs us)) (sym (λ i. words i ++ [])) (id⊢ 𝓤 (Runs (word E h b o ∷ [])))) $
    enter ! 𝓣.C 𝓣.Λ function (word E h b o ∷ []) Post $ alloc_all ! (λ l. pass_all ! refl (typed, tt) $
    sets ! (of_opd ! (get ! refl)) refl typed $
    calls_at ! (framed 𝓤 𝓛.H 𝓜 𝓣) call (met 𝓤 𝓛 𝓜 𝓡 (code.calls-std_alloc::boxed::Box::into_raw_with_allocator 𝓡.env wired) T A LT LA g methods drop_A drop_T allocator glued glue) picked
    (and_then ! (get ! refl) (no_more !)) (λ u.
    use1 𝓛 (later (some (λ (parts : Ptr × A.Denot). (alive ⊛ ‵ (Parts.own_val parts (u ∷ []))) ⊛ some (λ (last : Lasts (callee.ended T A g methods drop_A drop_T) κs picked.0.3). ‵ (lasts (callee.ended T A g methods drop_A drop_T) κs picked.0.3 last)
    ⊛ (raw (fact 𝓤 (parts.1 ≡ boxed.alloc)) ⊛ ‵ (box_owns (token E.al boxed.alloc) (R E) parts.0 boxed.value)))))) (id⊢ 𝓤 _) $
    await ! tt $ pick ! (λ parts. split ! $ move ! (1 ∷ []) $ pick ! (λ _. split3 ! $ drop ! $ heard ! (parts.1 ≡ boxed.alloc) (λ same.
    in_a_block ! parts.0 (λ p. box_owns (token E.al boxed.alloc) (R E) p boxed.value) (fst∗ 𝓤 (never 𝓤) (sem 𝓛 (token E.al boxed.alloc (bare (τ E)) null_ptr))) (λ b' o' at_block'.
    -- [what the block has; the pair with the tokens]
    move ! (1 ∷ []) $ split ! $ move ! (1 ∷ []) $ fpick ! (λ us. fsplit ! $ feq_l ! (λ pair. fsplit ! $ feq_l ! (λ first. fsplit ! $
    rewrite ! 0 (λ (a : A.Denot). ‵ (A.own_val a us.1.0)) same refl $ handle_tells E.al ! boxed.alloc us.1.0 (λ h' second fits'.
    let fit = box_typed E h' b' o' fits' in
    let result : D E = record { ptr = block_ptr b' o'; alloc = boxed.alloc; value = boxed.value } in
    lands_as ! (ap only (pair ∙ (λ j. vstruct (of_list ((first ∙ ap (λ (p : Ptr). ptr_val p ∷ []) at_block') j ++ (second j ++ []))) ∷ []))) refl fit $
    sets ! (of_opd ! (get_in ! (fld ! refl (stop !)) (sub ! 0 refl (whole !)))) refl (tt, tt) $
    sets ! (of_opd ! (get_in ! (fld ! refl (stop !)) (sub ! 1 refl (whole !)))) refl fits' $
    sets ! (of_opd ! (get ! refl)) refl fits' $ sets ! (agg ! (and_then ! (get ! refl) (and_then ! (get ! refl) (no_more !)))) refl fit $
    -- the pointer
    move ! (3 ∷ 0 ∷ []) $ fsplit ! $ box_in E ! result b' o' boxed.value refl refl $
    use0 𝓛 (raw (fact 𝓤 (boxed.value ≡ boxed.value))) (fact_i 𝓤 (boxed.value ≡ boxed.value) (emp 𝓤) refl) $ nothing ! $ nothing ! $ fjoin ! $
    returns ! (look_at ! 0 refl) $ free_all ! refl $ keep ! (4 ∷ 0 ∷ 2 ∷ 1 ∷ []) $
    by ! (leaves 𝓛 ends stays says z (word E h' b' o') (record { to = block_ptr b' o'; alloc = boxed.alloc; value = boxed.value }) ((tt, (tt, tt)), tt) (tt, tt))))))))))))))
