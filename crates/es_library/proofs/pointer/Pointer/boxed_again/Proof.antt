-- `boxed_again` gives the pointer, the allocator and what the two own to `from_raw`. A `Pointer` is owned as its box is.
use Rattle.es_library.proofs.Steps.{◌≡◌, List, [], ◌∷◌, ◌++◌, refl, sym, ap, subst, a_type, dcons, dnil, Val, vptr, inst_fn, SProp, ent, id⊢, ftrue, flft, WpFn, Item, ‵, raw, ◌⊛◌, some, later, at_ret, ◌$◌, ◌∵◌, !, qed, by, move, keep, drop, split, split3, join, fsplit, fjoin, pick, suffices, use1, await, rewrite, feq_i, stop, fld, of_opd, no_more, and_then, first, blocks, exec, returns, enter, alloc_all, pass_all, free_all, look_at, get, get_in, sets, lands_last, env, sub, whole, ◌⊑◌, fact, tables, no, RattleType, owns, types_at, plain, block_ptr, nothing, only, bounded, Lasts, lasts, triple_of, calls_at_last, framed, Stays, stay_dropped, walk_of, Goes-blank, after, Good, Bx, D, R, P, B, word, box_ty, box_typed, box_out, box_in, proved_at, leaves}
use Rattle.std_alloc.specs.contracts.boxed.Box.from_raw as callee
use Rattle.std_alloc.proofs.boxed.Box.from_raw.Met.{met}
use Rattle.es_library.specs.contracts.pointer.Pointer as pointer
use Rattle.es_library.specs.contracts.pointer.Pointer.boxed_again.{ended, clauses}
use Rattle.es_library.specs.contracts.pointer.Pointer.boxed_again.Key.{name as key}
use Rattle.es_library.proofs.pointer.Pointer.boxed_again.Statement.{statement}
use Rattle.es_library.proofs.pointer.Pointer.boxed_again.Code as code

pub boxed_again_spec : {M : Type 1} → statement M
boxed_again_spec 𝓤 𝓛 𝓜 𝓡 wired T A LT LA g methods drop_T drop_A allocator glue glued =
    let E : Bx = record { row = T; laws = LT; al = record { row = A; laws = LA; g = g; d = methods; drops = drop_A } } in
    let given = bounded (a_type ∷ a_type ∷ []) (T, (A, tt)) (dcons methods (dcons drop_T (dcons drop_A dnil))) in
    let function = inst_fn given code.function in
    let 𝓣 = tables 𝓤 𝓛.H 𝓜 𝓡 𝓡.env in
    let ends = ended T A g methods drop_T drop_A in
    let says = clauses T A g methods drop_T drop_A 𝓛 𝓜.mem 𝓡.returns in
    let From : RattleType = pointer.the_row (R E) (P E) g in
    let stays : Stays ends.signature.params ends.kept = (stay_dropped (plain (λ _. From)) no, tt) in
    proved_at 𝓛 ends stays says 𝓜 𝓡 (Goes-blank 𝓛 2 (plain (λ _. From)) no (λ κs x f. tt), tt) (key given) function (code.unfolded 𝓤 𝓛.H 𝓜 𝓡 wired (T, (A, tt)) methods drop_T drop_A) (λ z are.
    let κs = z.0.0 in let qs = z.0.1 in let from = z.0.3.0 in
    let Post : Val → SProp 𝓤 = (walk_of 𝓛 ends stays says).post z in
    let Runs : List Val → SProp 𝓤 = λ words. WpFn 𝓤 𝓛.H 𝓣.C 𝓣.Λ function words Post in
    let alive : Item 𝓤 = ‵ (flft κs.0 qs.0) ⊛ ‵ (flft κs.1.0 qs.1.0) ⊛ ‵ ftrue in
    let box : D E = record { ptr = from.to; alloc = from.alloc; value = from.value } in
    qed 𝓛 ((alive ⊛ ‵ (owns (types_at ends.signature.params κs) z.0.3 z.0.4)) ∷ (raw (fact 𝓤 (κs.0 ⊑ T.lives)) ⊛ raw (fact 𝓤 (κs.1.0 ⊑ A.lives)) ⊛ ‵ ftrue) ∷ []) ∵
    split ! $ move ! (1 ∷ []) $ fsplit ! $ box_out E ! box z.0.4.0 (λ b o h at_block words fits.
    let call = triple_of 𝓛 (callee.signature T A g methods drop_A) (callee.spec T A g methods drop_A 𝓛 𝓜.mem 𝓡.returns) in
    let picked : call.Ghost = ((κs, qs, tt, (from.alloc, (block_ptr b o, tt)), (h ∷ [], (vptr b o ∷ [], tt))), from.value) in
    let typed = box_typed E h b o fits in
    -- [what the block has; the allocator; nothing; the tokens; what is required]
    fjoin ! $ move ! (2 ∷ []) $ feq_i ! (List Val) (vptr b o ∷ []) (vptr b o ∷ []) refl $ fjoin ! $ move ! (2 ∷ 0 ∷ []) $ fjoin ! $
    move ! (2 ∷ 0 ∷ []) $ join ! $ move ! (2 ∷ []) $ split3 ! $ move ! (1 ∷ 4 ∷ []) $ join ! $ move ! (1 ∷ 0 ∷ []) $ join ! $
    move ! (1 ∷ []) $ drop ! $ move ! (1 ∷ 0 ∷ []) $ join ! $ use1 𝓛 (raw (call.pre picked)) (id⊢ 𝓤 _) $
    suffices ! (Runs (word E h b o ∷ [])) (subst (λ (us : List Val). ent 𝓤 (Runs (word E h b o ∷ [])) (Runs us)) (sym (λ i. words i ++ [])) (id⊢ 𝓤 (Runs (word E h b o ∷ [])))) $
    enter ! 𝓣.C 𝓣.Λ function (word E h b o ∷ []) Post $ alloc_all ! (λ l. pass_all ! refl (typed, tt) $ let locals = env function.locals l in
    sets ! (of_opd ! (get_in ! (fld ! refl (stop !)) (sub ! 0 refl (whole !)))) refl (tt, tt) $
    sets ! (of_opd ! (get_in ! (fld ! refl (stop !)) (sub ! 1 refl (whole !)))) refl fits $
    first ! $ blocks ! $ sets ! (of_opd ! (get ! refl)) refl fits $
    calls_at_last ! (framed 𝓤 𝓛.H 𝓜 𝓣) call (met 𝓤 𝓛 𝓜 𝓡 (code.calls-std_alloc::boxed::Box::from_raw 𝓡.env wired) T A LT LA g methods drop_A allocator glued) picked
    (and_then ! (get ! refl) (and_then ! (get ! refl) (no_more !))) (λ u.
    use1 𝓛 (later (some (λ (made : D E). (alive ⊛ ‵ ((B E).own_val made (u ∷ []))) ⊛ some (λ (last : Lasts (callee.ended T A g methods drop_A) κs picked.0.3). ‵ (lasts (callee.ended T A g methods drop_A) κs picked.0.3 last)
    ⊛ (raw (fact 𝓤 (made.value ≡ from.value)) ⊛ raw (fact 𝓤 (made.alloc ≡ from.alloc))))))) (id⊢ 𝓤 _) $
    await ! tt $ pick ! (λ made. split ! $ move ! (1 ∷ []) $ pick ! (λ _. split3 ! $ drop ! $ move ! (1 ∷ []) $ drop ! $ move ! (1 ∷ []) $ split ! $ move ! (1 ∷ []) $
    -- the machine's form of the box
    box_out E ! made (u ∷ []) (λ b' o' h' at_block' words' fits'. box_in E ! made b' o' made.value at_block' refl $ rewrite ! 0 (λ (us : List Val). ‵ ((B E).own_val made us)) (sym words') refl $
    let fit : Good (box_ty E) u = subst (Good (box_ty E)) (sym (ap only words')) (box_typed E h' b' o' fits') in
    lands_last ! refl fit $ exec ! 𝓣.C 𝓣.Λ locals (after 3 function.body) (at_ret locals Post) $ sets ! (of_opd ! (get ! refl)) refl fit $
    nothing ! $ nothing ! $ fjoin ! $ returns ! (look_at ! 0 refl) $ free_all ! refl $
    -- [nothing is left of the parameter; the box; the tokens; its value]
    keep ! (2 ∷ 0 ∷ 1 ∷ 3 ∷ []) $ by ! (leaves 𝓛 ends stays says z u made ((tt, (tt, tt)), tt) (tt, tt)))))))))
