-- `of` keeps what is behind the pointer of a box.
use Rattle.es_library.proofs.Steps.{◌≡◌, [], ◌∷◌, ◌++◌, refl, Val, SProp, emp, WpFn, List, ‵, raw, prop, ◌⊛◌, ◌$◌, ◌∵◌, !, qed, by, move, keep, drop, split, join, fsplit, fjoin, use0, regoal, stop, fld, of_opd, no_more, and_then, returns, enter, alloc_all, pass_all, free_all, look_at, get, get_in, sets, agg, sub, whole, fact, fact_i, tables, RattleType, block_ptr, owns, types_at, plain, nothing, alive, Stays, stay_dropped, walk_of, Goes-blank, proved_at, leaves, a_type, dcons, dnil, inst_fn, param, bounded, no, ghosts}
use Rattle.es_library.proofs.Hops.{heap, pair_word, pair_out, pair_in}
use Rattle.es_library.specs.Rows.{kept_row, undropped}
use Rattle.es_library.specs.contracts.pointer.Pointer as pointer
use Rattle.es_library.specs.contracts.named.Named as named
use Rattle.es_library.specs.contracts.named.Named.of.{ended, clauses}
use Rattle.es_library.specs.contracts.named.Named.of.Key.{name as key}
use Rattle.es_library.proofs.named.Named.of.Statement.{statement}
use Rattle.es_library.proofs.named.Named.of.Code as code

pub of_spec : {M : Type 1} → statement M
of_spec 𝓤 𝓛 𝓜 𝓡 wired N LN P dP R dR metP metR =
    let given = bounded (a_type ∷ []) (N, tt) (dcons dP (dcons dR dnil)) in
    let fn = inst_fn given code.function in let 𝓣 = tables 𝓤 𝓛.H 𝓜 𝓡 𝓡.env in
    let En = ended N P dP R dR in let c = clauses N P dP R dR 𝓛 𝓜.mem 𝓡.returns in
    let row : RattleType = kept_row (param 0 N) R.table P.plan in let From : RattleType = pointer.the_row row heap ghosts in
    let hs : Stays En.signature.params En.kept = (stay_dropped (plain (λ _. From)) no, tt) in
    proved_at 𝓛 En hs c 𝓜 𝓡 (Goes-blank 𝓛 1 (plain (λ _. From)) no (λ κs x f. tt), tt) (key given) fn (code.unfolded 𝓤 𝓛.H 𝓜 𝓡 wired (N, tt) dP dR) (λ z are.
    let Post : Val → SProp 𝓤 = (walk_of 𝓛 En hs c).post z in let d : From.Denot = z.0.3.0 in
    qed 𝓛 ((raw (alive 𝓛 En.signature z.0.0 z.0.1) ⊛ ‵ (owns (types_at En.signature.params z.0.0) z.0.3 z.0.4)) ∷ raw ((c z.0.0 z.0.3).requires z.1) ∷ []) ∵
    move ! (1 ∷ []) $ drop ! $ split ! $ move ! (1 ∷ []) $ fsplit ! $ pair_out ! row d.to d.alloc d.value z.0.4.0 (λ b o words.
    regoal ! (λ (us : List Val). prop (WpFn 𝓤 𝓛.H 𝓣.C 𝓣.Λ fn us Post)) (λ i. words i ++ []) refl $
    enter ! 𝓣.C 𝓣.Λ fn (pair_word b o ∷ []) Post $ alloc_all ! (λ l. pass_all ! refl ((tt, (tt, (((tt, tt), tt), tt))), tt) $
    sets ! (of_opd ! (get_in ! (fld ! refl (stop !)) (sub ! 0 refl (whole !)))) refl (tt, tt) $
    sets ! (of_opd ! (get_in ! (fld ! refl (stop !)) (sub ! 1 refl (whole !)))) refl (tt, ((tt, tt), tt)) $
    sets ! (of_opd ! (get ! refl)) refl (tt, tt) $
    sets ! (agg ! (and_then ! (get ! refl) (and_then ! (get ! refl) (no_more !)))) refl (tt, (tt, (((tt, tt), tt), tt))) $ returns ! (look_at ! 0 refl) $ free_all ! refl $
    let r : (named.the_row (param 0 N)).Denot = record { to = block_ptr b o; alloc = d.alloc; table = R.table; plan = P.plan; value = d.value.value } in
    pair_in ! row d.alloc d.value b o $ use0 𝓛 (raw (fact 𝓤 (r.plan ≡ P.plan))) (fact_i 𝓤 (r.plan ≡ P.plan) (emp 𝓤) refl) $ use0 𝓛 (raw (fact 𝓤 (r.table ≡ R.table))) (fact_i 𝓤 (r.table ≡ R.table) (emp 𝓤) refl) $ join ! $
    use0 𝓛 (raw (fact 𝓤 (undropped r.value ≡ d.value))) (fact_i 𝓤 (undropped r.value ≡ d.value) (emp 𝓤) refl) $ join ! $
    nothing ! $ nothing ! $ fjoin ! $ keep ! (4 ∷ 0 ∷ 2 ∷ 1 ∷ []) $ by ! (leaves 𝓛 En hs c z (pair_word b o) r (tt, tt) (tt, tt)))))
