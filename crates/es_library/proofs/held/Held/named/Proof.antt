-- `named` takes the pointer out of what is kept.
use Rattle.es_library.proofs.Steps.{◌≡◌, true, [], ◌∷◌, ◌++◌, refl, Val, SProp, emp, WpFn, List, ‵, raw, prop, ◌⊛◌, ◌$◌, ◌∵◌, !, qed, by, move, keep, split, join, fsplit, fjoin, use0, regoal, stop, fld, of_opd, no_more, and_then, returns, enter, alloc_all, pass_all, free_all, look_at, get, get_in, sets, agg, sub, whole, fact, fact_i, tables, RattleType, block_ptr, owns, types_at, plain, nothing, alive, Stays, stay_dropped, walk_of, Goes-blank, proved_at, leaves, heard}
use Rattle.es_library.proofs.Hops.{pair_word, triple_word, triple_out, pair_in}
use Rattle.es_library.specs.Rows.{kept_row, run_row, undropped}
use Rattle.es_library.specs.contracts.named.Named as named
use Rattle.es_library.specs.contracts.held.Held as keeper
use Rattle.es_library.specs.contracts.held.Held.named.{ended, clauses}
use Rattle.es_library.specs.contracts.held.Held.named.Key.{name as #self}
use Rattle.es_library.proofs.held.Held.named.Statement.{statement}
use Rattle.es_library.proofs.held.Held.named.Code as code

pub named_spec : {M : Type 1} → statement M
named_spec 𝓤 𝓛 𝓜 𝓡 wired =
    let fn = code.function in let 𝓣 = tables 𝓤 𝓛.H 𝓜 𝓡 𝓡.env in let En = ended in let c = clauses 𝓛 𝓜.mem 𝓡.returns in
    let From : RattleType = keeper.the_row in
    let hs : Stays En.signature.params En.kept = (stay_dropped (plain (λ _. From)) En.kept.0, tt) in
    proved_at 𝓛 En hs c 𝓜 𝓡 (Goes-blank 𝓛 0 (plain (λ _. From)) En.kept.0 (λ κs x f. tt), tt) #self fn (code.unfolded 𝓤 𝓛.H 𝓜 𝓡 wired) (λ z are.
    let Post : Val → SProp 𝓤 = (walk_of 𝓛 En hs c).post z in let d : From.Denot = z.0.3.0 in
    qed 𝓛 ((raw (alive 𝓛 En.signature z.0.0 z.0.1) ⊛ ‵ (owns (types_at En.signature.params z.0.0) z.0.3 z.0.4)) ∷ raw (fact 𝓤 (d.filled ≡ true)) ∷ []) ∵ move ! (1 ∷ []) $ heard ! (d.filled ≡ true) (λ filled. split ! $ move ! (1 ∷ []) $ fsplit ! $
    triple_out ! (kept_row run_row d.table d.plan) d.filled d.at d.alloc (undropped d.value) z.0.4.0 filled (λ b o words.
    regoal ! (λ (us : List Val). prop (WpFn 𝓤 𝓛.H 𝓣.C 𝓣.Λ fn us Post)) (λ i. words i ++ []) refl $
    enter ! 𝓣.C 𝓣.Λ fn (triple_word b o ∷ []) Post $ alloc_all ! (λ l. pass_all ! refl ((tt, (tt, (tt, (((tt, tt), tt), tt)))), tt) $
    sets ! (of_opd ! (get_in ! (fld ! refl (stop !)) (sub ! 1 refl (whole !)))) refl (tt, tt) $
    sets ! (of_opd ! (get_in ! (fld ! refl (stop !)) (sub ! 2 refl (whole !)))) refl (tt, ((tt, tt), tt)) $
    sets ! (of_opd ! (get ! refl)) refl (tt, tt) $
    sets ! (agg ! (and_then ! (get ! refl) (and_then ! (get ! refl) (no_more !)))) refl (tt, (tt, (((tt, tt), tt), tt))) $ returns ! (look_at ! 0 refl) $ free_all ! refl $
    let r : (named.the_row run_row).Denot = record { to = block_ptr b o; alloc = d.alloc; table = d.table; plan = d.plan; value = d.value } in
    pair_in ! (kept_row run_row d.table d.plan) d.alloc (undropped d.value) b o $ use0 𝓛 (raw (fact 𝓤 ((r.table ≡ d.table) × (r.plan ≡ d.plan)))) (fact_i 𝓤 ((r.table ≡ d.table) × (r.plan ≡ d.plan)) (emp 𝓤) (refl, refl)) $
    use0 𝓛 (raw (fact 𝓤 (r.value ≡ d.value))) (fact_i 𝓤 (r.value ≡ d.value) (emp 𝓤) refl) $ join ! $
    nothing ! $ nothing ! $ fjoin ! $ keep ! (4 ∷ 0 ∷ 2 ∷ 1 ∷ []) $ by ! (leaves 𝓛 En hs c z (pair_word b o) r (tt, tt) (tt, tt))))))
