-- Hops between structs that keep a box as its pointer: what such a struct owns is taken apart, and put together.
--     pair_out, pair_in         the pointer and the heap's handle
--     triple_out, triple_in     the same behind a flag that says that it is filled
use Rattle.std.proofs.Common.{ℕ}
use seplogic.Ra.Ura.{Ura}
use mir.Raw.{raw as bare}
use Rattle.std.specs.Prelude.{cond}
use Rattle.std_heap.specs.contracts.Global as HP
use Rattle.es_library.proofs.Steps.{◌≡◌, Bool, true, List, [], ◌∷◌, ◌++◌, refl, ◌∙◌, Val, vptr, vbool, vstruct, vcons, vnil, of_list, never, fst∗, Fml, ftrue, fsep, Logic, sem, Goal, Item, Seq, Step, step, ‵, ◌$◌, move, drop, fsplit, fjoin, fpick, fpack, rewrite, feq_l, feq_i, bool, Is, shows, lone, bool_Makes, bool_Tells, RattleType, Valss, Ptr, block_ptr, null_ptr, ptr_val, in_a_block, owned, nothing, peeks, Struct, within, shape, box_owns, ghosts, heap_val, heap_Tells}
use Rattle.es_library.specs.contracts.pointer.Pointer as pointer
use Rattle.es_library.specs.contracts.kept.Kept as kept

abbrev pub heap : RattleType
heap = HP.the_row

-- how the machine stores the two, and the three
abbrev pub pair_word : ℕ → ℕ → Val
pair_word b o = vstruct (vcons (vptr b o) (vcons heap_val vnil))

abbrev pub triple_word : ℕ → ℕ → Val
triple_word b o = vstruct (vcons (vbool true) (vcons (vptr b o) (vcons heap_val vnil)))

abbrev boxed : (row : RattleType) → heap.Denot → row.Denot → Ptr → Fml
boxed row a x p = box_owns (λ t q. ghosts.dealloc_token a t q) row p x

abbrev pub pair_owns : (row : RattleType) → Ptr → heap.Denot → row.Denot → List Val → Fml
pair_owns row to a x vs = fsep ((Struct (shape (pointer.the_type row heap ghosts))).own_val (to, (a, tt)) vs) (boxed row a x to)

abbrev pub triple_owns : (row : RattleType) → Bool → Ptr → heap.Denot → row.Denot → List Val → Fml
triple_owns row f at a x vs = fsep ((Struct (shape kept.the_type)).own_val (f, (at, ((HP.the_field).into a, tt))) vs) (cond f (boxed row a x at) ftrue)

module _ {M : Type 1} {𝓤 : Ura M} {𝓛 : Logic 𝓤} {K : Type 0} {Γ : List (Item 𝓤)} {G : Goal 𝓤 𝓛.H} (t : K) (row : RattleType) where
  pub pair_out : (to : Ptr) (a : heap.Denot) (x : row.Denot) (vs : List Val)
      → ((b o : ℕ) → vs ≡ pair_word b o ∷ [] → Seq K 𝓛 (‵ (boxed row a x (block_ptr b o)) ∷ ‵ (heap.own_val a (heap_val ∷ [])) ∷ Γ) G)
      → Seq K 𝓛 (‵ (pair_owns row to a x vs) ∷ Γ) G
  pair_out to a x vs k =
      fsplit t $ fpick t (λ vss. fsplit t $ feq_l t (λ ev. fsplit t $ feq_l t (λ ep. fsplit t $ peeks t heap (Is heap) (shows 𝓛 heap) a vss.1.0 (λ is.
      rewrite t 0 (λ (us : List Val). ‵ (heap.own_val a us)) (heap_Tells a vss.1.0 is) refl $ move t (1 ∷ []) $ drop t $ move t (1 ∷ []) $
      in_a_block t to (boxed row a x) (fst∗ 𝓤 (never 𝓤) (sem 𝓛 (ghosts.dealloc_token a (bare (lone row.mir)) null_ptr))) (λ b o e.
      k b o ((ev ∙ (λ j. vstruct (of_list (ep j ++ (heap_Tells a vss.1.0 is j ++ []))) ∷ [])) ∙ (λ j. vstruct (of_list (ptr_val (e j) ∷ heap_val ∷ [])) ∷ [])))))))

  pub triple_out : (f : Bool) (at : Ptr) (a : heap.Denot) (x : row.Denot) (vs : List Val) → f ≡ true
      → ((b o : ℕ) → vs ≡ triple_word b o ∷ [] → Seq K 𝓛 (‵ (boxed row a x (block_ptr b o)) ∷ ‵ (heap.own_val a (heap_val ∷ [])) ∷ Γ) G)
      → Seq K 𝓛 (‵ (triple_owns row f at a x vs) ∷ Γ) G
  triple_out f at a x vs full k =
      fsplit t $ fpick t (λ vss. fsplit t $ feq_l t (λ ev. fsplit t $ peeks t bool (Is bool) (shows 𝓛 bool) f vss.0 (λ ib. drop t $ fsplit t $ feq_l t (λ ep. fsplit t $
      peeks t heap (Is heap) (shows 𝓛 heap) a vss.1.1.0 (λ is.
      rewrite t 0 (λ (us : List Val). ‵ (heap.own_val a us)) (heap_Tells a vss.1.1.0 is) refl $ move t (1 ∷ []) $ drop t $ move t (1 ∷ []) $
      rewrite t 0 (λ (g : Bool). ‵ (cond g (boxed row a x at) ftrue)) full refl $
      in_a_block t at (boxed row a x) (fst∗ 𝓤 (never 𝓤) (sem 𝓛 (ghosts.dealloc_token a (bare (lone row.mir)) null_ptr))) (λ b o e.
      k b o ((ev ∙ (λ j. vstruct (of_list (bool_Tells f vss.0 ib j ++ (ep j ++ (heap_Tells a vss.1.1.0 is j ++ [])))) ∷ [])) ∙ (λ j. vstruct (of_list (vbool (full j) ∷ ptr_val (e j) ∷ heap_val ∷ [])) ∷ []))))))))

  pub pair_in : (a : heap.Denot) (x : row.Denot) (b o : ℕ)
      → Step K 𝓛 (‵ (pair_owns row (block_ptr b o) a x (pair_word b o ∷ [])) ∷ Γ) G (‵ (boxed row a x (block_ptr b o)) ∷ ‵ (heap.own_val a (heap_val ∷ [])) ∷ Γ) G
  pair_in a x b o = step (λ s.
      let S = shape (pointer.the_type row heap ghosts) in
      nothing t $ move t (2 ∷ 0 ∷ []) $ fjoin t $ feq_i t (List Val) (vptr b o ∷ []) (vptr b o ∷ []) refl $ fjoin t $ feq_i t (List Val) (pair_word b o ∷ []) (pair_word b o ∷ []) refl $ fjoin t $
      fpack t (Valss S.fields) (within S (block_ptr b o, (a, tt)) (pair_word b o ∷ [])) (vptr b o ∷ [], (heap_val ∷ [], tt)) $ fjoin t $ s)

  pub triple_in : (a : heap.Denot) (x : row.Denot) (b o : ℕ)
      → Step K 𝓛 (‵ (triple_owns row true (block_ptr b o) a x (triple_word b o ∷ [])) ∷ Γ) G (‵ (boxed row a x (block_ptr b o)) ∷ ‵ (heap.own_val a (heap_val ∷ [])) ∷ Γ) G
  triple_in a x b o = step (λ s.
      let S = shape kept.the_type in
      nothing t $ move t (2 ∷ 0 ∷ []) $ fjoin t $ feq_i t (List Val) (vptr b o ∷ []) (vptr b o ∷ []) refl $ fjoin t $ owned t bool (Is bool) (bool_Makes 𝓛) true (vbool true ∷ []) refl $ fjoin t $
      feq_i t (List Val) (triple_word b o ∷ []) (triple_word b o ∷ []) refl $ fjoin t $
      fpack t (Valss S.fields) (within S (true, (block_ptr b o, ((HP.the_field).into a, tt))) (triple_word b o ∷ [])) (vbool true ∷ [], (vptr b o ∷ [], (heap_val ∷ [], tt))) $ fjoin t $ s)
