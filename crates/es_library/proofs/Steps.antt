-- What the walks cite.
pub use Rattle.std.proofs.Common.{◌≡◌, List, [], ◌∷◌, ◌++◌, refl, sym, ap, ◌∙◌, subst}
pub use mathlib.Core.Bool.{Bool, true}
pub use mir.Syntax.{a_type, dcons, dnil}
pub use mir.Val.{Val, vptr, vbool, vstruct, vcons, vnil, of_list}
pub use mir.MapTy.{inst_fn}
pub use base.Logic.{SProp, ent, id⊢, emp, never, fst∗}
pub use base.Fml.{Fml, ftrue, fsep, flft}
pub use prog.Wp.{WpFn}
pub use types.Logic.{Logic, sem}
pub use types.Kit.{Goal, Item, Seq, Step, step, ‵, raw, prop, ◌⊛◌, some, later, at_ret, ◌$◌, ◌∵◌, !, qed, by, move, keep, drop, split, split3, join, fsplit, fjoin, fpick, pick, fpack, suffices, use0, use1, await, rewrite, regoal, feq_l, feq_i}
pub use types.Run.{true_lit, stop, fld, of_opd, no_more, and_then, first, blocks, exec, returns, enter}
pub use types.ByLocal.{alloc_all, pass_all, free_all, look_at, get, get_in, sets, lands_as, lands_last, env}
pub use types.Part.{agg, sub, whole}
pub use contract.BorrowLft.{◌⊑◌}
pub use contract.Monad.{fact, fact_i}
pub use contract.Running.{tables}
pub use denote.Exit.{no}
pub use denote.Builtin.{RawPtr, bool}
pub use denote.Laws.{Is, shows}
pub use denote.Memory.{lone}
pub use denote.Param.{bounded, param}
pub use denote.Plain.{bool_Makes, bool_Tells}
pub use denote.RattleType.{RattleType, owns, Valss}
pub use denote.RawPtr.{Ptr, block_ptr, null_ptr, ptr_val, in_a_block}
pub use denote.Signature.{types_at, plain}
pub use denote.Steps.{owned, nothing, heard, peeks, only}
pub use denote.Struct.Struct.{Struct, within}
pub use denote.Struct.Owning.{shape, to}
pub use denote.Struct.Tuple.{Tuple}
pub use denote.Triple.Call.{calls_at, calls_at_last}
pub use denote.Triple.Clauses.{Lasts, lasts}
pub use denote.Triple.Entry.{alive}
pub use denote.Triple.Spec.{triple_of}
pub use denote.Triple.Table.{framed}
pub use denote.Triple.Walked.{Stays, stay_dropped, walk_of}
pub use Rattle.core.proofs.alloc.Calls.{Goes-blank, handle_tells, token}
pub use Rattle.core.proofs.alloc.Shapes.{after}
pub use Rattle.core.proofs.cell.Inside.{Good}
pub use Rattle.std.proofs.raw_atomic.Walks.{proved_at, leaves}
pub use Rattle.std_alloc.specs.Box.Ownership.{box_owns}
pub use Rattle.std_alloc.proofs.BoxSteps.Form.{Bx, D, R, P, B, τ, word, box_ty, box_typed}
pub use Rattle.std_alloc.proofs.BoxSteps.Steps.{box_out, box_in}
pub use Rattle.std_heap.specs.contracts.GlobalAllocator.TheImpl.{ghosts}
pub use Rattle.std_heap.proofs.Handle.{heap_val, heap_Tells}
