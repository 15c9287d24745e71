-- The names that the walks of this crate share.
pub use Rattle.std.proofs.Common.{◌≡◌, ℕ, List, [], ◌∷◌, ◌++◌, Option, Some, None, IsSome, refl, sym, ap, ◌∙◌, subst, lit<}
pub use Rattle.std.proofs.raw_atomic.Walks.{proved, proved_at}
pub use lib.Dec.{T}
pub use base.Fraction.{full_share}
pub use base.Logic.{id⊢, emp}
pub use base.Fml.{Fml, GName, ftrue, flft, fsep}
pub use mir.Syntax.{named, ty_ptr, impl, tnil, dnil, dcons, a_type}
pub use mir.MapTy.{inst_fn}
pub use mir.Val.{Val, vptr, vstruct, vnil, vcons, has_ty, WT}
pub use contract.Monad.{fact, fact_i}
pub use contract.BorrowLft.{◌⊑◌}
pub use contract.Running.{tables}
pub use prog.Wp.{WpFn}
pub use types.Kit.{Item, Goal, Seq, Step, step, ‵, raw, ◌⊛◌, some, later, prop, at_ret, ◌$◌, ◌∵◌, !, qed, done, move, keep, drop, use0, use1, use2, split, split3, join, fsplit, fsplit3, fjoin, feq_i, feq_l, fpack, pick, await, rewrite, regoal, suffices, group, frame}
pub use types.Part.{agg, sub, whole, look_in}
pub use types.Run.{enter, of_opd, lit, stop, fld, hop, addr, no_more, and_then, first, blocks, exec, returns}
pub use types.ByLocal.{alloc_all, pass_all, free_all, look_at, get, get_in, through, sets, sets_last, lands_as, lands_last, env}
pub use denote.Exit.{yes, no}
pub use denote.Laws.{Is, shows}
pub use denote.Param.{layout, layouts, bounded, param}
pub use denote.Param.Laws.{Laws, param_laws}
pub use denote.RattleType.{RattleType, owns}
pub use denote.RawPtr.{Ptr, RawPtr, block_ptr, null_ptr, ptr_val, in_a_block, rawptr_vals, rawptr_Tells, rawptr_pure}
pub use denote.Signature.{plain, mut_ref_to, types_at}
pub use denote.Steps.{nothing, owned, facts, heard, only, opens}
pub use denote.Triple.Call.{calls_at, calls_at_last}
pub use denote.Triple.Clauses.{Lasts, lasts}
pub use denote.Triple.Spec.{triple_of}
pub use denote.Triple.Table.{framed}
pub use denote.Triple.Walked.{Stays, stay_dropped, Goes-dropped, Goes-spent_ref, says, walk_of, ends_at}
