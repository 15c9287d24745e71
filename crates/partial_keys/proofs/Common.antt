-- What the proofs of this crate cite of std and of the crates below.
pub use Rattle.key_bits.proofs.Gather.{code-lt, code-shifted}
pub use Rattle.key_bits.specs.Bits.{bit_of}
pub use Rattle.key_bits.specs.Gather.{code, gathered}
pub use Rattle.key_bits.specs.Key.{with_zeros}
pub use Rattle.node_tries.proofs.Growth.{RisesFrom-grown, UsesOnly-grown, affected_fits, forked_paths, fresh_from_columns, paths-grown, places-grown, uses-grown}
pub use Rattle.node_tries.proofs.Piece.{AllInside, NoneHas, RisesFrom-weaker, first_path, highest-paths, inside, leads_to-agree, length-paths, length-places, none_before, none_has, only_path, paths-left, paths-right, size_pos}
pub use Rattle.node_tries.proofs.Piece.Using.{UsesOnly-more, UsesOnly-used, all-used, any-uses, fewer_columns, later_columns, uses_after}
pub use Rattle.node_tries.proofs.Positions.{AllBelow-kept, AllBelow-with_position, Ascends-front, Ascends-kept, Ascends-with_position, IsPlaceOf, ascends_back, below_front, front_below-column, front_below-place, has-at, has-bigger, has-found, has-here, has-later, has-past, has-with_position, has_after, kept-pad, kept_nil, kept_over, kept_suc, length-kept, length-with_position, map-kept, with_position-split}
pub use Rattle.node_tries.proofs.Positions.Tests.{Agree, all-put, all_at, all_from, all_weaker, map_same, same_bools, same_from_flags}
pub use Rattle.node_tries.specs.Changes.{replaced, without}
pub use Rattle.node_tries.specs.Growth.{IsAffected, IsFresh, affected_count, affected_first, edited, forked_places, grown}
pub use Rattle.node_tries.specs.Kept.{kept}
pub use Rattle.node_tries.specs.Piece.{Fork, Piece, Place, RisesFrom, UsesOnly, leads_to, paths, places, size, used_columns, uses}
pub use Rattle.node_tries.specs.Positions.{AllBelow, Ascends, all, any, front_below, has, with_position}
pub use Rattle.std.proofs.Common.{Bool, Fits, List, T, [], ap, ap₂, arith, below_more, bit_and, bit_or, cond, div-add-mod', drop, eqb, eqb→eq, false, get_or, inl, inr, leb, length, length-append, lit<, ltb, map, not, refl, replicate, set, subst, suc, sym, take, true, w16, w32, w8, zero, ℕ, ⊎_elim, ◌%◌, ◌&&◌, ◌*◌, ◌++◌, ◌+◌, ◌-◌, ◌/◌, ◌<◌, ◌^◌, ◌||◌, ◌∙◌, ◌∷◌, ◌≡◌, ◌≢◌, ◌≤◌, ◌⊎◌}
pub use Rattle.std.proofs.Math.ListN.{get_or-append}
pub use Rattle.std.proofs.Math.Nat.{div-lt_iff_lt-mul, min-eq_left, min-eq_right, min-le_left, min-le_right, mul-div-le, mul-div_cancel_left, pow-suc, zero-div}
pub use Rattle.std.proofs.Math.Seq.{drop-append-add, take-suc}
pub use Rattle.std.proofs.lemmas.Bool.{and_from, and_parts, cases_Bool, cases_lt, cases_order, eq-eqb, eqb-false, eqb-true, false≢true, le-leb, le-ltb, lt-leb, lt-ltb, ltb-false, ltb-true, ne_eqb, or_left, or_right}
pub use Rattle.std.proofs.lemmas.List.{append-nil, append_assoc, drop-drop, drop-replicate, drop-set-lt, drop-take, drop_at, drop_more, ext_get_or, get_or-append_right, get_or-drop, get_or-map, get_or-replicate, get_or-take, get_or_append_left, get_or_past, length-drop, length-map, length-replicate, length-take, length-take-le, length_push, map-append, map-id, map_push, replicate-append-replicate, set_at, take-append-drop, take-append-le, take-take, take_all, take_at, take_more, take_more_set}
pub use Rattle.std.proofs.lemmas.List.Edits.{fill_from_more, get_or-remove_above, length-remove, remove-append_left}
pub use Rattle.std.proofs.lemmas.List.Elements.{All-get_or}
pub use Rattle.std.proofs.lemmas.Nat.{and-not, and_block, and_comm, and_le_l, and_le_r, and_mask, and_shr, leading_top, mod-pow-add, mod_below, mod_low, one_shl, or_block, or_comm, pow_pos, same_from_place, shr_high}
pub use Rattle.std.proofs.lemmas.Nat.Bits.{bit_at-lt, bit_at-zero, bit_at_cat_high, bit_at_cat_low, shr_and_one}
pub use Rattle.std.proofs.lemmas.Simd.{Each1-all, Each1-get_or, Each1-weaker, Each1-zip2, Each2-splat, SwzOk, SwzOk-from_below, bit_mask_l, bitmask_splat, get_or-chunk, get_or-swz_l_below, get_or-zip2, leading_from_mask_l, length-chunk, length-swz_l, length-zip2, map-map, mask_l-lt, mask_l-mod, pick_l_left, pick_l_whole, swz_l, tops_compared, trailing_mask_l, zip2_splat_left}
pub use Rattle.std.specs.Int.{bit_at}
pub use Rattle.std.specs.Int.Bits.{or_add_and, or_zero_r}
pub use Rattle.std.specs.List.{All, insert, prefix_len, range_with_len}
pub use Rattle.std.specs.Prelude.{min, nat_le, nat_lt, remove}
