-- What the proofs of this crate cite of std and of the crates below.
pub use Rattle.key_bits.proofs.Gather.{code-lt}
pub use Rattle.key_bits.specs.Gather.{code}
pub use Rattle.node_tries.proofs.Changes.Beside.{found}
pub use Rattle.node_tries.proofs.Changes.Seams.{beside_by, beside_seams, by_before, by_next, by_several_before, by_several_next, seam, seam_above, seam_between, seam_first, seam_left, seam_past, seam_right}
pub use Rattle.node_tries.proofs.Piece.{RisesFrom-weaker, length-paths, length-places, none_before, one_place, size_pos}
pub use Rattle.node_tries.proofs.Piece.Using.{UsesOnly-more, later_columns}
pub use Rattle.node_tries.proofs.Positions.{IsPlaceOf, ascends_back, front_below-place, has-at, has-with_position, has_after, length-with_position, same_rising}
pub use Rattle.node_tries.proofs.Positions.Tests.{all_at, map_same, same_bools}
pub use Rattle.node_tries.specs.Changes.{AtRootFork, is_place, replaced, without}
pub use Rattle.node_tries.specs.Growth.{IsAffected, affected_count, affected_first, edited, forked_places, grown}
pub use Rattle.node_tries.specs.Kept.{kept}
pub use Rattle.node_tries.specs.Piece.{Fork, Piece, Place, RisesFrom, UsesOnly, leads_to, paths, places, size, uses}
pub use Rattle.node_tries.specs.Positions.{AllBelow, Ascends, all, front_below, has, with_position}
pub use Rattle.partial_keys.proofs.Keeping.{IsColumns-kept, IsColumns-with_position}
pub use Rattle.partial_keys.proofs.Leads.{first_is_zero, highest_leads}
pub use Rattle.partial_keys.proofs.Rows.{code-falses, squeezed-code}
pub use Rattle.partial_keys.proofs.Rows.Growing.{shows-at_column, shows-at_new, weight}
pub use Rattle.partial_keys.proofs.Rows.Joining.{covers-new_column, shows-fork}
pub use Rattle.partial_keys.proofs.Shown.{covers_self, piece_of_covered, piece_of_shown, row, row-set, row-skip, shown_self}
pub use Rattle.partial_keys.proofs.Shown.Cutting.{covers_one, covers_zero, front_size, half_shows, or_all-piece, root_first}
pub use Rattle.partial_keys.proofs.Shows.{affected_range, covers_of, same_length, shown_columns, shown_some_column, shows-replaced}
pub use Rattle.partial_keys.proofs.Squeezed.{kept_coded, or_all_step}
pub use Rattle.partial_keys.proofs.Squeezed.Closing.{all-closed, all-end, all-kept, all-start, rows_over, squeezed_from, used_over}
pub use Rattle.partial_keys.specs.Columns.{IsColumns}
pub use Rattle.partial_keys.specs.Rows.{IsHighest, dense_of, row_of, with_unused}
pub use Rattle.partial_keys.specs.Runs.{IsRunEnd, IsRunStart, agree_in}
pub use Rattle.partial_keys.specs.Shown.{piece_of, shown}
pub use Rattle.partial_keys.specs.Shows.{Covers, ShowsPiece}
pub use Rattle.partial_keys.specs.Spread.{forked_rows, spread_row}
pub use Rattle.partial_keys.specs.Squeezed.{IsRowOver, closed_row, or_all, squeezed, used_bits}
pub use Rattle.std.proofs.Common.{Bool, Fits, List, None, Option, [], ap, ap₂, arith, bit_or, cond, drop, eqb, false, get_or, inl, inr, length, length-append, map, min, nat_lt, not, refl, replicate, set, subst, suc, sym, take, true, w32, zero, ℕ, ⊎_elim, ◌%◌, ◌*◌, ◌++◌, ◌+◌, ◌-◌, ◌/◌, ◌<◌, ◌^◌, ◌||◌, ◌↔◌, ◌∙◌, ◌∷◌, ◌≡◌, ◌≢◌, ◌≤◌, ◌⊎◌}
pub use Rattle.std.proofs.Math.Nat.{add-mul-mod_self_right, div-mul-le_self, mod-eq_of_lt, mod_self, mul-mod_left, pow-suc}
pub use Rattle.std.proofs.Math.Pow.{pow_mono}
pub use Rattle.std.proofs.Math.Seq.{drop-append-add, take-append-add, take-append_seam}
pub use Rattle.std.proofs.lemmas.Bool.{and_from, and_parts, cases_Bool, cases_eq, cases_lt, cases_order, eq-eqb, eqb-true, false≢true, le-ltb, leb-true, lt-ltb, ltb-false, ltb-true, ne_eqb, not-false, not-true, or_cases, or_left, or_right}
pub use Rattle.std.proofs.lemmas.List.{append-nil, append_assoc, drop-append-le, drop-drop, drop-map, drop-take, drop_all, drop_at, drop_more, ext_get_or, get_or-append_right, get_or-drop, get_or-map, get_or-replicate, get_or-take, get_or_append_left, get_or_default, get_or_past, length-drop, length-map, length-replicate, length-set, length-take-le, map-append, map-id, take-append-drop, take-append-le, take-map, take-replicate, take-take, take_all, take_at, take_more, take_rest}
pub use Rattle.std.proofs.lemmas.List.Edits.{get_or-insert_above, get_or-insert_at, get_or-insert_below, length-insert, length-remove, map_over_more}
pub use Rattle.std.proofs.lemmas.List.Elements.{All-append, All-drop, All-more, All-push, All-set, All-take}
pub use Rattle.std.proofs.lemmas.List.FromFn.{get_or-range_with_len, length-map-range_with_len, length-range_with_len}
pub use Rattle.std.proofs.lemmas.Nat.{and-not, and_block, and_comm, and_le_l, and_le_r, and_mask, le-div, le_or_l, le_or_r, mod_below, one_shl, or_mod, or_shifted, pow-add, pow_below, pow_pos, shr_split}
pub use Rattle.std.proofs.lemmas.Nat.Bits.{and_high_mask, bit_at_above, bit_at_cat_high, bit_at_or, ones_shr, same_from_bits}
pub use Rattle.std.proofs.lemmas.Simd.{Each1-get_or, bitmask_splat, get_or-sel_l, get_or-zip2, leading_from_mask_l, length-sel_l, length-zip2, map-map, mask_l-lt, tops_compared, trailing_mask_l, zip2_of_maps, zip2_splat}
pub use Rattle.std.specs.Int.Bits.{or_zero_l, or_zero_r}
pub use Rattle.std.specs.List.{All, insert, prefix_len, range_with_len, refill}
pub use Rattle.std.specs.Prelude.{IfSome, bit_and, nat_eq, remove, slice_index_or}
