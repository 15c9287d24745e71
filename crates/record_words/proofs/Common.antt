-- What the proofs of this crate cite of std and of the crates below.
pub use Rattle.compound_node.proofs.Forking.{NewLeaf, new_leaf}
pub use Rattle.compound_node.proofs.Ladders.{rises-ladder, shown-sparse_keys}
pub use Rattle.compound_node.proofs.Lawful.{affected_range_is, head_leads, piece-replaced, replaced_lawful, same_count, with_leaves}
pub use Rattle.compound_node.proofs.Removal.Taken.{fits_after, head_without, is_after, left_in, one_left, words_over, words_used}
pub use Rattle.compound_node.specs.Forking.{forked_head}
pub use Rattle.compound_node.specs.Nodes.{FitsHead, HeadView, IsBuiltFrom, IsEntry, IsHead, IsLawfulNode, IsNode, NodeView, StandsBelow, greatest_height, head_of, height_of, node_of, piece}
pub use Rattle.compound_node.specs.Removal.{removed_row}
pub use Rattle.compound_node.specs.declared.entries.Entry.{Entry}
pub use Rattle.compound_node.specs.declared.entries.Entry.TheVariants.{Leaf, Node}
pub use Rattle.key_bits.proofs.Gather.{code-lt, code-shifted}
pub use Rattle.key_bits.specs.Bits.{bit_of}
pub use Rattle.key_bits.specs.Gather.{code}
pub use Rattle.key_bits.specs.Key.{HoldsKey, IsKey, with_zeros}
pub use Rattle.node_tries.specs.Changes.{collapsed, replaced, without}
pub use Rattle.node_tries.specs.Growth.{affected_count, affected_first, edited, grown}
pub use Rattle.node_tries.specs.Kept.{kept}
pub use Rattle.node_tries.specs.Piece.{Place, leads_to, paths, size}
pub use Rattle.node_tries.specs.Positions.{AllBelow, Ascends, all, front_below, has, with_position}
pub use Rattle.partial_keys.proofs.Keeping.{holds_front}
pub use Rattle.partial_keys.proofs.Leads.{code-even, first_is_zero}
pub use Rattle.partial_keys.proofs.Reaching.{front_below-columns, front_below-filled, front_below-le}
pub use Rattle.partial_keys.proofs.Rows.Lanes.{lacks_none, lacks_none-complies, lanes_lack_none, top_of_used}
pub use Rattle.partial_keys.proofs.Windows.{every, every_one, rise_low, same_bool}
pub use Rattle.partial_keys.specs.Columns.{AreColumnLanes, IsColumns, with_free}
pub use Rattle.partial_keys.specs.Rows.{IsHighest, complies, dense_of, row_of, with_unused}
pub use Rattle.partial_keys.specs.Squeezed.{IsRowOver, or_all, squeezed, used_bits}
pub use Rattle.std.proofs.Common.{Bool, Fits, List, None, Option, Some, [], ap, ap₂, arith, below_more, bit_and, bit_or, cond, count_by, count_ones, drop, eqb, false, get_or, get_or-set_other, get_or-set_same, get_or-take, if◌then◌else◌, inl, inr, leb, length, length-append, length-set, length-take, lit<, lit≤, map, max, min, nat_lt, not, refl, replicate, rules, set, subst, suc, sym, take, tests, true, w16, w32, w8, zero, ℕ, ⊎_elim, ◌%◌, ◌&&◌, ◌*◌, ◌++◌, ◌+◌, ◌-◌, ◌/◌, ◌<◌, ◌^◌, ◌||◌, ◌∙◌, ◌∷◌, ◌≡◌, ◌≢◌, ◌≤◌, ◌⊎◌}
pub use Rattle.std.proofs.Math.ListN.{get_or-append}
pub use Rattle.std.proofs.Math.Nat.{div-add-mod, div-lt_iff_lt-mul, div-mul-le_self, mod-lt, mul-le-mul_left, mul_comm, pow-suc, pow-zero, zero-div}
pub use Rattle.std.proofs.Math.Pow.{pow_mono}
pub use Rattle.std.proofs.Math.Seq.{take-suc}
pub use Rattle.std.proofs.lemmas.Bool.{cases_eq, cases_lt, eq-eqb, eqb-false, eqb-true, false≢true, le-leb, le-ltb, leb-true, lt-ltb, ltb-false, ltb-true, ne_eqb}
pub use Rattle.std.proofs.lemmas.Bool.Decides.{nat_tests}
pub use Rattle.std.proofs.lemmas.List.{append_assoc, drop_at, drop_more, ext_get_or, get_or-append_right, get_or-drop, get_or-map, get_or-replicate, get_or_append_left, get_or_at, get_or_default, get_or_past, length-drop, length-map, length-replicate, length-take-le, map-id, places, replicate-append-replicate, set-append_right, take-append-drop, take-map, take_all, take_at}
pub use Rattle.std.proofs.lemmas.List.Edits.{get_or-insert_above, get_or-insert_at, get_or-insert_below, get_or-remove_above, get_or-remove_below, length-insert, length-remove}
pub use Rattle.std.proofs.lemmas.List.Elements.{All-append, All-drop, All-get_or, All-take}
pub use Rattle.std.proofs.lemmas.List.FromFn.{fill_by_all, get_or-map-range_with_len, get_or-range_with_len, length-map-range_with_len}
pub use Rattle.std.proofs.lemmas.Nat.{and_le_r, and_mask, from_be_bytes-to_be_bytes_8, leading_top, mod-pow-add, mod_below, pow-add, pow_pos, shl-shr, shr_high, shr_split}
pub use Rattle.std.proofs.lemmas.Option.{same_Some, slice_get-get_or, slice_get_past}
pub use Rattle.std.proofs.lemmas.Simd.{Each1-from_get_or, Each1-get_or, SwzOk, SwzOk-from_below, below_from_Fits, bit_mask_l, bitmask_splat, chunk-drop, get_or-chunk, get_or-put_chunk_above, get_or-put_chunk_at, get_or-sel_l, get_or-swz_l_below, get_or-zip2, get_or_narrower, get_or_wider, length-chunk, length-put_chunk, length-sel_l, length-swz_l, length-zip2, map-map, ones-mask_l, pick_l-range_with_len, pick_l_left, pick_l_whole, swz_l, tops_compared, zip2_splat}
pub use Rattle.std.specs.Int.{bit_at, from_be_bytes, to_be_bytes, w64}
pub use Rattle.std.specs.Int.Bits.{and_zero_r, or_add_and}
pub use Rattle.std.specs.List.{All, insert, list_all, range_with_len}
pub use Rattle.std.specs.Prelude.{nat_le, remove, slice_get}
