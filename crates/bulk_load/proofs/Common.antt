-- What the proofs of this crate cite of std and of the crates below.
pub use Rattle.compound_node.specs.Nodes.{FitTogether, IsBuiltFrom, IsEntry, NodeView, greatest_height, head_of}
pub use Rattle.compound_node.specs.declared.entries.Entry.{Entry}
pub use Rattle.compound_node.specs.declared.entries.Entry.TheVariants.{Leaf, Node}
pub use Rattle.finite_map.specs.Maps.{key_order}
pub use Rattle.key_bits.specs.declared.TheConstants.{MAX_BYTES}
pub use Rattle.node_tries.proofs.Piece.{size_pos}
pub use Rattle.node_tries.proofs.Positions.{IsPlaceOf, front_below-place, has-at, has-with_position, length-with_position}
pub use Rattle.node_tries.specs.Piece.{Fork, Piece, Place, RisesFrom, UsesOnly, paths, size, uses}
pub use Rattle.node_tries.specs.Positions.{Ascends, front_below, has, with_position}
pub use Rattle.partial_keys.specs.Columns.{IsColumns}
pub use Rattle.partial_keys.specs.Rows.{rows_of, with_unused}
pub use Rattle.partial_keys.specs.Shows.{ShowsPiece}
pub use Rattle.record_words.proofs.Locations.{leaf_before, size_fits}
pub use Rattle.record_words.specs.Entry.{HasEntryWord, entry_word}
pub use Rattle.record_words.specs.Layout.{IsInTable, address, leaf_size, leaf_start, node_start}
pub use Rattle.record_words.specs.Leaf.{HasLeafWords, key_word, leaf_words, up_to_key, words_for, words_of_key}
pub use Rattle.record_words.specs.State.{state_word}
pub use Rattle.record_words.specs.declared.TheConstants.{ANCHOR_WORD, EPOCH_WORD, FIRST_PIN, LARGE_WORDS, LEAF_FIELDS, LEAF_WORDS, LINE_WORDS, MEDIUM_WORDS, NODE_FIELDS, NODE_WORDS, ROOT_WORD, SHORT_WORDS, WIDE_WORDS}
pub use Rattle.record_words.specs.declared.layout.Layout.{Layout}
pub use Rattle.record_words.specs.declared.layout.Location.TheVariants.{Anchor, Epoch, LeafWord, NodeWord, Pin as PinOf, Root}
pub use Rattle.record_words.specs.declared.records.Rec.{Rec}
pub use Rattle.record_words.specs.declared.records.Rec.TheVariants.{Leaf as a_leaf, Node as a_node}
pub use Rattle.record_words.specs.declared.state.Tag.TheVariants.{Free}
pub use Rattle.rowex_core.proofs.Reading.{entry_of_word, node_is}
pub use Rattle.rowex_core.specs.Cores.{Core, FitsIn, HasRecord, heap_of, size_of}
unfoldable pub use Rattle.rowex_core.specs.Cores.{fields_in}
pub use Rattle.rowex_core.specs.Events.{IsLoad, after, loaded_root, loaded_tree, tree_of}
pub use Rattle.rowex_core.specs.Opening.{opening, opening_words}
pub use Rattle.rowex_core.specs.Reading.{leaf_of, node_words_of}
unfoldable pub use Rattle.rowex_core.specs.Reading.{IsPacked}
pub use Rattle.rowex_core.specs.Words.{Shows, tag_of, word_at}
pub use Rattle.std.proofs.Common.{Bool, IsTrue, List, None, Option, Some, [], ap, ap₂, arith, bit_or, cond, div-add-mod', drop, eqb, false, get_or, if◌then◌else◌, inl, inr, length, map, nat_lt, refl, replicate, rules, slice_set, subst, suc, sym, take, true, zero, ℕ, ⊎_elim, ◌%◌, ◌*◌, ◌++◌, ◌+◌, ◌-◌, ◌/◌, ◌<◌, ◌^◌, ◌||◌, ◌∙◌, ◌∷◌, ◌≡◌, ◌≢◌, ◌≤◌, ◌⊎◌, ◌↔◌}
pub use Rattle.std.proofs.Math.ListN.{get_or-append, set}
pub use Rattle.std.proofs.Math.Nat.{div-div-eq-div-mul, div-lt_iff_lt-mul, mod-eq_of_lt, pow-suc}
pub use Rattle.std.proofs.lemmas.Bool.{cases_Bool, cases_lt, cases_order, eq-eqb, eqb-true, le-ltb, lt-ltb, ltb-false, ltb-true, ne_eqb, or_left, or_right}
pub use Rattle.std.proofs.lemmas.List.{append-nil, append_assoc, drop_at, drop_more, ext_get_or, get_or-append_right, get_or-map, get_or-set_other, get_or-set_same, get_or-take, length-append, length-map, length-set, length-take, length-take-le, map-append, map-set, places, set-append_right, set_at, take-append-drop, take_all, take_at, take_more, with_items_is}
pub use Rattle.std.proofs.lemmas.List.Elements.{All-append, All-from_get_or, All-from_recursion, All-get_or, All-head, All-nil, All-push, All-set, All-take}
pub use Rattle.std.proofs.lemmas.Nat.{div-mul-add, mod_below, mul-le, or_block, pow-add, pow_pos}
pub use Rattle.std.proofs.lemmas.Option.{none-some}
pub use Rattle.std.specs.Prelude.{All}
pub use Rattle.std.specs.Vec.{vec_len}
pub use Rattle.std.specs.declared.cmp.Ordering.TheVariants.{Equal, Less}
pub use Rattle.tries.proofs.Content.{trie_if_local}
pub use Rattle.tries.proofs.Read.{some_injective}
pub use Rattle.tries.proofs.Tree.{has_first}
pub use Rattle.tries.proofs.Tree.Fitting.{children_are, lower_positive}
pub use Rattle.tries.specs.Content.{IsAbove, IsLocal, Item, first, item, items}
pub use Rattle.tries.specs.Keys.{IsParted, Key}
unfoldable pub use Rattle.tries.specs.Keys.{bit}
pub use Rattle.tries.specs.Tree.{Has, IsBuilt, IsTrie, Tree, fork, leaf, node, subtrie}
pub use Rattle.versions.proofs.Core.{linked_cases}
pub use Rattle.versions.proofs.Heap.{leaf_node, leaf_number, node_leaf, node_number}
pub use Rattle.versions.proofs.Loads.{some_items}
pub use Rattle.versions.specs.Heap.{Heap, IsShown}
pub use Rattle.versions.specs.State.{IsLinked, IsTop, Links}
pub use Rattle.versions.specs.Told.{items_of}
