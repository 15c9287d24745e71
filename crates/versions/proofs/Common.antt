-- What the proofs of this crate cite of std and of the crates below.
pub use Rattle.compound_node.specs.declared.entries.Entry.{Entry}
pub use Rattle.compound_node.specs.declared.entries.Entry.TheVariants.{Leaf, Node}
pub use Rattle.finite_map.proofs.Fronts.{legal_front_push, map_of-push}
pub use Rattle.finite_map.specs.Fronts.{Fits, FitsKind, LegalFront, changed, changed_by, map_of}
pub use Rattle.finite_map.specs.Maps.{IsRising as IsInOrder, reply_of, step_where, value_at, with_value}
pub use Rattle.finite_map.specs.declared.Change.{Change}
pub use Rattle.finite_map.specs.declared.Kind.TheVariants.{Added, Removed, Replaced}
pub use Rattle.node_tries.specs.Piece.{Fork, Place, size}
pub use Rattle.record_words.specs.declared.records.Rec.{Rec}
pub use Rattle.record_words.specs.declared.records.Rec.TheVariants.{Leaf as a_leaf, Node as a_node}
pub use Rattle.std.proofs.Common.{Bool, List, None, Option, Some, [], ap, append-nil, append_assoc, ap₂, arith, eqb, false, filter, if◌then◌else◌, inl, inr, le_refl, le_trans, length, lt_trans, ltb, map, nat_eq, refl, subst, suc, sym, take, true, zero, ℕ, ◌++◌, ◌+◌, ◌-◌, ◌<◌, ◌∙◌, ◌∷◌, ◌≡◌, ◌≢◌, ◌≤◌, ◌⊎◌}
pub use Rattle.std.proofs.lemmas.Bool.{cases_Bool, cases_eq, cases_lt, cond-false, cond-true, eq-eqb, eqb-true, false≢true, le-ltb, lt-ltb, ne_eqb, or_cases, or_left, or_right}
pub use Rattle.std.proofs.lemmas.List.{length-append, length-map, map-append, take-append-le, take-map, take_all}
pub use Rattle.std.proofs.lemmas.Option.{none-some}
pub use Rattle.std.specs.Prelude.{All}
pub use Rattle.tries.proofs.Content.{IsRising, content_rises, put_exchange}
pub use Rattle.tries.proofs.Content.Maps.{AreKeys, are_keys, exchange_inserts, exchange_was_held, more_inserts, more_removes, more_was_absent, more_was_held, pairs_rise}
pub use Rattle.tries.proofs.Read.{read_exact as exactly_read, some_injective as some_same}
pub use Rattle.tries.proofs.Tree.{built_within, descend, follows_kin, has_first, has_within, kin_sym, kin_trans, parting, subtrie_child, trie_within, within_child, within_trans}
pub use Rattle.tries.specs.Content.{Each, IsExchange, Item, exchanged, first, item, items, pairs}
pub use Rattle.tries.specs.Keys.{IsParted, Key}
pub use Rattle.tries.specs.Place.{Swap, entry_at, in_one, in_zero}
pub use Rattle.tries.specs.Search.{Follows, IsUnder, Kin, between, child, forks, seek, tips}
pub use Rattle.tries.specs.Tree.{Fixed, Has, IsBuilt, IsFit, IsFork, IsLower, IsTrie, Subtrie, Tree, Within, fork, here, inside, leaf, node, one_side, subtrie, zero_side}
