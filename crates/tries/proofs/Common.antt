-- What the proofs of this crate cite of std and of the crates below.
pub use Rattle.compound_node.specs.Nodes.{IsBuiltFrom, IsEntry, IsLawfulNode, NodeView, greatest_height, head_of, height_of, piece}
pub use Rattle.compound_node.specs.declared.entries.Entry.{Entry}
pub use Rattle.compound_node.specs.declared.entries.Entry.TheVariants.{Leaf, Node}
pub use Rattle.key_bits.proofs.Bits.Order.{first_difference, greater_by_first, less_by_first}
pub use Rattle.key_bits.specs.Bits.{IsFirstDifference, bit_of}
pub use Rattle.key_bits.specs.Key.{IsKey}
pub use Rattle.key_bits.specs.declared.TheConstants.{MAX_BYTES}
pub use Rattle.node_tries.specs.Piece.{Fork, Place, RisesFrom, UsesOnly, leads_to, paths, places, size, uses}
pub use Rattle.std.proofs.Common.{Bool, List, MatchBool, None, Option, Some, [], ap, ap₂, arith, cond, false, if◌then◌else◌, inl, inr, length, lt_trans, ltb, max, nat_lt, refl, subst, suc, sym, true, zero, ℕ, ◌*◌, ◌++◌, ◌+◌, ◌-◌, ◌/◌, ◌<◌, ◌∙◌, ◌∷◌, ◌≡◌, ◌≢◌, ◌≤◌, ◌⊎◌}
pub use Rattle.std.proofs.lemmas.Bool.{and_parts, cases_order, cond-false, cond-true, false≢true, le-ltb, lt-ltb, ltb-false, ltb-true}
pub use Rattle.std.proofs.lemmas.Cmp.{tied_itself}
pub use Rattle.std.proofs.lemmas.Map.Lookups.{exact_bytes}
pub use Rattle.std.specs.BTreeMap.{insert_entry, is_at}
pub use Rattle.std.specs.Cmp.Lexicographic.{nat_list_cmp_total, slice_cmp}
pub use Rattle.std.specs.Map.{keys_of, lookup, remove_entry}
pub use Rattle.std.specs.Ordering.{is_le, is_lt, match_ordering, nat_cmp}
pub use Rattle.std.specs.Prelude.{All, eqb, map, ◌||◌}
pub use Rattle.std.specs.declared.cmp.Ordering.{Ordering}
pub use Rattle.std.specs.declared.cmp.Ordering.TheVariants.{Equal, Greater, Less}
