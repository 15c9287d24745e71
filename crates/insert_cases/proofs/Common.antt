-- What the proofs of this crate cite of std and of the crates below.
pub use Rattle.compound_node.specs.Nodes.{IsBuiltFrom, IsEntry, IsLawfulNode, NodeView, greatest_height, height_of, piece}
pub use Rattle.compound_node.specs.declared.entries.Entry.{Entry}
pub use Rattle.compound_node.specs.declared.entries.Entry.TheVariants.{Leaf}
pub use Rattle.node_tries.proofs.Grafts.{affected_alone, affected_one, affected_rises, old_at, replaced-grown, size-grown, size-replaced}
pub use Rattle.node_tries.proofs.Piece.{size_pos}
pub use Rattle.node_tries.specs.Changes.{replaced}
pub use Rattle.node_tries.specs.Grafts.{IsAbovePath, grafted}
pub use Rattle.node_tries.specs.Growth.{IsAffected, IsFresh, affected_count, affected_first, forked, grown}
pub use Rattle.node_tries.specs.Piece.{Fork, Piece, Place, places, size}
pub use Rattle.std.proofs.Common.{Bool, List, MatchBool, None, Some, [], ap, arith, false, get_or, if◌then◌else◌, inl, inr, length, ltb, max, nat_lt, refl, subst, suc, sym, true, zero, ℕ, ⊎_elim, ◌*◌, ◌++◌, ◌+◌, ◌-◌, ◌<◌, ◌||◌, ◌∙◌, ◌∷◌, ◌≡◌, ◌≢◌, ◌≤◌, ◌⊎◌}
pub use Rattle.std.proofs.lemmas.Bool.{cases_Bool, cases_lt, cases_order, cond-false, cond-true, false≢true, le-ltb, lt-ltb, ltb-true}
pub use Rattle.std.proofs.lemmas.Option.{slice_get-get_or, slice_get_within}
pub use Rattle.std.specs.Prelude.{All, slice_get}
pub use Rattle.tries.proofs.Place.{spot_below}
pub use Rattle.tries.proofs.Tree.{built_within, follows_if_has, has_first, rises, trie_within, within_child, within_trans}
pub use Rattle.tries.proofs.Tree.Building.{bit_below, fork_of, greatest-append, size-piece}
pub use Rattle.tries.specs.Affected.{IsLeafOrFork, affected, subtrie_affected, subtrie_forked, subtrie_grown}
pub use Rattle.tries.specs.Content.{first}
pub use Rattle.tries.specs.Keys.{AgreeBelow, Key}
unfoldable pub use Rattle.tries.specs.Keys.{bit}
pub use Rattle.tries.specs.Place.{spot}
pub use Rattle.tries.specs.Tree.{Fixed, Has, IsBuilt, IsFork, IsLower, IsTip, IsTrie, Subtrie, Tree, Within, first_position, fork, here, inside, leaf, node, subtrie}
