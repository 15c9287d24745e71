-- Pieces that may be joined at first still may be.
use Rattle.bulk_load.proofs.Common.{List, vec_len, Item}
use Rattle.bulk_load.specs.Loading.{CanJoin, KeepsNodes}
use Rattle.bulk_load.proofs.builder.Builder.join_behind.Given as goal

abbrev pub invariant-joins : goal.invariant-joins
invariant-joins l = record {
  can_join : (xs : List Item) → CanJoin l.initial.self xs l.position → CanJoin l.self xs l.position;
  kept : KeepsNodes l.initial.self l.self;
}

abbrev pub decreases-joins : goal.decreases-joins
decreases-joins l = vec_len l.self.pieces
