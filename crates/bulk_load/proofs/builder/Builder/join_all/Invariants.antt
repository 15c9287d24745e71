-- The pieces are those of one tree all the time.
use Rattle.bulk_load.proofs.Common.{◌≡◌, List, vec_len, Item}
use Rattle.bulk_load.specs.Loading.{IsStackOf}
use Rattle.bulk_load.proofs.builder.Builder.join_all.Given as goal

abbrev pub invariant-joins : goal.invariant-joins
invariant-joins l = record { stack : (xs : List Item) → IsStackOf l.initial.self xs → IsStackOf l.self xs; layout : l.self.layout ≡ l.initial.self.layout }

abbrev pub decreases-joins : goal.decreases-joins
decreases-joins l = vec_len l.self.pieces
