-- The leaf stands beside the piece at the top, once the pieces behind it have joined.
use Rattle.std.proofs.Common.{inr}
use Rattle.bulk_load.proofs.Loading.{can_join, cursors_stay, may_take, rootless_then}
use Rattle.bulk_load.proofs.builder.Builder.take.Goals as goal

pub join_behind-requires : goal.join_behind-requires
join_behind-requires c = let (xs, w) = c.requires.loading in (xs, can_join c.args.self.now xs c.args.key.now c.args.next_leaf.fork_position c.args.next_leaf.record_number w c.requires.next_leaf)

pub add_leaf-requires-clause-table : goal.add_leaf-requires-clause-table
add_leaf-requires-clause-table c =
    let (xs, w) = c.requires.loading in
    rootless_then c.join_behind.new.self xs c.args.next_leaf.fork_position (c.join_behind.ensures.behind xs (can_join c.args.self.now xs c.args.key.now c.args.next_leaf.fork_position c.args.next_leaf.record_number w c.requires.next_leaf))

pub returns-clause-taken : goal.returns-clause-taken
returns-clause-taken c = λ xs w.
    let l = c.args.self.now in let m = c.join_behind.new.self in let k = c.args.key.now in let p = c.args.next_leaf.fork_position in let n = c.args.next_leaf.record_number in
    let part = c.join_behind.ensures.behind xs (can_join l xs k p n w c.requires.next_leaf) in let kept = c.join_behind.ensures.kept in (
      c.add_leaf.ensures.cursors (cursors_stay l m kept.leaves w.0) (rw (kept.leaves.layout, kept.leaves.cursors) c.requires.next_leaf.next),
      inr (c.add_leaf.ensures.taken xs (kept.nodes 1 c.requires.next_leaf.nodes) (may_take l m xs k p n w c.requires.next_leaf kept.leaves.last part)),
    )
