-- What names the upper node, and then the node beside the lower one.
use Rattle.rowex_writing.proofs.build.Spare.{works_spare}
use Rattle.rowex_writing.proofs.Common.{sym, ◌∙◌, later_trans}
use Rattle.rowex_writing.proofs.build.Changes.{step_nodes}
use Rattle.rowex_writing.proofs.locks.Runs.{works_run}
use Rattle.rowex_writing.proofs.locks.Locks.{works_later, works_more, works_seat}
use Rattle.rowex_writing.proofs.merging.widening.release_merge_locks.Goals as goal

pub unlock_target_above-requires-clause-nodes : goal.unlock_target_above-requires-clause-nodes
unlock_target_above-requires-clause-nodes g c =
    let t = c.requires.wide.taking in step_nodes c.args.table.now.layout t.before.known t.since c.args.job.now.key.now c.args.job.now.way.now _ t.below.taken.way_of

pub unlock_target_above-requires-clause-above : goal.unlock_target_above-requires-clause-above
unlock_target_above-requires-clause-above g c = (_, c.args.job.now.key.now, c.args.job.now.found, c.requires.wide.above)

pub unlock_last_node-requires-clause-own : goal.unlock_last_node-requires-clause-own
unlock_last_node-requires-clause-own g c = works_seat c.args.table.now g.G.Gate.becomes (c.args.seat.now, c.args.gate.now) (c.unlock_target_above.new.seat, c.unlock_target_above.new.gate) c.unlock_target_above.ensures.works c.requires.wide.seat

pub unlock_last_node-requires-clause-last : goal.unlock_last_node-requires-clause-last
unlock_last_node-requires-clause-last g c =
    let w = c.requires.wide in
    (w.taking.before.known.locks, ((w.words, (c.unlock_target_above.ensures.less _ c.args.job.now.key.now c.args.job.now.found w.above).0), w.new))

pub returns-clause-run : goal.returns-clause-run
returns-clause-run g c =
    works_run c.args.table.now g.G.Gate.becomes (c.args.seat.now, c.args.gate.now) (c.unlock_last_node.new.seat, c.unlock_last_node.new.gate)
    (works_more c.args.table.now g.G.Gate.becomes (c.args.seat.now, c.args.gate.now) (c.unlock_target_above.new.seat, c.unlock_target_above.new.gate) (c.unlock_last_node.new.seat, c.unlock_last_node.new.gate) c.unlock_target_above.ensures.works c.unlock_last_node.ensures.works)

pub returns-clause-later : goal.returns-clause-later
returns-clause-later g c =
    later_trans (works_later c.args.table.now g.G.Gate.becomes (c.args.seat.now, c.args.gate.now) (c.unlock_target_above.new.seat, c.unlock_target_above.new.gate) c.unlock_target_above.ensures.works)
    (works_later c.args.table.now g.G.Gate.becomes (c.unlock_target_above.new.seat, c.unlock_target_above.new.gate) (c.unlock_last_node.new.seat, c.unlock_last_node.new.gate) c.unlock_last_node.ensures.works)

pub returns-clause-same : goal.returns-clause-same
returns-clause-same g c = λ w.
    let gone = c.unlock_target_above.ensures.less _ c.args.job.now.key.now c.args.job.now.found w.above in (
      c.unlock_last_node.ensures.less w.taking.before.known.locks ((w.words, gone.0), w.new),
      c.unlock_last_node.ensures.same.0 ∙ (gone.1 ∙ sym (w.taking.below.taken.locked.below w.taking.some)),
      c.unlock_last_node.ensures.same.1 ∙ c.unlock_target_above.ensures.own,
    )

pub returns-clause-spares : goal.returns-clause-spares
returns-clause-spares g c = λ was.
    works_spare c.args.table.now g.G.Gate.becomes (c.unlock_target_above.new.seat, c.unlock_target_above.new.gate) (c.unlock_last_node.new.seat, c.unlock_last_node.new.gate) c.unlock_last_node.ensures.works
    (works_spare c.args.table.now g.G.Gate.becomes (c.args.seat.now, c.args.gate.now) (c.unlock_target_above.new.seat, c.unlock_target_above.new.gate) c.unlock_target_above.ensures.works was)
