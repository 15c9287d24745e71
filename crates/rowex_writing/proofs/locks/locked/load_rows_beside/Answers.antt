-- The rows round the place tell it.
use Rattle.rowex_writing.proofs.Common.{◌∙◌, ap, get_or, record_number}
use Rattle.rowex_writing.proofs.locks.Going.{locked_on, reads_more}
use Rattle.rowex_writing.proofs.locks.locked.load_rows_beside.Goals as goal

pub returns-clause-reads : goal.returns-clause-reads
returns-clause-reads g c =
    let more = reads_more c.args.table.now g.G.Gate.becomes (c.args.seat.now, c.args.gate.now) in
    more (c.load_row-after.new.seat, c.load_row-after.new.gate) (c.load_row-second.new.seat, c.load_row-second.new.gate)
    (more (c.load_row-own.new.seat, c.load_row-own.new.gate) (c.load_row-after.new.seat, c.load_row-after.new.gate)
    (more (c.load_row-before.new.seat, c.load_row-before.new.gate) (c.load_row-own.new.seat, c.load_row-own.new.gate)
    c.load_row-before.ensures.reads
    c.load_row-own.ensures.reads)
    c.load_row-after.ensures.reads) c.load_row-second.ensures.reads

pub returns-clause-beside : goal.returns-clause-beside
returns-clause-beside g c = λ node (words, there, is) told inside.
    let n = record_number c.args.loads.node.rec in
    let own = locked_on c.args.seat.now.known c.load_row-before.new.seat.known n words c.load_row-before.ensures.reads.goes.stays.1 there in
    let after = locked_on c.load_row-before.new.seat.known c.load_row-own.new.seat.known n words c.load_row-own.ensures.reads.goes.stays.1 own in
    let second = locked_on c.load_row-own.new.seat.known c.load_row-after.new.seat.known n words c.load_row-after.ensures.reads.goes.stays.1 after in
    c.find_sibling.ensures node is.has.lawful inside (record {
      before_is = c.load_row-before.ensures.row node (words, there, is) told ∙ ap (λ k. get_or node.rows k 4294967295) c.saturating_sub.ensures;
      own_is = c.load_row-own.ensures.row node (words, own, is) told;
      after_is = c.load_row-after.ensures.row node (words, after, is) told;
      second_is = c.load_row-second.ensures.row node (words, second, is) told;
    })
