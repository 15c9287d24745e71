-- The numbers and the rows round the place tell it, in a head of each kind.
use Rattle.rowex_writing.proofs.Common.{ap, subst, sym, NodeView, record_number}
use Rattle.record_words.specs.HeadParts.{AreNumbersOf}
use Rattle.rowex_writing.specs.locks.Going.{HasLocked, HasLockedNode}
use Rattle.rowex_writing.proofs.locks.Going.{locked_on, reads_more}
use Rattle.rowex_writing.proofs.locks.locked.load_sibling.Given as given
use Rattle.rowex_writing.proofs.locks.locked.load_sibling.Goals as goal
use Rattle.rowex_writing.proofs.locks.locked.load_sibling.Goals.{After-load_numbers-numbers}

module _ (g : given.Over) (c : After-load_numbers-numbers g) where
  -- the node stays as it is, and the numbers are its own
  told : (node : NodeView) → HasLockedNode c.args.seat.now.known c.args.number node →
      HasLockedNode c.load_numbers-numbers.new.seat.known (record_number c.locate-node.result.rec) node × AreNumbersOf c.load_numbers-numbers.result node
  told node (words, h, is) =
      let n = record_number c.locate-node.result.rec in
      let there = subst (λ q. HasLocked c.args.seat.now.known q words) (sym (ap record_number c.locate-node.ensures.rec)) h in
      ((words, locked_on c.args.seat.now.known c.load_numbers-numbers.new.seat.known n words c.load_numbers-numbers.ensures.reads.goes.stays.1 there, is), c.load_numbers-numbers.ensures.numbers node (words, there, is))

pub returns-in-Narrow-clause-reads : goal.returns-in-Narrow-clause-reads
returns-in-Narrow-clause-reads g c =
    reads_more c.args.table.now g.G.Gate.becomes (c.args.seat.now, c.args.gate.now) (c.load_numbers-numbers.new.seat, c.load_numbers-numbers.new.gate) (c.load_rows_beside.new.seat, c.load_rows_beside.new.gate) c.load_numbers-numbers.ensures.reads c.load_rows_beside.ensures.reads

pub returns-in-Middle-clause-reads : goal.returns-in-Middle-clause-reads
returns-in-Middle-clause-reads g c =
    reads_more c.args.table.now g.G.Gate.becomes (c.args.seat.now, c.args.gate.now) (c.load_numbers-numbers.new.seat, c.load_numbers-numbers.new.gate) (c.load_rows_beside-in-Middle.new.seat, c.load_rows_beside-in-Middle.new.gate) c.load_numbers-numbers.ensures.reads c.load_rows_beside-in-Middle.ensures.reads

pub returns-in-Wide-clause-reads : goal.returns-in-Wide-clause-reads
returns-in-Wide-clause-reads g c =
    reads_more c.args.table.now g.G.Gate.becomes (c.args.seat.now, c.args.gate.now) (c.load_numbers-numbers.new.seat, c.load_numbers-numbers.new.gate) (c.load_rows_beside-in-Wide.new.seat, c.load_rows_beside-in-Wide.new.gate) c.load_numbers-numbers.ensures.reads c.load_rows_beside-in-Wide.ensures.reads

pub returns-in-Narrow-clause-beside : goal.returns-in-Narrow-clause-beside
returns-in-Narrow-clause-beside g c = λ node is inside.
    let (there, numbers) = told g (goal.at.returns-in-Narrow-clause-beside g c).After-load_numbers-numbers node is in c.load_rows_beside.ensures.beside node there numbers inside

pub returns-in-Middle-clause-beside : goal.returns-in-Middle-clause-beside
returns-in-Middle-clause-beside g c = λ node is inside.
    let (there, numbers) = told g (goal.at.returns-in-Middle-clause-beside g c).After-load_numbers-numbers node is in c.load_rows_beside-in-Middle.ensures.beside node there numbers inside

pub returns-in-Wide-clause-beside : goal.returns-in-Wide-clause-beside
returns-in-Wide-clause-beside g c = λ node is inside.
    let (there, numbers) = told g (goal.at.returns-in-Wide-clause-beside g c).After-load_numbers-numbers node is in c.load_rows_beside-in-Wide.ensures.beside node there numbers inside
