-- The first word, and those behind it.
use Rattle.rowex_writing.proofs.Common.{◌∙◌, ap, arith, set, subst, sym, head_size, record_number}
use Rattle.rowex_writing.specs.locks.Loads.{AreRead}
use Rattle.rowex_writing.proofs.locks.Going.{none_read, one_read, seat_of}
use Rattle.rowex_writing.proofs.locks.locked.load_locked_head.Given as given
use Rattle.rowex_writing.proofs.locks.locked.load_locked_head.Goals as goal
use Rattle.rowex_writing.proofs.locks.locked.load_locked_head.Goals.{After-read_numbers}

module _ (g : given.Over) (c : After-read_numbers g) where
  first : AreRead c.args.table.now g.G.Gate.becomes (c.args.seat.now, c.args.gate.now) (c.load_locked_word.new.seat, c.load_locked_word.new.gate) (record_number c.args.node.rec) (set c.args.words.now 0 c.load_locked_word.result) 1
  first =
      let e = c.load_locked_word.ensures in
      one_read c.args.table.now g.G.Gate.becomes (c.args.seat.now, c.args.gate.now) (c.args.seat.now, c.args.gate.now) (c.load_locked_word.new.seat, c.load_locked_word.new.gate) (record_number c.args.node.rec) c.args.words.now 0 c.load_locked_word.result
      (subst (λ ws. AreRead c.args.table.now g.G.Gate.becomes (c.args.seat.now, c.args.gate.now) (c.args.seat.now, c.args.gate.now) (record_number c.args.node.rec) ws 0) (sym c.requires.empty)
      (none_read c.args.table.now g.G.Gate.becomes (c.args.seat.now, c.args.gate.now) (record_number c.args.node.rec) c.requires.own))
      (omega arith) e.reads e.word e.spelled e.few

pub load_rest_of_head-requires-clause-own : goal.load_rest_of_head-requires-clause-own
load_rest_of_head-requires-clause-own g c = seat_of c.args.table.now g.G.Gate.becomes (c.args.seat.now, c.args.gate.now) (c.load_locked_word.new.seat, c.load_locked_word.new.gate) c.load_locked_word.ensures.reads.goes c.requires.own

pub returns-in-Narrow : goal.returns-in-Narrow
returns-in-Narrow g c = c.load_rest_of_head.ensures _ (first g (goal.at.returns-in-Narrow g c).After-read_numbers) (ap head_size (sym c.read_numbers.ensures.parts.3 ∙ c.in-Narrow.is))

pub load_rest_of_head-requires-in-Middle-clause-own : goal.load_rest_of_head-requires-in-Middle-clause-own
load_rest_of_head-requires-in-Middle-clause-own g c = seat_of c.args.table.now g.G.Gate.becomes (c.args.seat.now, c.args.gate.now) (c.load_locked_word.new.seat, c.load_locked_word.new.gate) c.load_locked_word.ensures.reads.goes c.requires.own

pub returns-in-Middle : goal.returns-in-Middle
returns-in-Middle g c = c.load_rest_of_head-in-Middle.ensures _ (first g (goal.at.returns-in-Middle g c).After-read_numbers) (ap head_size (sym c.read_numbers.ensures.parts.3 ∙ c.in-Middle.is))

pub load_rest_of_head-requires-in-Wide-clause-own : goal.load_rest_of_head-requires-in-Wide-clause-own
load_rest_of_head-requires-in-Wide-clause-own g c = seat_of c.args.table.now g.G.Gate.becomes (c.args.seat.now, c.args.gate.now) (c.load_locked_word.new.seat, c.load_locked_word.new.gate) c.load_locked_word.ensures.reads.goes c.requires.own

pub returns-in-Wide : goal.returns-in-Wide
returns-in-Wide g c = c.load_rest_of_head-in-Wide.ensures _ (first g (goal.at.returns-in-Wide g c).After-read_numbers) (ap head_size (sym c.read_numbers.ensures.parts.3 ∙ c.in-Wide.is))
