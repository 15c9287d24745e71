-- The first word has the numbers.
use Rattle.std.proofs.Common.{◌∙◌, arith, sym}
use Rattle.rowex_writing.proofs.locks.Loads.{head_word}
use Rattle.rowex_writing.proofs.locks.Going.{seat_of}
use Rattle.rowex_writing.proofs.locks.locked.load_numbers.Goals as goal

pub returns-clause-own : goal.returns-clause-own
returns-clause-own g c = seat_of c.args.table.now g.G.Gate.becomes (c.args.seat.now, c.args.gate.now) (c.load_locked_word.new.seat, c.load_locked_word.new.gate) c.load_locked_word.ensures.reads.goes c.requires.own

pub returns-clause-numbers : goal.returns-clause-numbers
returns-clause-numbers g c = λ view (words, h, is).
    c.read_numbers.ensures.node view is.has.lawful (head_word view words is 0 (omega arith) ∙ sym (c.load_locked_word.ensures.word words h))
