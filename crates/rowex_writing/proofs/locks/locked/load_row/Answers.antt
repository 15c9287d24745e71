-- A word of the head has the row, and past the last place there is none.
use Rattle.rowex_writing.proofs.Common.{◌+◌, ◌/◌, ◌∙◌, ap, arith, get_or, sym, get_or_past, same_count, rows_a_word, rows_from, row_within}
use Rattle.rowex_writing.proofs.locks.Loads.{head_word}
use Rattle.rowex_writing.proofs.locks.Going.{reads_none, seat_of}
use Rattle.rowex_writing.proofs.locks.locked.load_row.Goals as goal

pub returns-then-slot-ge-MAX_ENTRIES : goal.returns-then-slot-ge-MAX_ENTRIES
returns-then-slot-ge-MAX_ENTRIES g c = record {
  own = c.requires.own;
  reads = reads_none c.args.table.now g.G.Gate.becomes (c.args.seat.now, c.args.gate.now);
  row = λ view (words, h, is) told. sym (get_or_past view.rows c.args.slot 4294967295 (omega (arith, c.if-slot-ge-MAX_ENTRIES.true, same_count view is.has.lawful, is.has.lawful.room)));
  few = omega arith;
}

pub load_locked_word-word-requires-clause-index : goal.load_locked_word-word-requires-clause-index
load_locked_word-word-requires-clause-index g c =
    let within = row_within c.args.loads.numbers.kind c.args.slot (omega (arith, c.if-slot-ge-MAX_ENTRIES.false)) in omega (arith, c.index_of_row-index.ensures, within)

pub returns-clause-own : goal.returns-clause-own
returns-clause-own g c = seat_of c.args.table.now g.G.Gate.becomes (c.args.seat.now, c.args.gate.now) (c.load_locked_word-word.new.seat, c.load_locked_word-word.new.gate) c.load_locked_word-word.ensures.reads.goes c.requires.own

pub returns-clause-row : goal.returns-clause-row
returns-clause-row g c = λ view (words, h, is) told.
    c.row_of.ensures view is.has.lawful told (head_word view words is (rows_from c.args.loads.numbers.kind + c.args.slot / rows_a_word c.args.loads.numbers.kind) (row_within c.args.loads.numbers.kind c.args.slot (omega (arith, c.if-slot-ge-MAX_ENTRIES.false)))
    ∙ (ap (λ i. get_or words i 0) (sym c.index_of_row-index.ensures) ∙ sym (c.load_locked_word-word.ensures.word words h)))
