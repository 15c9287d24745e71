-- The word is one of those that the lock keeps.
use Rattle.rowex_writing.proofs.Common.{◌+◌, ◌-◌, ◌≤◌, arith, record_number, step_few, of_kind}
use Rattle.rowex_writing.proofs.locks.Going.{reads_fixed, reads_entry, locked_spells, fixed_word, entry_word_of}
use Rattle.rowex_writing.proofs.locks.locked.load_locked_word.Goals as goal

pub load_fixed_at-requires : goal.load_fixed_at-requires
load_fixed_at-requires g c = record {
  own = c.requires.own;
  range = rw c.requires.node.0 ((omega arith, omega (arith, c.if-index-lt-HEAD_WORDS.true)), omega (arith, c.if-index-lt-HEAD_WORDS.true));
  start = rw c.requires.node.0 c.requires.node.1;
}

pub returns-then-index-lt-HEAD_WORDS-clause-reads : goal.returns-then-index-lt-HEAD_WORDS-clause-reads
returns-then-index-lt-HEAD_WORDS-clause-reads g c =
    reads_fixed c.args.table.now g.G.Gate.becomes (record_number c.args.node.rec) (c.args.index + 1) c.load_fixed_at.result (c.args.seat.now, c.args.gate.now) (c.load_fixed_at.new.seat, c.load_fixed_at.new.gate) (of_kind c.requires.node.0 c.load_fixed_at.ensures)

pub returns-then-index-lt-HEAD_WORDS-clause-word : goal.returns-then-index-lt-HEAD_WORDS-clause-word
returns-then-index-lt-HEAD_WORDS-clause-word g c = λ words h. fixed_word (record_number c.args.node.rec) c.args.index c.load_fixed_at.result words h (of_kind c.requires.node.0 c.load_fixed_at.ensures).event

pub returns-then-index-lt-HEAD_WORDS-clause-spelled : goal.returns-then-index-lt-HEAD_WORDS-clause-spelled
returns-then-index-lt-HEAD_WORDS-clause-spelled g c = λ words h. locked_spells (of_kind c.requires.node.0 c.load_fixed_at.ensures).event (record_number c.args.node.rec) words h

pub returns-else-index-lt-HEAD_WORDS-clause-reads : goal.returns-else-index-lt-HEAD_WORDS-clause-reads
returns-else-index-lt-HEAD_WORDS-clause-reads g c =
    reads_entry c.args.table.now g.G.Gate.becomes (record_number c.args.node.rec) (c.args.index - 25) c.load_slot_at.result (c.args.seat.now, c.args.gate.now) (c.load_slot_at.new.seat, c.load_slot_at.new.gate) c.load_slot_at.ensures.step

pub returns-else-index-lt-HEAD_WORDS-clause-word : goal.returns-else-index-lt-HEAD_WORDS-clause-word
returns-else-index-lt-HEAD_WORDS-clause-word g c = λ words h. let above : 25 ≤ c.args.index = omega (arith, c.if-index-lt-HEAD_WORDS.false) in entry_word_of (record_number c.args.node.rec) c.args.index c.load_slot_at.result words h above c.load_slot_at.ensures.step.event

pub returns-else-index-lt-HEAD_WORDS-clause-spelled : goal.returns-else-index-lt-HEAD_WORDS-clause-spelled
returns-else-index-lt-HEAD_WORDS-clause-spelled g c = λ words h. locked_spells c.load_slot_at.ensures.step.event (record_number c.args.node.rec) words h

pub returns-then-index-lt-HEAD_WORDS-clause-few : goal.returns-then-index-lt-HEAD_WORDS-clause-few
returns-then-index-lt-HEAD_WORDS-clause-few g c = step_few c.args.table.now g.G.Gate.becomes _ (c.args.seat.now, c.args.gate.now) (c.load_fixed_at.new.seat, c.load_fixed_at.new.gate) (of_kind c.requires.node.0 c.load_fixed_at.ensures)

pub returns-else-index-lt-HEAD_WORDS-clause-few : goal.returns-else-index-lt-HEAD_WORDS-clause-few
returns-else-index-lt-HEAD_WORDS-clause-few g c = step_few c.args.table.now g.G.Gate.becomes _ (c.args.seat.now, c.args.gate.now) (c.load_slot_at.new.seat, c.load_slot_at.new.gate) c.load_slot_at.ensures.step
