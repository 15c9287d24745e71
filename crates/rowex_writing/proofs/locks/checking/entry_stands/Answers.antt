-- The entry of a locked node.
use Rattle.rowex_writing.proofs.Common.{sym, ◌∙◌, event_possible, is_entry, slot_spelled, step_few}
use Rattle.rowex_writing.proofs.locks.Checks.{entry_is, entry_changed}
use Rattle.rowex_writing.proofs.locks.Going.{reads_entry}
use Rattle.rowex_writing.proofs.locks.checking.entry_stands.Goals as goal

pub load_ref-word-requires-clause-range : goal.load_ref-word-requires-clause-range
load_ref-word-requires-clause-range g c =
    let s = c.requires.place in is_entry c.args.table.now.layout c.args.seat.now.known s.0 c.args.step.number s.1 c.args.step.slot c.requires.possible s.2

pub returns-clause-reads : goal.returns-clause-reads
returns-clause-reads g c =
    reads_entry c.args.table.now g.G.Gate.becomes c.args.step.number c.args.step.slot c.load_ref-word.result (c.args.seat.now, c.args.gate.now) (c.load_ref-word.new.seat, c.load_ref-word.new.gate) c.load_ref-word.ensures

pub returns-clause-possible : goal.returns-clause-possible
returns-clause-possible g c = event_possible c.load_ref-word.ensures.event

pub returns-clause-same : goal.returns-clause-same
returns-clause-same g c = λ t words h.
    let s = c.requires.place in
    let (is_value, spells) = c.is_word_of.ensures.same t in
    let low = (is_entry c.args.table.now.layout c.args.seat.now.known s.0 c.args.step.number s.1 c.args.step.slot c.requires.possible s.2).1 in
    entry_is c.args.step.number c.args.step.slot c.load_ref-word.result c.load_ref-word.ensures.event s.0 s.1 s.2 c.args.entry is_value spells words h low

pub returns-clause-changed : goal.returns-clause-changed
returns-clause-changed g c = λ m h e has is read f.
    let (found, is_value, spells) = slot_spelled _ _ _ _ _ _ c.load_ref-word.ensures.event m h has.0 in
    entry_changed c.args.step.number c.args.step.slot c.load_ref-word.result c.load_ref-word.ensures.event m h has found is_value spells e read (λ z. c.is_word_of.ensures.differ f found is_value spells (z ∙ sym is))

pub returns-clause-few : goal.returns-clause-few
returns-clause-few g c = step_few c.args.table.now g.G.Gate.becomes _ (c.args.seat.now, c.args.gate.now) (c.load_ref-word.new.seat, c.load_ref-word.new.gate) c.load_ref-word.ensures
