-- The word of the entry, which one has.
use Rattle.rowex_writing.proofs.Common.{Some, ap, sym, subst, ◌∙◌, HasEntryWord, entry_word, step_few, is_entry, slot_some, slot_spelled, some_injective}
use Rattle.rowex_writing.proofs.locks.Checks.{entry_is, some_of}
use Rattle.rowex_writing.proofs.locks.Going.{reads_entry}
use Rattle.rowex_writing.proofs.locks.locked.load_locked_entry.Goals as goal

pub load_ref-requires-clause-range : goal.load_ref-requires-clause-range
load_ref-requires-clause-range g c = let (m, h, has) = c.requires.place in is_entry c.args.table.now.layout c.args.seat.now.known m c.args.number h c.args.slot c.requires.possible has

pub read_some_entry-requires : goal.read_some_entry-requires
read_some_entry-requires g c =
    let (m, h, has) = c.requires.place in
    let (found, value, spells) = slot_spelled _ _ _ _ _ _ c.load_ref.ensures.event m h has.0 in
    let (e, is) = some_of found (slot_some c.args.table.now.layout c.args.seat.now.known c.load_ref.new.seat.known c.args.number c.args.slot c.load_ref.result c.load_ref.ensures.event m h has found value spells) in
    (e, subst HasEntryWord is value, ap entry_word (sym is) ∙ spells)

pub returns-clause-reads : goal.returns-clause-reads
returns-clause-reads g c = reads_entry c.args.table.now g.G.Gate.becomes c.args.number c.args.slot c.load_ref.result (c.args.seat.now, c.args.gate.now) (c.load_ref.new.seat, c.load_ref.new.gate) c.load_ref.ensures

pub returns-clause-entry : goal.returns-clause-entry
returns-clause-entry g c = λ words h.
    let (m, height, has) = c.requires.place in
    let low = (is_entry c.args.table.now.layout c.args.seat.now.known m c.args.number height c.args.slot c.requires.possible has).1 in
    some_injective (entry_is c.args.number c.args.slot c.load_ref.result c.load_ref.ensures.event m height has (Some c.read_some_entry.result) c.read_some_entry.ensures.is_value c.read_some_entry.ensures.spells words h low)

pub returns-clause-few : goal.returns-clause-few
returns-clause-few g c = step_few c.args.table.now g.G.Gate.becomes _ (c.args.seat.now, c.args.gate.now) (c.load_ref.new.seat, c.load_ref.new.gate) c.load_ref.ensures
