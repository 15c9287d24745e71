-- The leaf is one of the table's, and its record was located by its number.
use Rattle.rowex_reading.proofs.Common.{ap, Leaf, record_number}
use Rattle.rowex_reading.proofs.Seen.Standing.{led_in_table}
use Rattle.rowex_reading.proofs.reading.load_value.Goals as goal

pub locate-leaf-requires : goal.locate-leaf-requires
locate-leaf-requires g c = let l = c.requires.led in led_in_table c.args.table.now.layout c.args.seat.now.known l.0 (Leaf c.args.number) c.requires.reader.1 l.1

pub compare_leaf-requires-clause-led : goal.compare_leaf-requires-clause-led
compare_leaf-requires-clause-led g c = (c.requires.led.0, rw (ap record_number c.locate-leaf.ensures.rec) c.requires.led.1)

pub returns-then-size-eq8-clause-leaf : goal.returns-then-size-eq8-clause-leaf
returns-then-size-eq8-clause-leaf g c = rw (ap record_number c.locate-leaf.ensures.rec) at c.compare_leaf.ensures.leaf

pub compare_leaf-requires-2-clause-led : goal.compare_leaf-requires-2-clause-led
compare_leaf-requires-2-clause-led g c = (c.requires.led.0, rw (ap record_number c.locate-leaf.ensures.rec) c.requires.led.1)

pub returns-clause-leaf : goal.returns-clause-leaf
returns-clause-leaf g c = rw (ap record_number c.locate-leaf.ensures.rec) at c.compare_leaf-2.ensures.leaf
