-- The leaf is found by its number.
use Rattle.rowex_scanning.proofs.ahead.Begins.{begins_there, leaf_there}
use Rattle.rowex_scanning.proofs.taking.load_scanned_leaf.Goals as goal

pub find-leaf-requires : goal.find-leaf-requires
find-leaf-requires g c = leaf_there c.args.scan.now.table.now.layout c.args.scan.now.origins.now.layout c.requires.origins c.args.seat.now.known c.requires.led.0 c.args.number c.requires.reader.1 c.requires.led.1

pub load_leaf_at-requires-clause-start : goal.load_leaf_at-requires-clause-start
load_leaf_at-requires-clause-start g c = begins_there c.args.scan.now.table.now.layout c.args.scan.now.origins.now.layout c.requires.origins c.args.number c.find-leaf.result.start c.find-leaf.ensures.start
