-- What was read of the record is what the number's leaf had.
use Rattle.rowex_scanning.proofs.Common.{refl, take, leaf_loads}
use Rattle.rowex_scanning.proofs.taking.load_leaf_at.Goals as goal

pub load_leaf-requires-clause-led : goal.load_leaf-requires-clause-led
load_leaf-requires-clause-led g c = c.requires.led

pub load_leaf-requires-clause-leaf : goal.load_leaf-requires-clause-leaf
load_leaf-requires-clause-leaf g c = (refl, c.requires.start)

pub returns-clause-reads : goal.returns-clause-reads
returns-clause-reads g c = let e = c.load_leaf.ensures in (leaf_loads (take c.load_leaf.result.0 c.load_leaf.new.places), e.few, e.reads)

pub returns-clause-leaf : goal.returns-clause-leaf
returns-clause-leaf g c = c.load_leaf.ensures.leaf
