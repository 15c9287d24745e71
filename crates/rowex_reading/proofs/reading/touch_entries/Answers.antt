-- Four words were touched, one after the other.
use Rattle.rowex_reading.proofs.Touching.{touched_on}
use Rattle.rowex_reading.proofs.reading.touch_entries.Goals as goal

pub returns : goal.returns
returns c = touched_on 3 1 _ _ _ (touched_on 2 1 _ _ _ (touched_on 1 1 _ _ _ c.touch.ensures c.touch-2.ensures) c.touch-3.ensures) c.touch-4.ensures
