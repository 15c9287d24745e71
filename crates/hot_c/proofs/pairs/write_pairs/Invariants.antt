-- The first pairs are written, and the iterator has the others.
use Rattle.hot_c.proofs.pairs.Pairs.{HasWritten}
use Rattle.hot_c.proofs.pairs.write_pairs.Given as goal

abbrev pub invariant-loop-place : goal.invariant-loop-place
invariant-loop-place l = record { written : HasWritten l.pairs l.key-iterator l.place l.initial.room l.room }
