-- The last pairs are written, the last one first, and the iterator has the others.
use Rattle.std.specs.Iterator.Adapters.{enumerate_count, enumerate_source, rev_source}
use Rattle.std.specs.Prelude.{reverse}
use Rattle.hot_c.proofs.pairs.Pairs.{HasWritten}
use Rattle.hot_c.proofs.pairs.write_pairs_backwards.Given as goal

abbrev pub invariant-loop-place : goal.invariant-loop-place
invariant-loop-place l = record {
  written : HasWritten (reverse l.pairs) (reverse (rev_source (enumerate_source l.place-iterator))) (enumerate_count l.place-iterator) l.initial.room l.room;
}
