-- What stays true in the loop of `read_script`.
use Rattle.std.specs.Io.KnownBytes.{Consumes}
use Rattle.hot_scripts.proofs.streams.read_script.Given as goal

abbrev pub invariant-loop : goal.invariant-loop
invariant-loop g l = Consumes (g.R.Read.remaining l.fn.reader) (g.R.Read.remaining l.reader) l.bytes.items
