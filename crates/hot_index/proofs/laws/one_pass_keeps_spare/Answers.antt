-- The law one_pass_keeps_spare.
use Rattle.hot_index.proofs.laws.Spared.{collects, counts, new_has_spare, reads, shown}
use Rattle.hot_index.proofs.laws.one_pass_keeps_spare.Goals as goal

pub returns : goal.returns
returns g c = record {
  begins = new_has_spare;
  reads = reads g.G.Gate.becomes;
  collects = collects g.G.Gate.becomes;
  counts = counts g.G.Gate.becomes;
  shown = shown;
}
