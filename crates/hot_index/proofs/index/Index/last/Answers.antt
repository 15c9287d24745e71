-- The first key of all is empty.
use Rattle.hot_index.proofs.Common.{ℕ, List, subst, IsFoundBy, range_from, IsRangeRead}
use Rattle.finite_map.specs.Reverse.{IsLawfulReverseScan}
use Rattle.hot_index.proofs.index.Index.last.Goals as goal

pub returns : goal.returns
returns c =
    subst (λ (from : List ℕ). IsRangeRead (λ layout k j. IsFoundBy IsLawfulReverseScan layout k j from c.args.upto.now) (range_from from c.args.upto.now 1) c.find_first_pair.result c.args.self.now c.args.pass.now c.find_first_pair.new.pass)
    c.from_padded-empty.ensures c.find_first_pair.ensures
