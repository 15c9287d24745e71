-- The greatest key is the last one with the empty prefix.
use Rattle.hot_index.proofs.Common.{ℕ, List, ap, subst, ◌∙◌, IsLawfulScan, IsFoundBy, range_from, IsRangeRead}
use Rattle.key_ranges.specs.Ranges.{last_with}
use Rattle.hot_index.proofs.index.Index.first.Goals as goal

pub returns : goal.returns
returns c =
    subst (λ (upto : List ℕ). IsRangeRead (λ layout k j. IsFoundBy IsLawfulScan layout k j c.args.from.now upto) (range_from c.args.from.now upto 1) c.find_first_pair.result c.args.self.now c.args.pass.now c.find_first_pair.new.pass)
    (c.last_with_prefix-last.ensures ∙ ap last_with c.from_padded.ensures) c.find_first_pair.ensures
