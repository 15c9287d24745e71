-- The scan has the pairs of the list.
use Rattle.hot_index.proofs.Common.{refl, err_from_is_err_and}
use Rattle.hot_index.proofs.Reading.{range_copied, range_refused, range_uncopied}
use Rattle.hot_index.proofs.index.Index.scan_range.Goals as goal

pub returns-in_err-more : goal.returns-in_err-more
returns-in_err-more g c = range_refused c.from_residual.result (err_from_is_err_and c.from_residual.result c.from_residual.ensures.1).1 c.in_err-more.ensures

pub returns-in_err-pairs : goal.returns-in_err-pairs
returns-in_err-pairs g c = range_uncopied c.args.range.now.direction c.from_residual-in_err-pairs.result (err_from_is_err_and c.from_residual-in_err-pairs.result c.from_residual-in_err-pairs.ensures.1).1 c.in_ok-more.ensures c.in_err-pairs.ensures.memory c.in_err-pairs.ensures.short

pub returns : goal.returns
returns g c = range_copied c.in_ok-more.ensures _ c.in_ok-pairs.ensures.list refl
