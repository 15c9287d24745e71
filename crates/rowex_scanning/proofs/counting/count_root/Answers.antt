-- The loads are bounded by the limit, and by the pairs that were counted.
use Rattle.rowex_scanning.proofs.Walking.{scans_few, scans_least}
use Rattle.rowex_scanning.proofs.counting.count_root.Goals as goal

pub returns-clause-looks : goal.returns-clause-looks
returns-clause-looks g c = scans_least c.args.range.now.limit c.walk_root.new.sink.count c.walk_root.ensures.looks c.walk_root.ensures.passed

pub returns-clause-few : goal.returns-clause-few
returns-clause-few g c = scans_few _ (scans_least c.args.range.now.limit c.walk_root.new.sink.count c.walk_root.ensures.looks c.walk_root.ensures.passed)
