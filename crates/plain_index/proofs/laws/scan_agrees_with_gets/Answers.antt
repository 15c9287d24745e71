-- The law is a lemma on scans.
use Rattle.plain_index.proofs.laws.Gets.{scan-gets}
use Rattle.plain_index.proofs.laws.scan_agrees_with_gets.Goals as goal

pub returns : goal.returns
returns c = scan-gets
