-- The law is a lemma on scans.
use Rattle.plain_index.proofs.laws.AtOnce.{scan_of-lawful}
use Rattle.plain_index.proofs.laws.first_pairs_are_a_still_scan.Goals as goal

pub returns : goal.returns
returns c = scan_of-lawful
