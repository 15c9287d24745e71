-- The law is a lemma on scans.
use Rattle.finite_map.proofs.Scans.{lawful-scan_of}
use Rattle.plain_index.proofs.laws.still_scan_gives_first_pairs.Goals as goal

pub returns : goal.returns
returns c = lawful-scan_of
