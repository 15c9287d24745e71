-- The pairs are listed in rising order.
use Rattle.hot_c.proofs.scans.hot_scan.Goals as goal

pub returns : goal.returns
returns c = record { call = c.list_pairs_of_query.ensures.call; place = c.list_pairs_of_query.ensures.place }
