-- The pairs are listed in falling order.
use Rattle.hot_c.proofs.scans.hot_scan_reverse.Goals as goal

pub returns : goal.returns
returns c = record { call = c.list_pairs_of_query.ensures.call; place = c.list_pairs_of_query.ensures.place }
