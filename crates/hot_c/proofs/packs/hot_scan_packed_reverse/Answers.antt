-- The pairs are listed in falling order.
use Rattle.hot_c.proofs.packs.hot_scan_packed_reverse.Goals as goal

pub returns : goal.returns
returns c = record { call = c.list_packed_pairs.ensures.call; place = c.list_packed_pairs.ensures.place }
