-- The law an_insert_is_told.
use Rattle.hot_c.proofs.Histories.Telling.{an_insert_is_told}
use Rattle.hot_c.proofs.laws.an_insert_is_told.Goals as goal

pub returns : goal.returns
returns c = an_insert_is_told
