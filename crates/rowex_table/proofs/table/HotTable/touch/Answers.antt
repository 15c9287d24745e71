-- The word is one of the table's, and the touch of it keeps the rule.
use Rattle.std.proofs.Common.{rules, ap}
use Rattle.rowex_table.proofs.Rule.Touched.{record_in_words, touches}
use Rattle.rowex_table.specs.Seats.{TableView}
use Rattle.rowex_table.proofs.table.HotTable.touch.Goals as goal

pub load-requires : goal.load-requires
load-requires c = (
  search rules,
  record_in_words _ _ _ c.args.at.rec _ _ c.self.invariant.0 (ap (λ (z : TableView). z.layout) c.self.view_is) c.requires.start c.requires.range,
  touches c.self.inside.table.shared.key.layout _ _ _ _ _ _ c.seat.invariant.0,
)
