-- At first nothing was found, and then what each exchange finds.
use Rattle.rowex_table.proofs.Common.{◌≡◌, ◌≤◌, ◌∙◌, arith}
use Rattle.record_words.specs.Layout.{uncommitted_in}
use Rattle.rowex_table.proofs.Committed.Chains.{finds_bounds, found_more, found_none}
use Rattle.rowex_table.proofs.table.HotTable.commit_up_to.Goals as goal

pub loop-left-init : goal.loop-left-init
loop-left-init c = record { own = c.requires.own; bounds = found_none _; few = c.requires.few }
