use Rattle.rowex_core.proofs.Writers.Leading.{led_is_in_tree}
use Rattle.rowex_core.proofs.writer_laws.led_live_node_is_in_tree.Goals as goal

pub returns : goal.returns
returns c = led_is_in_tree
