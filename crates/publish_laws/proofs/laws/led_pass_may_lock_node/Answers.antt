use Rattle.publish_laws.proofs.Acts.{led_may_lock}
use Rattle.publish_laws.proofs.laws.led_pass_may_lock_node.Goals as goal

pub returns : goal.returns
returns c = led_may_lock
