-- The elements behind the place move up.
use Rattle.std.proofs.Common.{ap, arith, set, ◌∙◌}
use Rattle.partial_keys.proofs.Putting.{moved_up}
use Rattle.partial_keys.proofs.insert_element.Goals as goal

pub returns : goal.returns
returns g c = ap (λ xs. set xs c.args.at c.args.element) c.copy_within.ensures.after ∙ moved_up c.args.items.now c.args.at c.args.count c.args.element (omega arith) (omega arith)
