-- No bit of the comparison is set.
use Rattle.std.proofs.lemmas.Bool.{eqb-true}
use Rattle.partial_keys.proofs.Windows.{none_between}
use Rattle.partial_keys.proofs.gathering.has_no_byte_between.Goals as goal

pub returns : goal.returns
returns c = record { none = λ yes. none_between c.args.bytes c.args.from c.args.to c.requires.lanes c.fits-bytes.1 c.requires.order c.ranges.to.fits (eqb-true _ _ yes) }
