-- The columns stand at the first lanes.
use Rattle.partial_keys.proofs.Common.{ap, subst, sym, take, ◌∙◌, bit_of}
use Rattle.partial_keys.specs.Columns.{AreColumnLanes}
use Rattle.partial_keys.specs.Rows.{dense_of}
use Rattle.partial_keys.proofs.Windows.{column_lanes}
use Rattle.partial_keys.proofs.Columns.extract.Goals as goal

pub extract_dense_key_by_lanes-requires : goal.extract_dense_key_by_lanes-requires
extract_dense_key_by_lanes-requires c = subst (λ lanes. AreColumnLanes lanes c.self.inside.count) (sym c.lanes_of.ensures) (column_lanes c.self.inside.positions c.self.inside.count c.self.invariant).0

pub returns : goal.returns
returns c = c.extract_dense_key_by_lanes.ensures
    ∙ ap (λ cs. dense_of cs (bit_of c.args.key.now))
    (ap (take c.self.inside.count) c.lanes_of.ensures ∙ ((column_lanes c.self.inside.positions c.self.inside.count c.self.invariant).1 ∙ c.self.view_is))
