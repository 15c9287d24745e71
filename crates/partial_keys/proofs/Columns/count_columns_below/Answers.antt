-- The unused lanes reach each position.
use Rattle.partial_keys.proofs.Common.{ap, arith, ◌++◌, ◌∙◌, ◌∷◌, ◌≡◌, [], front_below}
use Rattle.partial_keys.proofs.Reaching.{front_below-columns, front_below-le}
use Rattle.partial_keys.proofs.Windows.{column_lanes}
use Rattle.partial_keys.proofs.Columns.count_columns_below.Goals as goal
use Rattle.partial_keys.proofs.Columns.count_columns_below.Goals.{After-count_below}

is_front : (c : After-count_below) → c.count_below.result ≡ front_below c.args.position c.args.self.now
is_front c =
    let lanes = column_lanes c.self.inside.positions c.self.inside.count c.self.invariant in
    c.count_below.ensures ∙ (ap (front_below c.args.position) c.lanes_of.ensures
    ∙ (front_below-columns c.args.position c.self.inside.count (c.self.inside.positions ++ 65535 ∷ []) lanes.0 (omega (arith, c.ranges.position.fits))
    ∙ ap (front_below c.args.position) (lanes.1 ∙ c.self.view_is)))

pub returns-clause-value : goal.returns-clause-value
returns-clause-value c = is_front c

pub returns-clause-within : goal.returns-clause-within
returns-clause-within c = omega (arith, is_front c, front_below-le c.args.position c.args.self.now)
