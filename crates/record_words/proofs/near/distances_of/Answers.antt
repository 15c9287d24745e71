-- Each lane is the distance of its position, in the opposite order.
use Rattle.std.proofs.Common.{◌∙◌, ◌*◌, ◌-◌, ◌<◌, arith}
use Rattle.record_words.proofs.near.NearSpelling.{apart, apart_at, apart_long, upside_at}
use Rattle.record_words.proofs.near.distances_of.Goals as goal

pub returns-clause-each : goal.returns-clause-each
returns-clause-each c i low =
    let small : 9 * c.args.first < 65536 = omega (arith, c.requires) in
    upside_at (apart c.args.positions c.fits-positions.0 c.args.first small) i (apart_long c.args.positions c.fits-positions.0 c.args.first small) low
    ∙ apart_at c.args.positions c.fits-positions.0 c.args.first small (15 - i) (omega arith)
