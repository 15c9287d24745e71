-- One more item takes the first unused place.
use Rattle.std.proofs.Common.{ap, arith, get_or, replicate, set, ◌∙◌}
use Rattle.partial_keys.proofs.Putting.{filled_all, filled_more}
use Rattle.partial_keys.proofs.pad.Goals as goal

pub loop-i-init : goal.loop-i-init
loop-i-init g c = ap (λ n. replicate n c.args.unused) (omega arith)

pub loop-i-preserved : goal.loop-i-preserved
loop-i-preserved g c =
    ap (set c.loop-i.padded c.loop-i.i) c.index-items-i.is
    ∙ ap (λ ps. set ps c.loop-i.i (get_or c.args.items.now c.loop-i.i c.index-items-i.result)) c.loop-i.invariant
    ∙ filled_more g.row.N c.args.items.now c.loop-i.i c.args.unused c.index-items-i.result c.loop-i-test.true c.requires

pub returns : goal.returns
returns g c = c.loop-i.invariant ∙ filled_all g.row.N c.args.items.now c.loop-i.i c.args.unused (omega arith)
