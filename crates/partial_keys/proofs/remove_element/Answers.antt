-- One element moves, and the last place is filled.
use Rattle.std.proofs.Common.{ap, arith, get_or, set, ◌+◌, ◌-◌, ◌∙◌, ◌≡◌}
use Rattle.partial_keys.proofs.Taking.{left-end, left-more, left-next, left-start, left_to}
use Rattle.partial_keys.proofs.remove_element.Goals as goal

pub loop-i-init : goal.loop-i-init
loop-i-init g c = left-start c.args.items.now c.args.at (omega arith)

pub loop-i-preserved : goal.loop-i-preserved
loop-i-preserved g c =
    let x = c.index-items-i.result in
    let read : x ≡ get_or c.args.items.now (c.loop-i.i + 1) x =
    c.index-items-i.is ∙ (ap (λ xs. get_or xs (c.loop-i.i + 1) x) c.loop-i.invariant ∙ left-next c.args.items.now c.args.at c.loop-i.i x (omega arith) (omega arith)) in
    ap (set c.loop-i.items c.loop-i.i) read
    ∙ (ap (λ xs. set xs c.loop-i.i (get_or c.args.items.now (c.loop-i.i + 1) x)) c.loop-i.invariant ∙ left-more c.args.items.now c.args.at c.loop-i.i x (omega arith) (omega arith))

pub returns : goal.returns
returns g c =
    let last : c.loop-i.i ≡ c.args.count - 1 = omega arith in
    ap (λ xs. set xs (c.args.count - 1) c.args.fill) (c.loop-i.invariant ∙ ap (left_to c.args.items.now c.args.at) last)
    ∙ left-end c.args.items.now c.args.at (c.args.count - 1) c.args.count c.args.fill c.args.fill (omega arith) (omega arith) (omega arith)
