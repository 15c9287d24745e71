-- The window begins at its first byte.
use Rattle.partial_keys.proofs.Common.{◌+◌, ◌-◌, ◌%◌, ap, get_or, take, drop, ◌∙◌, arith, get_or-drop, get_or-take, get_or-chunk}
use Rattle.partial_keys.proofs.gathering.window_at.Goals as goal

pub returns : goal.returns
returns c i low =
    let xs = c.padded_bytes.result.now in
    let rest = take (240 - c.args.first) (drop c.args.first xs) in
    c.repeat_lanes.ensures i low
    ∙ (get_or-chunk 0 16 rest (i % 16) 0 (omega arith)
    ∙ (get_or-take (240 - c.args.first) (drop c.args.first xs) (0 + i % 16) 0 (omega (arith, c.requires))
    ∙ (get_or-drop c.args.first xs (0 + i % 16) 0 ∙ (ap (λ k. get_or xs (c.args.first + k) 0) (omega arith) ∙ ap (λ ys. get_or ys (c.args.first + i % 16) 0) c.padded_bytes.ensures.bytes))))
