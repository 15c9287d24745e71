-- The previous key lacks the last byte, or has one that is less.
use Rattle.std.proofs.Common.{◌-◌, sym, ◌∙◌, arith}
use Rattle.key_ranges.proofs.Ranges.Previous.{of_front_key, previous_lowered, previous_shorter}
use Rattle.key_ranges.proofs.previous_key.Goals as goal

pub returns-then-last-gt0-clause-some : goal.returns-then-last-gt0-clause-some
returns-then-last-gt0-clause-some c =
    let parts = sym c.as_bytes.ensures.bytes ∙ c.in_ok-last.ensures.cases.0 in let high = c.if-last-gt0.true in
    previous_lowered c.args.key.now c.in_ok-last.front.now c.in_ok-last.last.now c.as_bytes.ensures.key parts (c.in_ok-last.last.now - 1) (omega (arith, high)) c.key_with_last_byte.result c.last_with_prefix.result c.key_with_last_byte.ensures c.last_with_prefix.ensures

pub key_from_bytes-requires : goal.key_from_bytes-requires
key_from_bytes-requires c = of_front_key c.args.key.now c.in_ok-last.front.now c.in_ok-last.last.now c.as_bytes.ensures.key (sym c.as_bytes.ensures.bytes ∙ c.in_ok-last.ensures.cases.0)

pub returns-clause-some : goal.returns-clause-some
returns-clause-some c =
    let low = c.if-last-gt0.false in
    previous_shorter c.args.key.now c.in_ok-last.front.now c.in_ok-last.last.now c.as_bytes.ensures.key (sym c.as_bytes.ensures.bytes ∙ c.in_ok-last.ensures.cases.0) (omega (arith, low)) c.key_from_bytes.result c.key_from_bytes.ensures
