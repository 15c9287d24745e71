-- A range that runs backwards is empty. Where a pair found no room, the range has it, and it is within the limit.
use Rattle.plain_index.proofs.Common.{arith, ◌<◌, ◌++◌, ◌∙◌, ap, length, refl, sym, err_from_is_err_and, rules}
use Rattle.plain_index.proofs.plain.Backwards.{scan_of-backwards}
use Rattle.plain_index.proofs.plain.Giving.{gives_one}
use Rattle.plain_index.proofs.plain.PlainIndex.scan.Goals as goal

pub returns-then-gt-clause-scan : goal.returns-then-gt-clause-scan
returns-then-gt-clause-scan c = scan_of-backwards _ _ _ _ _ (sym c.if-gt.ensures) c.new-pairs.ensures.items refl

pub returns-in_err-push-clause-memory : goal.returns-in_err-push-clause-memory
returns-in_err-push-clause-memory c = let p = err_from_is_err_and c.from_residual.result c.from_residual.ensures.1 in
    let short : length c.loop-key.pairs.items < c.args.limit = grind arith in
    rw p.1 (gives_one c.loop-key.pairs.items _ _ _ c.args.limit (ap (λ z. c.loop-key.pairs.items ++ z) (sym c.in-Some.ensures.steps) ∙ c.loop-key.invariant.rest) short)

pub loop-key-init : goal.loop-key-init
loop-key-init c = search rules

pub returns-then-len-limit-clause-memory : goal.returns-then-len-limit-clause-memory
returns-then-len-limit-clause-memory c = search rules
