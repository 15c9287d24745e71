-- The first difference, at a byte or where one key ends, and the order by its bit.
use Rattle.std.proofs.Common.{◌≡◌, ℕ, suc, ◌+◌, ◌*◌, List, get_or, drop, arith}
use Rattle.std.proofs.Math.Seq.{drop-cons}
use Rattle.key_bits.specs.Bits.{IsFirstDifference}
use Rattle.key_bits.proofs.Bits.{first-bytes, first-drop, first-front}
use Rattle.key_bits.proofs.Bits.Order.{less_by_first}
use Rattle.key_bits.proofs.mismatch_of_bytes.Goals as goal

first_at_byte : (c : goal.After-byte_mismatch) → IsFirstDifference c.args.xs.now c.args.ys.now (9 * c.loop-i.i + 1 + c.byte_mismatch.result)
first_at_byte c =
    let xs : List ℕ = c.args.xs.now in
    let ys : List ℕ = c.args.ys.now in
    let i : ℕ = c.loop-i.i in
    let n : ℕ = c.byte_mismatch.result in
    let at : 9 * i + 1 + n ≡ 9 * i + (1 + n) = omega arith in
    rw at (first-drop i xs ys (1 + n) (omega arith) (omega arith) c.loop-i.invariant
    (rw (drop-cons xs i 0 (omega arith), drop-cons ys i 0 (omega arith))
    (first-bytes (get_or xs i 0) (get_or ys i 0) (drop (suc i) xs) (drop (suc i) ys) n c.byte_mismatch.ensures.bound c.byte_mismatch.ensures.first)))

first_at_end : (c : goal.Else-xs-ys) → IsFirstDifference c.args.xs.now c.args.ys.now (9 * c.min-common.result)
first_at_end c =
    let e : c.loop-i.i ≡ c.min-common.result = omega arith in
    first-front c.args.xs.now c.args.ys.now c.min-common.result c.min-common.ensures c.if-xs-ys.false (rw (← e) c.loop-i.invariant)

pub returns-then-xs-i-clause-first : goal.returns-then-xs-i-clause-first
returns-then-xs-i-clause-first c = first_at_byte c

pub returns-then-xs-i-clause-order : goal.returns-then-xs-i-clause-order
returns-then-xs-i-clause-order c =
    less_by_first c.args.xs.now c.args.ys.now c.requires.0 c.requires.1 _ (returns-then-xs-i-clause-first c)

pub returns-else-xs-ys-clause-first : goal.returns-else-xs-ys-clause-first
returns-else-xs-ys-clause-first c = first_at_end c

pub returns-else-xs-ys-clause-order : goal.returns-else-xs-ys-clause-order
returns-else-xs-ys-clause-order c =
    less_by_first c.args.xs.now c.args.ys.now c.requires.0 c.requires.1 _ (returns-else-xs-ys-clause-first c)
