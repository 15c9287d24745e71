-- Four digits at a time, and then up to four.
use Rattle.hot_scripts.proofs.Common.{◌≡◌, ℕ, ◌+◌, ◌^◌, ◌<◌, ◌≤◌, ◌/◌, arith, length, decimal, length-decimal-le}
use Rattle.itoa.proofs.Decimal.{length_four, length_one, length_pair, length_two, length_step_wide}
use Rattle.hot_scripts.proofs.digits.count_digits.Goals as goal

few : (n count left : ℕ) → n < 2 ^ 64 → count + length (decimal left) ≡ length (decimal n) → count ≤ 20
few n count left fits same = omega (arith, same, length-decimal-le 20 n (omega arith) (omega (arith, fits)) fits)

pub overflow_add-count : goal.overflow_add-count
overflow_add-count c = omega (arith, few c.args.number c.loop-left.count c.loop-left.left c.ranges.number.fits c.loop-left.invariant)

pub loop-left-preserved : goal.loop-left-preserved
loop-left-preserved c = omega (arith, c.loop-left.invariant, length_four c.loop-left.left (omega arith) (omega arith))

pub overflow_add-result : goal.overflow_add-result
overflow_add-result c = omega (arith, few c.args.number c.loop-left.count c.loop-left.left c.ranges.number.fits c.loop-left.invariant)

pub returns-then-left-lt10 : goal.returns-then-left-lt10
returns-then-left-lt10 c = omega (arith, c.loop-left.invariant, length_one c.loop-left.left (omega arith))

pub overflow_add-result-then-left-lt100 : goal.overflow_add-result-then-left-lt100
overflow_add-result-then-left-lt100 c = omega (arith, few c.args.number c.loop-left.count c.loop-left.left c.ranges.number.fits c.loop-left.invariant)

pub returns-then-left-lt100 : goal.returns-then-left-lt100
returns-then-left-lt100 c = omega (arith, c.loop-left.invariant, length_two c.loop-left.left (omega arith) (omega arith))

pub overflow_add-result-then-left-lt1000 : goal.overflow_add-result-then-left-lt1000
overflow_add-result-then-left-lt1000 c = omega (arith, few c.args.number c.loop-left.count c.loop-left.left c.ranges.number.fits c.loop-left.invariant)

pub returns-then-left-lt1000 : goal.returns-then-left-lt1000
returns-then-left-lt1000 c =
    omega (arith, c.loop-left.invariant, length_step_wide c.loop-left.left (omega arith) (omega arith), length_two (c.loop-left.left / 10) (omega arith) (omega arith))

pub overflow_add-result-2 : goal.overflow_add-result-2
overflow_add-result-2 c = omega (arith, few c.args.number c.loop-left.count c.loop-left.left c.ranges.number.fits c.loop-left.invariant)

pub returns : goal.returns
returns c =
    omega (arith, c.loop-left.invariant, length_pair c.loop-left.left (omega arith) (omega arith), length_two (c.loop-left.left / 100) (omega arith) (omega arith))
