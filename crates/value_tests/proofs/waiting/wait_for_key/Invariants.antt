-- The handle stays one of its index.
use Rattle.std.specs.Prelude.{◌≡◌}
use Rattle.value_tests.proofs.waiting.wait_for_key.Given as goal

abbrev pub invariant-loop : goal.invariant-loop
invariant-loop l = l.guest.index ≡ l.fn.guest.index
