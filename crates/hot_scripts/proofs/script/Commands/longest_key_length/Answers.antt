-- One line more.
use Rattle.hot_scripts.proofs.Common.{◌≡◌, ◌≤◌, ℕ, List, ◌∷◌, map, Option, Some, None, Result, Ok, sym, ap, arith, All, MatchOption, filter_map, All-cons}
use Rattle.std.specs.Prelude.{length}
use Rattle.hot_scripts.specs.declared.command.Command.{Command}
use Rattle.hot_scripts.specs.declared.fault.Reason.{Reason}
use Rattle.hot_scripts.specs.Grammar.{HasKeyUpTo, asked, called_key, reading_of}
use Rattle.hot_scripts.specs.Words.{parts_left, bytes_left}
use Rattle.hot_scripts.proofs.script.Commands.longest_key_length.Goals as goal

one_more : (most bound : ℕ) (reading : Result (Option Command) Reason) (command : Option Command) (rest : List (Result (Option Command) Reason))
    → reading ≡ Ok command → MatchOption command (bound ≡ 0) (λ command. bound ≡ length (called_key command)) → bound ≤ most → All (HasKeyUpTo most) (filter_map asked rest)
    → All (HasKeyUpTo most) (filter_map asked (reading ∷ rest))
one_more most bound reading None rest is fits above all = rw is all
one_more most bound reading (Some command) rest is fits above all =
    rw is (All-cons (HasKeyUpTo most) command (filter_map asked rest) (omega (arith, fits, above)) all)

pub loop-left-preserved : goal.loop-left-preserved
loop-left-preserved c =
    let was = c.loop-left.invariant in
    let reads = reading_of c.args.self.version in
    let line = c.split_once.result.0.now in
    let rest = parts_left 10 c.split_once.result.1 in
    let parts : parts_left 10 c.loop-left.left ≡ line ∷ rest = rw c.in-Some.is c.split_once.ensures.parts in
    let asks : reads line ≡ Ok c.in-Ok.command = sym c.in-Ok.ensures in
    record {
      bad = rw (parts, asks) at was.bad;
      small = omega (arith, was.small, c.split_once.ensures.left, ap bytes_left c.in-Some.is);
      few = c.larger_number-longest.ensures.few was.few c.key_length.ensures.few;
      keys = λ most above fits. was.keys most (omega (arith, above, c.larger_number-longest.ensures.bound))
          (rw parts (one_more most c.key_length.result (reads line) c.in-Ok.command (map reads rest) asks c.key_length.ensures.key (omega (arith, above, c.larger_number-longest.ensures.bound)) fits));
    }
