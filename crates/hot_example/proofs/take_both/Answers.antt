-- Why `take_both` meets its contract.
use Rattle.hot_example.proofs.Taking.{of_two}
use Rattle.hot_example.proofs.take_both.Goals as goal

pub returns-clause-first : goal.returns-clause-first
returns-clause-first c =
    let first = c.in_ok-first.first in
    let second = c.in_ok-second.second in
    c.requires.each 0 first
    (of_two c.pop-2.new.self.items c.args.passes.items c.pop.new.self.items first second
    c.requires.count c.in_ok-second.ensures.items c.in_ok-first.ensures.items).0

pub returns-clause-second : goal.returns-clause-second
returns-clause-second c =
    let first = c.in_ok-first.first in
    let second = c.in_ok-second.second in
    c.requires.each 1 second
    (of_two c.pop-2.new.self.items c.args.passes.items c.pop.new.self.items first second
    c.requires.count c.in_ok-second.ensures.items c.in_ok-first.ensures.items).1
