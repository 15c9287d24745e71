-- Why `fork_half` meets its contract.
use Rattle.insert_cases.proofs.Common.{arith, size-piece}
use Rattle.insert_cases.proofs.growth.fork_half.Goals as goal

pub put_fork-requires-clause-room : goal.put_fork-requires-clause-room
put_fork-requires-clause-room c =
    let half = rw c.in-Many.is at c.requires.half in
    let room = rw c.in-Many.is at c.requires.room in
    omega (arith, room, size-piece c.in-Many.node half.lawful)

pub put_fork-requires-clause-place : goal.put_fork-requires-clause-place
put_fork-requires-clause-place c =
    let half = rw c.in-Many.is at c.requires.half in
    let place = rw c.in-Many.is at c.requires.place in
    omega (arith, place, size-piece c.in-Many.node half.lawful)
