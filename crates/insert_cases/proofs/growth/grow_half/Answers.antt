-- Why `grow_half` meets its contract.
use Rattle.insert_cases.proofs.Common.{arith, size-piece}
use Rattle.insert_cases.proofs.growth.grow_half.Goals as goal

pub add_entry-requires-clause-room : goal.add_entry-requires-clause-room
add_entry-requires-clause-room c =
    let half = rw c.in-Many.is at c.requires.half in
    let room = rw c.in-Many.is at c.requires.room in
    omega (arith, room, size-piece c.in-Many.node half.lawful)
