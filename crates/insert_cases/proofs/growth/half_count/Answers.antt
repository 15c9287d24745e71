-- Why `half_count` meets its contract.
use Rattle.insert_cases.proofs.Common.{sym, ◌∙◌, size-piece}
use Rattle.insert_cases.proofs.growth.half_count.Goals as goal

pub returns-in-Many : goal.returns-in-Many
returns-in-Many c = rw c.in-Many.is (c.count.ensures.count ∙ sym (size-piece c.in-Many.node c.count.ensures.lawful))
