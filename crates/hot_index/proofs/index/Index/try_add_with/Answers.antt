-- The change of a copy of the key, which takes no record.
use Rattle.finite_map.specs.declared.Call.TheVariants.{Add}
use Rattle.hot_index.proofs.Statements.Held.{is_busy}
use Rattle.hot_index.proofs.index.Index.try_add_with.Goals as goal

pub returns : goal.returns
returns g c =
    let busy = is_busy c.args.self.now.layout c.args.pass.now c.try_change_with.new.pass (Add c.copy.result c.args.delta) (λ may. may) c.try_change_with.result c.try_change_with.ensures.call in
    let o = rw c.copy.ensures.same at c.try_change_with.ensures in
    record { tried = o; busy = busy }
