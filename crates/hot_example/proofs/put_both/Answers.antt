-- Why `put_both` meets its contract.
use Rattle.std.proofs.Common.{[], ◌∷◌, subst}
use Rattle.finite_map.specs.declared.Call.TheVariants.{Insert}
use Rattle.hot_index.specs.Handles.{HandleView}
use Rattle.hot_index_calls.specs.Passes.{Owns}
use Rattle.hot_example.proofs.Ended.{asks_first, asks_more}
use Rattle.hot_example.proofs.put_both.Goals as goal

pub returns-clause-asked : goal.returns-clause-asked
returns-clause-asked g c q fresh =
    let one = c.args.one in
    let two = c.args.two in
    let own = subst (λ (h : HandleView). Owns h.index h.pass) c.handle.view_is c.handle.invariant in
    let first = asks_first q one.0.now one.1 c.insert.result c.args.handle c.insert.new.self fresh own c.insert.ensures in
    asks_more q (Insert one.0.now one.1 ∷ []) two.0.now two.1 c.insert-2.result c.insert.new.self c.insert-2.new.self first c.insert-2.ensures
