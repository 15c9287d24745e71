-- One load, or none.
use Rattle.rowex_writing.proofs.build.Spare.{look_found}
use Rattle.rowex_writing.proofs.Common.{eqb-true, arith, ◌∙◌}
use Rattle.rowex_writing.proofs.build.Building.{look_on, look_own, look_steps}
use Rattle.rowex_writing.proofs.build.nodes.is_last_free.Goals as goal

pub returns-clause-goes : goal.returns-clause-goes
returns-clause-goes g c = look_on c.args.table.now g.G.Gate.becomes _ _ _ _ c.load_state.ensures

pub returns-clause-own : goal.returns-clause-own
returns-clause-own g c = look_own c.args.table.now g.G.Gate.becomes _ _ _ _ c.load_state.ensures

pub returns-clause-few : goal.returns-clause-few
returns-clause-few g c = let s = look_steps c.args.table.now g.G.Gate.becomes _ _ _ _ c.load_state.ensures in omega (arith, s)

pub returns-clause-free : goal.returns-clause-free
returns-clause-free g c = λ is. look_found c.args.table.now g.G.Gate.becomes _ _ _ _ (eqb-true _ _ is ∙ c.pack_state.ensures) c.load_state.ensures
