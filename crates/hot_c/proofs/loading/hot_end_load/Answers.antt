-- The handle is open, and keeps the passes of the load that was closed.
use Rattle.std.proofs.Common.{inl, refl}
use Rattle.hot_c.proofs.Loads.{ended_load}
use Rattle.hot_c.proofs.loading.hot_end_load.Goals as goal

pub returns-in-Ok-clause-ended : goal.returns-in-Ok-clause-ended
returns-in-Ok-clause-ended c = λ was has closed. (
  c.close.ensures.gone,
  inl (
    refl,
    ended_load c.args.load.now.cell.opened was c.close.result.value c.in-Ok.keeper.value c.open.new.self.cell.opened has c.close.ensures.value c.open.ensures.opened c.in-Ok.ensures,
  ),
)
