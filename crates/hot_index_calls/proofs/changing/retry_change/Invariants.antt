-- So far each try was refused, and none of these refusals is final; and together they are not noted.
use Rattle.publish_laws.specs.Lone.{KeepsSpare}
use Rattle.std.specs.Prelude.{◌≡◌, List, []}
use Rattle.hot_index_calls.specs.Asked.{IsIdle}
use Rattle.hot_index_calls.specs.Calls.{AreTriesRefused}
use Rattle.hot_index_calls.specs.Passes.{pass_of}
use Rattle.hot_index_calls.specs.declared.refusals.Refusal.{Refusal}
use Rattle.hot_index_calls.proofs.Traces.{HasSteps}
use Rattle.hot_index_calls.proofs.Counts.{HasWaited}
use Rattle.hot_index_calls.proofs.changing.retry_change.Given as goal

abbrev pub invariant-loop : goal.invariant-loop
invariant-loop g l = record {
  idle : IsIdle l.table l.seat;
  spares : KeepsSpare l.table.layout l.fn.seat l.seat;
  waited : HasWaited l.table.layout (pass_of l.fn.seat) (pass_of l.seat);
  refused : (refusals : List Refusal) × AreTriesRefused l.call refusals l.table g.G.Gate.becomes (pass_of l.fn.seat, l.fn.gate) (pass_of l.seat, l.gate) × (l.table.layout.passes ≡ 1 → refusals ≡ []);
  ran : HasSteps l.table g.G.Gate.becomes (l.fn.seat, l.fn.gate) (l.seat, l.gate);
}
