-- The step at the head that was loaded, and the gap before its first entry.
use Rattle.rowex_scanning.proofs.Common.{◌∙◌, ap, PathNode, step_at, first_gap}
use Rattle.rowex_scanning.proofs.Walking.{entered, head_size}
use Rattle.rowex_scanning.proofs.scanning.enter_node_at_gap.Goals as goal

pub returns-clause-entered : goal.returns-clause-entered
returns-clause-entered g c = λ m h led.
    let (head, seen, is) = c.load_path_node-step.ensures.step m h led in
    let gap = c.first_gap.ensures ∙ ap (first_gap c.args.direction) (ap (λ (s : PathNode). s.count) is ∙ head_size head seen.lawful) in
    entered head seen.lawful m c.args.number h _ seen.height (ap (λ (s : PathNode). let x : PathNode = record s { slot = c.first_gap.result } in x) is ∙ ap (step_at head c.args.number) gap) seen.shaped
