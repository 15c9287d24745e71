-- Why `meet_all_passes` meets its contract.
use Rattle.script_runs.proofs.Common.{◌≡◌, ◌+◌, ◌<◌, ◌≤◌, [], ◌∷◌, ◌∙◌, append_assoc, append-nil, arith, drop, get_or, length, refl, sym, drop-set-lt, drop_all, drop_more, take_all, take_more_set, All-get_or, All-set, HaveMet}
use Rattle.script_runs.specs.declared.answer.Done.{Done}
use Rattle.script_runs.specs.Progress.{MeetInTurn}
use Rattle.script_runs.proofs.together.meet_all_passes.Goals as goal

pub meet_script-last-requires : goal.meet_script-last-requires
meet_script-last-requires c =
    let was = c.loop-script.invariant in
    All-get_or (λ (d : Done). d.handle.index ≡ c.args.handle.index) c.loop-script.done c.loop-script.script-index c.script-item.result (omega (arith, c.loop-script-test.true, c.loop-script.auto.done)) was.at.1 ∙ sym was.at.0

pub loop-script-preserved : goal.loop-script-preserved
loop-script-preserved c =
    let index = c.args.handle.index in
    let done = c.loop-script.done in
    let i = c.loop-script.script-index in
    let made = c.meet_script-last.new.done in
    let low : i < length done = omega (arith, c.loop-script-test.true, c.loop-script.auto.done) in
    let was = c.loop-script.invariant in
    record {
      at = (c.meet_script-last.ensures.index.0 ∙ was.at.0, All-set (λ (d : Done). d.handle.index ≡ index) done i made (c.meet_script-last.ensures.index.1 ∙ was.at.0) was.at.1);
      completes = λ j rest others.
          let met : HaveMet index.layout c.loop-script.last.pass (get_or done i c.script-item.result).handle.pass c.meet_script-last.result.pass made.handle.pass =
          rw was.at.0 at c.meet_script-last.ensures.met in
          let left = rw (drop-set-lt (i + 1) done i made (omega arith)) at others in
          let whole : MeetInTurn index c.loop-script.last.pass (get_or done i c.script-item.result ∷ drop (i + 1) done) j (made ∷ rest) =
          (c.meet_script-last.result.pass, met, c.meet_script-last.ensures.text, left) in
          rw (take_more_set done i made low, append_assoc) (was.completes j (made ∷ rest) (rw (drop_more done i c.script-item.result low) whole));
    }

pub returns-clause-index : goal.returns-clause-index
returns-clause-index c = c.loop-script.invariant.at

pub returns-clause-met : goal.returns-clause-met
returns-clause-met c =
    let done = c.loop-script.done in
    let i = c.loop-script.script-index in
    let here : MeetInTurn c.args.handle.index c.loop-script.last.pass [] c.loop-script.last.pass [] = refl in
    let end : length done ≤ i = omega (arith, c.loop-script-test.false, c.loop-script.auto.done) in
    let none = drop_all i done end in
    let all = take_all i done end in
    rw (all, append-nil) at (c.loop-script.invariant.completes c.loop-script.last.pass [] (rw none here))
