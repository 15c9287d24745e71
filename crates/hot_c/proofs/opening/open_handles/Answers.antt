-- One handle more is open.
use Rattle.hot_c.proofs.Common.{◌≡◌, ◌+◌, ◌<◌, ◌∙◌, None, Some, All, ap, sym, subst, length, drop, arith, drop-set-lt, length-set, into_iter_items}
use Rattle.hot_c.specs.declared.handle.IndexHandle.{IndexHandle}
use Rattle.hot_c.proofs.opening.Places.{alike, all_after, first_after, one_less, same_image}
use Rattle.hot_c.proofs.opening.open_handles.Goals as goal

pub open-requires : goal.open-requires
open-requires c =
    let at = c.loop-opened in
    let shorter = ap length c.in-Some.ensures.steps.0 in
    first_after (λ (h : IndexHandle). h.cell.opened ≡ None) at.place at.handles c.index-handles-place.result (omega (arith, shorter, at.invariant.count)) at.invariant.closed

pub loop-opened-preserved : goal.loop-opened-preserved
loop-opened-preserved c =
    let at = c.loop-opened in
    let steps = c.in-Some.ensures.steps.0 in
    let less = c.in-Some.ensures.steps.1 in
    let shorter = ap length steps in
    let long = at.invariant.long in
    let count = at.invariant.count in
    let opened = c.open.new.self in
    let inside : at.place < length at.handles = omega (arith, shorter, count) in
    let kept = length-set at.handles at.place opened in
    record {
      long = omega (arith, long, less, shorter);
      count = omega (arith, count, shorter, kept);
      left = sym (one_less at.place c.args.passes.items ∙ ap (drop 1) (sym at.invariant.left ∙ steps));
      done = alike (λ (h : IndexHandle). h.cell.opened) (λ b. Some b.value) at.place at.handles c.args.passes.items opened c.in-Some.opened (into_iter_items c.next.new.self) inside
          (sym at.invariant.left ∙ steps) c.open.ensures.opened at.invariant.done;
      closed = subst (All (λ (h : IndexHandle). h.cell.opened ≡ None)) (sym (drop-set-lt (at.place + 1) at.handles at.place opened (omega arith)))
          (all_after (λ (h : IndexHandle). h.cell.opened ≡ None) at.place at.handles at.invariant.closed);
      places = same_image (λ (h : IndexHandle). h.place) at.place at.handles opened c.index-handles-place.result inside c.open.ensures.place ∙ at.invariant.places;
    }
