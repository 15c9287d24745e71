-- One pass more has a share.
use Rattle.hot_c.proofs.Common.{◌≡◌, ℕ, suc, ◌∷◌, [], ◌++◌, List, Box, Some, length, ap, sym, subst, arith, length-append, Global, slice_get, into_iter_items, HandleView, PassView, Owns, IsNewPass, TableView}
use Rattle.hot_c.specs.declared.opened.Opened.{Opened}
use Rattle.hot_c.proofs.opening.Places.{AreFrom, each_longer, first_of, rest_of}
use Rattle.hot_c.proofs.opening.share_index.Goals as goal

pub new-handle-requires : goal.new-handle-requires
new-handle-requires c =
    let Mine = λ (q : ℕ) (p : PassView). Owns c.in_ok-index.index.value p × IsNewPass q p in
    let pass = first_of Mine _ c.in-Some.pass _ (subst (AreFrom Mine (length c.loop-pass.shared.items)) c.in-Some.ensures.steps.0 c.loop-pass.invariant.left) in
    subst (λ (index : TableView). Owns index c.in-Some.pass) (sym c.in_ok-index-2.ensures) pass.0

pub loop-pass-preserved : goal.loop-pass-preserved
loop-pass-preserved c =
    let Index = c.in_ok-index.index.value in
    let Mine = λ (q : ℕ) (p : PassView). Owns Index p × IsNewPass q p in
    let Shared = λ (q : ℕ) (b : Box Opened Global). (b.value.handle.index ≡ Index) × IsNewPass q b.value.handle.pass × (b.value.kept.items ≡ []) in
    let at = c.loop-pass in
    let pass = c.in-Some.pass in
    let steps : into_iter_items at.pass-iterator ≡ pass ∷ into_iter_items c.next.new.self = c.in-Some.ensures.steps.0 in
    let left : AreFrom Mine (length at.shared.items) (pass ∷ into_iter_items c.next.new.self) = subst (AreFrom Mine (length at.shared.items)) steps at.invariant.left in
    let pushed : c.push.new.self.items ≡ at.shared.items ++ c.in_ok-new.field-0 ∷ [] = c.in_ok-push.ensures.items in
    let longer : suc (length at.shared.items) ≡ length c.push.new.self.items = let e = ap length pushed in grind (arith, length-append, e) in
    let shorter = ap length steps in
    let long = at.invariant.long in
    let count = at.invariant.count in
    let less = c.in-Some.ensures.steps.1 in
    record {
      long = omega arith;
      count = omega arith;
      left = subst (λ q. AreFrom Mine q (into_iter_items c.next.new.self)) longer (rest_of Mine _ pass _ left);
      each = subst (λ (l : List (Box Opened Global)). (q : ℕ) (b : Box Opened Global) → slice_get l q ≡ Some b → Shared q b) (sym pushed)
          (each_longer Shared at.shared.items c.in_ok-new.field-0 at.invariant.each
          (subst (λ (o : Opened). (o.handle.index ≡ Index) × IsNewPass (length at.shared.items) o.handle.pass × (o.kept.items ≡ [])) (sym c.in_ok-new.ensures.ok)
          (subst (λ (h : HandleView). (h.index ≡ Index) × IsNewPass (length at.shared.items) h.pass × (c.new-kept.result.items ≡ [])) (sym c.new-handle.ensures)
          (c.in_ok-index-2.ensures, (first_of Mine _ pass _ left).1, c.new-kept.ensures.items))));
    }
