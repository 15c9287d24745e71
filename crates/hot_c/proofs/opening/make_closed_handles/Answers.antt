-- One handle more.
use Rattle.hot_c.proofs.Common.{◌≡◌, ◌∷◌, [], ◌++◌, ◌∙◌, append_assoc, ap, subst, sym, into_iter_items, All-head, All-rest, HandleView, handle_at, Owns, TableView}
use Rattle.hot_c.proofs.opening.make_closed_handles.Goals as goal

pub new-requires : goal.new-requires
new-requires c =
    let steps : into_iter_items c.loop-pass.pass-iterator ≡ c.in-Some.pass ∷ into_iter_items c.next.new.self = c.in-Some.ensures.steps.0 in
    subst (λ (index : TableView). Owns index c.in-Some.pass) (sym c.in_ok-try_clone.ensures)
    (All-head (Owns c.args.index.now.value) c.in-Some.pass _ (rw steps at c.loop-pass.invariant.left))

pub loop-pass-preserved : goal.loop-pass-preserved
loop-pass-preserved c =
    let index = c.args.index.now.value in
    let handles = c.loop-pass.handles.items in
    let pass = c.in-Some.pass in
    let steps : into_iter_items c.loop-pass.pass-iterator ≡ pass ∷ into_iter_items c.next.new.self = c.in-Some.ensures.steps.0 in
    let made : c.new.result ≡ handle_at index pass = c.new.ensures ∙ ap (λ (i : TableView). handle_at i pass) c.in_ok-try_clone.ensures in
    let pushed : c.push.new.self.items ≡ handles ++ handle_at index pass ∷ [] =
    subst (λ (h : HandleView). c.push.new.self.items ≡ handles ++ h ∷ []) made c.in_ok-push.ensures.items in
    record {
      left = All-rest (Owns index) pass (into_iter_items c.next.new.self) (into_iter_items c.loop-pass.pass-iterator) steps c.loop-pass.invariant.left;
      made = rw (pushed, append_assoc) (rw steps at c.loop-pass.invariant.made);
    }
