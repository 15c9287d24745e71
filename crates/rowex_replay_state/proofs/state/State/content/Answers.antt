-- The items are those of the newest version.
use Rattle.rowex_replay_state.proofs.Common.{sym, ◌∙◌, ap, map, take_all}
use Rattle.rowex_replay_state.specs.declared.linked.Item.{Item}
use Rattle.rowex_replay_state.proofs.state.Opening.{content_is}
use Rattle.rowex_replay_state.proofs.state.State.content.Goals as goal

pub returns : goal.returns
returns c = rw (sym c.self.view_is) (λ c' h.
    c.loop-item.invariant ∙ ap (map (λ (x : Item). (x.key, x.value))) (take_all c.loop-item.item-index c.deref-item-items.result.now c.loop-item-test.false ∙ c.deref-item-items.ensures.value) ∙ content_is _ c' h)
