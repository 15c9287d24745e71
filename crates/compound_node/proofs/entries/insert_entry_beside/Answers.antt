-- Behind the entries from `first` to `last`, or before them.
use Rattle.compound_node.proofs.Common.{ap, arith, sym, ◌+◌, ◌-◌, ◌∙◌, ◌≡◌, insert}
use Rattle.compound_node.proofs.Editing.{put-before, put-behind}
use Rattle.compound_node.proofs.entries.insert_entry_beside.Goals as goal
use Rattle.compound_node.proofs.entries.insert_entry_beside.Goals.{then-bit, else-bit}

pub returns : goal.returns
returns c =
    let end : c.args.first + (c.args.last + 1 - c.args.first) ≡ c.args.last + 1 = omega (arith, c.requires.range) in
    elim c.if-bit.branch [
      | then-bit w ↦ rw w.if-bit.true (c.insert.ensures.items ∙ ap (λ k. insert c.args.entries.now.items k c.args.entry) (w.slot-is ∙ sym end)
          ∙ put-behind c.args.first (c.args.last + 1 - c.args.first) c.args.entry c.args.entries.now.items)
      | else-bit w ↦ rw w.if-bit.false (c.insert.ensures.items ∙ ap (λ k. insert c.args.entries.now.items k c.args.entry) w.slot-is
          ∙ put-before c.args.first (c.args.last + 1 - c.args.first) c.args.entry c.args.entries.now.items)
    ]
