-- The words of the entries follow those of the head.
use Rattle.std.proofs.Common.{◌∙◌, ◌+◌, ◌++◌, arith, ap, drop, sym, below_more, replicate}
use Rattle.record_words.proofs.Nodes.{length-node_words, node_words-entry}
use Rattle.record_words.specs.Node.{head_words}
use Rattle.record_words.proofs.Unused.{zero_in}
use Rattle.record_words.proofs.Written.{one_more, all_so_far, head_so_far, no_entry_word, entries_fit}
use Rattle.record_words.proofs.node.pack_node.Goals as goal

pub loop-slot-init : goal.loop-slot-init
loop-slot-init c =
    let node = c.args.node.now in (
      head_so_far node c.put_head.new.words (c.put_head.ensures ∙ ap (λ head. head_words head ++ drop 25 (replicate 57 0)) c.as_head.ensures),
      λ k none. absurd (omega arith),
    )

pub loop-slot-preserved : goal.loop-slot-preserved
loop-slot-preserved c =
    let node = c.args.node.now in
    let few = c.count-slot-end.ensures.lawful.room in
    let counted = c.count-slot-end.ensures.count in (
      one_more _ _ c.loop-slot.words (25 + c.loop-slot.slot) _ c.entry_word_at.result c.loop-slot.invariant.0 (omega arith) (omega arith)
          (c.entry_word_at.ensures.word ∙ sym (node_words-entry node c.loop-slot.slot (omega arith))),
      below_more _ c.loop-slot.slot c.loop-slot.invariant.1 c.entry_word_at.ensures.fits,
    )

pub returns-clause-words : goal.returns-clause-words
returns-clause-words c =
    let node = c.args.node.now in
    all_so_far _ _ c.loop-slot.words (25 + c.loop-slot.slot) c.loop-slot.invariant.0 (length-node_words node)
    (λ k past inside. no_entry_word node c.loop-slot.slot k (omega (arith, c.count-slot-end.ensures.count)) past inside ∙ sym (zero_in 57 k))

pub returns-clause-fits : goal.returns-clause-fits
returns-clause-fits c = record {
  lawful = c.count-slot-end.ensures.lawful;
  entries = entries_fit c.args.node.now.entries c.loop-slot.slot c.count-slot-end.ensures.lawful.room (omega (arith, c.count-slot-end.ensures.count)) c.loop-slot.invariant.1;
}
