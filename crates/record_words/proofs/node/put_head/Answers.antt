-- The parts of a head give its words.
use Rattle.std.proofs.Common.{◌∙◌, ◌++◌, ap, drop}
use Rattle.record_words.proofs.Written.{head_put}
use Rattle.record_words.proofs.node.put_head.Goals as goal

pub returns : goal.returns
returns c =
    c.put_parts.ensures
    ∙ ap (λ front. front ++ drop 25 c.args.words.now)
    (head_put c.args.head.now c.count.result c.height.result c.columns.result.now c.padded_rows.result.now c.count.ensures.count c.height.ensures c.columns.ensures c.padded_rows.ensures)
