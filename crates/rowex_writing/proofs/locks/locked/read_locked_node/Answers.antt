-- The node is that of the words.
use Rattle.std.proofs.Common.{◌≡◌, sym, subst}
use Rattle.rowex_writing.specs.locks.Going.{IsNodeOf}
use Rattle.rowex_writing.proofs.locks.Going.{words_shown}
use Rattle.rowex_writing.proofs.locks.locked.read_locked_node.Goals as goal

pub returns-clause-node : goal.returns-clause-node
returns-clause-node g c = λ words h.
    let (view, is) = c.load_locked_node_words.ensures.node in
    let same : c.read_node.result ≡ view = c.read_node.ensures.only view is.has is.spells in
    subst (IsNodeOf words) (sym same) (words_shown c.args.seat.now.known c.args.number c.load_locked_node_words.ensures.words view is words h)
