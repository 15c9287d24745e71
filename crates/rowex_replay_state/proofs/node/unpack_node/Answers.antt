-- The numbers and the entries that were read are those of a node with these words, if there is one.
use Rattle.rowex_replay_state.proofs.Common.{◌≡◌, ◌∙◌, List, ℕ, get_or, get_or-take, lit<, refl, sym, take, IsNode, InNodesOf}
use Rattle.rowex_replay_state.proofs.node.Heads.{AreReadOf, read_of}
use Rattle.rowex_replay_state.proofs.node.Nodes.{entries_unread, no_node, node_read, other_node}
use Rattle.rowex_replay_state.proofs.node.unpack_node.Goals as goal
use Rattle.rowex_replay_state.proofs.node.unpack_node.Goals.{After-read_rows-rows}

pub returns-in_err-entries : goal.returns-in_err-entries
returns-in_err-entries c = entries_unread _ _ c.args.words.now c.in_err-entries.ensures c.from_residual.ensures.0

read : (c : After-read_rows-rows) → InNodesOf (take 25 c.args.words.now) (AreReadOf c.read_numbers-numbers.result.count c.read_numbers-numbers.result.height c.read_columns-columns.result.items c.read_rows-rows.result)
read c = read_of (take 25 c.args.words.now) c.read_numbers-numbers.result c.read_columns-columns.result.items c.read_rows-rows.result
    (λ node lawful same. c.read_numbers-numbers.ensures.node node lawful (same ∙ get_or-take 25 c.args.words.now 0 0 (lit< tt))) c.read_columns-columns.ensures c.read_rows-rows.ensures

pub returns-then-are_same : goal.returns-then-are_same
returns-then-are_same c =
    let numbers = c.read_numbers-numbers.result in
    node_read numbers.count numbers.height c.read_columns-columns.result.items c.read_rows-rows.result c.in_ok-entries.entries c.args.words.now (read (goal.at.returns-then-are_same c).After-read_rows-rows) c.in_ok-entries.ensures c.in-Some.node
    (rw (c.as_slice.ensures.value, c.as_slice-2.ensures.value) at c.in-Some.ensures.node) c.pack_node.ensures.fits (sym c.pack_node.ensures.words ∙ c.are_same.ensures.0 c.if-are_same.true)

pub returns-else-are_same : goal.returns-else-are_same
returns-else-are_same c =
    let numbers = c.read_numbers-numbers.result in
    other_node numbers.count numbers.height c.read_columns-columns.result.items c.read_rows-rows.result c.in_ok-entries.entries c.args.words.now (read (goal.at.returns-else-are_same c).After-read_rows-rows) c.in_ok-entries.ensures c.in-Some.node
    (rw (c.as_slice.ensures.value, c.as_slice-2.ensures.value) at c.in-Some.ensures.node) (λ same. absurd (cc (c.are_same.ensures.1 (c.pack_node.ensures.words ∙ same))))

pub returns-in-None : goal.returns-in-None
returns-in-None c =
    let numbers = c.read_numbers-numbers.result in
    no_node numbers.count numbers.height c.read_columns-columns.result.items c.read_rows-rows.result c.in_ok-entries.entries c.args.words.now (read (goal.at.returns-in-None c).After-read_rows-rows) c.in_ok-entries.ensures
    (λ is. absurd (cc (c.in-None.ensures.some.1 (rw (c.as_slice.ensures.value, c.as_slice-2.ensures.value) is))))
