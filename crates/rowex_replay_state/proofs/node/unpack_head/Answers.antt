-- The numbers that were read are those of a head with these words, if there is one.
use Rattle.rowex_replay_state.proofs.Common.{◌≡◌, ◌∙◌, List, ℕ, refl, sym, take, HeadView, IsHead, InNodesOf}
use Rattle.rowex_replay_state.proofs.node.Heads.{AreReadOf, head_read, no_head, other_head, read_of}
use Rattle.rowex_replay_state.proofs.node.unpack_head.Goals as goal
use Rattle.rowex_replay_state.proofs.node.unpack_head.Goals.{After-read_rows-rows}

read : (c : After-read_rows-rows) → InNodesOf c.args.words.now (AreReadOf c.read_numbers-numbers.result.count c.read_numbers-numbers.result.height c.read_columns-columns.result.items c.read_rows-rows.result)
read c = read_of c.args.words.now c.read_numbers-numbers.result c.read_columns-columns.result.items c.read_rows-rows.result c.read_numbers-numbers.ensures.node c.read_columns-columns.ensures c.read_rows-rows.ensures

pub returns-then-are_same : goal.returns-then-are_same
returns-then-are_same c =
    let numbers = c.read_numbers-numbers.result in
    let is : IsHead numbers.count numbers.height c.read_columns-columns.result.items c.read_rows-rows.result = rw c.as_slice.ensures.value at (c.in-Some.ensures.some.0 refl) in
    head_read numbers.count numbers.height c.read_columns-columns.result.items c.read_rows-rows.result c.args.words.now (read (goal.at.returns-then-are_same c).After-read_rows-rows) c.in-Some.head
    (rw c.as_slice.ensures.value at c.in-Some.ensures.head) is (sym c.pack_head.ensures ∙ c.are_same.ensures.0 c.if-are_same.true)

pub returns-else-are_same : goal.returns-else-are_same
returns-else-are_same c =
    let numbers = c.read_numbers-numbers.result in
    other_head numbers.count numbers.height c.read_columns-columns.result.items c.read_rows-rows.result c.args.words.now (read (goal.at.returns-else-are_same c).After-read_rows-rows) c.in-Some.head
    (rw c.as_slice.ensures.value at c.in-Some.ensures.head) (λ same. absurd (cc (c.are_same.ensures.1 (c.pack_head.ensures ∙ same))))

pub returns-in-None : goal.returns-in-None
returns-in-None c =
    let numbers = c.read_numbers-numbers.result in
    no_head numbers.count numbers.height c.read_columns-columns.result.items c.read_rows-rows.result c.args.words.now (read (goal.at.returns-in-None c).After-read_rows-rows)
    (λ is. absurd (cc (c.in-None.ensures.some.1 (rw c.as_slice.ensures.value is))))
