-- The words with a new fork are those of the head.
use Rattle.compound_node.proofs.Common.{ap, arith, drop, false, length, subst, sym, take, ◌%◌, ◌*◌, ◌++◌, ◌+◌, ◌-◌, ◌<◌, ◌^◌, ◌∙◌, ◌≡◌, forked_rows, edited, has}
use Rattle.compound_node.proofs.Forking.Forked.{new_fits, new_rows, room_for_column, words_forked}
use Rattle.compound_node.specs.Forking.{forked_head}
use Rattle.compound_node.specs.Nodes.{FitsHead, HeadView, IsLawfulNode, leaves, node_of}
use Rattle.compound_node.proofs.heads.Head.add_fork.Goals as goal
use Rattle.compound_node.proofs.heads.Head.add_fork.Goals.{After-self-3-1}

pub ensure_column-below-requires-clause-room : goal.ensure_column-below-requires-clause-room
ensure_column-below-requires-clause-room c = subst (λ (h : HeadView). has h.columns c.args.position ≡ false → length h.columns < 31) (sym c.self.view_is)
    (room_for_column c.args.position c.args.self.now.columns c.requires.lawful.positions)

-- the head before, and after
abbrev before : (c : After-self-3-1) → HeadView
before c = record { height = c.self.inside.height; columns = c.self.inside.columns; rows = take c.self.inside.count c.self.inside.padded_rows }

abbrev after : (c : After-self-3-1) → HeadView
after c = forked_head c.args.height c.args.position c.args.first c.args.last c.args.bit (before c)

lawful : (c : After-self-3-1) → IsLawfulNode (node_of (after c) (leaves (c.self.inside.count + 1)))
lawful c = subst (λ n. IsLawfulNode (node_of (after c) (leaves (n + 1)))) c.self.invariant.counted
    (subst (λ (h : HeadView). IsLawfulNode (node_of (forked_head c.args.height c.args.position c.args.first c.args.last c.args.bit h) (leaves (length h.rows + 1)))) (sym c.self.view_is) c.requires.lawful)

words : (c : After-self-3-1) → c.fork_rows.result ≡ (after c).rows ++ drop (c.self.inside.count + 1) c.self.inside.padded_rows
words c =
    let room : length (before c).rows < 32 = subst (λ (h : HeadView). length h.rows < 32) (sym c.self.view_is) c.requires.room in
    let inside : c.args.last < length (before c).rows = subst (λ (h : HeadView). c.args.last < length h.rows) (sym c.self.view_is) c.requires.in_range in
    let counted : length (before c).rows ≡ c.self.inside.count = c.self.invariant.counted in
    words_forked c.self.inside.count (before c) c.self.inside.padded_rows c.self.invariant c.args.height c.args.position c.args.first c.args.last c.ensure_column-below.result c.args.bit c.fork_rows.result
    c.requires.range (omega (arith, inside, counted)) (omega (arith, room, counted)) c.ensure_column-below.ensures.few c.ensure_column-below.ensures.below
    (c.fork_rows.ensures
    ∙ ap (λ ws. take 32 (edited c.args.first (c.args.last + 1 - c.args.first) (forked_rows (1 * 2 ^ (31 - c.ensure_column-below.result) % 2 ^ 32) c.args.bit) ws))
    c.ensure_column-below.ensures.rows)

shown : (c : After-self-3-1) → take (c.self.inside.count + 1) c.fork_rows.result ≡ (after c).rows
shown c = new_rows c.self.inside.count (before c) c.self.inside.padded_rows c.self.invariant (after c) c.fork_rows.result (lawful c) (words c)

pub invariant_of-self : goal.invariant_of-self
invariant_of-self c =
    subst (λ cs. FitsHead (c.self.inside.count + 1) c.fork_rows.result (record { height = c.args.height; columns = cs; rows = take (c.self.inside.count + 1) c.fork_rows.result })) (sym c.ensure_column-below.ensures.columns)
    (subst (λ rs. FitsHead (c.self.inside.count + 1) c.fork_rows.result (record { height = c.args.height; columns = (after c).columns; rows = rs })) (sym (shown c))
    (new_fits c.self.inside.count (before c) c.self.inside.padded_rows c.self.invariant (after c) c.fork_rows.result (lawful c) (words c)))

pub returns : goal.returns
returns c = rw (c.ensure_column-below.ensures.columns, shown c) (ap (forked_head c.args.height c.args.position c.args.first c.args.last c.args.bit) c.self.view_is)
