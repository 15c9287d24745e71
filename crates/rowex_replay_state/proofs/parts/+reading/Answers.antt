-- Reading is exact.
use Rattle.rowex_replay_state.proofs.Common.{◌+◌, inl, inr, true, arith, ap, sym, ◌∙◌, subst, refl, length-set, IfOk-weaker, piece, Place}
use Rattle.std.specs.Vec.{with_item}
use Rattle.rowex_replay_state.specs.Parts.{IsTreeRead, ShowsPart, table_of}
use Rattle.rowex_replay_state.proofs.parts.Steps.{cut_steps, node_steps, steps}
use Rattle.rowex_replay_state.proofs.parts.Parts.{no_node}
use Rattle.rowex_replay_state.proofs.parts.Outcomes.{leaf_read, no_height, node_read, no_low, no_side, cut_read}
use Rattle.rowex_replay_state.proofs.parts.+reading.Goals as goal

pub read_cut-returns-then-from-least-clause-read : goal.read_cut-returns-then-from-least-clause-read
read_cut-returns-then-from-least-clause-read t c words are p s = no_low (table_of c.args.records) words are c.args.least c.args.cut (omega (arith, c.if-from-least.true, c.from.ensures)) p s

pub read_cut-returns-then-not-branch-clause-read : goal.read_cut-returns-then-not-branch-clause-read
read_cut-returns-then-not-branch-clause-read t c words are p s =
    no_side (table_of c.args.records) words are c.args.least c.args.cut (c.from-2.result + 1) (ap (λ z. z + 1) c.from-2.ensures)
    (inl (λ x h. subst (λ g. IsTreeRead (ShowsPart (table_of c.args.records) words (c.from-2.result + 1) x) g c.args.linked.now c.read_half.new.linked) c.if-not-branch.true (c.in_ok-read_half.ensures.read words are x h))) p s

pub read_cut-returns-then-not-branch-2-clause-read : goal.read_cut-returns-then-not-branch-2-clause-read
read_cut-returns-then-not-branch-2-clause-read t c words are p s =
    no_side (table_of c.args.records) words are c.args.least c.args.cut (c.from-3.result + 1) (ap (λ z. z + 1) c.from-3.ensures)
    (inr (λ x h. subst (λ g. IsTreeRead (ShowsPart (table_of c.args.records) words (c.from-3.result + 1) x) g c.read_half.new.linked c.read_half-2.new.linked) c.if-not-branch-2.true (c.in_ok-read_half-2.ensures.read words are x h))) p s

pub read_cut-returns-clause-read : goal.read_cut-returns-clause-read
read_cut-returns-clause-read t c words are p s =
    cut_read (table_of c.args.records) words are c.args.least c.args.cut (c.from-2.result + 1) (c.from-3.result + 1) (ap (λ z. z + 1) c.from-2.ensures) (ap (λ z. z + 1) c.from-3.ensures)
    (omega (arith, c.if-from-least.false, c.from.ensures)) c.args.linked.now c.read_half.new.linked c.read_half-2.new.linked
    (λ x h. subst (λ g. IsTreeRead (ShowsPart (table_of c.args.records) words (c.from-2.result + 1) x) g c.args.linked.now c.read_half.new.linked) c.if-not-branch.false (c.in_ok-read_half.ensures.read words are x h))
    (λ x h. subst (λ g. IsTreeRead (ShowsPart (table_of c.args.records) words (c.from-3.result + 1) x) g c.read_half.new.linked c.read_half-2.new.linked) c.if-not-branch-2.false (c.in_ok-read_half-2.ensures.read words are x h))
    c.index.result.now c.index-2.result.now c.len-zero.result c.len-one.result (omega (arith, c.len-zero.ensures, c.args.linked.now.items.ok.0)) (omega (arith, c.len-one.ensures, c.read_half.new.linked.items.ok.0))
    (omega (arith, c.len-zero.ensures, c.args.linked.now.items.ok.0, c.in_ok-read_half.ensures.grown.longer c.if-not-branch.false, c.in_ok-read_half-2.ensures.grown.longer c.if-not-branch-2.false))
    (omega (arith, c.len-one.ensures, c.read_half.new.linked.items.ok.0, c.in_ok-read_half-2.ensures.grown.longer c.if-not-branch-2.false))
    (sym c.index.ensures) (sym c.index-2.ensures) c.are_parted_keys.result c.are_parted_keys.ensures p s

pub read_entry-returns-in_default-clause-read : goal.read_entry-returns-in_default-clause-read
read_entry-returns-in_default-clause-read t c words are p is s =
    subst (λ q. ShowsPart (table_of c.args.records) words c.args.least q s → ⊥) (sym (is ∙ ap Place c.in-Node.is))
    (no_node (table_of c.args.records) words are c.args.least c.in-Node.number c.in-Node.height s c.in_default.ensures)

pub read_entry-returns-then-from-clause-read : goal.read_entry-returns-then-from-clause-read
read_entry-returns-then-from-clause-read t c words are p is s =
    subst (λ q. ShowsPart (table_of c.args.records) words c.args.least q s → ⊥) (sym (is ∙ ap Place c.in-Node.is))
    (no_height (table_of c.args.records) words are c.args.least c.in-Node.number c.in-Node.height c.in-Some.node c.cut-cut.result c.in-Some.ensures c.cut-cut.ensures
    (omega (arith, c.if-from.true, c.from.ensures, c.from-in-Node.ensures)) s)

pub read_entry-read_cut-requires : goal.read_entry-read_cut-requires
read_entry-read_cut-requires t c = (
  omega (arith, c.decreases, ap (λ e. steps (Place e)) c.in-Node.is, cut_steps c.cut-cut.result (piece c.in-Some.node) c.cut-cut.ensures, node_steps c.in-Some.node c.in-Node.number c.in-Node.height c.in-Some.ensures.has.lawful c.in-Some.ensures.height_is),
  record { all_nodes = length-set c.args.linked.now.nodes.items c.in-Node.number true ∙ c.requires.all_nodes; all_leaves = c.requires.all_leaves },
)

pub read_entry-returns-in-Leaf-clause-read : goal.read_entry-returns-in-Leaf-clause-read
read_entry-returns-in-Leaf-clause-read t c =
    IfOk-weaker c.read_leaf.result _ _
    (λ good taken words are p is. subst (λ q. IsTreeRead (ShowsPart (table_of c.args.records) words c.args.least q) good c.args.linked.now c.read_leaf.new.linked) (sym (is ∙ ap Place c.in-Leaf.is))
    (leaf_read (table_of c.args.records) words are c.args.least c.in-Leaf.number good c.args.linked.now c.read_leaf.new.linked c.requires taken))
    c.read_leaf.ensures

pub read_entry-returns-else-from-clause-read : goal.read_entry-returns-else-from-clause-read
read_entry-returns-else-from-clause-read t c =
    IfOk-weaker c.read_cut.result _ _
    (λ good read words are p is. subst (λ q. IsTreeRead (ShowsPart (table_of c.args.records) words c.args.least q) good c.args.linked.now c.read_cut.new.linked) (sym (is ∙ ap Place c.in-Node.is))
    (node_read (table_of c.args.records) words are c.args.least c.in-Node.number c.in-Node.height c.in-Some.node c.cut-cut.result c.in-Some.ensures c.cut-cut.ensures
    (omega (arith, c.if-from.false, c.from.ensures, c.from-in-Node.ensures)) good c.args.linked.now (record { items = c.args.linked.now.items; nodes = with_item c.args.linked.now.nodes c.in-Node.number true; leaves = c.args.linked.now.leaves }) c.read_cut.new.linked refl refl refl c.requires (read words are (piece c.in-Some.node) c.cut-cut.ensures)))
    c.read_cut.ensures.read
