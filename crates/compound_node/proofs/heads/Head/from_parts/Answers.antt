-- Words that fit are those of some node.
use Rattle.compound_node.proofs.Common.{arith, refl, subst, sym, take, ◌∙◌, false≢true}
use Rattle.compound_node.proofs.Lawful.{fits_head, fits_words, head_height, some_node}
use Rattle.compound_node.specs.Nodes.{FitsHead}
use Rattle.compound_node.proofs.heads.Head.from_parts.Goals as goal
use Rattle.compound_node.proofs.heads.Head.from_parts.Goals.{After-result-1, else-height-gt0-via-then-height-gt0+else-fit_a_node, else-height-gt0-via-else-height-gt0}

fits : (c : After-result-1) → FitsHead c.args.count c.args.padded_rows.now (record { height = c.args.height; columns = c.args.columns.now; rows = take c.args.count c.args.padded_rows.now })
fits c = fits_head c.args.count c.args.height c.args.columns.now c.args.padded_rows.now c.if-height-gt0.true (omega (arith, c.ranges.height.fits)) c.told-padded_rows c.fits-padded_rows (c.fit_a_node.ensures.0 c.if-fit_a_node.true)

pub invariant_of-result : goal.invariant_of-result
invariant_of-result c = subst (λ columns. FitsHead c.args.count c.args.padded_rows.now (record { height = c.args.height; columns = columns; rows = take c.args.count c.args.padded_rows.now })) (sym c.of.ensures) (fits c)

pub returns-then-fit_a_node-clause-some : goal.returns-then-fit_a_node-clause-some
returns-then-fit_a_node-clause-some c = (λ t. some_node c.args.count c.args.height c.args.columns.now c.args.padded_rows.now (fits c), λ head. refl)

pub returns-else-height-gt0-clause-some : goal.returns-else-height-gt0-clause-some
returns-else-height-gt0-clause-some c = (
  λ t. absurd (false≢true t),
  λ head. elim c.else-height-gt0.branch [
    | else-height-gt0-via-then-height-gt0+else-fit_a_node w ↦ sym w.if-fit_a_node.false ∙ w.fit_a_node.ensures.1 (fits_words c.args.count c.args.height c.args.columns.now c.args.padded_rows.now head)
    | else-height-gt0-via-else-height-gt0 w ↦ absurd (omega (arith, w.if-height-gt0.false, head_height c.args.count c.args.height c.args.columns.now c.args.padded_rows.now head))
  ],
)
