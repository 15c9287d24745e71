-- All ones but the low bits, as a mask.
use Rattle.compound_node.proofs.Common.{sym, ◌∙◌, eq-eqb, eqb-true}
use Rattle.compound_node.proofs.Removal.Full.{high_ones}
use Rattle.compound_node.proofs.rows.are_sparse_keys.Goals as goal

pub returns-then-is_ladder : goal.returns-then-is_ladder
returns-then-is_ladder c = (
  λ t. record { ladder = c.is_ladder.ensures.0 c.if-is_ladder.true; used = sym c.or_rows.ensures ∙ eqb-true _ _ t ∙ high_ones c.args.columns c.requires.few },
  λ keys. eq-eqb _ _ (c.or_rows.ensures ∙ keys.used ∙ sym (high_ones c.args.columns c.requires.few)),
)
