-- Nothing is loaded.
use Rattle.bulk_load.proofs.Common.{inl, refl, rules, a_leaf}
use Rattle.bulk_load.proofs.Tables.{first_cursors}
use Rattle.bulk_load.proofs.builder.Opening.{first_free, holds_none}
use Rattle.bulk_load.proofs.builder.Builder.new.Goals as goal

pub returns : goal.returns
returns c = (
  refl,
  (
    (refl, first_cursors c.args.layout _ (λ n low. first_free c.args.layout _ (search rules) (a_leaf n) low)),
    inl (record { none = refl; table = holds_none c.args.layout _ (search rules); no_pieces = c.new-2.ensures.items; no_tips = c.new.ensures.items; no_nodes = refl }),
  ),
)
