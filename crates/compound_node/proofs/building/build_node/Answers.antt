-- The height over the entries makes the parts a node.
use Rattle.std.proofs.Common.{ap, ◌+◌, ◌∙◌, ◌≡◌}
use Rattle.compound_node.proofs.Lawful.{built_lawful, with_leaves}
use Rattle.compound_node.specs.Nodes.{greatest_height}
use Rattle.compound_node.proofs.building.build_node.Goals as goal
use Rattle.compound_node.proofs.building.build_node.Goals.{After-height_over_entries}

height_is : (c : After-height_over_entries) → c.height_over_entries.result ≡ 1 + greatest_height c.args.entries.items
height_is c = c.height_over_entries.ensures ∙ ap (λ entries. 1 + greatest_height entries) c.as_slice.ensures.value

pub from_rows-head-requires : goal.from_rows-head-requires
from_rows-head-requires c = rw (height_is c) (with_leaves _ (built_lawful c.args.columns c.args.rows.now c.args.entries.items c.requires) _ c.requires.same)

pub of-requires : goal.of-requires
of-requires c =
    let height : c.height_over_entries.result ≡ 1 + greatest_height c.args.entries.items = c.height_over_entries.ensures ∙ ap (λ entries. 1 + greatest_height entries) c.as_slice.ensures.value in
    rw (c.from_rows-head.ensures, height) (built_lawful c.args.columns c.args.rows.now c.args.entries.items c.requires)
