-- The node records are all alike, and so are the leaf records up to the end of a class.
use Rattle.std.proofs.Common.{arith, ◌-◌, ◌∙◌, subst, sym}
use Rattle.rowex_records.specs.Starts.{IsSpan}
use Rattle.rowex_records.proofs.Claims.{spaced_leaves}
use Rattle.rowex_records.proofs.claiming.RecordKind.span_from.Goals as goal

pub returns-in-Leaf-clause-span : goal.returns-in-Leaf-clause-span
returns-in-Leaf-clause-span c =
    subst (λ kind. IsSpan kind c.args.layout.now c.args.number (c.min.result - c.in-Leaf.first - c.args.number) c.leaf_size.result) (sym c.in-Leaf.is)
    (spaced_leaves c.args.layout.now c.in-Leaf.first c.in-Leaf.end c.args.number c.min.result c.leaf_size.result
    (λ q low below. c.class_end.ensures.same q low (omega (arith, c.min.ensures, below)) ∙ sym c.leaf_size.ensures.size))
