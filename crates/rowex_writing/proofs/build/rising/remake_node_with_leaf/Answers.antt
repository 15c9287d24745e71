-- A node of leaves alone with room gets the leaf in its words.
use Rattle.rowex_writing.proofs.Common.{◌≡◌, false, true, refl, arith, piece, Single, CanTakeLeaf}
use Rattle.rowex_writing.specs.build.Remaking.{subtrie_with_leaf}
use Rattle.rowex_writing.proofs.build.remaking.Remaking.{built_low, leaf_low}
use Rattle.rowex_writing.proofs.build.Walks.{makes_as, makes_failed, makes_within}
use Rattle.rowex_writing.proofs.build.rising.remake_node_with_leaf.Goals as goal

pub returns-then-can_take_leaf-clause-made : goal.returns-then-can_take_leaf-clause-made
returns-then-can_take_leaf-clause-made g c = λ news node takes b.
    let can : CanTakeLeaf node = (c.can_take_leaf.ensures node takes.is.has takes.is.spells).0 c.if-can_take_leaf.true in
    let (view, built, m, is, has, building) = c.in_ok-entry.ensures.made news node takes can b in (
      _,
      record {
        grown = Single view;
        shows = built;
        whole = (λ t. can.1, λ t. refl);
        keeps = refl;
        above = λ t. absurd (let z : false ≡ true = t in cc);
        low = built_low view (subtrie_with_leaf c.args.new.now (piece node)) node.height built (leaf_low c.args.new.now.key.now c.args.new.now.position c.args.new.now.number node takes.is.has.lawful);
        made = (m, is, refl, has);
      },
      building,
    )

pub returns-in_err-entry-clause-makes : goal.returns-in_err-entry-clause-makes
returns-in_err-entry-clause-makes g c = rw c.from_residual.ensures (makes_failed (makes_within c.in_err-entry.ensures.makes (omega arith) (omega arith)))

pub returns-then-can_take_leaf-clause-makes : goal.returns-then-can_take_leaf-clause-makes
returns-then-can_take_leaf-clause-makes g c = makes_as (makes_within c.in_ok-entry.ensures.makes (omega arith) (omega arith))
