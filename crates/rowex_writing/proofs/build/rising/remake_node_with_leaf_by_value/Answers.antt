-- A full node gives its two sides; another is stored anew with the leaf in it.
use Rattle.rowex_writing.proofs.Common.{◌≡◌, ◌<◌, false, true, refl, subst, length, arith, Single, Two}
use Rattle.rowex_writing.specs.build.Building.{IsMadeFrom}
use Rattle.rowex_writing.proofs.build.rising.Rising.{grown_for}
use Rattle.rowex_writing.proofs.build.remaking.Remaking.{takes_read, takes_same}
use Rattle.rowex_writing.proofs.build.Walks.{makes_as, makes_failed, makes_within}
use Rattle.rowex_writing.proofs.build.rising.remake_node_with_leaf_by_value.Goals as goal

pub cut_with_leaf-cut-requires-clause-leads : goal.cut_with_leaf-cut-requires-clause-leads
cut_with_leaf-cut-requires-clause-leads g c = let (node, takes) = c.requires.takes in (takes_read c.read_node-node.ensures node c.args.new.now takes).leads

pub cut_with_leaf-cut-requires-clause-tree : goal.cut_with_leaf-cut-requires-clause-tree
cut_with_leaf-cut-requires-clause-tree g c = let (node, takes) = c.requires.takes in (takes_read c.read_node-node.ensures node c.args.new.now takes).tree

pub returns-then-count-eq-MAX_ENTRIES-clause-made : goal.returns-then-count-eq-MAX_ENTRIES-clause-made
returns-then-count-eq-MAX_ENTRIES-clause-made g c = λ news node takes b.
    let (after, made, now) = c.in_ok-risen.ensures.made news b in
    let e = c.cut_with_leaf-cut.ensures in (
      after,
      grown_for (takes_same c.read_node-node.ensures node c.args.new.now takes) c.args.loaded.now.number c.args.new.now c.in_ok-risen.risen c.has_whole_node-stays.result news after
          (record {
            grown = Two c.cut_with_leaf-cut.result;
            shows = e.shows;
            whole = (λ t. absurd (let z : false ≡ true = t in cc), λ room. absurd (omega (arith, c.if-count-eq-MAX_ENTRIES.true, c.count.ensures.count, room)));
            keeps = c.has_whole_node-stays.ensures;
            above = e.same.0;
            low = e.low;
            made = subst (λ e. IsMadeFrom e (Two c.cut_with_leaf-cut.result) c.in_ok-risen.risen news after) c.node_entry-old.ensures made;
          }),
      now,
    )

pub add_leaf-requires-clause-leads : goal.add_leaf-requires-clause-leads
add_leaf-requires-clause-leads g c = let (node, takes) = c.requires.takes in (takes_read c.read_node-node.ensures node c.args.new.now takes).leads

pub add_leaf-requires-clause-tree : goal.add_leaf-requires-clause-tree
add_leaf-requires-clause-tree g c = let (node, takes) = c.requires.takes in (takes_read c.read_node-node.ensures node c.args.new.now takes).tree

pub returns-clause-made : goal.returns-clause-made
returns-clause-made g c = λ news node takes b.
    let (m, is, has, building) = c.in_ok-entry.ensures.made news b in
    let room : length c.read_node-node.result.entries < 32 = omega (arith, c.if-count-eq-MAX_ENTRIES.false, c.count.ensures.count, c.count.ensures.lawful.room) in (
      _,
      grown_for (takes_same c.read_node-node.ensures node c.args.new.now takes) c.args.loaded.now.number c.args.new.now _ false news _
          (record {
            grown = Single c.add_leaf.new.node;
            shows = c.add_leaf.ensures.shows;
            whole = (λ t. room, λ t. refl);
            keeps = refl;
            above = λ t. absurd (let z : false ≡ true = t in cc);
            low = c.add_leaf.ensures.low;
            made = (m, is, refl, has);
          }),
      building,
    )

pub returns-in_err-risen-clause-makes : goal.returns-in_err-risen-clause-makes
returns-in_err-risen-clause-makes g c = rw c.from_residual.ensures (makes_failed c.in_err-risen.ensures.makes)

pub returns-then-count-eq-MAX_ENTRIES-clause-makes : goal.returns-then-count-eq-MAX_ENTRIES-clause-makes
returns-then-count-eq-MAX_ENTRIES-clause-makes g c = makes_as c.in_ok-risen.ensures.makes

pub returns-in_err-entry-clause-makes : goal.returns-in_err-entry-clause-makes
returns-in_err-entry-clause-makes g c = rw c.from_residual-in_err-entry.ensures (makes_failed (makes_within c.in_err-entry.ensures.makes (omega arith) (omega arith)))

pub returns-clause-makes : goal.returns-clause-makes
returns-clause-makes g c = makes_as (makes_within c.in_ok-entry.ensures.makes (omega arith) (omega arith))
