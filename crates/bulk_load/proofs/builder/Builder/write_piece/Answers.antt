-- The node stands for the piece.
use Rattle.bulk_load.proofs.Common.{◌≡◌, ◌+◌, ◌-◌, ◌<◌, List, Option, Some, get_or, length, refl, ap, sym, subst, ◌∙◌, arith, rules, with_items_is, places, Node, IsBuiltFrom, Tree, subtrie, a_node, Leaf, a_leaf, node_leaf}
use Rattle.bulk_load.specs.Loading.{IsPiece}
use Rattle.bulk_load.specs.Tips.{tip}
use Rattle.bulk_load.specs.Stacks.{LeftPiece, whole_of, position_of, front_tips, with_right}
use Rattle.bulk_load.specs.Tables.{IsPut, state_in}
use Rattle.bulk_load.specs.Tables.{HoldsTree}
use Rattle.bulk_load.proofs.Stacks.Closing.{fits, taken_piece, tips_given, each_given, merged, closed, holds_closed, local_closed, all_built, taken_closed, tips_closed}
use Rattle.bulk_load.proofs.Tables.Putting.{state_stays}
use Rattle.bulk_load.proofs.builder.Builder.write_piece.Goals as goal
use Rattle.bulk_load.proofs.builder.Builder.write_piece.Goals.{After-deref}

-- where the piece begins
starts : (c : After-deref) (ls : List LeftPiece) (z : Tree) (right : Option LeftPiece) → IsPiece c.args.self.now ls z right c.args.count c.args.behind →
    c.len.result - c.args.behind - c.args.count ≡ length (front_tips ls)
starts c ls z right p = omega (arith, fits c.args.self.now ls z right c.args.count c.args.behind p, c.len.ensures, c.args.self.now.tips.ok.0)

pub build_node-node-requires-clause-each : goal.build_node-node-requires-clause-each
build_node-node-requires-clause-each c =
    let (ls, z, right, p) = c.requires.piece in
    each_given c.args.self.now ls z right c.args.count c.args.behind p _
    (taken_piece _ _ c.args.count (length (front_tips ls)) _ _ (omega arith) (starts (goal.at.build_node-node-requires-clause-each c).After-deref ls z right p) c.deref.ensures.value)

pub build_node-node-requires-clause-shown : goal.build_node-node-requires-clause-shown
build_node-node-requires-clause-shown c =
    let (ls, z, right, p) = c.requires.piece in (
      position_of ls,
      subtrie z,
      tips_given c.args.self.now ls z right c.args.count c.args.behind p _
          (taken_piece _ _ c.args.count (length (front_tips ls)) _ _ (omega arith) (starts (goal.at.build_node-node-requires-clause-shown c).After-deref ls z right p) c.deref.ensures.value),
    )

pub returns-clause-closed : goal.returns-clause-closed
returns-clause-closed c = λ ls z right p.
    let l = c.args.self.now in let v = c.build_node-node.result in let new = c.put_node.new.words in let e = Node l.nodes v.height in
    let at = starts (goal.at.returns-clause-closed c).After-deref ls z right p in
    let built : IsBuiltFrom v (subtrie z) = c.build_node-node.ensures (position_of ls) (subtrie z) (tips_given l ls z right c.args.count c.args.behind p _
    (taken_piece _ _ c.args.count (length (front_tips ls)) _ _ (omega arith) at c.deref.ensures.value)) in
    let put : IsPut l.layout l.words.items new (a_node l.nodes) = subst (λ old. IsPut l.layout old new (a_node l.nodes)) c.as_mut_slice.ensures.value c.put_node.ensures.put in
    let few = c.requires.room in
    let d = tip 0 (Leaf 0) in let ss = c.merge_tips.new.tips.items in
    let long : length ss + c.args.count ≡ length l.tips.items + 1 = omega (arith, c.merge_tips.ensures.len, c.merge_tips.new.tips.ok.0, l.tips.ok.0) in
    let merges = merged l ls z right c.args.count c.args.behind p e d ss (let two = few.0 in omega (arith, two)) long
    (λ i h. c.merge_tips.ensures.before i d (subst (λ n. i < n) (sym at) h))
    (subst (λ n. get_or ss n d ≡ tip (get_or l.tips.items n d).fork e) at
    (c.merge_tips.ensures.here d ∙ ap (λ h. tip (get_or l.tips.items (c.len.result - c.args.behind - c.args.count) d).fork (Node l.nodes h)) c.height-height.ensures))
    (λ i. subst (λ n. get_or ss (n + 1 + i) d ≡ get_or l.tips.items (n + c.args.count + i) d) at (c.merge_tips.ensures.behind i d)) in (
      closed l ls z right c.args.count c.args.behind p v new built c.put_node.ensures.fits put c.put_node.ensures.fields c.put_node.ensures.small few.2,
      record { count_is = refl; same_items = refl; same_first = refl; same_last = refl; above = λ q h. h },
      record {
        table = subst (λ ws. HoldsTree l.layout ws (Some (whole_of ls (with_right (closed l ls z right c.args.count c.args.behind p v new built c.put_node.ensures.fits put c.put_node.ensures.fields c.put_node.ensures.small few.2) right))))
            (sym (with_items_is l.words new (search (rules, places)))) (holds_closed l ls z right c.args.count c.args.behind p v new built c.put_node.ensures.fits put c.put_node.ensures.fields c.put_node.ensures.small few.2);
        ordered = local_closed l ls z right c.args.count c.args.behind p v new built c.put_node.ensures.fits put c.put_node.ensures.fields c.put_node.ensures.small few.2;
        built = all_built l ls z right c.args.count c.args.behind p v new built c.put_node.ensures.fits put c.put_node.ensures.fields c.put_node.ensures.small few.2;
        tips_are = tips_closed l ls z right c.args.count c.args.behind p v new built c.put_node.ensures.fits put c.put_node.ensures.fields c.put_node.ensures.small few.2 ss merges;
        taken = taken_closed l ls z right c.args.count c.args.behind p v new built c.put_node.ensures.fits put c.put_node.ensures.fields c.put_node.ensures.small few.2;
      },
    )

pub returns-clause-kept : goal.returns-clause-kept
returns-clause-kept c =
    let l = c.args.self.now in let new = c.put_node.new.words in
    let put : IsPut l.layout l.words.items new (a_node l.nodes) = subst (λ old. IsPut l.layout old new (a_node l.nodes)) c.as_mut_slice.ensures.value c.put_node.ensures.put in
    let few = c.requires.room in record {
      layout = refl;
      last = refl;
      cursors = refl;
      states = λ n h.
          ap (λ ws. state_in l.layout ws (a_leaf n)) (with_items_is l.words new (search (rules, places))) ∙
          state_stays l.layout l.words.items new (a_node l.nodes) (a_leaf n) put few.2 h (λ e. node_leaf (sym e));
      space = λ s. let two = few.0 in let less = s.0 in (omega (arith, less, two, c.merge_tips.ensures.len, c.merge_tips.ensures.capacity), s.1);
    }
