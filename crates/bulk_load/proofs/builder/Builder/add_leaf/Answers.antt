-- The leaf stands beside the piece at the top.
use Rattle.bulk_load.proofs.Common.{◌≡◌, inl, inr, ◌+◌, ◌≤◌, ◌∷◌, ◌++◌, [], Some, length, map, ap, sym, subst, ◌∙◌, arith, rules, length-append, length-set, with_items_is, places, map-append, All-nil, All-push, All-from_recursion, All, Leaf, item, IsParted, leaf, fork, a_leaf, set}
use Rattle.bulk_load.specs.declared.builder.StackedPiece.{StackedPiece}
use Rattle.bulk_load.specs.Loading.{IsOfLeaves, IsStackOf, greatest_key}
use Rattle.bulk_load.specs.Tips.{tip}
use Rattle.bulk_load.specs.Stacks.{left_piece, whole_of}
use Rattle.bulk_load.specs.Tables.{AreCursors, IsPut, HoldsTree}
use Rattle.bulk_load.proofs.Tables.{cursors_moved}
use Rattle.bulk_load.proofs.Stacks.{last_joined}
use Rattle.bulk_load.proofs.builder.Pushing.{local_grown, built_grown, holds_grown, taken_grown, tips_grown, content_grown, holds_first, no_node, nodes_grown, low_grown}
use Rattle.bulk_load.proofs.builder.Builder.add_leaf.Goals as goal

pub returns-clause-taken : goal.returns-clause-taken
returns-clause-taken c = λ xs nodes m.
    let pieces : length c.push_reserved-2.new.self.items ≡ length c.args.self.now.pieces.items + 1 = omega (arith, c.push_reserved-2.ensures.len, c.push_reserved-2.new.self.ok.0, c.args.self.now.pieces.ok.0) in
    let tips : length c.push_reserved.new.self.items ≡ length c.args.self.now.tips.items + 1 = omega (arith, c.push_reserved.ensures.len, c.push_reserved.new.self.ok.0, c.args.self.now.tips.ok.0) in
    let l = c.args.self.now in let n = c.args.leaf in let k = c.args.key.now in let v = c.args.value in let p = c.args.fork in let new = c.put_leaf.new.words in
    let put : IsPut l.layout l.words.items new (a_leaf n) = subst (λ old. IsPut l.layout old new (a_leaf n)) c.as_mut_slice.ensures.value c.put_leaf.ensures.put in
    let items = sym (with_items_is l.words new (search (rules, places))) in
    elim m [
      | inl e ↦ (let stack : IsStackOf _ (xs ++ item n k v ∷ []) = record {
        levels = [];
        top = leaf n k v;
        tree = record {
          table = subst (λ ws. HoldsTree l.layout ws (Some (leaf n k v))) items
              (holds_first l n v k new e.0.table c.put_leaf.ensures.fits c.requires.leaf c.requires.room put c.put_leaf.ensures.fields);
          ordered = c.put_leaf.ensures.fits.key;
          built = tt;
          tips_are = c.push_reserved.ensures.items ∙ (ap (λ ss. ss ++ tip p (Leaf n) ∷ []) e.0.no_tips ∙ ap (λ q. tip q (Leaf n) ∷ []) e.1);
          taken = λ i h. absurd (no_node n i h);
        };
        pieces = record {
          counts_are = ap (map (λ (piece : StackedPiece). piece.count)) (c.push_reserved-2.ensures.items ∙ ap (λ ps. ps ++ record { count = 1; height = 0 } ∷ []) e.0.no_pieces);
          few = All-from_recursion (λ n. n ≤ 32) (1 ∷ []) (omega arith, tt);
        };
        content = ap (λ ys. ys ++ item n k v ∷ []) (sym e.0.none);
        last = c.copy-self.ensures.same;
        room = nodes_grown l.nodes l.layout.nodes (length l.pieces.items) (length l.tips.items) (length c.push_reserved-2.new.self.items) (length c.push_reserved.new.self.items)
            pieces tips nodes;
        few = omega (arith, e.0.no_nodes, ap length e.0.no_tips, tips, length-append xs (item n k v ∷ []));
        low = λ z. subst (All IsOfLeaves) (sym c.push_reserved-2.ensures.items) (low_grown l.pieces.items (subst (All IsOfLeaves) (sym e.0.no_pieces) (All-nil IsOfLeaves)));
        bare = λ h. e.0.no_nodes;
      } in record { stack = stack; alone = λ q. tt })
      | inr s ↦ (let ls = s.0.stack.levels in let top = s.0.stack.top in let t = s.0.stack.tree in
          let parted : IsParted p (greatest_key top) k = subst (λ key. IsParted p key k) (s.0.stack.last ∙ last_joined ls top) s.1 in
          let stack : IsStackOf _ (xs ++ item n k v ∷ []) = record {
            levels = left_piece top p ∷ ls;
            top = leaf n k v;
            tree = record {
              table = subst (λ ws. HoldsTree l.layout ws (Some (whole_of ls (fork p top (leaf n k v))))) items
                  (holds_grown l ls top p n v k new t s.0.above s.0.low parted c.put_leaf.ensures.fits c.requires.leaf c.requires.free c.requires.room put c.put_leaf.ensures.fields);
              ordered = local_grown l ls top p n v k new t s.0.above s.0.low parted c.put_leaf.ensures.fits c.requires.leaf c.requires.free c.requires.room put c.put_leaf.ensures.fields;
              built = built_grown l ls top p n v k new t s.0.above s.0.low parted c.put_leaf.ensures.fits c.requires.leaf c.requires.free c.requires.room put c.put_leaf.ensures.fields;
              tips_are = c.push_reserved.ensures.items ∙
                  tips_grown l ls top p n v k new t s.0.above s.0.low parted c.put_leaf.ensures.fits c.requires.leaf c.requires.free c.requires.room put c.put_leaf.ensures.fields;
              taken = taken_grown l ls top p n v k new t s.0.above s.0.low parted c.put_leaf.ensures.fits c.requires.leaf c.requires.free c.requires.room put c.put_leaf.ensures.fields;
            };
            pieces = record {
              counts_are = ap (map (λ (piece : StackedPiece). piece.count)) c.push_reserved-2.ensures.items ∙
                  (map-append (λ (piece : StackedPiece). piece.count) l.pieces.items (record { count = 1; height = 0 } ∷ []) ∙ ap (λ ns. ns ++ 1 ∷ []) s.0.stack.pieces.counts_are);
              few = All-push (λ n. n ≤ 32) _ 1 s.0.stack.pieces.few (omega arith);
            };
            content = content_grown l ls top p n v k new t s.0.above s.0.low parted c.put_leaf.ensures.fits c.requires.leaf c.requires.free c.requires.room put c.put_leaf.ensures.fields ∙
                ap (λ ys. ys ++ item n k v ∷ []) s.0.stack.content;
            last = c.copy-self.ensures.same ∙ sym (last_joined ls (fork p top (leaf n k v)));
            room = nodes_grown l.nodes l.layout.nodes (length l.pieces.items) (length l.tips.items) (length c.push_reserved-2.new.self.items) (length c.push_reserved.new.self.items)
                pieces tips nodes;
            few = omega (arith, s.0.stack.few, tips, length-append xs (item n k v ∷ []));
            low = λ z. subst (All IsOfLeaves) (sym c.push_reserved-2.ensures.items) (low_grown l.pieces.items (s.0.stack.low z));
            bare = λ h. s.0.stack.bare (omega (arith, h, length-append xs (item n k v ∷ [])));
          } in record { stack = stack; alone = λ q. tt })
    ]

pub returns-clause-cursors : goal.returns-clause-cursors
returns-clause-cursors c = λ has next.
    let l = c.args.self.now in let n = c.args.leaf in let new = c.put_leaf.new.words in
    let put : IsPut l.layout l.words.items new (a_leaf n) = subst (λ old. IsPut l.layout old new (a_leaf n)) c.as_mut_slice.ensures.value c.put_leaf.ensures.put in (
      length-set l.leaves c.class_number.result (n + 1) ∙ has.0,
      subst (λ ws. AreCursors l.layout ws (set l.leaves c.class_number.result (n + 1))) (sym (with_items_is l.words new (search (rules, places))))
          (subst (λ k. AreCursors l.layout new (set l.leaves k (n + 1))) (sym c.class_number.ensures.class) (cursors_moved l.layout l.words.items new l.leaves n has.1 has.0 c.requires.leaf next put)),
    )
