-- The one piece that is left has one entry, once it is closed.
use Rattle.bulk_load.proofs.Common.{ℕ, ◌≤◌, [], None, IsTrue, nat_lt, ap, arith, rules, Layout}
use Rattle.bulk_load.proofs.Finished.{closed_tree, has_entry_word, lone_piece, node_left, root_tip, tips_count}
use Rattle.bulk_load.proofs.builder.Builder.close_tree.Goals as goal

pub close_piece-requires-clause-room : goal.close_piece-requires-clause-room
close_piece-requires-clause-room c = λ closes.
    let (xs, s) = c.requires in let (t, a) = c.join_all.ensures.alone xs s in let l = c.join_all.new.self in let long = tips_count l t a.tree in
    let two : 2 ≤ c.len-count.result = ltb_two c.len-count.result closes in
    let left = node_left l t xs a c.len-count.result (omega (arith, c.len-count.ensures, l.tips.ok.0)) in
    (two, omega (arith, a.few, long, c.len-count.ensures, l.tips.ok.0), omega (arith, left))
  where
    ltb_two : (n : ℕ) → IsTrue (nat_lt 1 n) → 2 ≤ n
    ltb_two n h = search rules

pub close_piece-requires-clause-piece : goal.close_piece-requires-clause-piece
close_piece-requires-clause-piece c =
    let (xs, s) = c.requires in let (t, a) = c.join_all.ensures.alone xs s in
    ([], t, None, lone_piece c.join_all.new.self t a.tree c.len-count.result (omega (arith, c.len-count.ensures, c.join_all.new.self.tips.ok.0)))

pub index-requires : goal.index-requires
index-requires c =
    let (xs, s) = c.requires in let l = c.join_all.new.self in let m = c.close_piece.new.self in let (t, a) = c.join_all.ensures.alone xs s in
    let (y, ty, content, one) = closed_tree l m t xs a c.len-count.result c.close_piece.result (omega (arith, c.len-count.ensures, l.tips.ok.0)) c.close_piece.ensures.count c.close_piece.ensures.closed in
    omega (arith, one, tips_count m y ty, m.tips.ok.0)

pub returns-clause-tree : goal.returns-clause-tree
returns-clause-tree c = λ xs s.
    let l = c.join_all.new.self in let m = c.close_piece.new.self in let (t, a) = c.join_all.ensures.alone xs s in
    let (y, ty, content, one) = closed_tree l m t xs a c.len-count.result c.close_piece.result (omega (arith, c.len-count.ensures, l.tips.ok.0)) c.close_piece.ensures.count c.close_piece.ensures.closed in
    (y, ty, content, root_tip m y ty one c.index.result.now c.index.ensures)

pub returns-clause-entry : goal.returns-clause-entry
returns-clause-entry c =
    let (xs, s) = c.requires in let l = c.join_all.new.self in let m = c.close_piece.new.self in let (t, a) = c.join_all.ensures.alone xs s in
    let (y, ty, content, one) = closed_tree l m t xs a c.len-count.result c.close_piece.result (omega (arith, c.len-count.ensures, l.tips.ok.0)) c.close_piece.ensures.count c.close_piece.ensures.closed in
    has_entry_word m.layout m.words.items y c.index.result.now.entry ty.table ty.built (root_tip m y ty one c.index.result.now c.index.ensures)

pub returns-clause-spare : goal.returns-clause-spare
returns-clause-spare c =
    let (xs, s) = c.requires in let l = c.join_all.new.self in let (t, a) = c.join_all.ensures.alone xs s in
    let left = node_left l t xs a c.len-count.result (omega (arith, c.len-count.ensures, l.tips.ok.0)) in
    let same = ap (λ (y : Layout). y.nodes) c.close_piece.ensures.kept.layout in
    omega (arith, left, same, c.close_piece.ensures.nodes)
