-- The words are those of a load, with the root's entry, and with counts of what is uncommitted.
use Rattle.bulk_load.proofs.Common.{◌≡◌, ◌<◌, ℕ, Some, None, subst, arith, rules, vec_len, Layout, a_leaf, a_node, Links, get_or, sym}
use Rattle.bulk_load.specs.Finished.{IsFinished, LinksCommitted}
use Rattle.bulk_load.specs.Tables.{leaf_class}
use Rattle.bulk_load.specs.Views.{IsTakenLeaf}
use Rattle.bulk_load.proofs.Finished.{links_committed, nothing_written, tree_written}
use Rattle.bulk_load.proofs.Stacks.Joining.{none_loaded, stack_loaded}
use Rattle.bulk_load.proofs.Views.{taken_below, taken_if_linked}
use Rattle.bulk_load.proofs.builder.Builder.close_all.Goals as goal

pub returns-then-is_empty-clause-finished : goal.returns-then-is_empty-clause-finished
returns-then-is_empty-clause-finished c = λ xs w.
    let l = c.args.self.now in let none : vec_len l.pieces ≡ 0 = search rules in let e = none_loaded l xs (omega (arith, none, l.pieces.ok.0)) w in
    (nothing_written l.layout l.words.items c.put_header.new.self.words.items e.table c.put_header.ensures.put xs e.none).0

pub returns-then-is_empty-clause-committed : goal.returns-then-is_empty-clause-committed
returns-then-is_empty-clause-committed c =
    let (xs, w) = c.requires in let l = c.args.self.now in let new = c.put_header.new.self.words.items in let none : vec_len l.pieces ≡ 0 = search rules in
    let e = none_loaded l xs (omega (arith, none, l.pieces.ok.0)) w in
    links_committed l.layout new None l.nodes l.leaves (nothing_written l.layout l.words.items new e.table c.put_header.ensures.put xs e.none).1
    (λ n linked. absurd linked) (λ n linked. absurd linked) c.put_header.ensures.nodes c.put_header.ensures.leaves

pub put_header-requires-2-clause-room : goal.put_header-requires-2-clause-room
put_header-requires-2-clause-room c =
    let (xs, w) = c.requires in let l = c.args.self.now in let some : 0 < vec_len l.pieces = search rules in
    let (t, h, content, at) = c.close_tree-entry.ensures.tree xs (stack_loaded l xs (omega (arith, some, l.pieces.ok.0)) w) in
    omega (arith, h.table.blank.size)

pub returns-clause-finished : goal.returns-clause-finished
returns-clause-finished c = λ xs w.
    let l = c.args.self.now in let m = c.close_tree-entry.new.self in let new = c.put_header-2.new.self.words.items in let some : 0 < vec_len l.pieces = search rules in
    let (t, h, content, at) = c.close_tree-entry.ensures.tree xs (stack_loaded l xs (omega (arith, some, l.pieces.ok.0)) w) in
    subst (λ (y : Layout). IsFinished y new xs) c.close_tree-entry.ensures.layout
    (tree_written m.layout m.words.items new t c.close_tree-entry.result h.table h.ordered h.built at c.close_tree-entry.ensures.entry c.put_header-2.ensures.put
    xs content (m.nodes, c.close_tree-entry.ensures.spare, λ i. let low = h.taken m.nodes i in omega (arith, low))).0

pub returns-clause-committed : goal.returns-clause-committed
returns-clause-committed c =
    let (xs, w) = c.requires in let l = c.args.self.now in let m = c.close_tree-entry.new.self in let new = c.put_header-2.new.self.words.items in
    let some : 0 < vec_len l.pieces = search rules in
    let (t, h, content, at) = c.close_tree-entry.ensures.tree xs (stack_loaded l xs (omega (arith, some, l.pieces.ok.0)) w) in
    let same = c.close_tree-entry.ensures.layout in
    let leaf_is : (n : ℕ) → Links t (a_leaf n) → IsTakenLeaf xs n = λ n linked. subst (λ ys. IsTakenLeaf ys n) content (taken_if_linked t n linked) in
    let tree = (tree_written m.layout m.words.items new t c.close_tree-entry.result h.table h.ordered h.built at c.close_tree-entry.ensures.entry c.put_header-2.ensures.put
    xs content (m.nodes, c.close_tree-entry.ensures.spare, λ i. let low = h.taken m.nodes i in omega (arith, low))).1 in
    subst (λ (y : Layout). LinksCommitted y new) same
    (links_committed m.layout new (Some t) m.nodes l.leaves tree
    (λ n linked. ((h.table.records (a_node n) linked).0, h.taken n linked))
    (λ n linked. let low = (h.table.records (a_leaf n) linked).0 in
    (low, subst (λ (y : Layout). n < get_or l.leaves (leaf_class y n) 0) (sym same) ((taken_below l xs w n (subst (λ (y : Layout). n < y.leaves) same low)).0 (leaf_is n linked))))
    c.put_header-2.ensures.nodes c.put_header-2.ensures.leaves)
