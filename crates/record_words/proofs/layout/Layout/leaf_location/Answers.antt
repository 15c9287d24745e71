-- Why `leaf_location` meets its contract, class by class.
use Rattle.std.proofs.Common.{refl}
use Rattle.record_words.proofs.Runs.{class_found, short_class, medium_class, large_class, wide_class, long_class}
use Rattle.record_words.proofs.layout.Layout.leaf_location.Goals as goal

pub returns-then-word-leaf : goal.returns-then-word-leaf
returns-then-word-leaf c =
    let (here, in_table) = class_found _ _ _ _ (short_class c.args.self.now) _ _ _ _ _ refl c.requires.0 c.leaf.ensures c.if-word-leaf.true c.leaf-then-word-leaf.ensures c.locate_leaf_word.ensures in
    record { here = here; in_table = in_table }

pub returns-then-word-leaf-2 : goal.returns-then-word-leaf-2
returns-then-word-leaf-2 c =
    let (here, in_table) = class_found _ _ _ _ (medium_class c.args.self.now) _ _ _ _ _ c.leaf.ensures c.if-word-leaf.false c.leaf-else-word-leaf.ensures c.if-word-leaf-2.true c.leaf-then-word-leaf-2.ensures c.locate_leaf_word-then-word-leaf-2.ensures in
    record { here = here; in_table = in_table }

pub returns-then-word-leaf-3 : goal.returns-then-word-leaf-3
returns-then-word-leaf-3 c =
    let (here, in_table) = class_found _ _ _ _ (large_class c.args.self.now) _ _ _ _ _ c.leaf-else-word-leaf.ensures c.if-word-leaf-2.false c.leaf-else-word-leaf-2.ensures c.if-word-leaf-3.true c.leaf-then-word-leaf-3.ensures c.locate_leaf_word-then-word-leaf-3.ensures in
    record { here = here; in_table = in_table }

pub returns-then-word-leaf-4 : goal.returns-then-word-leaf-4
returns-then-word-leaf-4 c =
    let (here, in_table) = class_found _ _ _ _ (wide_class c.args.self.now) _ _ _ _ _ c.leaf-else-word-leaf-2.ensures c.if-word-leaf-3.false c.leaf-else-word-leaf-3.ensures c.if-word-leaf-4.true c.leaf-then-word-leaf-4.ensures c.locate_leaf_word-then-word-leaf-4.ensures in
    record { here = here; in_table = in_table }

pub returns-else-word-leaf-4 : goal.returns-else-word-leaf-4
returns-else-word-leaf-4 c =
    let (here, in_table) = class_found _ _ _ _ (long_class c.args.self.now) _ _ _ _ _ c.leaf-else-word-leaf-3.ensures c.if-word-leaf-4.false refl c.requires.1 c.leaf-else-word-leaf-4.ensures c.locate_leaf_word-else-word-leaf-4.ensures in
    record { here = here; in_table = in_table }
