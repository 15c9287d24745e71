-- Records in the words of a table, and the tree that they show.
use Rattle.std.specs.Prelude.{◌≡◌, ◌⊎◌, ℕ, zero, suc, ◌+◌, ◌*◌, ◌<◌, ◌≤◌, List, length, get_or, if◌then◌else◌, nat_lt, None, Option, Some}
use Rattle.record_words.specs.declared.TheConstants.{EPOCH_WORD, ROOT_WORD, ANCHOR_WORD, FIRST_PIN, LINE_WORDS, NO_PIN}
use Rattle.record_words.specs.declared.layout.Layout.{Layout}
use Rattle.record_words.specs.declared.state.Tag.TheVariants.{Free, Live}
use Rattle.record_words.specs.Entry.{entry_word}
use Rattle.record_words.specs.Layout.{node_start, leaf_start, uncommitted_in, word_count}
use Rattle.record_words.specs.State.{state_word}
use Rattle.tries.specs.Tree.{Tree}
use Rattle.record_words.specs.declared.records.Rec.{Rec}
use Rattle.record_words.specs.declared.records.Rec.TheVariants.{Node as a_node, Leaf as a_leaf}
use Rattle.versions.specs.State.{IsLinked}
use Rattle.versions.specs.Heap.{IsShown}
use Rattle.rowex_core.specs.Cores.{heap_of, fields_in, size_of, HasRecord, FitsIn}
use Rattle.rowex_core.specs.Reading.{IsPacked}

-- the index of the first word of a record, which is that of its state
abbrev pub start_of : (layout : Layout) → (rec : Rec) → ℕ
start_of layout (a_node number) = node_start layout number
start_of layout (a_leaf number) = leaf_start layout number

-- The class of a leaf record, from 0 for the shortest to 4 for the longest. Records of one class have numbers that follow each other.
abbrev pub leaf_class : (layout : Layout) → (number : ℕ) → ℕ
leaf_class layout number =
    if nat_lt number layout.medium_from then 0 else (if nat_lt number layout.large_from then 1 else
    (if nat_lt number layout.wide_from then 2 else (if nat_lt number layout.long_from then 3 else 4)))

-- the number after the last leaf record of a class
abbrev pub end_of_class : (layout : Layout) → (class : ℕ) → ℕ
end_of_class layout zero = layout.medium_from
end_of_class layout (suc zero) = layout.large_from
end_of_class layout (suc (suc zero)) = layout.wide_from
end_of_class layout (suc (suc (suc zero))) = layout.long_from
end_of_class layout (suc (suc (suc (suc class)))) = layout.leaves

-- the state word of the record in the words of a table
abbrev pub state_in : (layout : Layout) → (table : List ℕ) → (rec : Rec) → ℕ
state_in layout table rec = get_or table (start_of layout rec) 0

-- From `old` to `new` the record was written and is live. All words outside the record are as before.
pub record IsPut (layout : Layout) (old new : List ℕ) (rec : Rec) : Type 0 where
  pub size : length new ≡ length old
  pub state : state_in layout new rec ≡ state_word Live
  pub others : (index : ℕ) → (index < start_of layout rec) ⊎ (start_of layout rec + size_of layout rec ≤ index) →
      get_or new index 0 ≡ get_or old index 0

-- The table has the words that the layout asks for, and those that belong to no record are those of a table without keys. So the root has
-- no entry yet, whatever its records show.
pub record IsRootless (layout : Layout) (table : List ℕ) : Type 0 where
  pub size : length table ≡ word_count layout
  pub epoch : get_or table EPOCH_WORD 0 ≡ 1
  pub root : get_or table ROOT_WORD 0 ≡ entry_word None
  pub anchor : get_or table ANCHOR_WORD 0 ≡ state_word Live
  pub pins : (pass : ℕ) → pass < layout.passes → get_or table (FIRST_PIN + LINE_WORDS * pass) 0 ≡ NO_PIN
  pub committed : (kind : ℕ) → uncommitted_in table kind ≡ 0

-- the words of the table show the tree, if there is one
abbrev pub WordsShow : (layout : Layout) → (table : List ℕ) → (tree : Option Tree) → Type 0
WordsShow layout table tree = (shown : Tree) → tree ≡ Some shown → IsShown (heap_of (fields_in layout table)) shown

-- Of the table's records just those of the tree are live, and all others are free. The table has each record of the tree, with room for it,
-- and their words encode nodes and leaves. The words show the tree, if there is one; but the root has no entry yet.
pub record HoldsTree (layout : Layout) (table : List ℕ) (tree : Option Tree) : Type 0 where
  pub blank : IsRootless layout table
  pub live : (rec : Rec) → IsLinked tree rec → state_in layout table rec ≡ state_word Live
  pub free : (rec : Rec) → HasRecord layout rec → ¬ (IsLinked tree rec) → state_in layout table rec ≡ state_word Free
  pub records : (rec : Rec) → IsLinked tree rec → HasRecord layout rec × IsPacked rec (fields_in layout table rec) ×
      FitsIn layout rec (fields_in layout table rec)
  pub shows : WordsShow layout table tree

-- `next` is the cursor of the class of the leaf record `number`. The records of the class below the cursor are taken, and those from it on
-- are free. As long as one is free, the cursor is the number of a record of the class.
pub record IsCursorOf (layout : Layout) (table : List ℕ) (next number : ℕ) : Type 0 where
  pub taken : state_in layout table (a_leaf number) ≡ state_word Free → next ≤ number
  pub free : next ≤ number → (state_in layout table (a_leaf number) ≡ state_word Free) × (leaf_class layout next ≡ leaf_class layout number)

-- each class of leaf records has its cursor among these
abbrev pub AreCursors : (layout : Layout) → (table cursors : List ℕ) → Type 0
AreCursors layout table cursors = (number : ℕ) → number < layout.leaves → IsCursorOf layout table (get_or cursors (leaf_class layout number) 0) number
