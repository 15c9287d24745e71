-- What the words of a finished load are.
use Rattle.std.specs.Prelude.{◌≡◌, ◌≢◌, ◌⊎◌, ◌<◌, ◌≤◌, ◌+◌, ◌-◌, ◌^◌, ℕ, suc, List, length, get_or, Option}
use Rattle.compound_node.specs.declared.entries.Entry.{Entry}
use Rattle.record_words.specs.declared.TheConstants.{FIRST_UNCOMMITTED, RECORD_KINDS, ROOT_WORD}
use Rattle.record_words.specs.Entry.{entry_word}
use Rattle.record_words.specs.declared.layout.Layout.{Layout}
use Rattle.record_words.specs.Layout.{uncommitted_in}
use Rattle.tries.specs.Content.{Item}
use Rattle.record_words.specs.declared.records.Rec.TheVariants.{Leaf as a_leaf, Node as a_node}
use Rattle.versions.specs.State.{IsLinked}
use Rattle.versions.specs.Told.{items_of}
use Rattle.rowex_core.specs.Events.{IsLoad, after, loaded_tree}
use Rattle.rowex_core.specs.Opening.{opening}
use Rattle.rowex_core.specs.Words.{Shows}
use Rattle.bulk_load.specs.Tables.{end_of_class, leaf_class}
use Rattle.bulk_load.specs.Views.{load_act}

-- the word isn't one of those that say how many records are uncommitted
abbrev pub IsNoCount : ℕ → Type 0
IsNoCount k = (k < FIRST_UNCOMMITTED) ⊎ (FIRST_UNCOMMITTED + RECORD_KINDS ≤ k)

-- The words are what a table may be made of, and show the core after their load (`load`, `shows`). Their tree has the leaves `taken`. At
-- least one node record is in no tree (`spare`).
pub record IsFinished (layout : Layout) (words : List ℕ) (taken : List Item) : Type 0 where
  pub load : IsLoad layout words
  pub shows : Shows (after (opening layout) 0 (load_act words)) words
  pub items : items_of (loaded_tree layout words) ≡ taken
  pub spare : (number : ℕ) × (number < layout.nodes) × ¬ IsLinked (loaded_tree layout words) (a_node number)

-- Each record that the words link is committed: fewer of its kind are uncommitted, by the words, than stand from this one on.
pub record LinksCommitted (layout : Layout) (words : List ℕ) : Type 0 where
  pub nodes : (n : ℕ) → IsLinked (loaded_tree layout words) (a_node n) → uncommitted_in words 0 < layout.nodes - n
  pub leaves : (n : ℕ) → IsLinked (loaded_tree layout words) (a_leaf n) → uncommitted_in words (suc (leaf_class layout n)) < end_of_class layout (leaf_class layout n) - n

-- From the words `old` to `new` the root's word and those of the uncommitted counts were written, and no other. The root has this entry.
pub record HasHeader (entry : Option Entry) (old new : List ℕ) : Type 0 where
  pub size : length new ≡ length old
  pub small : (i : ℕ) → get_or new i 0 < 2 ^ 64
  pub root : get_or new ROOT_WORD 0 ≡ entry_word entry
  pub others : (k : ℕ) → IsNoCount k → k ≢ ROOT_WORD → get_or new k 0 ≡ get_or old k 0
