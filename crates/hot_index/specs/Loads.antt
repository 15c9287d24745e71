-- What a load of sorted pairs takes, and what stands in the index that is made of it.
use Rattle.std.specs.Prelude.{◌≡◌, ◌<◌, ℕ, zero, suc, List, [], ◌∷◌, length, map}
use Rattle.finite_map.specs.declared.Call.TheVariants.{Insert}
use Rattle.finite_map.specs.declared.Change.{Change}
use Rattle.finite_map.specs.declared.Kind.TheVariants.{Added}
use Rattle.finite_map.specs.declared.Note.{Note}
use Rattle.finite_map.specs.declared.Reply.TheVariants.{Inserted}
use Rattle.finite_map.specs.Calls.{LegalCalls}
use Rattle.finite_map.specs.Fronts.{map_of}
use Rattle.bulk_load.specs.Views.{LoadView, with_item}
use Rattle.record_words.specs.declared.layout.Layout.{Layout}
use Rattle.record_words.specs.Layout.{leaf_size}
use Rattle.record_words.specs.Leaf.{words_for}
use Rattle.tries.specs.Content.{Item, item}
use Rattle.tries.specs.Keys.{Key}
use Rattle.record_words.specs.declared.records.Rec.TheVariants.{Node as a_node}
use Rattle.versions.specs.State.{IsLinked}
use Rattle.versions.specs.Told.{added_notes}
use Rattle.hot_index.specs.KeyCounts.{IsCountOf}
use Rattle.hot_index.specs.declared.key_counts.KeyCount.{KeyCount}
use Rattle.rowex_core.specs.Events.{IsLoad, loaded_tree}
use Rattle.rowex_table.specs.Seats.{IsLoaderSeat, TableView}
use Rattle.publish_laws.specs.Lone.{HasSpare}
use Rattle.hot_index_calls.specs.Passes.{IsNewPass, PassView}

-- The load has taken this pair, behind its earlier ones, and nothing else of it has changed. The pair has the leaf record of some number.
abbrev pub HasTakenPair : (key : Key) (value : ℕ) (old new : LoadView) → Type 0
HasTakenPair key value old new = (number : ℕ) × (new ≡ with_item old (item number key value))

-- no leaf record of a table with this layout, taken or not, has room for the key
abbrev pub HasNoLeafFor : (layout : Layout) (key : Key) → Type 0
HasNoLeafFor layout key = (number : ℕ) → number < layout.leaves → leaf_size layout number < words_for (length key)

-- the count of keys is that of a pass, of whatever number, that has inserted these pairs and made no other call
abbrev pub CountsItems : (items : List Item) (count : KeyCount) → Type 0
CountsItems items count = (pass : ℕ) → IsCountOf pass (added_notes 0 items) count

-- the change by which pass 0 inserts a pair
abbrev pub inserted_pair : Key × ℕ → Change
inserted_pair pair = record { pass = 0; key = pair.0; value = pair.1; kind = Added }

-- The notes of insertions of these pairs, one after the other. Their places go up from `place` by one each.
abbrev pub pairs_noted : (place : ℕ) (pairs : List (Key × ℕ)) → List Note
pairs_noted place [] = []
pairs_noted place (pair ∷ pairs) = record { place = place; call = Insert pair.0 pair.1; reply = Inserted } ∷ pairs_noted (suc place) pairs

-- Pass 0 of an index that was made of these pairs. It has inserted each pair, in their order, and has seen nothing else. Its calls are
-- legal, and the map has just these pairs. The load of some words is its one step (`load`, `seat`). Some node record stands in no tree
-- (`out`), so that a removal finds one. In an index of one pass it stays so (`spare`).
pub record IsLoaderPass (index : TableView) (pairs : List (Key × ℕ)) (pass : PassView) : Type 0 where
  pub number : pass.number ≡ 0
  pub front : pass.front ≡ map inserted_pair pairs
  pub notes : pass.notes ≡ pairs_noted 0 pairs
  pub legal : LegalCalls pass.front pass.number pass.notes
  pub content : map_of pass.front ≡ pairs
  pub words : List ℕ
  pub load : IsLoad index.layout words
  pub seat : IsLoaderSeat index words pass.seat
  pub out : (node : ℕ) × (node < index.layout.nodes) × ¬ IsLinked (loaded_tree index.layout words) (a_node node)
  pub spare : HasSpare index.layout pass.seat

-- The pass of this number, in an index that was just made of these pairs. Pass 0 has loaded them, and any other is new.
abbrev pub IsPassOfLoad : (index : TableView) (pairs : List (Key × ℕ)) (number : ℕ) (pass : PassView) → Type 0
IsPassOfLoad index pairs zero pass = IsLoaderPass index pairs pass
IsPassOfLoad index pairs (suc lower) pass = IsNewPass (suc lower) pass
