-- What a writer's search has found, node by node of its path (in names a way).
use Rattle.std.specs.Prelude.{◌≡◌, ℕ, zero, suc, ◌+◌, ◌*◌, ◌<◌, ◌≤◌, List, [], ◌∷◌, length, slice_get, Option, Some, None}
use Rattle.key_bits.specs.Key.{IsKey}
use Rattle.key_bits.specs.declared.TheConstants.{MAX_BYTES}
use Rattle.compound_node.specs.Nodes.{HeadView, height_of}
use Rattle.compound_node.specs.declared.entries.Entry.{Entry}
use Rattle.compound_node.specs.declared.entries.Entry.TheVariants.{Leaf as LeafEntry, Node}
use Rattle.insert_cases.specs.declared.choice.PathNode.{PathNode}
use Rattle.node_tries.specs.Piece.{size}
use Rattle.record_words.specs.declared.layout.Layout.{Layout}
use Rattle.tries.specs.Keys.{Key, bit, AgreeBelow}
use Rattle.tries.specs.Place.{spot}
use Rattle.tries.specs.Tree.{Subtrie, first_position}
use Rattle.rowex_core.specs.declared.known.Known.{Known}
use Rattle.rowex_core.specs.Knowing.{IsPinnedSince}
use Rattle.version_laws.specs.Scan.{EntryStoodSince, IsRooted, IsBlank, IsPlaced, HadShapeSince, IsRead}
use Rattle.rowex_reading.specs.Seen.{Sure, shape_of}
use Rattle.rowex_reading.specs.declared.descent.Found.{Found}
use Rattle.rowex_reading.specs.declared.descent.Found.TheVariants.{Nothing, Leaf}
use Rattle.std.specs.Prelude.{◌≢◌}

-- the entry at which a search ended, which is a leaf's; none if the index was empty
abbrev pub end_of : Found → Option Entry
end_of Nothing = None
end_of (Leaf number value mismatch) = Some (LeafEntry number)

-- the value that a search found for its key, or none if the key was absent
abbrev pub value_of : Found → Option ℕ
value_of (Leaf number value None) = Some value
value_of found = None

-- What the search found at this index of its path: at 0 the root's entry, and else the entry that it took in the node before. Behind the
-- last node that is the leaf at which the search ended, or none.
abbrev pub named : (way : List PathNode) → (found : Found) → (index : ℕ) → Option Entry
named [] found index = end_of found
named (step ∷ way) found zero = Some (Node step.number step.height)
named (step ∷ way) found (suc index) = named way found index

-- The path's entry for node `number` with this head, where the search takes slot `at`. Height, first position and number of entries are
-- those of the head.
abbrev pub step_at : HeadView → (number at : ℕ) → PathNode
step_at head number at =
    record { number = number; height = head.height; first_position = first_position (shape_of head); count = size (shape_of head); slot = at }

-- The pass is sure of the root's entry in some version since this one. It was this entry, or there was none.
abbrev pub RootWas : (known : Known) → (version : ℕ) → (root : Option Entry) → Type 0
RootWas known version None = Sure known (λ past. IsBlank past version)
RootWas known version (Some entry) = Sure known (λ past. IsRooted past version entry)

-- What the pass has read of one node of its path, by loads since this version. The node stood in the tree with its height (`seen`), and had
-- these forks, at most 32 entries (`shaped`, `room`). In the slot that the key's search takes there (`at`), it had this entry, which is
-- lower than the node. `node` has the number of entries and the first fork's position.
pub record IsWayNode (layout : Layout) (known : Known) (version : ℕ) (key : Key) (node : PathNode) (entry : Entry) : Type 0 where
  pub forks : Subtrie
  pub range : node.number < layout.nodes
  pub seen : Sure known (λ past. EntryStoodSince past version (Node node.number node.height))
  pub shaped : Sure known (λ past. HadShapeSince past version node.number forks)
  pub placed : Sure known (λ past. IsPlaced past version node.number node.slot entry)
  pub at : node.slot ≡ spot key forks
  pub below : height_of entry < node.height
  pub count : node.count ≡ size forks
  pub room : size forks ≤ 32
  pub first : node.first_position ≡ first_position forks

-- the first position at which the two keys differ; none if they are the same
abbrev pub IsMismatch : (key other : Key) → (mismatch : Option ℕ) → Type 0
IsMismatch key other None = key ≡ other
IsMismatch key other (Some position) = AgreeBelow position key other × (bit key position ≢ bit other position)

-- By loads since this version, the pass has read the key and the value of the leaf at which its search ended. `mismatch` is where that key
-- and the searched one first differ. If the search found nothing, this says nothing.
abbrev pub IsFoundAt : (known : Known) → (version : ℕ) → (key : Key) → (found : Found) → Type 0
IsFoundAt known version key Nothing = Unit {0}
IsFoundAt known version key (Leaf number value mismatch) =
    (other : Key) × Sure known (λ past. IsRead past version number other value) × IsMismatch key other mismatch

-- A search for the key, a pass pinned since this version or longer, took this path, and found this at the end. The root had the first entry
-- of the path, or none (`root`). Each node was read, and its slot for the key had the next one (`nodes`). At the end stood what was found
-- (`found_at`). The path has at most as many nodes as a key has positions.
pub record IsWayOf (layout : Layout) (known : Known) (version : ℕ) (key : Key) (way : List PathNode) (found : Found) : Type 0 where
  pub is_key : IsKey key
  pub since : IsPinnedSince known version
  pub root : RootWas known version (named way found 0)
  pub nodes : (index : ℕ) (node : PathNode) → slice_get way index ≡ Some node → (entry : Entry) × (named way found (index + 1) ≡ Some entry) ×
      IsWayNode layout known version key node entry
  pub found_at : IsFoundAt known version key found
  pub depth : length way ≤ 9 * MAX_BYTES
