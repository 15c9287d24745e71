-- What a pass may conclude of the versions that it has seen, and what loads teach it.
use Rattle.std.specs.Prelude.{◌≡◌, ◌≢◌, ℕ, ◌+◌, ◌<◌, List, length, get_or, Option, Some, None}
use Rattle.compound_node.specs.Nodes.{HeadView, IsLawfulNode, piece, node_of, leaves}
use Rattle.compound_node.specs.declared.entries.Entry.{Entry}
use Rattle.compound_node.specs.declared.entries.Entry.TheVariants.{Node}
use Rattle.node_tries.specs.Piece.{size}
use Rattle.record_words.specs.Node.{head_words}
use Rattle.record_words.specs.declared.TheConstants.{FIELDS_OFFSET}
use Rattle.tries.specs.Keys.{Key}
use Rattle.tries.specs.Tree.{Subtrie}
use Rattle.versions.specs.State.{Past}
use Rattle.record_words.specs.declared.records.Rec.{Rec}
use Rattle.rowex_core.specs.declared.known.Known.{Known}
use Rattle.rowex_core.specs.Cores.{Core, IsLawful}
use Rattle.rowex_core.specs.Knowing.{IsPinnedSince, Recalls, StoodAs, StoodBetween}
use Rattle.rowex_core.specs.Reading.{HasWordAt}
use Rattle.rowex_table.specs.Made.{IsLater}
use Rattle.version_laws.specs.Scan.{EntryStoodSince, IsRooted, IsBlank, IsRead, HadShapeSince}

-- The past as far as the pass has seen it. Its newest version is the one after the front's changes.
abbrev pub seen : Core → Known → Past
seen core known = record { now = length known.front; version = core.past.version }

-- The pass can be sure of the property. It holds in each lawful core in which the pass's front, facts and pin are true, of the past that
-- the pass has seen.
abbrev pub Sure : Known → (Past → Type 0) → Type 0
Sure known P = (core : Core) → IsLawful core → Recalls core known → P (seen core known)

-- The number of the version at the pass's last load of the root: as many as the changes that this load showed. Before the first load it is
-- 0.
abbrev pub since : Known → ℕ
since known = length known.fresh.front

-- the forks of a node with this head; its entries are not known, and leaves stand in their places
abbrev pub shape_of : HeadView → Subtrie
shape_of head = piece (node_of head (leaves (length head.rows)))

-- The pass is sure of the root's entry in some version since its last load of the root. It was this entry, or there was none.
abbrev pub RootIs : Known → Option Entry → Type 0
RootIs known None = Sure known (λ past. IsBlank past (since known))
RootIs known (Some entry) = Sure known (λ past. IsRooted past (since known) entry)

-- The pass has been pinned since its last load of the root, or longer. It is sure that in some version since that load the root had this
-- entry. So a search may begin there.
abbrev pub IsAtRoot : Known → Entry → Type 0
IsAtRoot known entry = IsPinnedSince known (since known) × Sure known (λ past. IsRooted past (since known) entry)

-- The pass has been pinned since this version, or longer. It is sure that in this version or a later one the entry's record stood in the
-- tree, with the entry's height.
abbrev pub IsLedTo : (known : Known) → (version : ℕ) → (entry : Entry) → Type 0
IsLedTo known version entry = IsPinnedSince known version × Sure known (λ past. EntryStoodSince past version entry)

-- in some version since this one the node had more than `slot` entries
abbrev pub HasMorePlaces : (past : Past) → (version number slot : ℕ) → Type 0
HasMorePlaces past version number slot = (trie : Subtrie) × HadShapeSince past version number trie × (slot < size trie)

-- the pass was led to the node since this version (`IsLedTo`), and is sure that the node has more than `slot` entries
abbrev pub HasPlace : (known : Known) → (version number height slot : ℕ) → Type 0
HasPlace known version number height slot = IsLedTo known version (Node number height) × Sure known (λ past. HasMorePlaces past version number slot)

-- The pass has read this head of the node, which has the height `its_height` and is the head of a lawful node. It is sure that in some
-- version since this one the node had the forks of the head.
pub record IsHeadSeen (known : Known) (version number its_height : ℕ) (head : HeadView) : Type 0 where
  pub height : head.height ≡ its_height
  pub lawful : IsLawfulNode (node_of head (leaves (length head.rows)))
  pub shaped : Sure known (λ past. HadShapeSince past version number (shape_of head))

-- The words encode a head that the pass has read of the node (`IsHeadSeen`), which has this height.
pub record AreHeadWords (known : Known) (version number height : ℕ) (words : List ℕ) : Type 0 where
  pub head : HeadView
  pub seen : IsHeadSeen known version number height head
  pub words_are : head_words head ≡ words

-- in some version since this one the record stood in the tree with this word at this offset
abbrev pub StoodWithWord : (past : Past) → (version : ℕ) → (rec : Rec) → (offset word : ℕ) → Type 0
StoodWithWord past version rec offset word = StoodAs past version past.now rec (λ words. HasWordAt words offset word)

-- the pass has been pinned since this version, or longer, and is sure that in some version since then the record stood in the tree
abbrev pub IsStood : (known : Known) → (version : ℕ) → (rec : Rec) → Type 0
IsStood known version rec = IsPinnedSince known version × Sure known (λ past. StoodBetween past version past.now rec)

-- From `old` to `new` the pass has loaded some words of the record, and has gone on (`IsLater`). Word number i of `words` stands at offset
-- `before` + i + 1 in the record, and was loaded if `IsLoaded` holds of i. Let the pass have been sure that the record stood in the tree in
-- some version since one. Of each loaded word it is then sure that the record had it in such a version.
pub record AreLoaded (old new : Known) (rec : Rec) (before : ℕ) (IsLoaded : ℕ → Type 0) (words : List ℕ) : Type 0 where
  pub later : IsLater old new
  pub each : (version : ℕ) → IsStood old version rec → (index : ℕ) → IsLoaded index →
      Sure new (λ past. StoodWithWord past version rec (before + index + FIELDS_OFFSET) (get_or words index 0))

-- In some version since this one the leaf had this key and this value. If `held` is none, it had another key, and some value.
abbrev pub IsCompared : (past : Past) → (version number : ℕ) → (key : Key) → (held : Option ℕ) → Type 0
IsCompared past version number key (Some value) = IsRead past version number key value
IsCompared past version number key None = (other : Key) × (value : ℕ) × IsRead past version number other value × (key ≢ other)
