-- Several searches side by side: what each knows, and which loads they make together.
use Rattle.std.specs.Prelude.{◌≡◌, ℕ, ◌+◌, ◌*◌, ◌<◌, ◌≤◌, List, slice_get, Some}
use Rattle.std.specs.List.{sum_by}
use Rattle.compound_node.specs.declared.entries.Entry.{Entry}
use Rattle.compound_node.specs.declared.entries.Entry.TheVariants.{Leaf}
use Rattle.compound_node.specs.Nodes.{height_of}
use Rattle.key_bits.specs.declared.TheConstants.{MAX_BYTES}
use Rattle.tries.specs.Keys.{Key}
use Rattle.versions.specs.State.{IsLed}
use Rattle.rowex_core.specs.declared.event.Event.{Event}
use Rattle.rowex_core.specs.declared.known.Known.{Known}
use Rattle.rowex_core.specs.Knowing.{IsPinnedSince}
use Rattle.rowex_table.specs.Seats.{SeatView, TableView}
use Rattle.rowex_reading.specs.Reads.{Reads}
use Rattle.rowex_reading.specs.Seen.{Sure, since}

-- The key's search has led the pass to this entry, by loads since the pass's last load of the root. The pass has been pinned at least as
-- long. It is sure that the search was rightly led there (`IsLed`).
pub record HasComeTo (known : Known) (key : Key) (entry : Entry) : Type 0 where
  pub pinned : IsPinnedSince known (since known)
  pub led : Sure known (λ past. IsLed past (since known) key entry)

-- each key's search has led the pass to the entry of the same index in `tips`
abbrev pub HaveComeTo : (known : Known) → (keys : List Key) → (tips : List Entry) → Type 0
HaveComeTo known keys tips =
    (index : ℕ) (key : Key) (entry : Entry) → slice_get keys index ≡ Some key → slice_get tips index ≡ Some entry → HasComeTo known key entry

-- the first `count` of these entries, as far as there are so many, are leaves
abbrev pub AreLeaves : (count : ℕ) → (tips : List Entry) → Type 0
AreLeaves count tips = (index : ℕ) (entry : Entry) → index < count → slice_get tips index ≡ Some entry → (number : ℕ) × (entry ≡ Leaf number)

-- the sum of these entries' heights; each step of a search to a lower entry makes it less
abbrev pub heights_in : List Entry → ℕ
heights_in tips = sum_by height_of tips

-- The pass makes the loads of `count` searches that begin at the root's entry, and no other step. They are at most 26 for each node on a
-- path, one of them of an entry, and 32 for each leaf.
abbrev pub ReadsForAll : {G : Type 0} → (table : TableView) → (becomes : G → Event → G → Type 0) → (count : ℕ) → (old new : SeatView × G) →
    Type 0
ReadsForAll table becomes count old new =
    (entries loads : ℕ) × (entries ≤ count * (9 * MAX_BYTES)) × (loads ≤ 32 * count + 26 * entries) × Reads table becomes entries loads old new
