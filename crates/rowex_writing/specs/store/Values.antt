-- The value that a found leaf has under the locks. It may be newer than the one that the search found.
use Rattle.std.specs.Prelude.{ℕ, None, ◌≡◌, Some, ◌<◌, length, Option}
use Rattle.rowex_reading.specs.declared.descent.Found.TheVariants.{Leaf}
use Rattle.rowex_reading.specs.declared.descent.Found.{Found}
use Rattle.finite_map.specs.declared.Call.{Call}
use Rattle.rowex_writing.specs.plan.Asking.{aim_of}
use Rattle.rowex_writing.specs.declared.plan.Aim.{Aim}
use Rattle.rowex_reading.specs.Ways.{value_of}
use Rattle.finite_map.specs.Fronts.{map_of}
use Rattle.finite_map.specs.Maps.{value_at}
use Rattle.tries.specs.Keys.{Key}
use Rattle.rowex_core.specs.declared.known.Known.{Known}
use Rattle.rowex_reading.specs.Lookups.{HasFound}
use Rattle.rowex_table.specs.Made.{IsLater}
use Rattle.publish_laws.specs.Stages.{HasLoaded}
use Rattle.record_words.specs.declared.layout.Layout.{Layout}
use Rattle.rowex_writing.specs.locks.Jobs.{IsJobFrom}
use Rattle.rowex_writing.specs.declared.plan.job.Job.{Job}
use Rattle.finite_map.specs.declared.Change.{Change}
use Rattle.rowex_writing.specs.build.Changes.{HasChanged, IsDeedChange}
use Rattle.rowex_writing.specs.declared.plan.Deed.{Deed}

-- What a search found, with `now` as the value of the leaf that has the key. An end without a leaf, or at a leaf with another key, stays
-- the same.
abbrev pub revalued : (found : Found) → (now : ℕ) → Found
revalued (Leaf number value None) now = Leaf number now None
revalued found now = found

-- Under its locks the pass has found what its search found, but for the value of a leaf with the key, which may be newer. If the call had
-- an aim by the old value, it has that aim by the new one, too.
pub record IsFoundAgain (call : Call) (found now : Found) : Type 0 where
  pub value : ℕ
  pub is : now ≡ revalued found value
  pub aims : (aim : Aim) → aim_of call (value_of found) ≡ Some aim → aim_of call (value_of now) ≡ Some aim

-- if the search found the key, the key has the value found, in the map after the changes that the pass has seen
abbrev pub HoldsFound : (known : Known) → (key : Key) → (found : Found) → Type 0
HoldsFound known key found = (number value : ℕ) → found ≡ Leaf number value None → value_at (map_of known.front) key ≡ Some value

-- Under its locks the pass has found a value of the key by which the call has nothing to change. The key had that value in a version since
-- the pass's last load of the root. The pass has newly seen only changes of others.
pub record HasFoundOther (old new : Known) (call : Call) (key : Key) (now : Found) : Type 0 where
  pub later : IsLater old new
  pub value : ℕ
  pub is : value_of now ≡ Some value
  pub held : HasFound new key (Some value)
  pub aimless : aim_of call (Some value) ≡ None

-- If the search found a leaf with the key, the pass has loaded the value in `found` from that leaf. It has since neither locked, unlocked,
-- published nor marked.
abbrev pub HasLoadedFound : Known → Found → Type 0
HasLoadedFound known found = (number value : ℕ) → found ≡ Leaf number value None → HasLoaded known number value

-- the pass has seen a change that was made after the job's search loaded the root; `old` is what it knew after that search
abbrev pub HasMoved : (layout : Layout) → (job : Job) → (old new : Known) → Type 0
HasMoved layout job old new = (version : ℕ) → IsJobFrom layout old version job → version < length new.front

-- the pass has made the change that the deed asks for: the key has this value now, or is absent after a removal
abbrev pub HasDoneDeed : (old new : Known) → (deed : Deed) → (key : Key) → (value : ℕ) → (found : Found) → Type 0
HasDoneDeed old new deed key value found =
    (change : Change) × (was : Option ℕ) × IsDeedChange old.pass deed key value found change was × HasChanged old new change was
