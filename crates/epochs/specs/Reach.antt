-- Records that pinned passes can reach.
use Rattle.std.specs.Prelude.{◌≡◌, ◌≢◌, ℕ, ◌≤◌, Some}
use Rattle.tries.specs.Tree.{Tree}
use Rattle.record_words.specs.declared.records.Rec.{Rec}
use Rattle.versions.specs.declared.Pin.{Pin}
use Rattle.versions.specs.State.{Stands}
use Rattle.versions.specs.Core.{Free, Held}
use Rattle.rowex_core.specs.Cores.{Core}

-- the record stood in the tree in some version since the pin of some pass, which may still read it
abbrev pub IsInReach : (core : Core) → (rec : Rec) → Type 0
IsInReach core rec =
    (pass : ℕ) × (pin : Pin) × (version : ℕ) × (tree : Tree) × (core.pins pass ≡ Some pin) × (pin.version ≤ version) × (version ≤ core.past.now) ×
    Stands core.past version rec tree

-- No record that is in reach of a pinned pass is free, or held by a pass that fills it anew. So its words stay those of a node or a leaf.
abbrev pub IsReachKept : Core → Type 0
IsReachKept core = (rec : Rec) → IsInReach core rec → (core.fate rec ≢ Free) × ((by : ℕ) → core.fate rec ≢ Held by)
