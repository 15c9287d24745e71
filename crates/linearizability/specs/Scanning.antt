-- What a scan shows of the maps of a run, configuration by configuration.
use Rattle.std.specs.Prelude.{◌≡◌, ℕ, ◌≤◌, All, Contains, IsSome, IsTrue, List, Some, true}
use Rattle.std.specs.Map.{keys_of}
use Rattle.finite_map.specs.declared.Scan.{Scan}
use Rattle.finite_map.specs.Fronts.{map_of}
use Rattle.finite_map.specs.Maps.{Map, value_at}
use Rattle.finite_map.specs.Scans.{is_within}
use Rattle.linearizability.specs.Configurations.{Configuration}

-- the map at a time of the run
abbrev pub map_at : (at : ℕ → Configuration) (time : ℕ) → Map
map_at at time = map_of (at time).core.changes

-- at some time from `since` to `until` the key has the value
abbrev pub WasHeld : (at : ℕ → Configuration) (since until : ℕ) (key : List ℕ) (value : ℕ) → Type 0
WasHeld at since until key value = (time : ℕ) × (since ≤ time) × (time ≤ until) × (value_at (map_at at time) key ≡ Some value)

-- at all times from `since` to `until` the key is in the map
abbrev pub WasThere : (at : ℕ → Configuration) (since until : ℕ) (key : List ℕ) → Type 0
WasThere at since until key = (time : ℕ) → since ≤ time → time ≤ until → IsSome (value_at (map_at at time) key)

-- What a scan from time `since` to time `until` shows. Each of its pairs was in the map at one of these times (`held`). It has each key of
-- the range that was in the map at all of them (`whole`). If the scan has more, that is said only of keys up to its last pair. `IsReached`
-- tells these by the pairs and the direction.
pub record IsScanInTime (IsReached : Map → List ℕ → Type 0) (at : ℕ → Configuration) (since until : ℕ) (from upto : List ℕ) (scan : Scan) : Type 0 where
  pub held : All (λ pair. WasHeld at since until pair.0 pair.1) scan.pairs.items
  pub whole : (key : List ℕ) → IsTrue (is_within from upto key) → (scan.more ≡ true → IsReached scan.pairs.items key) → WasThere at since until key →
      Contains (keys_of scan.pairs.items) key
