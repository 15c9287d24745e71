-- What searches for one key or many promise: the steps made, and what was found.
use Rattle.std.specs.Prelude.{◌≡◌, ℕ, ◌+◌, ◌*◌, ◌<◌, ◌≤◌, List, slice_get, Option, Some, None}
use Rattle.key_bits.specs.declared.TheConstants.{MAX_BYTES}
use Rattle.tries.specs.Keys.{Key}
use Rattle.versions.specs.State.{IsHeldSince, WasAbsentSince}
use Rattle.rowex_core.specs.declared.event.Event.{Event}
use Rattle.rowex_core.specs.declared.known.Known.{Known}
use Rattle.rowex_table.specs.Seats.{TableView, SeatView}
use Rattle.rowex_reading.specs.Reads.{Looks}
use Rattle.rowex_reading.specs.Seen.{Sure, since}

-- how many words a search touches at most in each node on its path: those with its entries, while it searches the head
abbrev pub search_touches : ℕ
search_touches = 4

-- The pass has searched for a key, through `nodes` nodes: at most as many as a key has positions. It has loaded the root, at most 26 words
-- of each node, one of them an entry, and at most 32 of a leaf. It has made no other step, and has touched at most four words of each node.
pub record HasSearched {G : Type 0} (table : TableView) (becomes : G → Event → G → Type 0) (old new : SeatView × G) : Type 0 where
  pub nodes : ℕ
  pub loaded : ℕ
  pub low : nodes ≤ 9 * MAX_BYTES
  pub few : loaded ≤ 32 + 26 * nodes
  pub looks : Looks table becomes nodes loaded old new
  pub touched : new.0.touches ≤ old.0.touches + search_touches * nodes

-- What a search for the key found, as the pass can be sure. In some version since the pass's last load of the root, the key had this value,
-- or was absent.
abbrev pub HasFound : (known : Known) → (key : Key) → (held : Option ℕ) → Type 0
HasFound known key None = Sure known (λ past. WasAbsentSince past (since known) key)
HasFound known key (Some value) = Sure known (λ past. IsHeldSince past (since known) key value)

-- The pass has searched for `count` keys, and loaded the root once. The paths have `nodes` nodes together, each path at most as many as a
-- key has positions. It has loaded at most 26 words of each node, one of them an entry, and at most 32 of each leaf. It has made no other
-- step. Touches are no steps, and are bounded for each step alone (`MayTouch`).
pub record HaveSearched {G : Type 0} (table : TableView) (becomes : G → Event → G → Type 0) (count : ℕ) (old new : SeatView × G) : Type 0 where
  pub nodes : ℕ
  pub loaded : ℕ
  pub low : nodes ≤ count * (9 * MAX_BYTES)
  pub few : loaded ≤ 32 * count + 26 * nodes
  pub looks : Looks table becomes nodes loaded old new

-- What searches for the first `count` of these keys found. Each result was right in some version since the pass's last load of the root.
-- The version may be another one for each key.
abbrev pub HaveFound : (known : Known) → (count : ℕ) → (keys : List Key) → (found : List (Option ℕ)) → Type 0
HaveFound known count keys found =
    (index : ℕ) (key : Key) (held : Option ℕ) → index < count → slice_get keys index ≡ Some key → slice_get found index ≡ Some held → HasFound known key held
