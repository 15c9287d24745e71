-- Steps on records of a pass's own that are not in the tree: filled, made ready, given up.
use Rattle.std.specs.Prelude.{◌≡◌, ℕ, zero, suc, ◌+◌, List, [], ◌∷◌, length, map, set, get_or, All, Contains, if◌then◌else◌}
use Rattle.record_words.specs.declared.records.Rec.{Rec}
use Rattle.record_words.specs.declared.records.Rec.TheVariants.{Leaf as a_leaf}
use Rattle.versions.specs.Steps.{same_rec}
use Rattle.rowex_core.specs.declared.event.Act.{Act}
use Rattle.record_words.specs.declared.TheConstants.{FIELDS_OFFSET}
use Rattle.record_words.specs.Leaf.{leaf_words, up_to_key}
use Rattle.rowex_core.specs.declared.event.Act.TheVariants.{Fill, Ready, Release}
use Rattle.rowex_core.specs.declared.event.Event.{Event}
use Rattle.rowex_core.specs.declared.known.Holding.TheVariants.{Held, Ready as IsReady}
use Rattle.rowex_core.specs.declared.known.Known.{Known}
use Rattle.rowex_core.specs.declared.known.Owned.{Owned}
use Rattle.rowex_core.specs.Cores.{word_count_of}
use Rattle.rowex_core.specs.Knowing.{with_holding, without_record}
use Rattle.rowex_core.specs.Reading.{IsPacked}
use Rattle.rowex_table.specs.Made.{IsLater}
use Rattle.rowex_table.specs.Rights.{OwnsAs, IsClaimed}
use Rattle.rowex_table.specs.Runs.{Does, InTurn}
use Rattle.rowex_table.specs.Seats.{TableView, SeatView, IsSeatOf}
use Rattle.versions.specs.Trades.{AreApart}

-- What the pass knew before, but with its own records as they are now. Steps on its own records change nothing else.
abbrev pub owning : (old new : Known) → Known
owning old new = record old { own = new.own }

-- The pass has claimed the record, filled it with these words, and not made it ready. They are the words of a node or a leaf.
abbrev pub IsFilled : (known : Known) → (rec : Rec) → (words : List ℕ) → Type 0
IsFilled known rec words = OwnsAs known rec Held words × IsPacked rec words

-- this own record of a pass; if it is the record `rec`, its words are the given ones
abbrev pub fill_with : (rec : Rec) → (words : List ℕ) → (owned : Owned) → Owned
fill_with rec words owned = if same_rec owned.rec rec then record owned { words = words } else owned

-- the words of a record with `old` words, after the first `count` of the words `words` have been stored there
abbrev pub stored : (words : List ℕ) → (count : ℕ) → (old : List ℕ) → List ℕ
stored words zero old = old
stored words (suc count) old = set (stored words count old) count (get_or words count 0)

-- this own record of a pass; if it is the record `rec`, the first `count` of the words have been stored there
abbrev pub stored_in : (rec : Rec) → (words : List ℕ) → (count : ℕ) → (owned : Owned) → Owned
stored_in rec words count owned = if same_rec owned.rec rec then record owned { words = stored words count owned.words } else owned

-- the acts are a single store of this word, at this offset of the record
abbrev pub StoresWord : (rec : Rec) → (offset word : ℕ) → (acts : List Act) → Type 0
StoresWord rec offset word acts = acts ≡ Fill rec offset word ∷ []

-- The pass stores the first `count` of the words into its record, one after the other, from offset 1 on. The record stays claimed, and the
-- pass's other records stay the same. What followed from its knowledge before still follows (`IsLater`).
pub record SetsSome {G : Type 0} (table : TableView) (becomes : G → Event → G → Type 0) (rec : Rec) (words : List ℕ) (count : ℕ)
    (old new : SeatView × G) : Type 0 where
  pub acts : List Act
  pub in_turn : InTurn (λ index. StoresWord rec (index + FIELDS_OFFSET) (get_or words index 0)) count acts
  pub does : Does table becomes owning acts old new
  pub later : IsLater old.0.known new.0.known
  pub held : IsClaimed new.0.known rec
  pub own : new.0.known.own ≡ map (stored_in rec words count) old.0.known.own

-- Take any start from which the first `done` of the words have been stored. Then the next `count` are stored, too. The seat is still one of
-- this table, and the record stays claimed.
abbrev pub SetsMore : {G : Type 0} → (table : TableView) → (becomes : G → Event → G → Type 0) → (rec : Rec) → (words : List ℕ) →
    (done count : ℕ) → (old new : SeatView × G) → Type 0
SetsMore {G = G} table becomes rec words done count old new =
    IsSeatOf table new.0 × IsClaimed new.0.known rec ×
    ((first : SeatView × G) → SetsSome table becomes rec words done first old → SetsSome table becomes rec words (done + count) first new)

-- The pass stores all the words into its record, one after the other, from offset 1 on. They are as many as the core has of the record,
-- which has just these words then. The pass's other records stay the same. What followed from its knowledge before still follows
-- (`IsLater`).
pub record SetsAll {G : Type 0} (table : TableView) (becomes : G → Event → G → Type 0) (rec : Rec) (words : List ℕ)
    (old new : SeatView × G) : Type 0 where
  pub sized : length words ≡ word_count_of rec
  pub acts : List Act
  pub in_turn : InTurn (λ index. StoresWord rec (index + FIELDS_OFFSET) (get_or words index 0)) (word_count_of rec) acts
  pub does : Does table becomes owning acts old new
  pub later : IsLater old.0.known new.0.known
  pub own : new.0.known.own ≡ map (fill_with rec words) old.0.known.own

-- The pass has claimed the leaf record and not made it ready. The record has the words of this leaf, up to the end of its key.
abbrev pub IsFilledLeaf : (known : Known) → (number : ℕ) → (leaf : List ℕ × ℕ) → Type 0
IsFilledLeaf known number leaf = (words : List ℕ) × IsFilled known (a_leaf number) words × (leaf_words leaf ≡ up_to_key words)

-- The pass makes its record ready, by one step. The record is still its own, now as ready, and its other records stay the same.
pub record Readies {G : Type 0} (table : TableView) (becomes : G → Event → G → Type 0) (rec : Rec) (old new : SeatView × G) : Type 0 where
  pub does : Does table becomes owning (Ready rec ∷ []) old new
  pub own : new.0.known.own ≡ map (with_holding rec IsReady) old.0.known.own

-- The pass releases its record, by one step. The record is no longer its own, and its other records stay the same.
pub record GivesUp {G : Type 0} (table : TableView) (becomes : G → Event → G → Type 0) (rec : Rec) (old new : SeatView × G) : Type 0 where
  pub does : Does table becomes owning (Release rec ∷ []) old new
  pub own : new.0.known.own ≡ without_record rec old.0.known.own

-- The pass's own records are just these, each listed once, and each is claimed and not yet ready.
pub record HoldsJust (known : Known) (recs : List Rec) : Type 0 where
  pub only : All (λ owned. (owned.holding ≡ Held) × Contains recs owned.rec) known.own
  pub each : All (IsClaimed known) recs
  pub apart : AreApart recs

-- The pass releases these records, one step for each, in the order of the list. Then it has no own record.
pub record GivesUpAll {G : Type 0} (table : TableView) (becomes : G → Event → G → Type 0) (recs : List Rec) (old new : SeatView × G) : Type 0 where
  pub does : Does table becomes owning (map (λ rec. Release rec) recs) old new
  pub own : new.0.known.own ≡ []
