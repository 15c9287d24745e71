-- What calls through a handle of a program in C do and tell.
use Rattle.std.specs.Prelude.{◌≡◌, ◌⊎◌, ◌+◌, ◌++◌, ◌∷◌, [], ℕ, ◌≤◌, List, length, map, reverse, All, slice_get, Option, Some, None, IsSome, Result, Ok, Err, MatchResult}
use Rattle.key_bits.specs.declared.TheConstants.{MAX_BYTES}
use Rattle.finite_map.specs.declared.Call.{Call}
use Rattle.finite_map.specs.declared.Call.TheVariants.{Add, Exchange, Get, Insert, Remove, RemoveIf, Upsert}
use Rattle.finite_map.specs.declared.Reply.{Reply}
use Rattle.record_words.specs.Limits.{IsPassCount, IsStockPassCount, IsNodeCount, IsLeafCount, IsRecordCount}
use Rattle.record_words.specs.Layout.{HasStock, leaves_of}
use Rattle.record_words.specs.declared.layout.Layout.{Layout}
use Rattle.record_words.specs.declared.layout.Stock.{Stock}
use Rattle.rowex_table.specs.Seats.{TableView}
use Rattle.hot_index_calls.specs.Answers.{IsUnnoted}
use Rattle.hot_index_calls.specs.Calls.{GetsOrCounts, HasCause, IsOutcome}
use Rattle.hot_index_calls.specs.Census.{HasCounted}
use Rattle.hot_index.specs.Handles.{HandleView, Stays}
use Rattle.hot_index_calls.specs.Passes.{PassView, IsNewPass}
use Rattle.hot_index_calls.specs.Traces.{HasCollected, untold}
use Rattle.hot_index_calls.specs.declared.census.RecordCounts.{RecordCounts}
use Rattle.hot_index_calls.specs.Refusals.{as_tried}
use Rattle.hot_index_calls.specs.declared.refusals.Refusal.{Refusal}
use Rattle.hot_index.specs.Kept.{kept_stock, with_one_kept}
use Rattle.hot_c.specs.Census.{shown_counts}
use Rattle.hot_c.specs.declared.census.HotCounts.{HotCounts}
use Rattle.hot_c.specs.Refusals.{TellsRefusal}
use Rattle.hot_c.specs.Statuses.{reply_status, value_after}
use Rattle.hot_c.specs.declared.handle.IndexHandle.{IndexHandle}
use Rattle.hot_c.specs.declared.opened.Opened.{Opened}
use Rattle.hot_c.specs.declared.status.TheConstants.{CLOSED, DONE, KEY_TOO_LONG, NO_HANDLE, NO_MEMORY}

-- the key has at most 240 bytes, as many as an index takes
abbrev pub FitsInKey : List ℕ → Type 0
FitsInKey key = length key ≤ MAX_BYTES

-- An open handle stays open, at the same index, and keeps the closed handles that it kept. `Became index old new` says what became of its
-- pass.
pub record StaysOpen (Became : TableView → PassView → PassView → Type 0) (old new : Option Opened) : Type 0 where
  pub before : Opened
  pub after : Opened
  pub was : old ≡ Some before
  pub is : new ≡ Some after
  pub stays : Stays Became before.handle after.handle
  pub keeps : after.kept.items ≡ before.kept.items

-- A call through a handle had this outcome. It was answered and noted, or refused with a cause. Its steps are those of a get, or of one try
-- of a change. If the try found no record free, all records were counted after it, and the refusal is what the counts say.
abbrev pub HasOutcome : (call : Call) (outcome : Result Reply Refusal) (index : TableView) (old new : PassView) → Type 0
HasOutcome call outcome index old new =
    IsOutcome call (as_tried outcome) index old new × HasCause call (as_tried outcome) index old new ×
    GetsOrCounts call outcome index untold (old, tt) (new, tt)

-- the call with this key in place of its own
abbrev pub for_key : (key : List ℕ) (call : Call) → Call
for_key key (Insert own value) = Insert key value
for_key key (Upsert own value) = Upsert key value
for_key key (Exchange own expected value) = Exchange key expected value
for_key key (Add own delta) = Add key delta
for_key key (Get own) = Get key
for_key key (Remove own) = Remove key
for_key key (RemoveIf own expected) = RemoveIf key expected

-- All committed records were counted, and these counts are shown. No call was noted.
abbrev pub HasCountedRecords : (shown : HotCounts) (index : TableView) (old new : PassView) → Type 0
HasCountedRecords shown index old new =
    IsUnnoted index.layout old new × (counts : RecordCounts) × HasCounted index untold (old, tt) (new, tt) counts × (shown ≡ shown_counts counts)

-- A call for a key of `size` bytes had this outcome. The status tells its reply or its refusal.
abbrev pub TellsOutcome : (size : ℕ) (call : Call) (status : ℕ) (outcome : Result Reply Refusal) (index : TableView) (old new : PassView) → Type 0
TellsOutcome size call status outcome index old new =
    HasOutcome call outcome index old new × MatchResult outcome (λ reply. status ≡ reply_status reply) (λ refusal. TellsRefusal size refusal status)

-- A call for a key through a handle, whose status tells a program in C the outcome. C's word for a value was `before` and is `after`. If
-- the handle is closed or the key too long, the status says so, and nothing has changed. Else the handle stays open, and the status tells
-- the call's outcome. The word is then the reply's value, if the reply has one, and else stays.
pub record Answers (key : List ℕ) (call : Call) (old new : Option Opened) (before after status : ℕ) : Type 0 where
  pub closed : old ≡ None → (status ≡ CLOSED) × (new ≡ old) × (after ≡ before)
  pub long : IsSome old → ¬ FitsInKey key → (status ≡ KEY_TOO_LONG) × (new ≡ old) × (after ≡ before)
  pub made : IsSome old → FitsInKey key →
      (outcome : Result Reply Refusal) × StaysOpen (TellsOutcome (length key) call status outcome) old new × (after ≡ value_after before outcome)

-- A round of collection gave back `nodes` node records and `leaves` leaf records. No call was noted.
abbrev pub HasGivenBack : (nodes leaves : ℕ) (index : TableView) (old new : PassView) → Type 0
HasGivenBack nodes leaves index old new = IsUnnoted index.layout old new × HasCollected index untold (old, tt) (new, tt) nodes leaves

-- all handles are closed
abbrev pub AreClosed : (handles : List IndexHandle) → Type 0
AreClosed handles = All (λ handle. handle.cell.opened ≡ None) handles

-- what C keeps in each of these handles: a pointer, as a number
abbrev pub places_of : List IndexHandle → List ℕ
places_of = map (λ handle. handle.place)

-- an index can have so many passes, node records and leaf records, as `create` asks for them
abbrev pub IsSize : (passes nodes leaves : ℕ) → Type 0
IsSize passes nodes leaves = IsPassCount passes × IsNodeCount nodes × IsLeafCount leaves

-- an index can have so many passes and this stock, as `create_with` asks for them
abbrev pub IsStockSize : (passes : ℕ) (stock : Stock) → Type 0
IsStockSize passes stock = IsStockPassCount passes × IsRecordCount stock.nodes × IsRecordCount (leaves_of stock)

-- The open handle is at this index, and has its pass of this number, which is new. It keeps no closed handles.
abbrev pub IsNewShare : (index : TableView) (pass : ℕ) (opened : Opened) → Type 0
IsNewShare index pass opened = (opened.handle.index ≡ index) × IsNewPass pass opened.handle.pass × (opened.kept.items ≡ [])

-- The open handles are those of one new index with so many passes, one for each pass, in the order of the passes' numbers. `HasRecords`
-- holds of its layout.
pub record AreNewHandles (passes : ℕ) (HasRecords : Layout → Type 0) (opened : List Opened) : Type 0 where
  pub index : TableView
  pub layout : (index.layout.passes ≡ passes) × HasRecords index.layout
  pub count : length opened ≡ passes
  pub each : (pass : ℕ) (share : Opened) → slice_get opened pass ≡ Some share → IsNewShare index pass share

-- The handles are open on one new index. They have its passes, in the order of their numbers. `HasRecords` holds of its layout.
abbrev pub HaveOpenedOn : (HasRecords : Layout → Type 0) (handles : List IndexHandle) → Type 0
HaveOpenedOn HasRecords handles =
    (opened : List Opened) × (map (λ handle. handle.cell.opened) handles ≡ map Some opened) × AreNewHandles (length handles) HasRecords opened

-- The layout has `nodes` node records and one more, kept for removals. It has `leaves` leaf records, which are all long.
abbrev pub HasCounts : (nodes leaves : ℕ) (layout : Layout) → Type 0
HasCounts nodes leaves layout = (layout.nodes ≡ with_one_kept nodes) × (layout.leaves ≡ leaves) × (layout.long_from ≡ 0)

-- The handles are open on one new index, which has `nodes` node records and one more, kept for removals, and `leaves` leaf records, all
-- long.
abbrev pub HaveOpened : (nodes leaves : ℕ) (handles : List IndexHandle) → Type 0
HaveOpened nodes leaves = HaveOpenedOn (HasCounts nodes leaves)

-- The handles are open on one new index with this stock, and one node record more, kept for removals.
abbrev pub HaveOpenedStock : (stock : Stock) (handles : List IndexHandle) → Type 0
HaveOpenedStock stock = HaveOpenedOn (λ layout. HasStock layout (kept_stock stock))

-- The open handle is the first of an index with so many passes. It has the last pass, and keeps closed handles with all others. The one
-- with the least number is opened next. `IsPass` holds of each pass and its number, and `HasRecords` of the layout.
pub record KeepsPasses (IsPass : TableView → ℕ → PassView → Type 0) (passes : ℕ) (HasRecords : Layout → Type 0) (opened : Opened) : Type 0 where
  pub layout : (opened.handle.index.layout.passes ≡ passes) × HasRecords opened.handle.index.layout
  pub count : length opened.kept.items + 1 ≡ passes
  pub each : (pass : ℕ) (handle : HandleView) → slice_get (reverse opened.kept.items ++ opened.handle ∷ []) pass ≡ Some handle →
      (handle.index ≡ opened.handle.index) × IsPass opened.handle.index pass handle.pass

-- The open handle is the first of a new index with so many passes. It has the last pass, and keeps closed handles with all others. All are
-- new. `HasRecords` holds of the index's layout.
abbrev pub IsKeeper : (passes : ℕ) (HasRecords : Layout → Type 0) (opened : Opened) → Type 0
IsKeeper = KeepsPasses (λ index. IsNewPass)

-- A handle was opened on a new index with so many passes, this stock, and one node record more, kept for removals. It keeps closed handles
-- with all other passes.
abbrev pub HasOpenedKeeper : (passes : ℕ) (stock : Stock) (new : Option Opened) → Type 0
HasOpenedKeeper passes stock new = (opened : Opened) × (new ≡ Some opened) × IsKeeper passes (λ layout. HasStock layout (kept_stock stock)) opened

-- the open handle is the same, and keeps the same closed handles as before
abbrev pub KeepsAll : (was now : Opened) → Type 0
KeepsAll was now = (now.handle ≡ was.handle) × (now.kept.items ≡ was.kept.items)

-- The next of the closed handles that `was` keeps was opened, and `now` keeps the others, and is otherwise as `was`. The opened one keeps
-- none.
pub record HasOpenedNext (was now opened : Opened) : Type 0 where
  pub next : was.kept.items ≡ now.kept.items ++ opened.handle ∷ []
  pub same : now.handle ≡ was.handle
  pub alone : opened.kept.items ≡ []

-- The next of the closed handles that the open handle `was` keeps was opened (`DONE`). Or `was` keeps none (`NO_HANDLE`), or memory was
-- refused (`NO_MEMORY`): then `handle` stays closed, and all else stays.
abbrev pub OpensNext : (was : Opened) (keeper handle : Option Opened) (status : ℕ) → Type 0
OpensNext was keeper handle status = (now : Opened) × (keeper ≡ Some now) ×
    (((status ≡ DONE) × (opened : Opened) × (handle ≡ Some opened) × HasOpenedNext was now opened)
    ⊎ ((status ≡ NO_HANDLE) × (handle ≡ None) × (was.kept.items ≡ []) × KeepsAll was now)
    ⊎ ((status ≡ NO_MEMORY) × (handle ≡ None) × KeepsAll was now))
