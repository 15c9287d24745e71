-- Tries to claim a record of a kind: from one number on, then from 0.
use Rattle.std.specs.Prelude.{◌≡◌, ◌≢◌, ℕ, ◌+◌, ◌-◌, ◌<◌, ◌≤◌, ◌*◌, ◌⊎◌, List, [], ◌∷◌, ◌++◌, length, map, nat_lt, All, Contains, MatchOption, Option, Some, None, if◌then◌else◌}
use Rattle.record_words.specs.declared.layout.Layout.{Layout}
use Rattle.record_words.specs.Layout.{leaf_size}
use Rattle.record_words.specs.declared.records.Rec.{Rec}
use Rattle.record_words.specs.declared.records.Rec.TheVariants.{Node as a_node, Leaf as a_leaf}
use Rattle.versions.specs.Trades.{IsOneOf}
use Rattle.rowex_core.specs.declared.event.Act.{Act}
use Rattle.rowex_core.specs.declared.event.Act.TheVariants.{Claim, LoadState}
use Rattle.rowex_core.specs.declared.event.Event.{Event}
use Rattle.rowex_core.specs.declared.known.Failed.{Failed}
use Rattle.rowex_core.specs.declared.known.FailedAct.{FailedAct}
use Rattle.rowex_core.specs.declared.known.FailedAct.TheVariants.{Claim as a_claim, Lock as a_lock, LoadState as a_load}
use Rattle.rowex_core.specs.declared.known.Holding.TheVariants.{Held}
use Rattle.rowex_core.specs.declared.known.Known.{Known}
use Rattle.rowex_core.specs.declared.known.Owned.{Owned}
use Rattle.rowex_core.specs.Cores.{word_count_of}
use Rattle.rowex_core.specs.Events.{word_of}
use Rattle.rowex_table.specs.Committed.{IsCommitted}
use Rattle.record_words.specs.Layout.{uncommitted_in}
use Rattle.rowex_table.specs.Made.{nodes_of}
use Rattle.rowex_table.specs.Runs.{Does, InTurn, Steps}
use Rattle.rowex_table.specs.Seats.{TableView, SeatView}
use Rattle.rowex_records.specs.declared.claiming.RecordKind.{RecordKind}
use Rattle.rowex_records.specs.declared.claiming.RecordKind.TheVariants.{Node, Leaf}

-- the record of the kind that has this index, counted from 0; those of a kind of leaf records begin at number `first`
abbrev pub record_of : RecordKind → (index : ℕ) → Rec
record_of (Node end) = a_node
record_of (Leaf first end) = λ index. a_leaf (first + index)

-- how many records the kind has; none of leaves if `end` isn't above `first`
abbrev pub count_of : RecordKind → Layout → ℕ
count_of (Node end) layout = end
count_of (Leaf first end) layout = end - first

-- the table has all records of this kind
abbrev pub IsKindOf : RecordKind → Layout → Type 0
IsKindOf (Node end) layout = end ≤ layout.nodes
IsKindOf (Leaf first end) layout = end ≤ layout.leaves

-- each record of the kind is committed where no more are uncommitted than these bounds say
abbrev pub AreCommitted : Layout → (bounds : List ℕ) → RecordKind → Type 0
AreCommitted layout bounds kind = (index : ℕ) → index < count_of kind layout → IsCommitted layout (uncommitted_in bounds) (record_of kind index)

-- The kind has a record of this index. Of nodes nothing is asked, since their kind begins with number 0.
abbrev pub HasIndex : RecordKind → (index : ℕ) → Type 0
HasIndex (Node end) index = Unit {0}
HasIndex (Leaf first end) index = first + index < end

-- What the pass knew before, but with its own records and its failed steps as they are now. A claim changes nothing else.
abbrev pub claiming : (old new : Known) → Known
claiming old new = record old { own = new.own; failed = new.failed }

-- where a walk over `count` numbers begins: at `from`, or at 0 if `from` is out of range
abbrev pub begin_of : (count from : ℕ) → ℕ
begin_of count from = if nat_lt from count then from else 0

-- The number that is `steps` after `from` among `count` numbers, where 0 comes after the last. It goes past the last number once at most.
abbrev pub wrapped : (count from steps : ℕ) → ℕ
wrapped count from steps = if nat_lt (from + steps) count then from + steps else from + steps - count

-- The acts of a try that finds the record not free. Either the load of its state finds it so. Or the load finds it free, and the exchange
-- after it finds that it no longer is. `word` is the state found at last, and not 0, which is free.
abbrev pub Misses : (rec : Rec) → (acts : List Act) → Type 0
Misses rec acts = (word : ℕ) × (1 ≤ word) × ((acts ≡ LoadState rec word ∷ []) ⊎ (acts ≡ LoadState rec 0 ∷ Claim rec word ∷ []))

-- Who may own a record that the pass finds not free: another pass of the index, or nobody, if the record is in the tree or retired. The
-- pass itself may own only the records in `own`. The nodes in `locked` are in the tree, and so nobody's.
abbrev pub IsAnothers : (layout : Layout) → (pass : ℕ) → (own : List Rec) → (locked : List ℕ) → (rec : Rec) → (by : Option ℕ) → Type 0
IsAnothers layout pass own locked rec None = Unit {0}
IsAnothers layout pass own locked rec (Some by) = (by < layout.passes) × (by ≡ pass → Contains own rec) × ¬ (IsOneOf rec (map a_node locked))

-- Who may own a record that a pass with this knowledge finds not free (`IsAnothers`). The pass itself may own only the records in `own`,
-- whatever it knows as its own. The nodes that it has locked are nobody's.
abbrev pub IsAnothersBut : (layout : Layout) → (known : Known) → (own : List Rec) → (rec : Rec) → (by : Option ℕ) → Type 0
IsAnothersBut layout known own = IsAnothers layout known.pass own (nodes_of known.locks)

-- the pass's own records, without their words
abbrev pub records_had : Known → List Rec
records_had known = map (λ (owned : Owned). owned.rec) known.own

-- Who may own a record that a pass with this knowledge finds not free (`IsAnothers`). The pass itself owns just the records that it knows
-- as its own. The nodes that it has locked are nobody's.
abbrev pub IsAnothersTo : (layout : Layout) → (known : Known) → (rec : Rec) → (by : Option ℕ) → Type 0
IsAnothersTo layout known = IsAnothersBut layout known (records_had known)

-- The failed act is a claim, or a load of a state, which found a record not free. `Whose` holds of the owner that it found, or of none.
abbrev pub TellsState : (Option ℕ → Type 0) → FailedAct → Type 0
TellsState Whose (a_claim by) = Whose by
TellsState Whose (a_load by) = Whose by
TellsState Whose (a_lock by) = ⊥

-- The failed step of this number found the record not free, by a claim or a load of its state. `Whose` holds of the record and of the owner
-- that it found, if there is one.
abbrev pub HasMissed : (Whose : Rec → Option ℕ → Type 0) → (failed : List Failed) → (rec : Rec) → (step : ℕ) → Type 0
HasMissed Whose failed rec step =
    (act : FailedAct) × (word : ℕ) × TellsState (Whose rec) act × (1 ≤ word) ×
    Contains failed (record { act = act; location = word_of rec 0; word = word; step = step })

-- a failed step, of number `since` or a later one, found the record not free, and `Whose` holds of what it found (`HasMissed`)
abbrev pub HasMissedSince : (Whose : Rec → Option ℕ → Type 0) → (failed : List Failed) → (rec : Rec) → (since : ℕ) → Type 0
HasMissedSince Whose failed rec since = (step : ℕ) × (since ≤ step) × HasMissed Whose failed rec step

-- The pass tries the record and finds it not free. Its own records stay. It remembers one more failed step, of this try, which tells that
-- and who may own the record.
pub record MissesOne {G : Type 0} (table : TableView) (becomes : G → Event → G → Type 0) (rec : Rec) (old new : SeatView × G) : Type 0 where
  pub acts : List Act
  pub misses : Misses rec acts
  pub does : Does table becomes claiming acts old new
  pub own : new.0.known.own ≡ old.0.known.own
  pub failed : Failed
  pub failed_is : new.0.known.failed ≡ failed ∷ old.0.known.failed
  pub tells : HasMissedSince (IsAnothersTo table.layout old.0.known) (failed ∷ []) rec old.0.known.steps

-- From `old` to `new` the pass has come to own this record beside those that it had, of which it is none. The record is claimed and not yet
-- ready. The pass knows all its words, whatever they are.
pub record HoldsOneMore (rec : Rec) (old new : Known) : Type 0 where
  pub words : List ℕ
  pub sized : length words ≡ word_count_of rec
  pub own : new.own ≡ record { rec = rec; holding = Held; words = words } ∷ old.own
  pub apart : All (λ owned. owned.rec ≢ rec) old.own

-- The pass tries the record, finds it free and claims it, by two steps. It has the same failed steps as before.
pub record ClaimsOne {G : Type 0} (table : TableView) (becomes : G → Event → G → Type 0) (rec : Rec) (old new : SeatView × G) : Type 0 where
  pub does : Does table becomes claiming (LoadState rec 0 ∷ Claim rec 0 ∷ []) old new
  pub failed : new.0.known.failed ≡ old.0.known.failed
  pub holds : HoldsOneMore rec old.0.known new.0.known

-- The pass tries the record of this number and finds it not free. If the number is not below `count`, no step is made.
abbrev pub MissesNumber : {G : Type 0} → (table : TableView) → (becomes : G → Event → G → Type 0) → (kind : ℕ → Rec) → (count number : ℕ) →
    (old new : SeatView × G) → Type 0
MissesNumber table becomes kind count number old new =
    ((count ≤ number) × (new ≡ old)) ⊎ ((number < count) × MissesOne table becomes (kind number) old new)

-- Of the `count` records of the kind, the pass tries `tried`, one after the other, from number `from` on and then from 0. It finds none
-- free, by at most two steps each. Its own records stay. It remembers one more failed step for each record tried, which tells who may own
-- that record.
pub record FindsNone {G : Type 0} (table : TableView) (becomes : G → Event → G → Type 0) (kind : ℕ → Rec) (count from tried : ℕ)
    (old new : SeatView × G) : Type 0 where
  pub tries : List Act
  pub in_turn : InTurn (λ index. Misses (kind (wrapped count from index))) tried tries
  pub few : length tries ≤ 2 * tried
  pub does : Does table becomes claiming tries old new
  pub own : new.0.known.own ≡ old.0.known.own
  pub missed : List Failed
  pub failed : new.0.known.failed ≡ missed ++ old.0.known.failed
  pub size : length missed ≡ tried
  pub each : (index : ℕ) → index < tried → HasMissedSince (IsAnothersTo table.layout old.0.known) missed (kind (wrapped count from index)) old.0.known.steps

-- Of the `count` records of the kind, the pass tries some and finds them not free. They are fewer than all, from number `from` on and then
-- from 0. Then it claims the next one, which has this number.
pub record Claims {G : Type 0} (table : TableView) (becomes : G → Event → G → Type 0) (kind : ℕ → Rec) (count from number : ℕ)
    (old new : SeatView × G) : Type 0 where
  pub tried : ℕ
  pub low : tried < count
  pub number_is : number ≡ wrapped count from tried
  pub before : SeatView × G
  pub none : FindsNone table becomes kind count from tried old before
  pub one : ClaimsOne table becomes (kind number) before new

-- Of the `count` records of the kind, the pass tries some and finds them not free. They are fewer than `most`, from number `from` on and
-- then from 0. Then it loads the state of the next one, which has this number, and finds it free. It claims nothing.
pub record FindsFree {G : Type 0} (table : TableView) (becomes : G → Event → G → Type 0) (kind : ℕ → Rec) (count from most number : ℕ)
    (old new : SeatView × G) : Type 0 where
  pub tried : ℕ
  pub low : tried < most
  pub number_is : number ≡ wrapped count from tried
  pub before : SeatView × G
  pub none : FindsNone table becomes kind count from tried old before
  pub free : Steps table becomes (LoadState (kind number) 0) before new

-- Take any start from which the pass has tried some records of the kind and found none free. It goes on with the next `count` ones, from
-- `number` on. The result is none if none of these is free. Else it is how many of these the pass tried before the one that it claimed.
abbrev pub GoesOnTrying : {G : Type 0} → (table : TableView) → (becomes : G → Event → G → Type 0) → (kind : RecordKind) →
    (number count : ℕ) → (result : Option ℕ) → (old new : SeatView × G) → Type 0
GoesOnTrying {G = G} table becomes kind number count result old new =
    let all = count_of kind table.layout in
    (first : SeatView × G) (from tried : ℕ) → from < all → tried + count ≤ all → number ≡ wrapped all from tried →
    FindsNone table becomes (record_of kind) all from tried first old →
    MatchOption result (FindsNone table becomes (record_of kind) all from (tried + count) first new)
    (λ index. (index < count) × (claims : Claims table becomes (record_of kind) all from (number + index) first new) × (claims.tried ≡ tried + index))

-- The pass tries at most `most` records of the kind, from `begin` on. `answer` has two parts: the number of the record that the pass has
-- claimed, or none, and how many records it tried. Without a claim it tried `most`; else the claimed one counts, too.
abbrev pub TriesSome : {G : Type 0} → (table : TableView) → (becomes : G → Event → G → Type 0) → (kind : RecordKind) → (begin most : ℕ) →
    (answer : Option ℕ × ℕ) → (old new : SeatView × G) → Type 0
TriesSome table becomes kind begin most (result, tried) old new =
    MatchOption result ((tried ≡ most) × FindsNone table becomes (record_of kind) (count_of kind table.layout) begin most old new)
    (λ number. (claims : Claims table becomes (record_of kind) (count_of kind table.layout) begin number old new) × (claims.tried + 1 ≡ tried))

-- Take any start from which the pass has found the record at `begin` not free. It goes on behind that record, and tries up to `most`
-- records with that one counted, as `TriesSome` says.
abbrev pub GoesOnBehind : {G : Type 0} → (table : TableView) → (becomes : G → Event → G → Type 0) → (kind : RecordKind) → (begin most : ℕ) →
    (result : Option ℕ × ℕ) → (old new : SeatView × G) → Type 0
GoesOnBehind {G = G} table becomes kind begin most result old new =
    (first : SeatView × G) → FindsNone table becomes (record_of kind) (count_of kind table.layout) begin 1 first old →
    TriesSome table becomes kind begin most result first new

-- Failed steps of number `since` or later found each of the `count` records of the kind not free. `Whose` holds of each record and of the
-- owner that was found, if there is one.
abbrev pub AllMissed : (Whose : Rec → Option ℕ → Type 0) → (kind : ℕ → Rec) → (count : ℕ) → (failed : List Failed) → (since : ℕ) → Type 0
AllMissed Whose kind count failed since = (number : ℕ) → number < count → HasMissedSince Whose failed (kind number) since

-- Failed steps of number `since` or later found each record of the kind not free that is committed by these bounds, of the first `count`
-- ones. `Whose` holds of each record and of the owner that was found, if there is one.
abbrev pub AllCommittedMissed : (Whose : Rec → Option ℕ → Type 0) → (layout : Layout) → (bounds : List ℕ) → (kind : ℕ → Rec) → (count : ℕ) →
    (failed : List Failed) → (since : ℕ) → Type 0
AllCommittedMissed Whose layout bounds kind count failed since =
    (number : ℕ) → number < count → IsCommitted layout (uncommitted_in bounds) (kind number) → HasMissedSince Whose failed (kind number) since

-- By these bounds each leaf record of at least `words` words up to this number is committed, with the one that has it.
abbrev pub AreCommittedUpTo : (layout : Layout) → (bounds : List ℕ) → (words number : ℕ) → Type 0
AreCommittedUpTo layout bounds words number =
    (other : ℕ) → other ≤ number → words ≤ leaf_size layout other → IsCommitted layout (uncommitted_in bounds) (a_leaf other)

-- Failed steps of number `since` or later found leaf records of at least `words` words not free: each before the first of them that isn't
-- committed by these bounds. `Whose` holds of each record and of the owner that was found, if there is one.
abbrev pub AllMissedFrom : (Whose : Rec → Option ℕ → Type 0) → (layout : Layout) → (bounds : List ℕ) → (words : ℕ) → (failed : List Failed) →
    (since : ℕ) → Type 0
AllMissedFrom Whose layout bounds words failed since =
    (number : ℕ) → number < layout.leaves → words ≤ leaf_size layout number → AreCommittedUpTo layout bounds words number →
    HasMissedSince Whose failed (a_leaf number) since
