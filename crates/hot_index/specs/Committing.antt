-- Reserved records: the kinds by their numbers, and which are committed at first.
use Rattle.std.specs.Prelude.{◌≡◌, ℕ, ◌-◌, max, ◌<◌, ◌≤◌, List, [], ◌∷◌}
use Rattle.record_words.specs.Layout.{uncommitted_in}
use Rattle.record_words.specs.declared.layout.LeafClass.TheVariants.{Short, Medium, Large, Wide, Long}
use Rattle.record_words.specs.declared.layout.Stock.{Stock}
use Rattle.rowex_table.specs.Seats.{bounded_seat}
use Rattle.hot_index_calls.specs.Passes.{PassView, pass_of}
use Rattle.hot_index.specs.declared.committing.Kind.{Kind}
use Rattle.hot_index.specs.declared.committing.Kind.TheVariants.{Nodes, Leaves}

-- the number of a kind: 0 for nodes, and 1 to 5 for leaves by their class
abbrev pub number_of_kind : Kind → ℕ
number_of_kind Nodes = 0
number_of_kind (Leaves Short) = 1
number_of_kind (Leaves Medium) = 2
number_of_kind (Leaves Large) = 3
number_of_kind (Leaves Wide) = 4
number_of_kind (Leaves Long) = 5

-- How many records of each kind are uncommitted where those of `stock` are reserved and those of `committed` are committed. Of each class of
-- leaves that the stock has, one at least is committed, and of nodes the one that is kept for removals is committed, too.
abbrev pub uncommitted_of : (stock committed : Stock) → List ℕ
uncommitted_of stock committed =
    (stock.nodes - committed.nodes) ∷ ((stock.short - max committed.short 1) ∷ ((stock.medium - max committed.medium 1) ∷
    ((stock.large - max committed.large 1) ∷ ((stock.wide - max committed.wide 1) ∷ ((stock.long - max committed.long 1) ∷ [])))))

-- The pass has found, or left, this number of records of the kind uncommitted, which is no more than it knew of. All else that it knows
-- stays.
abbrev pub KnowsUncommitted : Kind → (count : ℕ) → (old new : PassView) → Type 0
KnowsUncommitted kind count old new = (new ≡ pass_of (bounded_seat (number_of_kind kind) count old.seat)) × (count ≤ uncommitted_in old.seat.bounds (number_of_kind kind))

-- fewer records of the kind are uncommitted than the pass knew of, or none
abbrev pub HasFallen : Kind → (count : ℕ) → (old : PassView) → Type 0
HasFallen kind count old = 0 < count → count < uncommitted_in old.seat.bounds (number_of_kind kind)
