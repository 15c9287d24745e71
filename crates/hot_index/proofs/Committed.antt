-- Which records of a new index are committed.
use Rattle.bulk_load.specs.Finished.{LinksCommitted}
use Rattle.bulk_load.specs.Tables.{end_of_class}
use Rattle.rowex_table.specs.Committed.{IsCommitted}
use Rattle.hot_index.proofs.Common.{Bool, true, false, if◌then◌else◌, suc, ◌-◌, Layout, Rec, a_node, a_leaf, IsLinked, loaded_tree, ◌≡◌, ◌∙◌, ℕ, ◌<◌, ◌≤◌, ◌⊎◌, inl, inr, List, Some, Result, sym, ap, subst, arith, cases_lt, IfOk, PassView, SeatView, get_or, slice_get}
use Rattle.std.proofs.Math.Nat.{min-eq_right}
use Rattle.std.proofs.lemmas.List.{get_or-replicate, set-set}
use Rattle.std.proofs.lemmas.Result.{IfOk-weaker}
use Rattle.std.specs.Prelude.{nat_lt, replicate}
use Rattle.hot_index_calls.specs.Passes.{pass_of}
use Rattle.record_words.specs.Layout.{uncommitted_in, uncommitted_word}
use Rattle.record_words.specs.declared.TheConstants.{RECORD_KINDS, LEAF_CLASSES}
use Rattle.rowex_table.specs.Seats.{HasAllCommitted, HasUncommitted, bounded_seat}
use Rattle.rowex_table.proofs.Committed.Chains.{bound_found, finds_bounds}
use Rattle.hot_index.specs.Committing.{KnowsUncommitted, HasFallen, number_of_kind}
use Rattle.hot_index.specs.declared.committing.Kind.{Kind}

-- the word of a kind that no table has is that of the last one
last_word : (kind : ℕ) → LEAF_CLASSES ≤ kind → uncommitted_word kind ≡ uncommitted_word LEAF_CLASSES
last_word kind high = let same = min-eq_right {n = LEAF_CLASSES} {m = kind} high in omega (arith, same)

-- where no record of the six kinds is uncommitted, all are committed
pub all_committed_of_none : (seat : SeatView) → HasUncommitted (replicate RECORD_KINDS 0) seat → HasAllCommitted seat
all_committed_of_none seat none kind = by_size (cases_lt kind RECORD_KINDS)
  where
    by_size : (kind < RECORD_KINDS) ⊎ (RECORD_KINDS ≤ kind) → uncommitted_in seat.bounds kind ≡ 0
    by_size (inl low) = none kind low ∙ get_or-replicate RECORD_KINDS kind 0 0 low
    by_size (inr high) = ap (λ word. get_or seat.bounds word 0) (last_word kind (omega (arith, high))) ∙ (none LEAF_CLASSES (omega arith) ∙ get_or-replicate RECORD_KINDS LEAF_CLASSES 0 0 (omega arith))

-- so the passes of an index of which none is uncommitted know that all are committed
pub passes_all_committed : {A E : Type 0} (result : Result A E) (passes : A → List PassView) →
    IfOk result (λ made. (q : ℕ) (p : PassView) → slice_get (passes made) q ≡ Some p → HasUncommitted (replicate RECORD_KINDS 0) p.seat) →
    IfOk result (λ made. (q : ℕ) (p : PassView) → slice_get (passes made) q ≡ Some p → HasAllCommitted p.seat)
passes_all_committed result passes none = IfOk-weaker result _ _ (λ made h q p at. all_committed_of_none p.seat (h q p at)) none

-- a record that a load has linked, and left committed, is committed as the table counts it
pub links_are_committed : (layout : Layout) (words : List ℕ) → LinksCommitted layout words → (r : Rec) → IsLinked (loaded_tree layout words) r → IsCommitted layout (uncommitted_in words) r
links_are_committed layout words committed (a_node n) linked = committed.nodes n linked
links_are_committed layout words committed (a_leaf n) linked =
    by_class (nat_lt n layout.medium_from) (nat_lt n layout.large_from) (nat_lt n layout.wide_from) (nat_lt n layout.long_from) (committed.leaves n linked)
  where
    by_class : (a b c d : Bool) →
        (let class : ℕ = if a then 0 else (if b then 1 else (if c then 2 else (if d then 3 else 4))) in uncommitted_in words (suc class) < end_of_class layout class - n) →
        uncommitted_in words (if a then 1 else (if b then 2 else (if c then 3 else (if d then 4 else 5)))) <
        (if a then layout.medium_from else (if b then layout.large_from else (if c then layout.wide_from else (if d then layout.long_from else layout.leaves)))) - n
    by_class true b c d h = h
    by_class false true c d h = h
    by_class false false true d h = h
    by_class false false false true h = h
    by_class false false false false h = h

-- a pass that has found how many of a kind are uncommitted, and then left fewer, knows of these
pub found_then_left : (kind : Kind) (number found result : ℕ) (s t u : SeatView) → number ≡ number_of_kind kind → t ≡ bounded_seat number found s → found ≤ uncommitted_in s.bounds number →
    u ≡ bounded_seat number result t → result ≤ uncommitted_in t.bounds number → KnowsUncommitted kind result (pass_of s) (pass_of u)
found_then_left kind number found result s t u is first few second fewer =
    let once : u ≡ bounded_seat number result s = second ∙ (ap (bounded_seat number result) first ∙ ap (λ (words : List ℕ). record s { bounds = words }) (set-set s.bounds (uncommitted_word number) found result)) in
    let (bounds, same, at_most) = finds_bounds number found s few in
    let below : uncommitted_in (bounded_seat number found s).bounds number ≤ uncommitted_in s.bounds number =
    subst (λ words. uncommitted_in words number ≤ uncommitted_in s.bounds number) (sym (ap (λ (v : SeatView). v.bounds) same)) (at_most number) in
    let low : result ≤ uncommitted_in (bounded_seat number found s).bounds number = subst (λ (v : SeatView). result ≤ uncommitted_in v.bounds number) first fewer in
    subst (λ k. (pass_of u ≡ pass_of (bounded_seat k result s)) × (result ≤ uncommitted_in s.bounds k)) is (ap pass_of once, omega (arith, low, below))

-- what a pass that has found how many of a kind are uncommitted still knows of is no more than it has found
pub found_bounds : (number found : ℕ) (s t : SeatView) → t ≡ bounded_seat number found s → uncommitted_in t.bounds number ≤ found
found_bounds number found s t first = subst (λ (v : SeatView). uncommitted_in v.bounds number ≤ found) (sym first) (bound_found s.bounds number found)

-- what is fewer than it has found is fewer than it knew of
pub fewer_than_found : (kind : Kind) (number found result : ℕ) (s : SeatView) → number ≡ number_of_kind kind → found ≤ uncommitted_in s.bounds number → (0 < result → result < found) →
    HasFallen kind result (pass_of s)
fewer_than_found kind number found result s is few fewer = λ some. let low = fewer some in subst (λ k. result < uncommitted_in s.bounds k) is (omega (arith, low, few))
