-- Claims of leaf records of one class after the other.
use Rattle.rowex_writing.proofs.Common.{◌≡◌, Option, ℕ, ◌+◌, ◌-◌, ◌<◌, ◌≤◌, List, [], map, length, ⊎_elim, sym, subst, arith, le_trans, cases_lt, leaf_size, words_for, Layout, Rec, a_leaf, Key, Event, Failed, Known, Owned, nodes_of, TableView, SeatView, AllMissed, AllMissedFrom, HasMissedSince, IsAnothers, IsAnothersBut, IsAnothersTo, record_of, anothers_among, missed_so, runs_same}
use Rattle.std.proofs.Common.{ap, refl, ◌∙◌}
use Rattle.std.proofs.lemmas.Bool.{le-ltb, lt-ltb}
use Rattle.std.specs.Prelude.{min, nat_lt}
use Rattle.record_words.specs.declared.TheConstants.{LARGE_WORDS, LEAF_WORDS, MEDIUM_WORDS, SHORT_WORDS, WIDE_WORDS}
use Rattle.record_words.specs.Layout.{uncommitted_in}
use Rattle.rowex_table.specs.Committed.{IsCommitted, count_from, record_kind}
use Rattle.rowex_table.proofs.Committed.{committed_falls}
use Rattle.rowex_records.specs.Claims.{AreCommitted}
use Rattle.rowex_records.specs.declared.claiming.RecordKind.TheVariants.{Leaf}
use Rattle.rowex_writing.specs.build.Changes.{LacksLeaves}
use Rattle.rowex_writing.specs.build.Classes.{AllMissedBetween, AreOfOneClass}
use Rattle.rowex_writing.specs.locks.Going.{WorksOn}
use Rattle.rowex_writing.proofs.build.Changes.{missed_there}
use Rattle.rowex_writing.proofs.locks.Runs.{goes_run}

-- a committed record stays so
module _ {G : Type 0} (table : TableView) (becomes : G → Event → G → Type 0) where
  pub committed_on : (rec : Rec) (a b : SeatView × G) → WorksOn table becomes a b → IsCommitted table.layout (uncommitted_in a.0.bounds) rec → IsCommitted table.layout (uncommitted_in b.0.bounds) rec
  committed_on rec a b goes = committed_falls table.layout (uncommitted_in b.0.bounds) (uncommitted_in a.0.bounds) rec (runs_same table becomes goes.acts a b goes.steps).4

module _ {G : Type 0} (table : TableView) (becomes : G → Event → G → Type 0) (Whose : Rec → Option ℕ → Type 0) where
  -- those that were not free, and then those of one class more, up to the first uncommitted one
  pub missed_more : (bounds : List ℕ) (from first end upto since : ℕ) (a b : SeatView × G) → since ≤ a.0.known.steps → WorksOn table becomes a b → from ≤ first → first < end
      → AllMissedBetween Whose table.layout bounds from first a.0.known.failed since → (end < upto → ¬ (IsCommitted table.layout (uncommitted_in bounds) (a_leaf end)))
      → AllMissed Whose (record_of (Leaf first end)) (end - first) b.0.known.failed a.0.known.steps → AllMissedBetween Whose table.layout bounds from upto b.0.known.failed since
  missed_more bounds from first end upto since a b late goes low some before stops class q above below_upto committed = ⊎_elim
      (λ (below : q < first). missed_there table becomes Whose (a_leaf q) since a b (goes_run table becomes a b goes) (before q above below committed))
      (λ (from_here : first ≤ q). ⊎_elim
      (λ (tried : q < end).
      let (step, then, missed) = class (q - first) (omega arith) in
      let same : first + (q - first) ≡ q = omega arith in
      subst (λ z. HasMissedSince Whose b.0.known.failed (a_leaf z) since) same (step, le_trans late then, missed))
      (λ (past : end ≤ q). absurd (stops (omega arith) (committed end (omega arith) past)))
      (cases_lt q end))
      (cases_lt q first)

  -- the later ones first, and then those before them, are all with so many words
  pub missed_all : (words first from since : ℕ) (s : SeatView) (gate : G) (a b : SeatView × G) → since ≤ a.0.known.steps → WorksOn table becomes (s, gate) a → WorksOn table becomes a b → first ≤ from
      → ((q : ℕ) → q < first → leaf_size table.layout q < words) → ((q : ℕ) → first ≤ q → words ≤ leaf_size table.layout q)
      → AllMissedBetween Whose table.layout s.bounds from table.layout.leaves a.0.known.failed since → AllMissedBetween Whose table.layout a.0.bounds first from b.0.known.failed a.0.known.steps
      → AllMissedFrom Whose table.layout s.bounds words b.0.known.failed since
  missed_all words first from since s gate a b late goes more low small large later sooner q less room committed = ⊎_elim
      (λ (below : q < from). ⊎_elim
      (λ (smaller : q < first). absurd (let few = small q smaller in omega (arith, few, room)))
      (λ (above : first ≤ q).
      let (step, then, missed) = sooner q above below (λ p high upto. committed_on table becomes (a_leaf p) (s, gate) a goes (committed p upto (large p high))) in
      (step, le_trans late then, missed))
      (cases_lt q first))
      (λ (above : from ≤ q). missed_there table becomes Whose (a_leaf q) since a b (goes_run table becomes a b more)
      (later q above less (λ p high upto. committed p upto (large p (le_trans low high)))))
      (cases_lt q from)

-- how large the records before the end of a class are at most, and those from there on at least
upto_short : (layout : Layout) (p : ℕ) → p < layout.medium_from → leaf_size layout p ≤ SHORT_WORDS
upto_short layout p low = let is = lt-ltb p layout.medium_from low in rw is (omega arith)

upto_medium : (layout : Layout) (p : ℕ) → p < layout.large_from → leaf_size layout p ≤ MEDIUM_WORDS
upto_medium layout p low = grind arith

upto_large : (layout : Layout) (p : ℕ) → p < layout.wide_from → leaf_size layout p ≤ LARGE_WORDS
upto_large layout p low = grind arith

upto_wide : (layout : Layout) (p : ℕ) → p < layout.long_from → leaf_size layout p ≤ WIDE_WORDS
upto_wide layout p low = grind arith

from_medium : (layout : Layout) (q : ℕ) → layout.medium_from ≤ q → MEDIUM_WORDS ≤ leaf_size layout q
from_medium layout q high = grind arith

from_large : (layout : Layout) (q : ℕ) → layout.large_from ≤ q → LARGE_WORDS ≤ leaf_size layout q
from_large layout q high = at layout.classes_in_order.0
  where
    at : layout.medium_from ≤ layout.large_from → LARGE_WORDS ≤ leaf_size layout q
    at first = grind arith

from_wide : (layout : Layout) (q : ℕ) → layout.wide_from ≤ q → WIDE_WORDS ≤ leaf_size layout q
from_wide layout q high = at layout.classes_in_order.0 layout.classes_in_order.1
  where
    at : layout.medium_from ≤ layout.large_from → layout.large_from ≤ layout.wide_from → WIDE_WORDS ≤ leaf_size layout q
    at first second = grind arith

from_long : (layout : Layout) (q : ℕ) → layout.long_from ≤ q → LEAF_WORDS ≤ leaf_size layout q
from_long layout q high = at layout.classes_in_order.0 layout.classes_in_order.1 layout.classes_in_order.2
  where
    at : layout.medium_from ≤ layout.large_from → layout.large_from ≤ layout.wide_from → layout.wide_from ≤ layout.long_from → LEAF_WORDS ≤ leaf_size layout q
    at first second third = grind arith

-- so two as large as each other stand on one side of such an end
one_side : (layout : Layout) (p q end most : ℕ) → p ≤ q → leaf_size layout p ≡ leaf_size layout q → (p < end → leaf_size layout p ≤ most) → (end ≤ q → most < leaf_size layout q) → nat_lt p end ≡ nat_lt q end
one_side layout p q end most before same small large = ⊎_elim
    (λ (low : q < end). lt-ltb p end (omega arith) ∙ sym (lt-ltb q end low))
    (λ (high : end ≤ q). let more = large high in le-ltb p end (⊎_elim (λ (low : p < end). absurd (let less = small low in omega (arith, less, more, same))) (λ (past : end ≤ p). past) (cases_lt p end)) ∙ sym (le-ltb q end high))
    (cases_lt q end)

left_after : (end p q : ℕ) → p ≤ q → end - q ≡ end - p - (q - p)
left_after end p q before = omega arith

-- and the later one has as many fewer of its kind from it on as it is later
of_one_class : (layout : Layout) (p q : ℕ) → leaf_size layout p ≡ leaf_size layout q → p ≤ q →
    (record_kind layout (a_leaf p) ≡ record_kind layout (a_leaf q)) × (count_from layout (a_leaf q) ≡ count_from layout (a_leaf p) - (q - p))
of_one_class layout p q same before =
    let short : nat_lt p layout.medium_from ≡ nat_lt q layout.medium_from = one_side layout p q layout.medium_from SHORT_WORDS before same (upto_short layout p) (λ high. let large = from_medium layout q high in omega (arith, large)) in
    let medium : nat_lt p layout.large_from ≡ nat_lt q layout.large_from = one_side layout p q layout.large_from MEDIUM_WORDS before same (upto_medium layout p) (λ high. let large = from_large layout q high in omega (arith, large)) in
    let large : nat_lt p layout.wide_from ≡ nat_lt q layout.wide_from = one_side layout p q layout.wide_from LARGE_WORDS before same (upto_large layout p) (λ high. let large = from_wide layout q high in omega (arith, large)) in
    let wide : nat_lt p layout.long_from ≡ nat_lt q layout.long_from = one_side layout p q layout.long_from WIDE_WORDS before same (upto_wide layout p) (λ high. let large = from_long layout q high in omega (arith, large)) in
    rw (short, medium, large, wide) (refl, left_after _ p q before)

module _ (layout : Layout) (bounds : List ℕ) (first upto count : ℕ) (some : first < upto) (same : AreOfOneClass layout first upto) where
  -- so where `count` are committed from the first on, these are
  pub class_committed : uncommitted_in bounds (record_kind layout (a_leaf first)) + count ≤ count_from layout (a_leaf first) → AreCommitted layout bounds (Leaf first (first + min count (upto - first)))
  class_committed committed index low =
      let (kind, fewer) = of_one_class layout first (first + index) (sym (same (first + index) (omega arith) (omega arith))) (omega arith) in
      let bound : uncommitted_in bounds (record_kind layout (a_leaf first)) ≡ uncommitted_in bounds (record_kind layout (a_leaf (first + index))) = ap (uncommitted_in bounds) kind in
      omega (arith, bound, fewer, committed)

  -- and where no more are, the one after them isn't
  pub class_ends : count_from layout (a_leaf first) ≤ count + uncommitted_in bounds (record_kind layout (a_leaf first)) → first + min count (upto - first) < upto
      → ¬ (IsCommitted layout (uncommitted_in bounds) (a_leaf (first + min count (upto - first))))
  class_ends found low committed =
      let end = first + min count (upto - first) in
      let at : end ≡ first + count = omega arith in
      let (kind, fewer) = of_one_class layout first end (sym (same end (omega arith) low)) (omega arith) in
      let bound : uncommitted_in bounds (record_kind layout (a_leaf first)) ≡ uncommitted_in bounds (record_kind layout (a_leaf end)) = ap (uncommitted_in bounds) kind in
      omega (arith, bound, fewer, found, at, committed)

-- where the pass had no record, none of them was its own
pub lacks_leaves : (layout : Layout) (bounds : List ℕ) (key : Key) (k j : Known) (failed : List Failed) (since : ℕ) → j.pass ≡ k.pass → k.own ≡ []
    → AllMissedFrom (IsAnothersTo layout k) layout bounds (words_for (length key)) failed since → LacksLeaves layout bounds key j.pass failed since
lacks_leaves layout bounds key k j failed since same none missed =
    let all : AllMissedFrom (IsAnothersBut layout k []) layout bounds (words_for (length key)) failed since =
    subst (λ own. AllMissedFrom (IsAnothersBut layout k (map (λ (o : Owned). o.rec) own)) layout bounds (words_for (length key)) failed since) none missed in
    subst (λ q. LacksLeaves layout bounds key q failed since) (sym same)
    (λ q low room committed. missed_so (IsAnothersBut layout k []) (IsAnothers layout k.pass [] []) failed (a_leaf q) since
    (λ by. anothers_among layout k.pass [] [] (nodes_of k.locks) [] (a_leaf q) by (λ h. h) (λ n none. absurd none)) (all q low room committed))
