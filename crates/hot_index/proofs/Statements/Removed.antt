-- A removal that lacks a node record has looked at each one.
use Rattle.hot_index.proofs.Common.{ℕ, ◌+◌, ◌*◌, ◌≤◌, List, [], length, arith, a_node, Call, Add, Exchange, Get, Insert, Remove, RemoveIf, Upsert, Layout}
use Rattle.record_words.specs.declared.records.Rec.{Rec}
use Rattle.rowex_core.specs.declared.known.Failed.{Failed}
use Rattle.rowex_records.specs.Claims.{AllMissed, IsAnothers}
use Rattle.rowex_records.proofs.Claims.{anothers_among, missed_so}
use Rattle.rowex_writing.specs.attempts.Attempts.{bounds_for}
use Rattle.rowex_writing.specs.build.Changes.{LacksNodes}
use Rattle.rowex_writing.specs.build.Spare.{IsRemoval}
use Rattle.rowex_writing.specs.plan.Counts.{most_nodes}
use Rattle.hot_index.specs.Statements.{RemovalFullMeansNoneFree}

-- where no record is left out, each was found not free
all_missed : (layout : Layout) (pass : ℕ) (failed : List Failed) (since : ℕ) (own : List Rec) → LacksNodes layout [] pass failed since own →
    (length own ≤ 2 * most_nodes + 1) × AllMissed (IsAnothers layout pass own []) a_node layout.nodes failed since
all_missed layout pass failed since own l = (
  (let few = l.few in let most = l.most in omega (arith, few, most)),
  λ q low. missed_so (IsAnothers layout pass own l.locked) (IsAnothers layout pass own []) failed (a_node q) since
      (λ by. anothers_among layout pass own own l.locked [] (a_node q) by (λ has. has) (λ n there. absurd there)) (l.missed q low (omega (arith, low))),
)

-- of a removal none is
removal_lacks : (layout : Layout) (call : Call) (bounds : List ℕ) (pass : ℕ) (failed : List Failed) (since : ℕ) (own : List Rec) → IsRemoval call → LacksNodes layout (bounds_for call bounds) pass failed since own →
    LacksNodes layout [] pass failed since own
removal_lacks layout (Insert key value) bounds pass failed since own removes l = absurd removes
removal_lacks layout (Upsert key value) bounds pass failed since own removes l = absurd removes
removal_lacks layout (Exchange key expected value) bounds pass failed since own removes l = absurd removes
removal_lacks layout (Add key delta) bounds pass failed since own removes l = absurd removes
removal_lacks layout (Get key) bounds pass failed since own removes l = absurd removes
removal_lacks layout (Remove key) bounds pass failed since own removes l = l
removal_lacks layout (RemoveIf key expected) bounds pass failed since own removes l = l

pub removal_full_means_none_free : RemovalFullMeansNoneFree
removal_full_means_none_free layout call k j removes (own, l) =
    let (few, each) = all_missed layout j.number j.failed k.steps own (removal_lacks layout call k.seat.bounds j.number j.failed k.steps own removes l) in (own, few, each)
