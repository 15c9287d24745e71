-- What a removal leaves of the lower node, and the record that is claimed for it.
use Rattle.rowex_writing.proofs.Common.{◌≡◌, ℕ, List, sym, ap, subst, ◌∙◌, NodeView, IsBuiltFrom, piece, without, spot, subtrie_without, without_spot, NodeWords, node_words_of, Event, Known, IsPossible, IsLater, TableView, SeatView, IsSeatOf, later_transitive, IsWayOf, way_later}
use Rattle.rowex_writing.specs.locks.Going.{HasLocked, IsNodeOf, WorksOn}
use Rattle.rowex_writing.specs.locks.Jobs.{HoldsSpan}
use Rattle.rowex_writing.specs.merging.Merging.{HasWiderLocks}
use Rattle.rowex_writing.specs.build.Taking.{HasClaimed, IsLeftOfNode, TakesOn, TakesStill, lower}
use Rattle.rowex_writing.specs.declared.plan.job.Job.{Job}
use Rattle.rowex_writing.proofs.merging.Beside.{lower_at, lower_locked}
use Rattle.rowex_writing.proofs.locks.Checks.{span_later}
use Rattle.rowex_writing.proofs.locks.Going.{locked_on, seat_of, locked_node}
use Rattle.rowex_writing.proofs.build.Building.{goes_possible}
use Rattle.rowex_writing.proofs.merging.Merging.{held_wide, same_words, way_wide}
use Rattle.rowex_writing.proofs.locks.Shapes.{way_node_locked}

-- ---- a claimed record
pub claimed_same : {table : TableView} {k j : Known} {n : ℕ} → HasClaimed table k n → j.own ≡ k.own → HasClaimed table j n
claimed_same has same = record { low = has.low; words = has.words; sized = has.sized; own = same ∙ has.own }

-- ---- the words of what is left
pub left_on : (k j : Known) (job : Job) (left : List ℕ) → j.locks ≡ k.locks → IsLeftOfNode k job left → IsLeftOfNode j job left
left_on k j job left same is = record { words = is.words; has = locked_on k j (lower job).number is.words same is.has; built = is.built }

-- so under the wider locks
module _ (table : TableView) (b : SeatView) (job : Job) (number : ℕ) (w : HasWiderLocks table b job number) where
  pub left_wider : (k : Known) (left : List ℕ) → w.taking.before.known.locks ≡ k.locks → IsLeftOfNode k job left → IsLeftOfNode b.known job left
  left_wider k left same is = record {
    words = is.words;
    has = held_wide table b job number w (lower job).number is.words (locked_on k w.taking.before.known (lower job).number is.words same is.has);
    built = is.built;
  }

  -- the lower node
  pub lower_node : (node : NodeView) × ((words : List ℕ) → HasLocked b.known (lower job).number words → IsNodeOf words node)
  lower_node =
      let (low, i) = lower_locked table job w.taking in
      let h = held_wide table b job number w (lower job).number low i in
      let (node, is) = locked_node table.layout b.known (lower job).number low w.possible h in
      (node, λ words k. subst (λ z. IsNodeOf z node) (same_words table.layout b.known (lower job).number low words w.possible h k) is)

  -- what is left of it, as a node without an entry
  module _ (left : List ℕ) (is : IsLeftOfNode b.known job left) (node : NodeView) (node_is : (words : List ℕ) → HasLocked b.known (lower job).number words → IsNodeOf words node) where
    same_left : subtrie_without job.key.now (node_words_of is.words).subtrie ≡ without (lower job).slot (piece node)
    same_left =
        let own = node_is is.words is.has in
        let way = way_wide table b job number w in
        let (e, e_is, on) = way.nodes job.span.end (lower job) (lower_at table job w.taking) in
        let leads = (way_node_locked table.layout b.known w.taking.since job.key.now (lower job) e is.words w.possible way.since on is.has).at in
        let sub : (node_words_of is.words).subtrie ≡ piece node = ap (λ (z : NodeWords). z.subtrie) own.shows in
        let spot_is : spot job.key.now (piece node) ≡ (lower job).slot = sym (ap (spot job.key.now) sub) ∙ leads in
        ap (subtrie_without job.key.now) sub ∙ (sym (without_spot job.key.now (piece node)) ∙ ap (λ i. without i (piece node)) spot_is)

    pub left_built : (view : NodeView) → view ≡ is.built.node → IsBuiltFrom view (without (lower job).slot (piece node))
    left_built view same = subst (λ v. IsBuiltFrom v (without (lower job).slot (piece node))) (sym same) (subst (IsBuiltFrom is.built.node) same_left is.built.built)

-- ---- under the locks of the span
pub still_taking : (table : TableView) (a : SeatView) (job : Job) → TakesOn table a job → TakesStill table a job
still_taking table a job (t, own, possible, stays) = (t, own, possible, stays.0, stays.1, stays.2)

pub still_on : {G : Type 0} (table : TableView) (becomes : G → Event → G → Type 0) (a b : SeatView × G) (job : Job) → WorksOn table becomes a b → TakesStill table a.0 job → TakesStill table b.0 job
still_on table becomes a b job goes (t, own, possible, later, locks, anchor) = (
  t,
  seat_of table becomes a b goes own,
  goes_possible table becomes a b goes possible,
  later_transitive t.before.known a.0.known b.0.known later goes.stays.0,
  goes.stays.1 ∙ locks,
  goes.stays.2 ∙ anchor,
)

-- also after locks beyond these have come and gone
pub still_later : (table : TableView) (a b : SeatView) (job : Job) → TakesStill table a job → IsLater a.known b.known × IsSeatOf table b × IsPossible table.layout b.known → (b.known.locks ≡ a.known.locks) × (b.known.anchor ≡ a.known.anchor) → TakesStill table b job
still_later table a b job (t, own, possible, later, locks, anchor) (after, seat, was) (same, top) =
    (t, seat, was, later_transitive t.before.known a.known b.known later after, same ∙ locks, top ∙ anchor)

pub still_holds : (table : TableView) (a : SeatView) (job : Job) → TakesStill table a job → HoldsSpan table a job
still_holds table a job (t, own, possible, later, locks, anchor) = record {
  seat = own;
  possible = possible;
  within = t.below.taken.within;
  from = (t.since, subst (λ f. IsWayOf table.layout a.known t.since job.key.now job.way.now f) (sym t.found) (way_later table.layout t.before.known a.known t.since job.key.now job.way.now _ later t.below.taken.way_of));
  locked = span_later t.before.known a.known job.way.now job.span locks anchor t.below.taken.locked;
}
