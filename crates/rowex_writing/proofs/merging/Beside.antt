-- What a pass knows of the two nodes that become one.
use Rattle.rowex_writing.proofs.Common.{Bor, ◌≡◌, ℕ, ◌-◌, ◌<◌, Bool, List, length, get_or, if◌then◌else◌, Some, None, sym, ap, subst, ◌∙◌, arith, slice_get, lt-ltb, get_or_default, slice_get-get_or, NodeView, piece, Node, beside, Place, size, entry_at, spot, subtrie_sibling, Subtrie, size-piece, spot_below, sibling_spot, NodeWords, node_words_of, Event, place_is, TableView, SeatView, IsPossible, HasPlace, IsWayOf, Leaf, beside_in_table, stays_on}
use Rattle.compound_node.specs.Beside.{IsBesideIn}
use Rattle.node_tries.proofs.Changes.Beside.{beside_elsewhere, sibling_beside}
use Rattle.record_words.specs.Packed.{position_at}
use Rattle.rowex_writing.specs.locks.Going.{HasLocked, IsLockedBy, IsNodeOf, WorksOn}
use Rattle.rowex_writing.specs.merging.Merging.{IsNeighbour}
use Rattle.rowex_writing.specs.build.Taking.{IsTaking, TakesOn, lower, no_step, upper}
use Rattle.rowex_writing.specs.declared.plan.job.Job.{Job}
use Rattle.rowex_writing.specs.declared.plan.job.Leftover.{Leftover}
use Rattle.rowex_writing.specs.declared.plan.job.Merge.{Merge}
use Rattle.rowex_writing.proofs.build.Above.{locked_at}
use Rattle.rowex_writing.proofs.locks.Going.{locked_on, seat_of}
use Rattle.rowex_writing.proofs.build.Building.{goes_possible}
use Rattle.rowex_writing.proofs.locks.Shapes.{shape_size, way_node_locked}
use Rattle.rowex_writing.proofs.build.taking.Taking.{way_on}

-- the pass goes on
pub takes_on : {G : Type 0} (table : TableView) (becomes : G → Event → G → Type 0) (a b : SeatView × G) (job : Job) → WorksOn table becomes a b → TakesOn table a.0 job → TakesOn table b.0 job
takes_on table becomes a b job goes (t, seat, possible, stays) = (
  t,
  seat_of table becomes a b goes seat,
  goes_possible table becomes a b goes possible,
  stays_on t.before.known a.0.known b.0.known stays goes.stays,
)

module _ (table : TableView) (job : Job) (t : IsTaking table job) where
  pub upper_at : slice_get job.way.now (job.span.end - 1) ≡ Some (upper job)
  upper_at = slice_get-get_or job.way.now (job.span.end - 1) no_step (let e = t.below.last in let n = t.below.len in omega (arith, e, n))

  pub lower_at : slice_get job.way.now job.span.end ≡ Some (lower job)
  lower_at = slice_get-get_or job.way.now job.span.end no_step (let e = t.below.last in let n = t.below.len in omega (arith, e, n))

  pub upper_locked : IsLockedBy t.before.known (upper job).number
  upper_locked = locked_at t.before.known job.way.now job.span t.below.taken.locked (job.span.end - 1) (upper job) (omega arith) (let e = t.below.last in omega (arith, e)) upper_at

  pub lower_locked : IsLockedBy t.before.known (lower job).number
  lower_locked = locked_at t.before.known job.way.now job.span t.below.taken.locked job.span.end (lower job) (omega arith) (let e = t.below.last in omega (arith, e)) lower_at

  pub upper_range : (upper job).number < table.layout.nodes
  upper_range = (t.below.taken.way_of.nodes (job.span.end - 1) (upper job) upper_at).2.range

  pub lower_range : (lower job).number < table.layout.nodes
  lower_range = (t.below.taken.way_of.nodes job.span.end (lower job) lower_at).2.range

module _ (table : TableView) (a : SeatView) (job : Job) (takes : TakesOn table a job) where
  abbrev t : IsTaking table job
  t = takes.0

  pub way_now : IsWayOf table.layout a.known t.since job.key.now job.way.now (Leaf t.number t.value None)
  way_now = way_on table a job takes

  pub upper_held : IsLockedBy a.known (upper job).number
  upper_held = let (words, h) = upper_locked table job t in (words, locked_on t.before.known a.known (upper job).number words takes.3.1 h)

  -- of the words under its lock
  module _ (words : List ℕ) (h : HasLocked a.known (upper job).number words) where
    abbrev shown : Subtrie
    shown = (node_words_of words).subtrie

    pub upper_shows : spot job.key.now shown ≡ (upper job).slot
    upper_shows =
        let (e, is, node) = way_now.nodes (job.span.end - 1) (upper job) (upper_at table job t) in (way_node_locked table.layout a.known t.since job.key.now (upper job) e words takes.2 way_now.since node h).at

    pub upper_place : (place : ℕ) → place < size shown → HasPlace a.known t.since (upper job).number (upper job).height place
    upper_place place low =
        let (e, is, node) = way_now.nodes (job.span.end - 1) (upper job) (upper_at table job t) in
        let same = (way_node_locked table.layout a.known t.since job.key.now (upper job) e words takes.2 way_now.since node h).forks_are in
        ((way_now.since, node.seen), λ c law known. (node.forks, node.shaped c law known, subst (λ n. place < n) (shape_size shown node.forks same) low))

    pub upper_within : (view : NodeView) → IsNodeOf words view → (upper job).slot < length view.entries
    upper_within view node =
        let low : (upper job).slot < size (piece view) = subst (λ i. i < size (piece view)) (sym (ap (λ (z : NodeWords). spot job.key.now z.subtrie) node.shows) ∙ upper_shows) (spot_below job.key.now (piece view)) in
        omega (arith, low, size-piece view node.has.lawful)

    module _ (view : NodeView) (node : IsNodeOf words view) (place column : ℕ) (forks : IsBesideIn view (upper job).slot (Some (place, column))) where
      pub column_few : column < 31
      column_few = omega (arith, forks.in_range, node.has.lawful.positions.few)

      pub forks_shown : beside (spot job.key.now shown) shown ≡ Some (place, get_or view.columns column 0)
      forks_shown =
          let sub : shown ≡ piece view = ap (λ (z : NodeWords). z.subtrie) node.shows in
          ap (λ i. beside i shown) upper_shows ∙ (ap (beside (upper job).slot) sub ∙ sym forks.is)

      pub place_shown : place < size shown
      place_shown = (beside_elsewhere (spot job.key.now shown) place (get_or view.columns column 0) shown (spot_below job.key.now shown) forks_shown).0

      pub sibling_is : (number height : ℕ) → Node number height ≡ entry_at shown place → subtrie_sibling job.key.now shown ≡ Some (get_or view.columns column 0, Place (Node number height))
      sibling_is number height entry =
          sym (sibling_spot job.key.now shown) ∙ sibling_beside (spot job.key.now shown) place (get_or view.columns column 0) (Node number height) shown (spot_below job.key.now shown) forks_shown
          (sym (place_is shown place) ∙ (ap (λ (b : Bool). if b then Some (entry_at shown place) else None) (lt-ltb place (size shown) place_shown) ∙ ap Some (sym entry)))

      pub found_beside : (left : Bor Leftover) (number height position : ℕ) → position ≡ position_at view.columns column → Node number height ≡ entry_at shown place →
          IsNeighbour a.known job (record { slot = place; position = position; number = number; left = left })
      found_beside left number height position at entry =
          let is : get_or view.columns column 0 ≡ position = sym (at ∙ get_or_default view.columns column 65535 0 forks.in_range) in
          record {
            words = words;
            has = h;
            forks = forks_shown ∙ ap (λ p. Some (place, p)) is;
            height = height;
            sibling = sibling_is number height entry ∙ ap (λ p. Some (p, Place (Node number height))) is;
          }

-- its number is that of one of the table's records
pub sibling_range : (table : TableView) (a : SeatView) (job : Job) (number : ℕ) → IsPossible table.layout a.known → (m : Merge) × IsNeighbour a.known job m × (m.number ≡ number) → number < table.layout.nodes
sibling_range table a job number p (m, is, same) =
    subst (λ n. n < table.layout.nodes) same (beside_in_table table.layout a.known p.core p.lawful p.layout_is p.knows job.key.now _ m.number m.position is.height is.words is.has is.sibling)
