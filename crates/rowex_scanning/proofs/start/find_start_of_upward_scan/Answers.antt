-- The way of the search, with the affected entries of the node at the level.
use Rattle.rowex_scanning.proofs.Common.{rules, ◌≡◌, ◌∙◌, ap, ◌+◌, ◌-◌, ◌<◌, ◌≤◌, ℕ, Bool, false, Some, sym, length, nat_eq, if◌then◌else◌, arith, slice_get, slice_get-get_or, reader_then, reads_later, way_place, PathNode, bit_of, IsWayOf}
use Rattle.rowex_reading.specs.declared.descent.Found.TheVariants.{Leaf}
use Rattle.rowex_scanning.specs.Scanning.{first_key_of}
use Rattle.rowex_scanning.specs.Starts.{IsParting}
use Rattle.rowex_scanning.proofs.Starts.{chosen_starts, is_below, not_below, starts_same}
use Rattle.rowex_scanning.proofs.start.find_start_of_upward_scan.Given as given
use Rattle.rowex_scanning.proofs.start.find_start_of_upward_scan.Goals as goal
use Rattle.rowex_scanning.proofs.start.find_start_of_upward_scan.Goals.{After-choose_case-part, then-below, else-below}

-- The part that was chosen is a place in a node of the way, and there the scan starts.
part : (g : given.Over) (c : After-choose_case-part g) (m v : ℕ) →
    IsWayOf c.args.scan.now.table.now.layout c.args.seat.now.known m (first_key_of c.args.scan.now.range.now) c.args.way.now (Leaf c.args.found.number v c.args.found.mismatch) →
    (c.choose_case-part.result.level < length c.args.way.now) × (c.choose_case-part.result.last ≤ 31) × ((below : Bool) → bit_of (first_key_of c.args.scan.now.range.now) c.in-Some.position ≡ below → (t : PathNode) →
    slice_get c.args.way.now c.choose_case-part.result.level ≡ Some t → (place : ℕ) → place ≡ (if below then c.choose_case-part.result.last + 1 else c.choose_case-part.result.first) → (comes : Bool) →
    comes ≡ (if below then false else nat_eq c.choose_case-part.result.first c.choose_case-part.result.last) →
    IsParting c.find_affected-first.new.seat.known m (first_key_of c.args.scan.now.range.now) c.args.way.now c.args.found.number (record { level = c.choose_case-part.result.level; top = record t { slot = place }; leaf = comes }))
part g c m v w =
    let level = c.last_level_before-level.ensures in let e = c.find_affected-first.ensures in
    let at = slice_get-get_or c.args.way.now c.last_level_before-level.result _ level.within in
    let (forks, shaped, from, upto) = e.affected m _ (way_place c.args.scan.now.table.now.layout c.args.seat.now.known m (first_key_of c.args.scan.now.range.now) c.args.way.now (Leaf c.args.found.number v c.args.found.mismatch) w c.last_level_before-level.result _ at) in
    chosen_starts c.args.scan.now.table.now.layout c.args.seat.now.known c.find_affected-first.new.seat.known m (first_key_of c.args.scan.now.range.now) c.args.way.now c.args.found.number v c.args.found.mismatch w (reader_then c.requires.reader e.reads.2).1 (reads_later e.reads.2)
    c.in-Some.position c.in-Some.is c.last_level_before-level.result level _ at forks shaped c.find_affected-first.result.0 c.find_affected-first.result.1 from upto c.choose_case-part.result c.choose_case-part.ensures.chosen

pub returns-in_default-clause-start : goal.returns-in_default-clause-start
returns-in_default-clause-start g c = λ m e. let (some, v, w) = e in
    starts_same c.args.scan.now.table.now.layout c.args.seat.now.known m (first_key_of c.args.scan.now.range.now) c.args.way.now c.args.found.number v c.args.found.mismatch w c.requires.reader.1 c.in_default.is (length c.args.way.now - 1) (omega (arith, some))
    _ (slice_get-get_or c.args.way.now (length c.args.way.now - 1) _ (omega (arith, some)))

pub find_affected-first-requires-clause-place : goal.find_affected-first-requires-clause-place
find_affected-first-requires-clause-place g c =
    let (m, e) = c.requires.way in let (some, v, w) = e in
    let at = slice_get-get_or c.args.way.now c.last_level_before-level.result _ c.last_level_before-level.ensures.within in
    (m, _, way_place c.args.scan.now.table.now.layout c.args.seat.now.known m (first_key_of c.args.scan.now.range.now) c.args.way.now (Leaf c.args.found.number v c.args.found.mismatch) w c.last_level_before-level.result _ at)

pub offset_bounds-way-part : goal.offset_bounds-way-part
offset_bounds-way-part g c = let (m, e) = c.requires.way in let (some, v, w) = e in let low = (part g (goal.at.offset_bounds-way-part g c).After-choose_case-part m v w).0 in search (rules, low)

pub bounds-way-part : goal.bounds-way-part
bounds-way-part g c = let (m, e) = c.requires.way in let (some, v, w) = e in (part g (goal.at.bounds-way-part g c).After-choose_case-part m v w).0

pub overflow_add-top : goal.overflow_add-top
overflow_add-top g c = let (m, e) = c.requires.way in let (some, v, w) = e in let low = (part g (goal.at.overflow_add-top g c).After-choose_case-part m v w).1 in omega (arith, low)

pub returns-then-not-below-clause-start : goal.returns-then-not-below-clause-start
returns-then-not-below-clause-start g c = λ m e. let (some, v, w) = e in
    let p = part g (goal.at.returns-then-not-below-clause-start g c).After-choose_case-part m v w in
    let place : c.if-below.top ≡ (if c.bit-below.result then c.choose_case-part.result.last + 1 else c.choose_case-part.result.first) = elim c.if-below.branch [ then-below w ↦ rw w.if-below.true w.top-is | else-below w ↦ rw w.if-below.false w.top-is ] in
    p.2 c.bit-below.result (ap (λ k. bit_of k c.in-Some.position) (sym c.first_key.ensures) ∙ sym c.bit-below.ensures) _ (slice_get-get_or c.args.way.now c.choose_case-part.result.level _ p.0) c.if-below.top place _ (not_below c.bit-below.result (nat_eq c.choose_case-part.result.first c.choose_case-part.result.last) c.if-not-below.true)

pub returns-else-not-below-clause-start : goal.returns-else-not-below-clause-start
returns-else-not-below-clause-start g c = λ m e. let (some, v, w) = e in
    let p = part g (goal.at.returns-else-not-below-clause-start g c).After-choose_case-part m v w in
    let place : c.if-below.top ≡ (if c.bit-below.result then c.choose_case-part.result.last + 1 else c.choose_case-part.result.first) = elim c.if-below.branch [ then-below w ↦ rw w.if-below.true w.top-is | else-below w ↦ rw w.if-below.false w.top-is ] in
    p.2 c.bit-below.result (ap (λ k. bit_of k c.in-Some.position) (sym c.first_key.ensures) ∙ sym c.bit-below.ensures) _ (slice_get-get_or c.args.way.now c.choose_case-part.result.level _ p.0) c.if-below.top place _ (is_below c.bit-below.result (nat_eq c.choose_case-part.result.first c.choose_case-part.result.last) c.if-not-below.false)
