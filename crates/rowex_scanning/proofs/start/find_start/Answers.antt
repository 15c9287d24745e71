-- The place of the scan upwards, and what stands left of it.
use Rattle.rowex_scanning.proofs.Common.{◌≡◌, ◌-◌, ℕ, List, Bool, true, false, Option, None, Some, not, refl, length, subst, sym, arith, is_some, slice_get-get_or, PathNode, Known, Key, spot_below, reader_then, reads_later, Direction, Downwards}
use Rattle.rowex_scanning.specs.Scanning.{first_key_of}
use Rattle.rowex_scanning.specs.Starts.{IsSearchEnd, IsParting, IsStart}
use Rattle.rowex_scanning.specs.declared.start.Start.{Start}
use Rattle.rowex_scanning.proofs.Starts.Turning.{turns_before, turns_behind, turns_same, turns_there}
use Rattle.rowex_scanning.proofs.start.find_start.Given as given
use Rattle.rowex_scanning.proofs.start.find_start.Goals as goal
use Rattle.rowex_scanning.proofs.start.find_start.Goals.{After-find_start_of_upward_scan-start, else-start-way-via-then-start-way+else-lowest-start, else-start-way-via-else-start-way}

is_true : (b : Bool) → false ≡ not b → b ≡ true
is_true true e = refl
is_true false e = cc

is_false : (b : Bool) → true ≡ not b → b ≡ false
is_false false e = refl
is_false true e = cc

-- by the scan's direction
in_direction : {e d : Direction} {k : Known} {m : ℕ} {key : Key} {way : List PathNode} {number : ℕ} {start : Start} → e ≡ d → IsStart d k m key way number start → IsStart e k m key way number start
in_direction {k = k} {m = m} {key = key} {way = way} {number = number} {start = start} is = subst (λ z. IsStart z k m key way number start) (sym is)

-- where the scan upwards starts
parting : (g : given.Over) (c : After-find_start_of_upward_scan-start g) (m : ℕ) → IsSearchEnd c.args.scan.now.table.now.layout c.args.seat.now.known m (first_key_of c.args.scan.now.range.now) c.args.way.now c.args.found →
    IsParting c.find_start_of_upward_scan-start.new.seat.known m (first_key_of c.args.scan.now.range.now) c.args.way.now c.args.found.number c.find_start_of_upward_scan-start.result
parting g c m e = c.find_start_of_upward_scan-start.ensures.start m e

pub returns-in-Upwards-clause-start : goal.returns-in-Upwards-clause-start
returns-in-Upwards-clause-start g c = λ m e. in_direction c.in-Upwards.is (parting g (goal.at.returns-in-Upwards-clause-start g c).After-find_start_of_upward_scan-start m e).upwards

pub overflow_add-start : goal.overflow_add-start
overflow_add-start g c =
    let (m, e) = c.requires.way in let (some, v, w) = e in let within = (parting g (goal.at.overflow_add-start g c).After-find_start_of_upward_scan-start m e).upwards.within in let deep = w.depth in omega (arith, within, deep)

pub overflow_add-lowest : goal.overflow_add-lowest
overflow_add-lowest g c =
    let (m, e) = c.requires.way in let (some, v, w) = e in
    let node = (w.nodes (length c.args.way.now - 1) _ (slice_get-get_or c.args.way.now (length c.args.way.now - 1) (record { number = 0; height = 0; first_position = 0; count = 0; slot = 0 }) (omega (arith, some)))).2 in
    let at = node.at in let room = node.room in let low = spot_below (first_key_of c.args.scan.now.range.now) node.forks in omega (arith, at, room, low)

pub returns-then-start-clause-start : goal.returns-then-start-clause-start
returns-then-start-clause-start g c = λ m e. let (some, v, w) = e in in_direction c.in-Downwards.is (
    let r = c.find_start_of_upward_scan-start.ensures.reads.2 in let s = parting g (goal.at.returns-then-start-clause-start g c).After-find_start_of_upward_scan-start m e in
    let there = slice_get-get_or c.args.way.now (length c.args.way.now - 1) (record { number = 0; height = 0; first_position = 0; count = 0; slot = 0 }) (omega (arith, some)) in
    let possible = (reader_then c.requires.reader r).1 in
    elim c.args.found.mismatch as (λ (z : Option ℕ). c.args.found.mismatch ≡ z → IsStart Downwards c.find_start_of_upward_scan-start.new.seat.known m (first_key_of c.args.scan.now.range.now) c.args.way.now c.args.found.number (record { level = c.find_start_of_upward_scan-start.result.level; top = c.find_start_of_upward_scan-start.result.top; leaf = c.is_none.result })) [
      | None ↦ λ none. turns_same c.args.scan.now.table.now.layout c.args.seat.now.known c.find_start_of_upward_scan-start.new.seat.known m (first_key_of c.args.scan.now.range.now) c.args.way.now c.args.found.number v c.args.found.mismatch w (reads_later r) possible c.find_start_of_upward_scan-start.result s _ there c.if-start.true none c.is_none.result (is_true c.is_none.result (subst (λ (z : Option ℕ). is_some z ≡ not c.is_none.result) none c.is_none.ensures))
      | Some d ↦ λ is. turns_before c.args.scan.now.table.now.layout c.args.seat.now.known c.find_start_of_upward_scan-start.new.seat.known m (first_key_of c.args.scan.now.range.now) c.args.way.now c.args.found.number v c.args.found.mismatch w (reads_later r) possible c.find_start_of_upward_scan-start.result s _ there c.if-start.true d is c.is_none.result (is_false c.is_none.result (subst (λ (z : Option ℕ). is_some z ≡ not c.is_none.result) is c.is_none.ensures))
    ] refl)

pub returns-then-lowest-start-clause-start : goal.returns-then-lowest-start-clause-start
returns-then-lowest-start-clause-start g c = λ m e. let (some, v, w) = e in in_direction c.in-Downwards.is (
    let r = c.find_start_of_upward_scan-start.ensures.reads.2 in let s = parting g (goal.at.returns-then-lowest-start-clause-start g c).After-find_start_of_upward_scan-start m e in
    let there = slice_get-get_or c.args.way.now (length c.args.way.now - 1) _ (omega (arith, some)) in
    turns_behind c.args.scan.now.table.now.layout c.args.seat.now.known c.find_start_of_upward_scan-start.new.seat.known m (first_key_of c.args.scan.now.range.now) c.args.way.now c.args.found.number v c.args.found.mismatch w (reads_later r) (reader_then c.requires.reader r).1 c.find_start_of_upward_scan-start.result s _ there
    c.if-start.false c.if-start-way.true c.if-lowest-start.true _ refl true refl)

pub returns-else-start-way-clause-start : goal.returns-else-start-way-clause-start
returns-else-start-way-clause-start g c = λ m e. let (some, v, w) = e in in_direction c.in-Downwards.is (
    let r = c.find_start_of_upward_scan-start.ensures.reads.2 in let s = parting g (goal.at.returns-else-start-way-clause-start g c).After-find_start_of_upward_scan-start m e in
    let there = slice_get-get_or c.args.way.now (length c.args.way.now - 1) _ (omega (arith, some)) in
    turns_there c.args.scan.now.table.now.layout c.args.seat.now.known c.find_start_of_upward_scan-start.new.seat.known m (first_key_of c.args.scan.now.range.now) c.args.way.now c.args.found.number v c.args.found.mismatch w (reads_later r) (reader_then c.requires.reader r).1 c.find_start_of_upward_scan-start.result s _ there
    c.if-start.false
    (elim c.else-start-way.branch [
      | else-start-way-via-then-start-way+else-lowest-start w ↦ λ last next. w.if-lowest-start.false next
      | else-start-way-via-else-start-way w ↦ λ last next. w.if-start-way.false last
    ]) c.find_start_of_upward_scan-start.result.leaf c.if-start.false)
