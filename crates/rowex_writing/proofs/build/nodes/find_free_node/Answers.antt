-- One below the end is free, or one behind it, or none was.
use Rattle.rowex_writing.proofs.Common.{◌≡◌, ◌∙◌, ℕ, Option, Some, None, MatchOption, ap, arith, refl, subst, Event, Layout, TableView, SeatView, a_node, FindsFree, FindsNone, begin_of}
use Rattle.std.specs.Prelude.{IfSome, min}
use Rattle.publish_laws.specs.Lone.{HasFree}
use Rattle.rowex_writing.specs.locks.Going.{WorksOn}
use Rattle.rowex_writing.specs.build.Walks.{left_below}
use Rattle.rowex_writing.proofs.build.Spare.{free_found}
use Rattle.rowex_writing.proofs.build.Building.{free_on, none_on}
use Rattle.rowex_writing.proofs.build.Walks.{walk_on, walk_out}
use Rattle.rowex_writing.proofs.locks.Going.{goes_more}
use Rattle.rowex_writing.proofs.build.nodes.find_free_node.Goals as goal

module _ {G : Type 0} (table : TableView) (becomes : G → Event → G → Type 0) (end from most : ℕ) (a b : SeatView × G) where
  -- whatever is found, these are steps under the locks
  found_on : (r : Option ℕ) → MatchOption r (FindsNone table becomes a_node end from most a b) (λ number. FindsFree table becomes a_node end from most number a b) → WorksOn table becomes a b
  found_on None none = none_on table becomes a_node end from most a b none
  found_on (Some number) found = free_on table becomes a_node end from most number a b found

  found_is_free : (r : Option ℕ) → MatchOption r (FindsNone table becomes a_node end from most a b) (λ number. FindsFree table becomes a_node end from most number a b) → IfSome r (λ number. HasFree table.layout b.0)
  found_is_free None none = tt
  found_is_free (Some number) found = free_found table becomes end from most number a b found

pub returns-in-Some-clause-goes : goal.returns-in-Some-clause-goes
returns-in-Some-clause-goes g c = found_on c.args.table.now g.G.Gate.becomes _ _ _ (c.args.seat.now, c.args.gate.now) (c.find_free_record.new.seat, c.find_free_record.new.gate) c.find_free_record.result c.find_free_record.ensures.finds

pub returns-in-Some-clause-free : goal.returns-in-Some-clause-free
returns-in-Some-clause-free g c = free_found c.args.table.now g.G.Gate.becomes _ _ _ _ (c.args.seat.now, c.args.gate.now) (c.find_free_record.new.seat, c.find_free_record.new.gate) c.in-Some.ensures.finds

pub returns-clause-goes : goal.returns-clause-goes
returns-clause-goes g c =
    goes_more c.args.table.now g.G.Gate.becomes (c.args.seat.now, c.args.gate.now) (c.find_free_record.new.seat, c.find_free_record.new.gate) (c.find_free_record-2.new.seat, c.find_free_record-2.new.gate)
    (none_on c.args.table.now g.G.Gate.becomes a_node _ _ _ _ _ c.in_default.ensures.finds)
    (found_on c.args.table.now g.G.Gate.becomes _ _ _ (c.find_free_record.new.seat, c.find_free_record.new.gate) (c.find_free_record-2.new.seat, c.find_free_record-2.new.gate) c.find_free_record-2.result c.find_free_record-2.ensures.finds)

pub returns-clause-walk : goal.returns-clause-walk
returns-clause-walk g c = λ is first made alone w.
    let table = c.args.table.now in
    let becomes = g.G.Gate.becomes in
    let walk = c.args.walk in
    let left = c.left_below_end-left.result in
    let nodes = ap (λ (z : Layout). z.nodes) c.layout-nodes.ensures in
    let within = w.within in
    let count = w.claims.count in
    let end : c.min-end.result ≡ walk.end = omega (arith, c.min-end.ensures, nodes, within) in
    let left_is : left ≡ left_below table.layout.nodes walk = c.left_below_end-left.ensures ∙ ap (λ n. left_below n walk) nodes in
    let most : min walk.end left ≡ left_below table.layout.nodes walk = omega (arith, left_is, count) in
    let none : FindsNone table becomes a_node walk.end (begin_of walk.end c.args.next) (min walk.end left) (c.args.seat.now, c.args.gate.now) (c.find_free_record.new.seat, c.find_free_record.new.gate) = subst (λ e. FindsNone table becomes a_node e (begin_of e c.args.next) (min e left) (c.args.seat.now, c.args.gate.now) (c.find_free_record.new.seat, c.find_free_record.new.gate)) end c.in_default.ensures.finds in
    walk_on table becomes first.known.steps (c.find_free_record.new.seat, c.find_free_record.new.gate) (c.find_free_record-2.new.seat, c.find_free_record-2.new.gate) made made c.args.next 0
    (found_on table becomes _ _ _ (c.find_free_record.new.seat, c.find_free_record.new.gate) (c.find_free_record-2.new.seat, c.find_free_record-2.new.gate) c.find_free_record-2.result c.find_free_record-2.ensures.finds) (λ r has. has)
    (walk_out table becomes first.known.steps (left_below table.layout.nodes walk) 0 (c.args.seat.now, c.args.gate.now) (c.find_free_record.new.seat, c.find_free_record.new.gate) made c.args.next (min walk.end left) alone (none_on table becomes a_node _ _ _ (c.args.seat.now, c.args.gate.now) (c.find_free_record.new.seat, c.find_free_record.new.gate) none) most refl none w.claims)

pub returns-clause-free : goal.returns-clause-free
returns-clause-free g c = found_is_free c.args.table.now g.G.Gate.becomes _ _ _ (c.find_free_record.new.seat, c.find_free_record.new.gate) (c.find_free_record-2.new.seat, c.find_free_record-2.new.gate) c.find_free_record-2.result c.find_free_record-2.ensures.finds
