-- A step as an event.
use Rattle.std.proofs.Common.{rules, ℕ, List, refl, sym, ap, subst, ◌∙◌}
use Rattle.record_words.specs.Layout.{uncommitted_in}
use Rattle.rowex_table.specs.Committed.{ClaimsCommitted}
use Rattle.rowex_table.specs.Rule.{found_by}
use Rattle.rowex_table.specs.Seats.{TableView, SeatView}
use Rattle.rowex_table.proofs.Rule.{allows_me, found_atomic, in_words, steps_with}
use Rattle.rowex_table.proofs.table.HotTable.store_word_at.Goals as goal

pub store-requires : goal.store-requires
store-requires g c = (search rules, in_words _ _ _ _ _ c.self.invariant.0 (ap (λ (z : TableView). z.layout) c.self.view_is) c.requires.place, allows_me _ _ _ _ _ _ _ _ _ _ _ _ _ (c.self.invariant.1 ∙ ap (λ (z : TableView). z.layout) c.self.view_is) c.requires.apt.0 c.seat.invariant.0 (sym (ap (λ (z : SeatView). z.known) c.seat.view_is)) refl c.requires.place.0 c.requires.writes.0 (λ w. c.requires.writes.1 c.args.new ∙ sym (c.requires.writes.1 w)) c.requires.atomic c.requires.apt.2 (subst (λ (z : List ℕ). ClaimsCommitted c.args.self.now.layout (uncommitted_in z) g.Q.Step.act) (sym (ap (λ (z : SeatView). z.bounds) c.seat.view_is)) c.requires.committed))

pub returns : goal.returns
returns g c = steps_with c.args.self.now g.G.Gate.becomes (found_by g.Q.Step.act c.args.new) g.Q.Step.said g.Q.Step.layout (found_atomic g.Q.Step.act c.args.new c.requires.atomic) c.requires.apt.0 _ _ _ _ _ _ c.seat.invariant.0 c.store.ensures.0 c.store.ensures.1 c.store.ensures.2 c.args.seat.now c.seat.view_is c.args.gate.now c.tell_gate.new.gate _ (c.requires.apt.1 ∙ sym (c.requires.writes.1 c.args.new)) c.tell_gate.ensures
