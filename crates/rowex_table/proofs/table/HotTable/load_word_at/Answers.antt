-- A step as an event.
use Rattle.std.proofs.Common.{rules, ℕ, List, refl, sym, ap, subst, ◌∙◌}
use Rattle.record_words.specs.Layout.{uncommitted_in}
use Rattle.rowex_table.specs.Committed.{ClaimsCommitted}
use Rattle.rowex_table.specs.Rule.{found_by}
use Rattle.rowex_table.specs.Seats.{TableView, SeatView}
use Rattle.rowex_table.proofs.Rule.{allows_me, found_atomic, in_words, steps_with, touches_with}
use Rattle.rowex_table.proofs.table.HotTable.load_word_at.Goals as goal

pub load-word-requires : goal.load-word-requires
load-word-requires g c = (search rules, in_words _ _ _ _ _ c.self.invariant.0 (ap (λ (z : TableView). z.layout) c.self.view_is) c.requires.place, allows_me _ _ _ _ _ _ _ _ _ _ _ _ _ (c.self.invariant.1 ∙ ap (λ (z : TableView). z.layout) c.self.view_is) c.requires.apt.0 c.seat.invariant.0 (sym (ap (λ (z : SeatView). z.known) c.seat.view_is)) refl c.requires.place.0 c.requires.writes (λ w. refl) c.requires.atomic c.requires.apt.2 (subst (λ (z : List ℕ). ClaimsCommitted c.args.self.now.layout (uncommitted_in z) g.Q.Step.act) (sym (ap (λ (z : SeatView). z.bounds) c.seat.view_is)) c.requires.committed))

pub returns-clause-steps : goal.returns-clause-steps
returns-clause-steps g c = steps_with c.args.self.now g.G.Gate.becomes (found_by g.Q.Step.act c.load-word.result) g.Q.Step.said g.Q.Step.layout (found_atomic g.Q.Step.act c.load-word.result c.requires.atomic) c.requires.apt.0 _ _ _ _ _ _ c.seat.invariant.0 c.load-word.ensures.0 c.load-word.ensures.1 c.load-word.ensures.2 c.args.seat.now c.seat.view_is c.args.gate.now c.tell_gate.new.gate _ (c.act_with_found.ensures ∙ ap (λ z. found_by z c.load-word.result) c.requires.apt.1) c.tell_gate.ensures

pub returns-clause-touches : goal.returns-clause-touches
returns-clause-touches g c = touches_with (found_by g.Q.Step.act c.load-word.result) g.Q.Step.said c.args.self.now.layout g.Q.Step.layout c.requires.apt.0 _ _ c.seat.invariant.0 c.load-word.ensures.2.1 c.args.seat.now (ap (λ (z : SeatView). z.touches) c.seat.view_is)
