-- A step as an event.
use Rattle.std.proofs.Common.{rules, ℕ, List, refl, sym, ap, subst, ◌∙◌}
use Rattle.record_words.specs.Layout.{uncommitted_in}
use Rattle.rowex_table.specs.Committed.{ClaimsCommitted}
use Rattle.rowex_table.specs.Rule.{found_by}
use Rattle.rowex_table.specs.Seats.{TableView, SeatView}
use Rattle.rowex_table.proofs.Rule.{allows_me, found_atomic, in_words, steps_with}
use Rattle.rowex_table.proofs.table.HotTable.compare_exchange_at.Goals as goal

pub compare_exchange-found-requires : goal.compare_exchange-found-requires
compare_exchange-found-requires g c = (search rules, in_words _ _ _ _ _ c.self.invariant.0 (ap (λ (z : TableView). z.layout) c.self.view_is) c.requires.place, allows_me _ _ _ _ _ _ _ _ _ _ _ _ _ (c.self.invariant.1 ∙ ap (λ (z : TableView). z.layout) c.self.view_is) c.requires.apt.0 c.seat.invariant.0 (sym (ap (λ (z : SeatView). z.known) c.seat.view_is)) refl c.requires.place.0 c.requires.writes (λ w. refl) c.requires.atomic c.requires.apt.2 (subst (λ (z : List ℕ). ClaimsCommitted c.args.self.now.layout (uncommitted_in z) g.Q.Step.act) (sym (ap (λ (z : SeatView). z.bounds) c.seat.view_is)) c.requires.committed))

pub returns : goal.returns
returns g c = steps_with c.args.self.now g.G.Gate.becomes (found_by g.Q.Step.act c.compare_exchange-found.result) g.Q.Step.said g.Q.Step.layout (found_atomic g.Q.Step.act c.compare_exchange-found.result c.requires.atomic) c.requires.apt.0 _ _ _ _ _ _ c.seat.invariant.0 c.compare_exchange-found.ensures.0 c.compare_exchange-found.ensures.1 c.compare_exchange-found.ensures.2 c.args.seat.now c.seat.view_is c.args.gate.now c.tell_gate.new.gate _ (c.act_with_found.ensures ∙ ap (λ z. found_by z c.compare_exchange-found.result) c.requires.apt.1) c.tell_gate.ensures
