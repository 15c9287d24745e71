-- The first view, and one seat more.
use Rattle.rowex_table.proofs.Common.{rules, ◌≡◌, ℕ, ◌<◌, List, ap, subst, sym, ◌∙◌, [], first_state}
use mathlib.Core.Option.{some}
use lib.ListN.{get_elem?}
use Rattle.rowex_table.specs.Rule.{Ruled, dealt, first_view, next_dealer, known_of, trace_of}
use Rattle.rowex_table.specs.Seats.{TableView, SeatView, IsDealtSeat}
use Rattle.rowex_table.specs.declared.traces.TracedView.{TracedView}
use Rattle.rowex_table.proofs.Seats.{deals_next, dealer_next, dealt_next, each_longer}
use Rattle.rowex_table.proofs.table.HotTable.make_with_seats.Goals as goal

pub of_words-requires : goal.of_words-requires
of_words-requires c =
    let f = c.args.first_words.now in
    let same : f.words.items ≡ c.as_slice.result.now = search rules in
    subst (λ (w : List ℕ). Ruled {S = Unit {0}} f.layout (first_state w [] (first_view f.layout f.loads f.words.items))) same c.requires.ruled

pub split_seat-seat-requires : goal.split_seat-seat-requires
split_seat-seat-requires c =
    let low : c.loop-number.number < c.in_ok-table.table.shared.key.layout.passes = search rules in
    let f = c.args.first_words.now in
    (search rules, search rules, deals_next c.in_ok-table.table.shared.key.layout _ _ f.layout f.loads f.words.items c.loop-number.number low (ap (λ m. m.0) c.loop-number.invariant.1))

pub loop-number-preserved : goal.loop-number-preserved
loop-number-preserved c =
    let f = c.args.first_words.now in
    let first : TracedView = first_view f.layout f.loads f.words.items in
    let was = ap (λ m. m.0) c.loop-number.invariant.1 in
    let none = ap (λ m. m.1) c.loop-number.invariant.1 in
    let split = c.split_seat-seat.ensures in
    let left = ap next_dealer was ∙ dealer_next f.layout f.loads f.words.items c.loop-number.number in
    let right = ap dealt was ∙ dealt_next first c.loop-number.number in
    let made : TableView = record { id = c.in_ok-table.table.shared.table_id; layout = f.layout } in (
      search rules,
      split.2 ∙ (λ i. (left i, none i)),
      search rules,
      subst (λ (l : List SeatView). (q : ℕ) (h : SeatView) → get_elem? l q ≡ some h → IsDealtSeat made first q h) (sym c.in_ok-push.ensures.items)
          (each_longer (λ q (h : SeatView). IsDealtSeat made first q h) c.loop-number.seats.items _ c.loop-number.number c.loop-number.invariant.2 c.loop-number.invariant.3
          (search rules, ap (λ m. known_of m.0) split.4 ∙ ap known_of right, ap (λ m. (trace_of m.0).events) split.4 ∙ ap (λ v. (trace_of v).events) right, ap (λ m. (trace_of m.0).asides) split.4 ∙ ap (λ v. (trace_of v).asides) right, ap (λ m. (trace_of m.0).bounds) split.4 ∙ ap (λ v. (trace_of v).bounds) right)),
    )
