-- The seats that have been dealt are those of the passes below the number.
use Rattle.std.specs.Prelude.{◌≡◌, ℕ, [], length}
use mathlib.Core.Option.{some}
use lib.ListN.{get_elem?}
use Rattle.rowex_table.specs.Rule.{dealer_at, first_view}
use Rattle.rowex_table.specs.Seats.{TableView, SeatView, IsDealtSeat}
use Rattle.rowex_table.proofs.table.HotTable.make_with_seats.Given as goal

abbrev pub invariant-loop-number : goal.invariant-loop-number
invariant-loop-number l =
    let first = first_view l.first_words.layout l.first_words.loads l.first_words.words.items in
    (l.dealer.table_id ≡ l.table.shared.table_id) × (l.dealer.me ≡ (dealer_at first l.number, [])) × (length l.seats.items ≡ l.number)
    × ((q : ℕ) (h : SeatView) → get_elem? l.seats.items q ≡ some h → let made : TableView = record { id = l.table.shared.table_id; layout = l.first_words.layout } in IsDealtSeat made first q h)
