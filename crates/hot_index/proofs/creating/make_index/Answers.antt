-- The passes of the new seats.
use Rattle.rowex_table.specs.Seats.{HasUncommitted}
use Rattle.hot_index.proofs.Common.{◌≡◌, ℕ, List, Some, sym, subst, slice_get, IsNewPass, Owns, PassView}
use Rattle.hot_index.proofs.Passes.{new_pass, new_settled, passes_of}
use Rattle.hot_index.proofs.creating.make_index.Goals as goal

pub make_closed_passes-requires : goal.make_closed_passes-requires
make_closed_passes-requires c = new_settled c.in_ok-table.table c.new-count.result c.new-count.ensures c.in_ok-table.seats.items c.in_ok-table.ensures.seats

pub returns-clause-each : goal.returns-clause-each
returns-clause-each c =
    let table = c.in_ok-table.table in
    subst (λ (ps : List PassView). (q : ℕ) (p : PassView) → slice_get ps q ≡ Some p → Owns table p × IsNewPass q p) (sym c.in_ok-passes.ensures)
    (passes_of (λ q p. Owns table p × IsNewPass q p) c.in_ok-table.seats.items (λ q s e. new_pass table q s (c.in_ok-table.ensures.seats q s e)))

pub returns-clause-reserved : goal.returns-clause-reserved
returns-clause-reserved c =
    subst (λ (ps : List PassView). (q : ℕ) (p : PassView) → slice_get ps q ≡ Some p → HasUncommitted c.args.uncommitted.now p.seat) (sym c.in_ok-passes.ensures)
    (passes_of (λ q p. HasUncommitted c.args.uncommitted.now p.seat) c.in_ok-table.seats.items c.in_ok-table.ensures.uncommitted)
