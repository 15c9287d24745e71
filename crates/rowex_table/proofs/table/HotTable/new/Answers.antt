-- The opening of a new table.
use Rattle.rowex_table.proofs.Common.{rules, ◌≡◌, ℕ, List, false, ap, ◌∙◌, sym, length, IfOk-weaker, Layout}
use Rattle.record_words.specs.Layout.{uncommitted_in}
use Rattle.rowex_table.proofs.Committed.{opening_committed}
use Rattle.rowex_table.proofs.Seats.{opens, all_new, both_ok, dealt_bounds, dealt_new}
use Rattle.rowex_table.proofs.table.HotTable.new.Goals as goal

pub make_with_seats-requires-clause-ruled : goal.make_with_seats-requires-clause-ruled
make_with_seats-requires-clause-ruled c = opens c.args.layout _ (search rules)

pub returns-clause-seats : goal.returns-clause-seats
returns-clause-seats c = IfOk-weaker c.make_with_seats.result _ _ (λ made h q s e. dealt_new made.0 _ q s (h q s e)) c.make_with_seats.ensures.seats

pub returns-clause-each : goal.returns-clause-each
returns-clause-each c =
    both_ok c.make_with_seats.result _ _ _ (λ made long h. all_new made.0 made.1.items long (λ q s e. dealt_new made.0 _ q s (h q s e)))
    (both_ok c.make_with_seats.result _ _ (λ made. length made.1.items ≡ made.0.layout.passes) (λ made same long. long ∙ ap (λ (l : Layout). l.passes) (sym same)) c.make_with_seats.ensures.table c.make_with_seats.ensures.count)
    c.make_with_seats.ensures.seats

pub returns-clause-committed : goal.returns-clause-committed
returns-clause-committed c = IfOk-weaker c.make_with_seats.result _ _
    (λ made h q s e kind. ap (λ (words : List ℕ). uncommitted_in words kind) (dealt_bounds made.0 c.args.layout false _ q s (h q s e) ∙ search rules) ∙ opening_committed c.args.layout kind)
    c.make_with_seats.ensures.seats
