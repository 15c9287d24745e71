-- The opening of a new table, some of whose records are uncommitted.
use Rattle.rowex_table.proofs.Common.{rules, ◌≡◌, ℕ, ◌<◌, List, false, ap, ◌∙◌, sym, subst, arith, length, IfOk-weaker, Layout, Shows, opening, opening_words, opening_is_lawful}
use Rattle.record_words.specs.Layout.{uncommitted_in}
use Rattle.std.specs.Prelude.{get_or}
use Rattle.rowex_table.proofs.Committed.{word_of_kind}
use Rattle.rowex_table.proofs.Seats.{all_new, both_ok, dealt_bounds, dealt_new, opens_reserved, reserves_more}
use Rattle.rowex_table.proofs.table.HotTable.new_reserved.Goals as goal

pub loop-kind-init : goal.loop-kind-init
loop-kind-init c = record {
  shows = subst (Shows (opening c.args.layout)) (search rules) (opening_is_lawful c.args.layout).1;
  counts = λ other low. absurd (omega arith);
}

pub loop-kind-preserved : goal.loop-kind-preserved
loop-kind-preserved c =
    let more = reserves_more c.args.layout c.loop-kind.words.items c.args.uncommitted.now c.loop-kind.kind c.loop-kind-test.true c.loop-kind.invariant.shows c.loop-kind.invariant.counts in
    record { shows = more.0; counts = more.1 }

pub make_with_seats-requires-clause-ruled : goal.make_with_seats-requires-clause-ruled
make_with_seats-requires-clause-ruled c = opens_reserved c.args.layout c.loop-kind.words.items c.loop-kind.invariant.shows

pub returns-clause-seats : goal.returns-clause-seats
returns-clause-seats c = IfOk-weaker c.make_with_seats.result _ _ (λ made h q s e. dealt_new made.0 _ q s (h q s e)) c.make_with_seats.ensures.seats

pub returns-clause-each : goal.returns-clause-each
returns-clause-each c =
    both_ok c.make_with_seats.result _ _ _ (λ made long h. all_new made.0 made.1.items long (λ q s e. dealt_new made.0 _ q s (h q s e)))
    (both_ok c.make_with_seats.result _ _ (λ made. length made.1.items ≡ made.0.layout.passes) (λ made same long. long ∙ ap (λ (l : Layout). l.passes) (sym same)) c.make_with_seats.ensures.table c.make_with_seats.ensures.count)
    c.make_with_seats.ensures.seats

pub returns-clause-uncommitted : goal.returns-clause-uncommitted
returns-clause-uncommitted c = IfOk-weaker c.make_with_seats.result _ _
    (λ made h q s e kind low. ap (λ (words : List ℕ). uncommitted_in words kind) (dealt_bounds made.0 c.args.layout false _ q s (h q s e)) ∙
    (sym (ap (λ i. get_or c.loop-kind.words.items i 0) (word_of_kind kind low)) ∙ c.loop-kind.invariant.counts kind (let done = c.loop-kind-test.false in omega arith)))
    c.make_with_seats.ensures.seats
