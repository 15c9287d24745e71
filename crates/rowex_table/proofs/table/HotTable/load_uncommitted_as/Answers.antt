-- The word is one of the table's, and the load of it keeps the rule.
use Rattle.std.proofs.Common.{rules, ◌≡◌, Some, Option, sym, ap, ◌∙◌}
use Rattle.record_words.specs.declared.layout.Layout.{Layout}
use Rattle.record_words.specs.Layout.{uncommitted_word}
use Rattle.rowex_table.specs.Seats.{TableView}
use Rattle.rowex_table.proofs.Committed.{word_of_kind}
use Rattle.rowex_table.proofs.Committed.Steps.{bounds, bounds_committed, bounds_seat, uncommitted_in_words}
use Rattle.rowex_table.proofs.table.HotTable.load_uncommitted_as.Goals as goal

pub load-requires : goal.load-requires
load-requires g c =
    let layout : c.self.inside.table.shared.key.layout ≡ c.args.self.now.layout = c.self.invariant.1 ∙ ap (λ (z : TableView). z.layout) c.self.view_is in
    let of : g.Q.UncommittedWord.layout ≡ Some c.self.inside.table.shared.key.layout = c.requires.names.0 ∙ ap (λ (z : Layout). let o : Option Layout = Some z in o) (sym layout) in
    (search rules, uncommitted_in_words _ c.args.kind c.self.inside.origins.layout c.self.invariant.0 c.requires.kind, bounds c.self.inside.table.shared.key.layout _ of _ _ _ g.Q.UncommittedWord.kind (word_of_kind c.args.kind c.requires.kind ∙ ap uncommitted_word (sym c.requires.names.1)) _ _ _ c.seat.invariant.0)

pub returns-clause-seat : goal.returns-clause-seat
returns-clause-seat g c = bounds_seat _ _ _ _ c.args.kind g.Q.UncommittedWord.kind c.load.result _ c.load.new.seat.me c.requires.names.1 c.seat.invariant.0 c.load.ensures.0 c.load.ensures.1 c.load.ensures.2.1 c.args.seat.now c.seat.view_is

pub returns-clause-few : goal.returns-clause-few
returns-clause-few g c = (bounds_committed c.args.self.now.layout g.Q.UncommittedWord.layout _ _ c.args.kind g.Q.UncommittedWord.kind c.load.result _ c.requires.names.0 c.requires.names.1 c.seat.invariant.0 c.load.ensures.2.2 c.args.seat.now c.seat.view_is).0

pub returns-clause-committed : goal.returns-clause-committed
returns-clause-committed g c = (bounds_committed c.args.self.now.layout g.Q.UncommittedWord.layout _ _ c.args.kind g.Q.UncommittedWord.kind c.load.result _ c.requires.names.0 c.requires.names.1 c.seat.invariant.0 c.load.ensures.2.2 c.args.seat.now c.seat.view_is).1
