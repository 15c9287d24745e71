-- The word is one of the table's, and the exchange keeps the rule.
use Rattle.std.proofs.Common.{rules, ◌≡◌, ◌≤◌, Some, Option, sym, ap, ◌∙◌, arith}
use Rattle.record_words.specs.declared.layout.Layout.{Layout}
use Rattle.rowex_core.specs.Events.{exchanged}
use Rattle.record_words.specs.Layout.{uncommitted_word}
use Rattle.rowex_table.specs.Rule.{bounded}
use Rattle.rowex_table.specs.Seats.{TableView}
use Rattle.rowex_table.proofs.Committed.{word_of_kind}
use Rattle.rowex_table.proofs.Committed.Steps.{bounds_committed, bounds_seat, uncommitted_in_words, commits}
use Rattle.rowex_table.proofs.table.HotTable.commit_records_as.Goals as goal

pub compare_exchange-requires : goal.compare_exchange-requires
compare_exchange-requires g c =
    let layout : c.self.inside.table.shared.key.layout ≡ c.args.self.now.layout = c.self.invariant.1 ∙ ap (λ (z : TableView). z.layout) c.self.view_is in
    let of : g.Q.UncommittedWord.layout ≡ Some c.self.inside.table.shared.key.layout = c.requires.names.0 ∙ ap (λ (z : Layout). let o : Option Layout = Some z in o) (sym layout) in
    let expected : g.Q.UncommittedWord.expected ≡ c.args.expected = c.requires.names.2 in
    let count : g.Q.UncommittedWord.count ≡ c.args.count = c.requires.names.3 in
    let falls : g.Q.UncommittedWord.count ≤ g.Q.UncommittedWord.expected = (let low = c.requires.falls in omega arith) in (
      search rules,
      uncommitted_in_words _ c.args.kind c.self.inside.origins.layout c.self.invariant.0 c.requires.kind,
      commits c.self.inside.table.shared.key.layout _ of _ _ _ g.Q.UncommittedWord.kind g.Q.UncommittedWord.expected g.Q.UncommittedWord.count _ (λ w i. exchanged w (sym expected i) (sym count i)) falls (word_of_kind c.args.kind c.requires.kind ∙ ap uncommitted_word (sym c.requires.names.1)) _ _ _ c.seat.invariant.0,
    )

pub returns : goal.returns
returns g c =
    let left = c.compare_exchange.ensures.2.1 ∙ (λ i. bounded g.Q.UncommittedWord.kind (exchanged c.compare_exchange.result (c.requires.names.2 i) (c.requires.names.3 i)) c.seat.inside.seat.me.0) in
    record {
      seat = bounds_seat _ _ _ _ c.args.kind g.Q.UncommittedWord.kind (exchanged c.compare_exchange.result c.args.expected c.args.count) _ c.compare_exchange.new.seat.me c.requires.names.1 c.seat.invariant.0 c.compare_exchange.ensures.0 c.compare_exchange.ensures.1 left c.args.seat.now c.seat.view_is;
      few = (bounds_committed c.args.self.now.layout g.Q.UncommittedWord.layout _ _ c.args.kind g.Q.UncommittedWord.kind c.compare_exchange.result _ c.requires.names.0 c.requires.names.1 c.seat.invariant.0 c.compare_exchange.ensures.2.2 c.args.seat.now c.seat.view_is).0;
    }
