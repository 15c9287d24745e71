-- The passes of the seats of a table that was loaded.
use Rattle.hot_index.proofs.Common.{◌≡◌, ◌∙◌, ℕ, List, Some, sym, subst, slice_get, pairs, LoadView, Layout, Owns, PassView, loaded_tree}
use Rattle.record_words.specs.Layout.{uncommitted_in}
use Rattle.record_words.specs.declared.records.Rec.{Rec}
use Rattle.versions.specs.State.{IsLinked}
use Rattle.rowex_table.specs.Committed.{IsCommitted}
use Rattle.rowex_table.specs.Seats.{HasAllCommitted}
use Rattle.hot_index.proofs.Committed.{links_are_committed}
use Rattle.hot_index.specs.Loads.{IsPassOfLoad}
use Rattle.hot_index.proofs.Passes.{passes_of}
use Rattle.hot_index.proofs.Loads.{loaded_all_committed, loaded_settled, pass_of_load, words_for_table}
use Rattle.hot_index.proofs.loading.Load.finish_committed.Goals as goal

pub new_loaded-requires-clause-committed : goal.new_loaded-requires-clause-committed
new_loaded-requires-clause-committed c =
    let loader = c.self.inside.loader in let words = c.finish_reserved-words.result.items in
    subst (λ (l : Layout). (r : Rec) → IsLinked (loaded_tree l words) r → IsCommitted l (uncommitted_in words) r) (sym c.self.invariant.0)
    (links_are_committed loader.layout words c.finish_reserved-words.ensures.committed)

pub make_closed_passes-requires : goal.make_closed_passes-requires
make_closed_passes-requires c =
    let loader = c.self.inside.loader in let words = c.finish_reserved-words.ensures in let made = c.in_ok-table.ensures in
    let of = words_for_table c.in_ok-table.table loader.layout loader.items c.finish_reserved-words.result.items (made.table ∙ c.self.invariant.0) words.load words.items words.spare in
    loaded_settled c.in_ok-table.table c.finish_reserved-words.result.items c.in_ok-table.seats.items loader.items of made.first made.others c.self.inside.count c.self.invariant.1

pub returns-clause-each : goal.returns-clause-each
returns-clause-each c =
    let table = c.in_ok-table.table in
    let loader = c.self.inside.loader in let words = c.finish_reserved-words.ensures in let made = c.in_ok-table.ensures in
    let of = words_for_table table loader.layout loader.items c.finish_reserved-words.result.items (made.table ∙ c.self.invariant.0) words.load words.items words.spare in
    subst (λ (v : LoadView). (q : ℕ) (p : PassView) → slice_get c.in_ok-passes.passes.items q ≡ Some p → Owns table p × IsPassOfLoad table (pairs v.items) q p) c.self.view_is
    (subst (λ (ps : List PassView). (q : ℕ) (p : PassView) → slice_get ps q ≡ Some p → Owns table p × IsPassOfLoad table (pairs loader.items) q p) (sym c.in_ok-passes.ensures)
    (passes_of (λ q p. Owns table p × IsPassOfLoad table (pairs loader.items) q p) c.in_ok-table.seats.items
    (pass_of_load table c.finish_reserved-words.result.items c.in_ok-table.seats.items loader.items of made.first made.others)))

pub returns-clause-all : goal.returns-clause-all
returns-clause-all c = λ all.
    subst (λ (ps : List PassView). (q : ℕ) (p : PassView) → slice_get ps q ≡ Some p → HasAllCommitted p.seat) (sym c.in_ok-passes.ensures)
    (passes_of (λ q p. HasAllCommitted p.seat) c.in_ok-table.seats.items
    (loaded_all_committed c.in_ok-table.seats.items c.finish_reserved-words.result.items (c.finish_reserved-words.ensures.all all) c.in_ok-table.ensures.bounds))
