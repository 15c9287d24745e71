-- The words are those of a load of the leaves that the builder had.
use Rattle.bulk_load.proofs.Common.{◌≡◌, ◌<◌, ℕ, subst, a_node, IsLinked, items_of, IsLoad, after, loaded_tree, opening, Shows}
use Rattle.bulk_load.specs.Finished.{LinksCommitted}
use Rattle.bulk_load.specs.Loading.{items_in}
use Rattle.bulk_load.specs.Views.{LoadView, load_act}
use Rattle.bulk_load.proofs.loader.Loader.finish_reserved.Goals as goal

pub returns-clause-load : goal.returns-clause-load
returns-clause-load c =
    subst (λ (v : LoadView). IsLoad v.layout c.close_all.new.self.words.items) c.self.view_is (c.close_all.ensures.finished (items_in c.self.inside.builder) c.self.invariant).load

pub returns-clause-shows : goal.returns-clause-shows
returns-clause-shows c =
    let words = c.close_all.new.self.words.items in
    subst (λ (v : LoadView). Shows (after (opening v.layout) 0 (load_act words)) words) c.self.view_is (c.close_all.ensures.finished (items_in c.self.inside.builder) c.self.invariant).shows

pub returns-clause-items : goal.returns-clause-items
returns-clause-items c =
    let words = c.close_all.new.self.words.items in
    subst (λ (v : LoadView). items_of (loaded_tree v.layout words) ≡ v.items) c.self.view_is (c.close_all.ensures.finished (items_in c.self.inside.builder) c.self.invariant).items

pub returns-clause-committed : goal.returns-clause-committed
returns-clause-committed c =
    let words = c.close_all.new.self.words.items in subst (λ (v : LoadView). LinksCommitted v.layout words) c.self.view_is c.close_all.ensures.committed

pub returns-clause-spare : goal.returns-clause-spare
returns-clause-spare c =
    let words = c.close_all.new.self.words.items in
    subst (λ (v : LoadView). (n : ℕ) × (n < v.layout.nodes) × ¬ IsLinked (loaded_tree v.layout words) (a_node n)) c.self.view_is (c.close_all.ensures.finished (items_in c.self.inside.builder) c.self.invariant).spare
