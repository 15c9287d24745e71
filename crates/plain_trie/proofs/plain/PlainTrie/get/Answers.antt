-- The leaf at which the search ends has the key, or no leaf has it.
use Rattle.std.proofs.Common.{ap, sym, ◌∙◌, arith, length}
use Rattle.std.proofs.lemmas.Bool.{false≢true}
use Rattle.std.proofs.lemmas.Option.{slice_get_within}
use Rattle.plain_trie.specs.Views.{PlainView}
use Rattle.plain_trie.proofs.Views.{end_found, end_missed}
use Rattle.plain_trie.proofs.plain.PlainTrie.get.Goals as goal

pub index-leaf-requires : goal.index-leaf-requires
index-leaf-requires c =
    omega (arith, slice_get_within c.args.self.now.leaves c.find_leaf.result _ c.find_leaf.ensures.at, ap (λ (v : PlainView). length v.leaves) c.self.view_is, c.self.inside.leaves.ok.0)

pub returns-then-eq : goal.returns-then-eq
returns-then-eq c = sym (end_found c.find_leaf.ensures c.index-leaf.result.now (rw (← c.self.view_is) c.index-leaf.ensures) (c.eq.ensures.same.0 c.if-eq.true))

pub returns-else-eq : goal.returns-else-eq
returns-else-eq c = sym (end_missed c.find_leaf.ensures c.index-leaf.result.now (rw (← c.self.view_is) c.index-leaf.ensures) (λ e. false≢true (sym c.if-eq.false ∙ c.eq.ensures.same.1 e)))
