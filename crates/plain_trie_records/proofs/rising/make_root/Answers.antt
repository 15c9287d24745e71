-- An entry stands for itself, and a fork for a node.
use Rattle.plain_trie_records.proofs.Common.{◌≡◌, suc, true, ap, sym, ◌∙◌, arith, subst, false≢true, vec_len, Risen, subtrie_of, pair_facts}
use Rattle.plain_trie_records.specs.Cases.{IsNewNode, is_split}
use Rattle.plain_trie_records.specs.Rising.{IsRaised}
use Rattle.plain_trie_records.proofs.rising.Rising.{raised_in_new_node}
use Rattle.plain_trie_records.proofs.Store.{lower_more}
use Rattle.plain_trie_records.proofs.rising.make_root.Goals as goal

pub push_pair-requires : goal.push_pair-requires
push_pair-requires c =
    let u = c.requires.place.6 in
    let p = pair_facts c.in-Split.position c.in-Split.zero c.in-Split.one u.tree (u.begins ∙ ap subtrie_of c.in-Split.is) u.adds.trie u.built in
    record { room = c.requires.room; small = c.requires.small; position = omega (arith, p.position); zero = p.zero; one = p.one }

pub returns-in-Whole-clause-raised : goal.returns-in-Whole-clause-raised
returns-in-Whole-clause-raised c = λ ns leaves x p t h u. record {
  tree = u.tree;
  begins = u.begins ∙ ap subtrie_of c.in-Whole.is;
  adds = u.adds;
  built = u.built;
  lower = lower_more c.args.nodes.now.items h (suc h) u.tree u.lower (omega arith);
  shown = u.shown;
  kept = u.kept;
}

pub returns-in-Split-clause-raised : goal.returns-in-Split-clause-raised
returns-in-Split-clause-raised c = λ ns leaves x p t h u.
    raised_in_new_node ns c.args.nodes.now.items c.push_pair.new.nodes.items leaves x p t h c.in-Split.position c.in-Split.zero c.in-Split.one c.push_pair.result
    (subst (IsRaised ns c.args.nodes.now.items leaves x p t h) (ap subtrie_of c.in-Split.is) u) c.push_pair.ensures.new

pub returns-in-Whole-clause-new : goal.returns-in-Whole-clause-new
returns-in-Whole-clause-new c = λ up. absurd (false≢true (subst (λ (r : Risen). is_split r ≡ true) c.in-Whole.is up))

pub returns-in-Split-clause-new : goal.returns-in-Split-clause-new
returns-in-Split-clause-new c = λ up. subst (IsNewNode (vec_len c.args.nodes.now)) (sym c.push_pair.ensures.new.is) (omega (arith, c.args.nodes.now.ok.0))
