-- The second half gets a new record, the first one the old one's.
use Rattle.plain_trie_records.proofs.Common.{◌≡◌, refl, arith, length, vec_len}
use Rattle.plain_trie_records.specs.Risen.{pushed_nodes}
use Rattle.plain_trie_records.proofs.Heights.{heights_double}
use Rattle.plain_trie_records.proofs.Risen.{double_shows, double_side, single_side, others_kept, others_pushed}
use Rattle.plain_trie_records.proofs.raising.store_cut.Goals as goal

pub returns-in-One-clause-side : goal.returns-in-One-clause-side
returns-in-One-clause-side c = λ old P at s big.
    rw c.put_half-one.ensures.nodes (single_side old c.args.nodes.now.items c.args.number at c.args.cut.position c.in-One.zero c.args.cut.one P (rw c.in-One.is at s) big)

pub returns-in-One-clause-others : goal.returns-in-One-clause-others
returns-in-One-clause-others c = λ m v ne at.
    rw c.put_half-one.ensures.nodes (others_kept c.args.nodes.now.items c.args.number c.args.cut.one m v ne at)

pub returns-in_default-clause-shows : goal.returns-in_default-clause-shows
returns-in_default-clause-shows c = λ old P at high lawful s.
    let long : vec_len c.args.nodes.now ≡ length c.args.nodes.now.items = omega (arith, c.args.nodes.now.ok.0) in
    rw (c.put_half-zero.ensures.nodes, c.put_half-zero.ensures.entry, c.push_half_if_node-one.ensures.nodes, c.push_half_if_node-one.ensures.entry, long)
    (double_shows old c.args.nodes.now.items c.args.number c.args.height at high lawful c.args.cut.position c.args.cut.zero c.args.cut.one P c.in_default.not-One s)

pub returns-in_default-clause-others : goal.returns-in_default-clause-others
returns-in_default-clause-others c = λ m v ne at.
    rw (c.put_half-zero.ensures.nodes, c.push_half_if_node-one.ensures.nodes)
    (others_kept (pushed_nodes c.args.nodes.now.items c.args.cut.one) c.args.number c.args.cut.zero m v ne (others_pushed c.args.nodes.now.items c.args.cut.one m v at))

pub returns-in_default-clause-heights : goal.returns-in_default-clause-heights
returns-in_default-clause-heights c = λ old P at s steady.
    rw (c.put_half-zero.ensures.nodes, c.push_half_if_node-one.ensures.nodes) (heights_double c.args.nodes.now.items c.args.number old P at c.args.cut s steady)

pub returns-in_default-clause-side : goal.returns-in_default-clause-side
returns-in_default-clause-side c = λ old P at s big.
    rw (c.put_half-zero.ensures.nodes, c.push_half_if_node-one.ensures.nodes)
    (double_side old c.args.nodes.now.items c.args.number at c.args.cut.position c.args.cut.zero c.args.cut.one P c.in_default.not-One s)

pub returns-in-One-clause-up : goal.returns-in-One-clause-up
returns-in-One-clause-up c = refl

pub returns-in_default-clause-up : goal.returns-in_default-clause-up
returns-in_default-clause-up c = refl
