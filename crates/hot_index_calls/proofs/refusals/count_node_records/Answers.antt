-- None yet, one more, and all of them.
use Rattle.hot_index_calls.proofs.Common.{◌≡◌, ◌∙◌, [], ◌∷◌, length, get_or, ap, arith, get_or_default, take_all, Rec, Node, nodes_among}
use Rattle.hot_index_calls.proofs.Refusing.{nodes_few, nodes_taken}
use Rattle.hot_index_calls.proofs.refusals.count_node_records.Goals as goal

pub loop-index-preserved : goal.loop-index-preserved
loop-index-preserved c =
    let rec = get_or c.args.recs.now c.loop-index.index (Node 0) in
    let more = nodes_taken c.args.recs.now c.loop-index.index (Node 0) c.loop-index-test.true in
    let one : c.count_if_node-count.result ≡ length (nodes_among (rec ∷ [])) = c.count_if_node-count.ensures ∙ ap (λ (r : Rec). length (nodes_among (r ∷ []))) (get_or_default c.args.recs.now c.loop-index.index _ (Node 0) c.loop-index-test.true) in
    record {
      count = omega (arith, more, one, c.loop-index.invariant.count);
      few = (let few = nodes_few rec in omega (arith, one, few, c.loop-index.invariant.few));
    }

pub returns : goal.returns
returns c = c.loop-index.invariant.count ∙ ap (λ recs. length (nodes_among recs)) (take_all c.loop-index.index c.args.recs.now (omega (arith, c.loop-index-test.false)))
