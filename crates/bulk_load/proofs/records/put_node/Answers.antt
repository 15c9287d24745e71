-- The words are those of the node.
use Rattle.std.proofs.Common.{◌+◌, ◌∙◌, ap, get_or, sym, arith, length}
use Rattle.record_words.proofs.Nodes.{length-node_words}
use Rattle.bulk_load.proofs.records.Fields.{node_fields_are}
use Rattle.bulk_load.proofs.records.put_node.Goals as goal

pub returns-clause-fields : goal.returns-clause-fields
returns-clause-fields c =
    let long = ap length c.pack_node.ensures.words ∙ length-node_words c.args.node.now in
    node_fields_are c.args.layout.now c.put_record.new.words c.args.number c.pack_node.result long
    (λ i h. ap (λ s. get_or c.put_record.new.words (s + (1 + i)) 0) (sym c.node.ensures) ∙ c.put_record.ensures.fields i (omega (arith, h, long))) ∙ c.pack_node.ensures.words
