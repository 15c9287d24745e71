-- A leaf record is packed where its words spell a leaf and its class has room for the key.
use Rattle.std.proofs.Common.{sym, ◌∙◌}
use Rattle.rowex_replay_state.proofs.records.Packing.{leaf_is_packed, leaf_is_missing}
use Rattle.rowex_replay_state.proofs.records.Records.has_valid_words.Goals as goal

pub returns-then-are_leaf_words : goal.returns-then-are_leaf_words
returns-then-are_leaf_words c =
    leaf_is_packed c.args.self.now c.args.rec c.in-Leaf.number c.in-Some-leaf.words c.in-Leaf.is (sym c.leaf.ensures ∙ c.in-Some-leaf.is) c.has_room_for_key.result
    (λ t. ((c.are_leaf_words.ensures c.in-Leaf.number).0 c.if-are_leaf_words.true, c.has_room_for_key.ensures.0 t)) (λ (packed, room). c.has_room_for_key.ensures.1 room)

pub returns-else-are_leaf_words : goal.returns-else-are_leaf_words
returns-else-are_leaf_words c =
    leaf_is_packed c.args.self.now c.args.rec c.in-Leaf.number c.in-Some-leaf.words c.in-Leaf.is (sym c.leaf.ensures ∙ c.in-Some-leaf.is) c.are_leaf_words.result
    (λ t. absurd (let x = c.if-are_leaf_words.false in cc)) (λ (packed, room). (c.are_leaf_words.ensures c.in-Leaf.number).1 packed)

pub returns-in-None-leaf : goal.returns-in-None-leaf
returns-in-None-leaf c = leaf_is_missing c.args.self.now c.args.rec c.in-Leaf.number c.in-Leaf.is (sym c.leaf.ensures ∙ c.in-None-leaf.is)
