-- A position is a quarter of its word, or that of a near column, and past the last one there is none.
use Rattle.record_words.proofs.Common.{◌≡◌, ◌+◌, ◌-◌, ◌*◌, ◌∙◌, ◌/◌, ◌%◌, ◌<◌, ◌^◌, ap, arith, get_or, length, refl, sym, get_or_default, get_or_past, and_mask, head_of}
use Rattle.record_words.proofs.numbers.NearPositions.{near_is}
use Rattle.record_words.proofs.HeadParts.{near_index, near_mask, wide_position}
use Rattle.record_words.specs.Kinds.{mask_index, position_index}
use Rattle.record_words.specs.Node.{head_words}
use Rattle.record_words.proofs.numbers.HeadNumbers.read_position.Goals as goal

pub returns-then-column-self : goal.returns-then-column-self
returns-then-column-self c = λ node lawful told same same_masks. sym (get_or_past node.columns c.args.column 65535 (omega (arith, c.if-column-self.true, told.columns_are)))

pub returns-in-Wide : goal.returns-in-Wide
returns-in-Wide c = λ node lawful told same same_masks.
    let words = head_words (head_of node) in let j = c.args.column in
    let few = lawful.positions.few in
    let at : get_or words (1 + j / 4) 0 ≡ c.args.word = ap (λ k. get_or words (position_index k j) 0) (sym c.in-Wide.is) ∙ same in
    and_mask (c.args.word / 2 ^ (16 * (j % 4))) 16
    ∙ (ap (λ w. w / 2 ^ (16 * (j % 4)) % 2 ^ 16) (sym at) ∙ wide_position node lawful words refl (sym told.kind_is ∙ c.in-Wide.is) j (omega (arith, c.if-column-self.false, told.columns_are, few)))

pub returns-in_default : goal.returns-in_default
returns-in_default c = λ node lawful told same same_masks.
    let words = head_words (head_of node) in let j = c.args.column in
    let other = c.in_default.not-Wide in
    let used : j < length node.columns = omega (arith, c.if-column-self.false, told.columns_are) in
    near_is node lawful c.args.self told other j c.near_position.result _ _ used c.near_position.ensures
    (and_mask (c.args.word / 2 ^ (8 * (7 - j % 8))) 8 ∙ (ap (λ w. w / 2 ^ (8 * (7 - j % 8)) % 2 ^ 8) (sym same ∙ ap (λ k. get_or words (position_index k j) 0) told.kind_is)
    ∙ near_index node lawful words refl (λ wide. other (told.kind_is ∙ wide)) j used))
    (and_mask (c.args.masks / 2 ^ (8 * (7 - j % 8))) 8 ∙ (ap (λ w. w / 2 ^ (8 * (7 - j % 8)) % 2 ^ 8) (sym same_masks ∙ ap (λ k. get_or words (mask_index k j) 0) told.kind_is)
    ∙ near_mask node lawful words refl (λ wide. other (told.kind_is ∙ wide)) j used))
    ∙ sym (get_or_default node.columns j 65535 0 used)
