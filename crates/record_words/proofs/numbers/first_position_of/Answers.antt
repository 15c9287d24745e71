-- The first position is the lowest part of its word, or the first mask is the highest.
use Rattle.record_words.proofs.Common.{◌≡◌, ◌∙◌, ◌%◌, ap, arith, get_or, refl, sym, get_or_default, head_of}
use Rattle.record_words.proofs.numbers.NearPositions.{near_is}
use Rattle.record_words.proofs.HeadParts.{near_mask, wide_position}
use Rattle.record_words.specs.Kinds.{mask_index}
use Rattle.record_words.specs.Node.{head_words}
use Rattle.record_words.proofs.numbers.first_position_of.Goals as goal

pub returns-in-Wide : goal.returns-in-Wide
returns-in-Wide c = λ node lawful told same.
    let words = head_words (head_of node) in
    let some = lawful.positions.some in
    let at : get_or words 1 0 ≡ c.args.word = ap (λ k. get_or words (mask_index k 0) 0) (sym c.in-Wide.is) ∙ same in
    ap (λ w. w % 65536) (sym at) ∙ (omega (arith, wide_position node lawful words refl (sym told.kind_is ∙ c.in-Wide.is) 0 (omega arith), get_or_default node.columns 0 65535 0 some))

pub returns-in_default : goal.returns-in_default
returns-in_default c = λ node lawful told same.
    let words = head_words (head_of node) in
    let other = c.in_default.not-Wide in
    let some = lawful.positions.some in
    let masks : get_or words (mask_index c.args.numbers.kind 0) 0 ≡ c.args.word = same in
    let mask = near_mask node lawful words refl (λ wide. other (told.kind_is ∙ wide)) 0 some in
    near_is node lawful c.args.numbers told other 0 c.near_position.result _ _ some c.near_position.ensures (omega arith)
    (omega (arith, c.ranges.word.fits, ap (λ k. get_or words (mask_index k 0) 0) told.kind_is, same, mask))
