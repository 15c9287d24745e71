-- It is read of its word.
use Rattle.std.proofs.Common.{◌+◌, ◌/◌, ◌∙◌, ap, arith, get_or, sym}
use Rattle.record_words.specs.Kinds.{rows_a_word, rows_from}
use Rattle.record_words.proofs.HeadParts.HeadsByKind.{row_within}
use Rattle.record_words.proofs.affected.row_in.Goals as goal

pub bounds-words-index_of_row : goal.bounds-words-index_of_row
bounds-words-index_of_row c = omega (arith, c.requires.0, c.index_of_row.ensures, row_within c.read_numbers-numbers.result.kind c.args.slot c.requires.1)

pub returns : goal.returns
returns c = λ node lawful same.
    let numbers = c.read_numbers-numbers.result in
    c.row_of.ensures node lawful (c.read_numbers-numbers.ensures.node node lawful (ap (λ words. get_or words 0 0) same))
    (ap (λ words. get_or words (rows_from numbers.kind + c.args.slot / rows_a_word numbers.kind) 0) same ∙ ap (λ i. get_or c.args.words.now i 0) (sym c.index_of_row.ensures))
