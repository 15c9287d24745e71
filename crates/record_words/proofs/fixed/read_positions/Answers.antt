-- The places are those of the columns.
use Rattle.record_words.proofs.Common.{◌∙◌, ap, arith, sym, take, length-take-le}
use Rattle.record_words.proofs.Reading.{places_taken}
use Rattle.record_words.proofs.fixed.read_positions.Goals as goal

pub slice_bounds-copy_from_slice-end-3 : goal.slice_bounds-copy_from_slice-end-3
slice_bounds-copy_from_slice-end-3 c = sym (length-take-le 31 c.positions_in.result (omega arith))

pub copy_from_slice-requires : goal.copy_from_slice-requires
copy_from_slice-requires c = sym (length-take-le 31 c.positions_in.result (omega arith))

pub returns : goal.returns
returns c = λ node lawful same. c.copy_from_slice.ensures.after ∙ (ap (take 31) (c.positions_in.ensures node lawful same) ∙ places_taken node.columns lawful.positions.few)
