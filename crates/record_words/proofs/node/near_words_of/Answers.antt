-- The first sixteen places are those of the columns.
use Rattle.record_words.proofs.Common.{ℕ, List, ◌≡◌, ◌≢◌, ◌∙◌, ap, with_free}
use Rattle.record_words.proofs.OfKinds.{few_and_near, has_near_lanes}
use Rattle.record_words.proofs.node.HeadPut.{sixteen_places}
use Rattle.record_words.specs.Kinds.{kind_of, lane_words, with_free_to_16}
use Rattle.record_words.specs.declared.kind.HeadKind.TheVariants.{Wide}
use lib.Lanes.{chunk}
use Rattle.record_words.proofs.node.near_words_of.Goals as goal

places : (columns all : List ℕ) → kind_of columns ≢ Wide → all ≡ with_free columns → chunk 0 16 all ≡ with_free_to_16 columns
places columns all other same = ap (chunk 0 16) same ∙ sixteen_places columns (few_and_near columns other).0

pub near_lanes_of-requires : goal.near_lanes_of-requires
near_lanes_of-requires c = (c.args.columns.now, has_near_lanes c.args.columns.now c.requires.1 c.requires.0, places c.args.columns.now c.padded_positions.result.now c.requires.0 c.padded_positions.ensures)

pub returns : goal.returns
returns c =
    let columns = c.args.columns.now in
    let lanes = c.near_lanes_of.ensures columns (has_near_lanes columns c.requires.1 c.requires.0) (places columns c.padded_positions.result.now c.requires.0 c.padded_positions.ensures) in
    (c.words_of_bytes.ensures ∙ ap (lane_words 8 2) lanes.0, c.words_of_bytes-2.ensures ∙ ap (lane_words 8 2) lanes.1)
