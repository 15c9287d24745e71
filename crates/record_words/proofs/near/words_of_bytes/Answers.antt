-- The words are made of the lanes.
use Rattle.std.proofs.Common.{refl}
use Rattle.record_words.specs.Kinds.{lane_words}
use Rattle.record_words.proofs.near.words_of_bytes.Goals as goal

pub returns : goal.returns
unfolding lane_words
returns c = refl
