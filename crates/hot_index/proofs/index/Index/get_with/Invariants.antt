-- The note of the get.
use Rattle.hot_index.proofs.Common.{Get, got, note_of}
use Rattle.hot_index.proofs.index.Index.get_with.Given as goal

abbrev pub ghost-end_get : goal.ghost-end_get
ghost-end_get g a = note_of (Get a._key.now) (got a._found)
