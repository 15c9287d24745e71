-- The notes of the gets.
use Rattle.hot_index.proofs.index.ManyNoted.{gets_said}
use Rattle.hot_index.proofs.index.Index.get_many_with.Given as goal

abbrev pub ghost-end_gets : goal.ghost-end_gets
ghost-end_gets g a = gets_said a._keys.now a._found.now
