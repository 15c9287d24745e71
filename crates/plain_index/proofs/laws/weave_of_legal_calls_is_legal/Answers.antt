-- The laws are lemmas on the weave.
use Rattle.finite_map.proofs.Weaves.{weave-legal, weave-legal_two}
use Rattle.plain_index.proofs.laws.weave_of_legal_calls_is_legal.Goals as goal

pub returns : goal.returns
returns c = record { any = weave-legal; two = weave-legal_two }
