-- The step by the words of the head.
use Rattle.std.proofs.Common.{ap, get_or}
use Rattle.rowex_reading.proofs.reading.Stepping.{step_spelled}
use Rattle.rowex_reading.proofs.reading.load_path_node.Goals as goal

pub returns-clause-step : goal.returns-clause-step
returns-clause-step g c = λ m h led.
    let are = c.load_head_words-words.ensures.words m h led in
    (are.head, are.seen, step_spelled c.load_head_words-words.result are c.read_numbers-numbers.result c.read_numbers-numbers.ensures.node _ (ap (λ i. get_or c.load_head_words-words.result i 0) c.index_of_first_position.ensures) c.path_node.result c.args.number 0 c.path_node.ensures.same c.path_node.ensures.node)
