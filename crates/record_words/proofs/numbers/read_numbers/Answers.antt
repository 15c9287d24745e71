-- The numbers are parts of the word.
use Rattle.record_words.proofs.Common.{◌∙◌, ◌/◌, ◌^◌, arith, length, refl, sym, and_mask, same_count, head_of}
use Rattle.record_words.specs.Node.{head_words}
use Rattle.record_words.proofs.HeadParts.HeadsByKind.{first_tells, head_parts}
use Rattle.record_words.proofs.numbers.read_numbers.Goals as goal

pub returns-clause-node : goal.returns-clause-node
returns-clause-node c = λ node lawful same.
    let parts = head_parts (length node.rows) node.height node.columns node.rows (head_words (head_of node)) refl in
    let room = lawful.room in
    let told = first_tells (length node.rows) node.height node.columns c.args.word (omega (arith, same_count node lawful, room)) (let few = lawful.positions.few in omega (arith, few))
    (let bound = lawful.bound in omega (arith, bound)) (sym same ∙ parts.numbers) in
    record {
      count_is = told.counted ∙ same_count node lawful;
      columns_are = told.columns_counted;
      height_is = told.height_told;
      kind_is = c.read_kind.ensures ∙ told.kind_told;
      first_is = λ other. and_mask (c.args.word / 2 ^ 32) 8 ∙ told.first_told (λ wide. other (c.read_kind.ensures ∙ (told.kind_told ∙ wide)));
    }

pub returns-clause-parts : goal.returns-clause-parts
returns-clause-parts c = (refl, refl, refl, c.read_kind.ensures, and_mask (c.args.word / 2 ^ 32) 8)
