-- The columns and rows that are left give the words.
use Rattle.record_words.proofs.Common.{List, ℕ, ◌≡◌, ◌<◌, ◌++◌, ◌∙◌, ap, ap₂, arith, drop, get_or, get_or-take, length, map, subst, sym, take, All, IsLawfulNode, NodeView, head_of, holds_front, IsColumns, with_free, with_unused, IsRowOver, squeezed, used_bits, kept}
use Rattle.record_words.specs.Dropping.{CanDropColumns}
use Rattle.record_words.specs.HeadParts.{AreNumbersOf}
use Rattle.record_words.specs.Node.{head_words}
use Rattle.record_words.specs.Packed.{fixed_words}
use Rattle.record_words.specs.declared.numbers.HeadNumbers.{HeadNumbers}
use Rattle.record_words.proofs.node.DroppedRows.{first_lanes}
use Rattle.record_words.proofs.Reading.{columns_in_front}
use Rattle.record_words.proofs.node.drop_columns.Goals as goal

module _ {words rows : List ℕ} {used : ℕ} (numbers : HeadNumbers) (tells : (node : NodeView) → IsLawfulNode node → get_or (head_words (head_of node)) 0 0 ≡ get_or words 0 0 → AreNumbersOf numbers node)
    (node : NodeView) (can : CanDropColumns words node rows used) where
  told : AreNumbersOf numbers node
  told = tells node can.lawful (ap (λ ws. get_or ws 0 0) can.begins ∙ get_or-take 25 words 0 0 (omega arith))

  columns_are : (positions columns : List ℕ) → positions ≡ with_free node.columns → columns ≡ take numbers.columns positions → columns ≡ node.columns
  columns_are positions columns are front = front ∙ columns_in_front node.columns _ _ are told.columns_are

pub from_padded-columns-requires : goal.from_padded-columns-requires
from_padded-columns-requires c =
    let (node, can) = c.requires.dropping in
    holds_front node.columns _ _ can.lawful.positions (told c.read_numbers-numbers.result c.read_numbers-numbers.ensures.node node can).columns_are (c.read_positions-positions.ensures node can.lawful can.begins)

pub drop_unused-requires : goal.drop_unused-requires
drop_unused-requires c =
    let (node, can) = c.requires.dropping in
    record {
      some = subst (λ cs. 0 < length (kept (used_bits c.args.used) cs))
          (sym (columns_are c.read_numbers-numbers.result c.read_numbers-numbers.ensures.node node can c.read_positions-positions.result c.from_padded-columns.result (c.read_positions-positions.ensures node can.lawful can.begins) c.from_padded-columns.ensures))
          can.left.some;
    }

pub squeeze_lanes-left-requires-clause-few : goal.squeeze_lanes-left-requires-clause-few
squeeze_lanes-left-requires-clause-few c =
    let (node, can) = c.requires.dropping in omega (arith, (told c.read_numbers-numbers.result c.read_numbers-numbers.ensures.node node can).columns_are, can.lawful.positions.few)

pub squeeze_lanes-left-requires-clause-used : goal.squeeze_lanes-left-requires-clause-used
squeeze_lanes-left-requires-clause-used c =
    let (node, can) = c.requires.dropping in subst (λ n. IsRowOver n c.args.used) (sym (told c.read_numbers-numbers.result c.read_numbers-numbers.ensures.node node can).columns_are) can.used_over

pub put_parts-requires : goal.put_parts-requires
put_parts-requires c =
    let (node, can) = c.requires.dropping in
    subst IsColumns
    (sym (c.drop_unused.ensures ∙ ap (λ cs. kept (used_bits c.args.used) cs)
    (columns_are c.read_numbers-numbers.result c.read_numbers-numbers.ensures.node node can c.read_positions-positions.result c.from_padded-columns.result (c.read_positions-positions.ensures node can.lawful can.begins) c.from_padded-columns.ensures)))
    can.left

pub returns : goal.returns
returns c = λ node can.
    let numbers = told c.read_numbers-numbers.result c.read_numbers-numbers.ensures.node node can in
    let over : All (IsRowOver c.read_numbers-numbers.result.columns) (take c.args.count c.args.rows) =
    subst (λ n. All (IsRowOver n) (take c.args.count c.args.rows)) (sym numbers.columns_are) can.over in
    let rows : c.with_unused_from.result ≡ with_unused (map (squeezed c.args.used) (take c.args.count c.args.rows)) =
    first_lanes c.squeeze_lanes-left.result c.with_unused_from.result c.args.count c.squeeze_lanes-left.ensures.whole c.requires.few c.with_unused_from.ensures.whole c.with_unused_from.ensures.used c.with_unused_from.ensures.unused
    ∙ ap with_unused (c.squeeze_lanes-left.ensures.each c.args.count over) in
    c.put_parts.ensures
    ∙ ap₂ (λ cs rs. fixed_words c.args.count c.args.height cs rs ++ drop 25 c.args.words.now)
    (c.drop_unused.ensures ∙ ap (λ cs. kept (used_bits c.args.used) cs)
    (columns_are c.read_numbers-numbers.result c.read_numbers-numbers.ensures.node node can c.read_positions-positions.result c.from_padded-columns.result (c.read_positions-positions.ensures node can.lawful can.begins) c.from_padded-columns.ensures))
    rows
