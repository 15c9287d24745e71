-- The last lane of the entries that complies with the key's highest bits is where the forks lead.
use Rattle.record_words.proofs.Common.{◌≡◌, ◌*◌, ◌/◌, ◌%◌, ◌^◌, ◌∙◌, ap, arith, sym, w16, IsLawfulNode, NodeView, head_of}
use Rattle.record_words.specs.HeadParts.{AreNumbersOf, middle_words}
use Rattle.record_words.specs.Kinds.{AreNearLanes, kind_of}
use Rattle.record_words.specs.Node.{head_words}
use Rattle.record_words.specs.Packed.{row_lanes}
use Rattle.record_words.specs.declared.kind.HeadKind.TheVariants.{Middle}
use Rattle.record_words.proofs.Lanes.{part_at}
use Rattle.record_words.proofs.search.NearHeads.{front_at, middle_lanes, near_rows}
use Rattle.record_words.proofs.near.NearKinds.{middle_kind}
use Rattle.record_words.proofs.search.NearRows.{lanes_lead, lanes_odd}
use Rattle.record_words.proofs.OfKinds.{middle-not-wide, middle_few}
use Rattle.record_words.proofs.Reading.{in_one}
use Rattle.record_words.proofs.search.search_middle.Goals as goal
use Rattle.record_words.proofs.search.search_middle.Goals.{After-split_into_quarters-rows, After-bytes_of_words-masks}

-- what was read, of a node with the words
module _ (c : After-bytes_of_words-masks) (node : NodeView) (lawful : IsLawfulNode node) (kinded : kind_of node.columns ≡ Middle) (same : middle_words (head_of node) ≡ c.args.words.now) where
  told : AreNumbersOf c.read_numbers-numbers.result node
  told = c.read_numbers-numbers.ensures.node node lawful (sym (front_at 13 (head_words (head_of node)) c.args.words.now same 0 (omega arith)))

  lanes : AreNearLanes node.columns c.bytes_of_words-indexes.result c.bytes_of_words-masks.result c.read_numbers-numbers.result.first_byte
  lanes = middle_lanes node lawful kinded c.args.words.now (front_at 13 (head_words (head_of node)) c.args.words.now same) _ _ _ c.bytes_of_words-indexes.ensures.words c.bytes_of_words-masks.ensures.words
      (told.first_is (λ wide. middle-not-wide (kind_of node.columns) kinded (sym told.kind_is ∙ wide)))

rows_are : (c : After-split_into_quarters-rows) (node : NodeView) → IsLawfulNode node → kind_of node.columns ≡ Middle → middle_words (head_of node) ≡ c.args.words.now → c.split_into_quarters-rows.result ≡ row_lanes 16 node.rows
rows_are c node lawful kinded same =
    near_rows node lawful Middle middle_kind kinded c.args.words.now (front_at 13 (head_words (head_of node)) c.args.words.now same) c.split_into_quarters-rows.result c.split_into_quarters-rows.ensures.whole
    (λ i low. c.split_into_quarters-rows.ensures.each i low ∙ ap (λ w. w / 2 ^ (16 * (i % 4)) % 2 ^ 16) (part_at c.args.words.now 13 5 8 (i / 4) (omega arith) (omega (arith, low))))

pub extract_near-dense-requires : goal.extract_near-dense-requires
extract_near-dense-requires c =
    let d = (goal.at.extract_near-dense-requires c).After-bytes_of_words-masks in
    in_one Middle middle_words c.args.words.now c.requires (λ node lawful kinded same. (node.columns, lanes d node lawful kinded same))

pub last_of-requires-clause-some : goal.last_of-requires-clause-some
last_of-requires-clause-some c =
    let d = (goal.at.last_of-requires-clause-some c).After-split_into_quarters-rows in
    in_one Middle middle_words c.args.words.now c.requires (λ node lawful kinded same.
    lanes_odd node lawful w16 (middle_few node.columns kinded) (omega arith) c.split_into_quarters-rows.result (rows_are d node lawful kinded same) (c.extract_near-dense.result / 2 ^ 16))

pub last_of-requires-clause-few : goal.last_of-requires-clause-few
last_of-requires-clause-few c =
    let d = (goal.at.last_of-requires-clause-few c).After-bytes_of_words-masks in
    in_one Middle middle_words c.args.words.now c.requires (λ node lawful kinded same.
    let counted = (told d node lawful kinded same).count_is in
    (omega (arith, counted, lawful.several), omega (arith, counted, lawful.room)))

pub returns : goal.returns
returns c = λ node lawful kinded same.
    let d = (goal.at.returns c).After-bytes_of_words-masks in
    let are = rows_are (goal.at.returns c).After-split_into_quarters-rows node lawful kinded same in
    c.last_of.ensures
    ∙ lanes_lead node lawful w16 (middle_few node.columns kinded) (omega arith) c.split_into_quarters-rows.result are c.extract_near-dense.result _ (c.extract_near-dense.ensures node.columns (lanes d node lawful kinded same)) c.read_numbers-numbers.result.count (told d node lawful kinded same).count_is
