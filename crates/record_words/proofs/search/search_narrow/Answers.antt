-- The last lane of the entries that complies with the key's highest bits is where the forks lead.
use Rattle.record_words.proofs.Common.{rules, ℕ, ◌≡◌, ◌-◌, ◌/◌, ◌^◌, ◌∙◌, List, arith, drop, length, sym, take, w8, length-chunk, length-drop, length-take-le, IsLawfulNode, NodeView, head_of}
use lib.Lanes.{chunk}
use Rattle.record_words.specs.HeadParts.{AreNumbersOf, narrow_words}
use Rattle.record_words.specs.Kinds.{AreNearLanes, kind_of}
use Rattle.record_words.specs.Node.{head_words}
use Rattle.record_words.specs.Packed.{row_lanes}
use Rattle.record_words.specs.declared.kind.HeadKind.TheVariants.{Narrow}
use Rattle.record_words.proofs.Lanes.{part_at}
use Rattle.record_words.proofs.search.NearHeads.{front_at, narrow_lanes, narrow_rows}
use Rattle.record_words.proofs.search.NearRows.{lanes_lead, lanes_odd}
use Rattle.record_words.proofs.OfKinds.{narrow-not-wide, narrow_few}
use Rattle.record_words.proofs.Reading.{in_one}
use Rattle.record_words.proofs.search.search_narrow.Goals as goal
use Rattle.record_words.proofs.search.search_narrow.Goals.{After-bytes_in-rows, After-bytes_of_words-masks}

four_long : (words : List ℕ) → length words ≡ 7 → length (chunk 0 4 (take (7 - 3) (drop 3 words))) ≡ 4
four_long words long = length-chunk 0 4 (take 4 (drop 3 words)) (omega (arith, length-take-le 4 (drop 3 words) (omega (arith, length-drop 3 words, long)), length-drop 3 words, long))

-- what was read, of a node with the words
module _ (c : After-bytes_of_words-masks) (node : NodeView) (lawful : IsLawfulNode node) (kinded : kind_of node.columns ≡ Narrow) (same : narrow_words (head_of node) ≡ c.args.words.now) where
  told : AreNumbersOf c.read_numbers-numbers.result node
  told = c.read_numbers-numbers.ensures.node node lawful (sym (front_at 7 (head_words (head_of node)) c.args.words.now same 0 (omega arith)))

  lanes : AreNearLanes node.columns c.bytes_of_words-indexes.result c.bytes_of_words-masks.result c.read_numbers-numbers.result.first_byte
  lanes = narrow_lanes node lawful kinded c.args.words.now (front_at 7 (head_words (head_of node)) c.args.words.now same) _ _ _ c.bytes_of_words-indexes.ensures.words c.bytes_of_words-masks.ensures.words
      (told.first_is (λ wide. narrow-not-wide (kind_of node.columns) kinded (sym told.kind_is ∙ wide)))

rows_are : (c : After-bytes_in-rows) (node : NodeView) → IsLawfulNode node → kind_of node.columns ≡ Narrow → narrow_words (head_of node) ≡ c.args.words.now → c.bytes_in-rows.result ≡ row_lanes 24 node.rows
rows_are c node lawful kinded same =
    let long : length c.args.words.now ≡ 7 = search rules in
    c.bytes_in-rows.ensures
    ∙ narrow_rows node lawful kinded c.args.words.now (front_at 7 (head_words (head_of node)) c.args.words.now same) _ (four_long c.args.words.now long) (λ k low. part_at c.args.words.now 7 3 4 k (omega arith) low)

pub extract_near-dense-requires : goal.extract_near-dense-requires
extract_near-dense-requires c =
    let d = (goal.at.extract_near-dense-requires c).After-bytes_of_words-masks in
    in_one Narrow narrow_words c.args.words.now c.requires (λ node lawful kinded same. (node.columns, lanes d node lawful kinded same))

pub last_of-requires-clause-some : goal.last_of-requires-clause-some
last_of-requires-clause-some c =
    let d = (goal.at.last_of-requires-clause-some c).After-bytes_in-rows in
    in_one Narrow narrow_words c.args.words.now c.requires (λ node lawful kinded same.
    lanes_odd node lawful w8 (narrow_few node.columns kinded) (omega arith) c.bytes_in-rows.result (rows_are d node lawful kinded same) (c.extract_near-dense.result / 2 ^ 24))

pub last_of-requires-clause-few : goal.last_of-requires-clause-few
last_of-requires-clause-few c =
    let d = (goal.at.last_of-requires-clause-few c).After-bytes_of_words-masks in
    in_one Narrow narrow_words c.args.words.now c.requires (λ node lawful kinded same.
    let counted = (told d node lawful kinded same).count_is in
    (omega (arith, counted, lawful.several), omega (arith, counted, lawful.room)))

pub returns : goal.returns
returns c = λ node lawful kinded same.
    let d = (goal.at.returns c).After-bytes_of_words-masks in
    let are = rows_are (goal.at.returns c).After-bytes_in-rows node lawful kinded same in
    c.last_of.ensures
    ∙ lanes_lead node lawful w8 (narrow_few node.columns kinded) (omega arith) c.bytes_in-rows.result are c.extract_near-dense.result _ (c.extract_near-dense.ensures node.columns (lanes d node lawful kinded same)) c.read_numbers-numbers.result.count (told d node lawful kinded same).count_is
