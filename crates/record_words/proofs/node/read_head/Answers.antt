-- The numbers that stand in the words are those of a node.
use Rattle.record_words.proofs.Common.{List, ℕ, ◌≡◌, ap, arith, get_or, sym, ◌∙◌, holds_front, same_count, head_of}
use Rattle.record_words.specs.Node.{HasHeadWords, head_words}
use Rattle.record_words.specs.Reading.{IsSpelling}
use Rattle.record_words.proofs.Reading.{columns_in_front, head_is, is_head_read, its, lawful_its, same_its, spells_head, whole}
use Rattle.record_words.proofs.node.read_head.Goals as goal
use Rattle.record_words.proofs.node.read_head.Goals.{After-rows_in}

pub bounds-words-0 : goal.bounds-words-0
bounds-words-0 c = omega (arith, whole (its _ c.requires) (lawful_its _ c.requires) _ (same_its _ c.requires))

pub read_positions-requires : goal.read_positions-requires
read_positions-requires c = whole (its _ c.requires) (lawful_its _ c.requires) _ (same_its _ c.requires)

pub rows_in-requires : goal.rows_in-requires
rows_in-requires c = record { long = whole (its _ c.requires) (lawful_its _ c.requires) _ (same_its _ c.requires) }

-- the first word is the node's
first_of : (words : List ℕ) (given : IsSpelling HasHeadWords head_words words) → get_or (head_words (head_of (its words given))) 0 0 ≡ get_or words 0 0
first_of words given = ap (λ all. get_or all 0 0) (same_its words given)

pub from_padded-columns-requires : goal.from_padded-columns-requires
from_padded-columns-requires c =
    let told = c.read_numbers-numbers.ensures.node (its _ c.requires) (lawful_its _ c.requires) (first_of _ c.requires) in
    holds_front (its _ c.requires).columns _ _ (lawful_its _ c.requires).positions told.columns_are (c.read_positions.ensures (its _ c.requires) (lawful_its _ c.requires) (same_its _ c.requires))

columns_are : (c : After-rows_in) → c.from_padded-columns.result ≡ (its c.args.words.now c.requires).columns
columns_are c =
    let told = c.read_numbers-numbers.ensures.node (its _ c.requires) (lawful_its _ c.requires) (first_of _ c.requires) in
    c.from_padded-columns.ensures ∙ columns_in_front (its _ c.requires).columns _ _ (c.read_positions.ensures (its _ c.requires) (lawful_its _ c.requires) (same_its _ c.requires)) told.columns_are

pub of-requires : goal.of-requires
of-requires c =
    let node = its c.args.words.now c.requires in let lawful = lawful_its c.args.words.now c.requires in let same = same_its c.args.words.now c.requires in
    let told = c.read_numbers-numbers.ensures.node node lawful (first_of _ c.requires) in
    is_head_read node lawful _ same _ _ c.from_padded-columns.result c.rows_in.result (told.count_is ∙ sym (same_count node lawful)) told.height_is (columns_are (goal.at.of-requires c).After-rows_in) (c.rows_in.ensures node lawful same)

pub returns : goal.returns
returns c =
    let node = its c.args.words.now c.requires in let lawful = lawful_its c.args.words.now c.requires in let same = same_its c.args.words.now c.requires in
    let told = c.read_numbers-numbers.ensures.node node lawful (first_of _ c.requires) in
    spells_head node lawful _ same c.of.result (c.of.ensures
    ∙ head_is node lawful _ same _ _ c.from_padded-columns.result c.rows_in.result (told.count_is ∙ sym (same_count node lawful)) told.height_is (columns_are (goal.at.returns c).After-rows_in) (c.rows_in.ensures node lawful same))
