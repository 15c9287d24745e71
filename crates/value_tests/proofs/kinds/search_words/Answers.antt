-- The parts that were copied are those of the node's head.
use Rattle.std.proofs.Common.{ℕ, ◌≡◌, ◌≤◌, ◌∙◌, List, ap, arith, drop, refl, sym, take}
use Rattle.std.proofs.lemmas.List.{drop-take, take-take}
use Rattle.compound_node.specs.Nodes.{NodeView, head_of}
use Rattle.record_words.specs.HeadParts.{HasHeadOf}
use Rattle.record_words.specs.Kinds.{kind_of}
use Rattle.record_words.specs.Node.{HasNodeWords, head_words, node_words}
use Rattle.record_words.specs.declared.kind.HeadKind.{HeadKind}
use Rattle.record_words.proofs.Nodes.{head_part}
use Rattle.record_words.proofs.Reading.{first_word}
use Rattle.value_tests.proofs.kinds.search_words.Goals as goal

module _ (node : NodeView) (words : List ℕ) (has : HasNodeWords node) (same : words ≡ node_words node) where
  of_kind : (kind other : HeadKind) → other ≡ kind_of node.columns → other ≡ kind → HasHeadOf kind (head_of node)
  of_kind kind other is e = ((node, has.lawful, refl), sym is ∙ e)

  front : (n : ℕ) (part : List ℕ) → n ≤ 25 → part ≡ take n words → take n (head_words (head_of node)) ≡ part
  front n part few copied = ap (take n) (head_part node words (sym same)) ∙ (take-take n 25 words few ∙ sym copied)

  back : (part : List ℕ) → part ≡ take 16 (drop 9 words) → drop 9 (head_words (head_of node)) ≡ part
  back part copied = ap (drop 9) (head_part node words (sym same)) ∙ (drop-take 9 16 words ∙ sym copied)

pub extract_dense_key-requires : goal.extract_dense_key-requires
extract_dense_key-requires c =
    let node = c.args.node.now in let packed = c.pack_node-words.ensures in let words = c.pack_node-words.result in
    let told = c.read_numbers.ensures.node node packed.fits.lawful (first_word node words (sym packed.words)) in
    (head_of node, of_kind node words packed.fits packed.words _ c.read_numbers.result.kind told.kind_is c.in-Wide.is, front node words packed.fits packed.words 9 _ (omega arith) c.copy_from_slice.ensures.after)

pub search_row_words-requires : goal.search_row_words-requires
search_row_words-requires c =
    let node = c.args.node.now in let packed = c.pack_node-words.ensures in let words = c.pack_node-words.result in
    let told = c.read_numbers.ensures.node node packed.fits.lawful (first_word node words (sym packed.words)) in
    (head_of node, of_kind node words packed.fits packed.words _ c.read_numbers.result.kind told.kind_is c.in-Wide.is, back node words packed.fits packed.words _ c.copy_from_slice-in-Wide.ensures.after)

pub search_narrow-requires : goal.search_narrow-requires
search_narrow-requires c =
    let node = c.args.node.now in let packed = c.pack_node-words.ensures in let words = c.pack_node-words.result in
    let told = c.read_numbers.ensures.node node packed.fits.lawful (first_word node words (sym packed.words)) in
    (head_of node, of_kind node words packed.fits packed.words _ c.read_numbers.result.kind told.kind_is c.in-Narrow.is, front node words packed.fits packed.words 7 _ (omega arith) c.copy_from_slice-in-Narrow.ensures.after)

pub search_middle-requires : goal.search_middle-requires
search_middle-requires c =
    let node = c.args.node.now in let packed = c.pack_node-words.ensures in let words = c.pack_node-words.result in
    let told = c.read_numbers.ensures.node node packed.fits.lawful (first_word node words (sym packed.words)) in
    (head_of node, of_kind node words packed.fits packed.words _ c.read_numbers.result.kind told.kind_is c.in-Middle.is, front node words packed.fits packed.words 13 _ (omega arith) c.copy_from_slice-in-Middle.ensures.after)
