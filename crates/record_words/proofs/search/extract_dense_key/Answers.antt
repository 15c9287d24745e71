-- The lanes are the positions of each node whose head begins so.
use Rattle.record_words.proofs.Common.{◌≡◌, ◌∙◌, ◌*◌, ◌+◌, ◌/◌, ◌%◌, ◌^◌, ◌<◌, List, ℕ, ap, arith, get_or, get_or-take, length, lit<, lit≤, refl, sym, take, drop, NodeView, IsLawfulNode, head_of, bit_of, AreColumnLanes, dense_of}
use lib.Lanes.{chunk}
use Rattle.record_words.specs.HeadParts.{front_words}
use Rattle.record_words.specs.Kinds.{kind_of}
use Rattle.record_words.specs.Node.{head_words}
use Rattle.record_words.specs.declared.kind.HeadKind.TheVariants.{Wide}
use Rattle.record_words.proofs.Lanes.{column_lanes, part_at, place_lanes_read}
use Rattle.record_words.proofs.Reading.{columns_counted, kind_of_one, lawful_one, one_of_kind, part_of_one}
use Rattle.record_words.proofs.HeadParts.{wide_position}
use Rattle.record_words.proofs.search.extract_dense_key.Goals as goal

-- the lanes of such words, and a node
module _ (words lanes : List ℕ) (long : length lanes ≡ 32) (each : (i : ℕ) → i < 32 → get_or lanes i 0 ≡ get_or (chunk 0 8 (take 8 (drop 1 words))) (i / 4) 0 / 2 ^ (16 * (i % 4)) % 2 ^ 16)
    (n : ℕ) (is : n ≡ get_or words 0 0 / 256 % 256) (node : NodeView) (lawful : IsLawfulNode node) (kinded : kind_of node.columns ≡ Wide) (same : front_words (head_of node) ≡ words) where
  abbrev all : List ℕ
  all = head_words (head_of node)

  word : (j : ℕ) → j < 9 → get_or words j 0 ≡ get_or all j 0
  word j low = ap (λ ws. get_or ws j 0) (sym same) ∙ get_or-take 9 all j 0 low

  columns_are : (take n lanes ≡ node.columns) × AreColumnLanes lanes n
  columns_are = column_lanes node.columns lanes n lawful.positions (is ∙ ap (λ w. w / 256 % 256) (word 0 (lit< tt)) ∙ columns_counted node lawful all refl)
      (place_lanes_read node lawful lanes long
      (λ i low. each i low ∙ (ap (λ w. w / 2 ^ (16 * (i % 4)) % 2 ^ 16) (part_at words 9 1 8 (i / 4) (lit≤ tt) (omega (arith, low)) ∙ word (1 + i / 4) (omega (arith, low)))
      ∙ wide_position node lawful all refl kinded i low)))

pub extract_dense_key_by_lanes-requires : goal.extract_dense_key_by_lanes-requires
extract_dense_key_by_lanes-requires c = let p = c.split_into_quarters-positions in let words = c.args.words.now in
    (columns_are words p.result p.ensures.whole p.ensures.each _ c.read_numbers.ensures.parts.1 (one_of_kind Wide front_words words c.requires) (lawful_one Wide front_words words c.requires)
    (kind_of_one Wide front_words words c.requires) (part_of_one Wide front_words words c.requires)).1

pub returns : goal.returns
returns c = λ node lawful kinded same. let p = c.split_into_quarters-positions in
    c.extract_dense_key_by_lanes.ensures ∙ ap (λ cs. dense_of cs (bit_of c.args.key.now)) (columns_are c.args.words.now p.result p.ensures.whole p.ensures.each _ c.read_numbers.ensures.parts.1 node lawful kinded same).0
