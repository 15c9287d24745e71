-- The columns' words are written by kind.
use Rattle.std.proofs.Common.{ℕ, List, ◌≡◌, ◌∙◌, ◌+◌, ◌-◌, ◌<◌, ◌≤◌, ◌⊎◌, ap, arith, get_or, get_or-set_other, get_or-set_same, inl, inr, length, length-set, rules, set, subst, sym, ⊎_elim}
use Rattle.record_words.specs.Kinds.{index_lanes, lane_words, mask_lanes, rows_from}
use Rattle.record_words.specs.Packed.{column_words, position_word}
use Rattle.record_words.specs.declared.kind.HeadKind.{HeadKind}
use Rattle.record_words.specs.declared.kind.HeadKind.TheVariants.{Middle, Narrow, Wide}
use Rattle.record_words.proofs.node.HeadPut.{middle_columns, narrow_columns, wide_columns}
use Rattle.record_words.proofs.HeadParts.HeadsByKind.{length-lane_words}
use Rattle.record_words.proofs.Written.{at_stored, before_stored, length-stored, other_stored, stored}
use lib.Lanes.{chunk}
use Rattle.record_words.proofs.node.put_columns.Goals as goal
use Rattle.record_words.proofs.node.put_columns.Goals.{After-near_words_of-in-Middle}

-- words that have the columns of a kind have those of this one
for_kind : (kind this : HeadKind) (columns words : List ℕ) → kind ≡ this → chunk 1 (rows_from this - 1) words ≡ column_words this columns → chunk 1 (rows_from kind - 1) words ≡ column_words kind columns
for_kind kind this columns words is = subst (λ k. chunk 1 (rows_from k - 1) words ≡ column_words k columns) (sym is)

pub returns-in-Wide-clause-columns : goal.returns-in-Wide-clause-columns
returns-in-Wide-clause-columns c =
    let words = c.put_positions.new.words in
    let whole : length words ≡ 57 = search rules in
    for_kind c.args.kind Wide c.args.columns.now words c.in-Wide.is
    (wide_columns c.args.columns.now words whole (λ j low. c.put_positions.ensures.columns j low ∙ ap (λ (ps : List ℕ). position_word ps j) c.padded_positions.ensures))

pub returns-in-Narrow-clause-columns : goal.returns-in-Narrow-clause-columns
returns-in-Narrow-clause-columns c =
    let columns = c.args.columns.now in
    let old = c.args.words.now in
    let index = get_or c.near_words_of.result.0 1 0 in
    let mask = get_or c.near_words_of.result.1 1 0 in
    let long : length old ≡ 57 = search rules in
    let once : length (set old 1 index) ≡ 57 = length-set old 1 index ∙ long in
    let told = c.near_words_of.ensures in
    for_kind c.args.kind Narrow columns (set (set old 1 index) 2 mask) c.in-Narrow.is
    (narrow_columns columns (set (set old 1 index) 2 mask) (sym c.requires.kind ∙ c.in-Narrow.is) (length-set (set old 1 index) 2 mask ∙ once)
    (get_or-set_other (set old 1 index) 2 1 mask 0 (omega arith) ∙ (get_or-set_same old 1 index 0 (omega (arith, long)) ∙ ap (λ (ws : List ℕ). get_or ws 1 0) told.0))
    (get_or-set_same (set old 1 index) 2 mask 0 (omega (arith, once)) ∙ ap (λ (ws : List ℕ). get_or ws 1 0) told.1))

-- two words, and two behind them
module _ (columns old indexes masks : List ℕ) (whole : length old ≡ 57) (are_indexes : indexes ≡ lane_words 8 2 (index_lanes columns)) (are_masks : masks ≡ lane_words 8 2 (mask_lanes columns)) where
  two : length indexes ≡ 2
  two = ap length are_indexes ∙ length-lane_words 8 2 (index_lanes columns)

  two_more : length masks ≡ 2
  two_more = ap length are_masks ∙ length-lane_words 8 2 (mask_lanes columns)

  abbrev once : List ℕ
  once = stored 1 56 old indexes whole (omega (arith, two))

  once_whole : length once ≡ 57
  once_whole = length-stored 1 56 old indexes whole (omega (arith, two))

  abbrev twice : List ℕ
  twice = stored 3 54 once masks once_whole (omega (arith, two_more))

  columns_are : chunk 1 4 twice ≡ column_words Middle columns
  columns_are =
      middle_columns columns twice (length-stored 3 54 once masks once_whole (omega (arith, two_more)))
      (λ k low. before_stored 3 54 once masks once_whole (omega (arith, two_more)) (1 + k) (omega (arith, low))
      ∙ (at_stored 1 56 old indexes whole (omega (arith, two)) k (omega (arith, low, two)) ∙ ap (λ (ws : List ℕ). get_or ws k 0) are_indexes))
      (λ k low. at_stored 3 54 once masks once_whole (omega (arith, two_more)) k (omega (arith, low, two_more)) ∙ ap (λ (ws : List ℕ). get_or ws k 0) are_masks)

  others_stay : (k : ℕ) → (k < 1) ⊎ (5 ≤ k) → get_or twice k 0 ≡ get_or old k 0
  others_stay k out =
      other_stored 3 54 once masks once_whole (omega (arith, two_more)) k (⊎_elim (λ (h : k < 1). inl (omega (arith, h))) (λ (h : 5 ≤ k). inr (omega (arith, h, two_more))) out)
      ∙ other_stored 1 56 old indexes whole (omega (arith, two)) k (⊎_elim (λ (h : k < 1). inl h) (λ (h : 5 ≤ k). inr (omega (arith, h, two))) out)

pub returns-in-Middle-clause-columns : goal.returns-in-Middle-clause-columns
returns-in-Middle-clause-columns c =
    let words = c.args.words.now in
    let (indexes, masks) = c.near_words_of-in-Middle.result in
    let told = c.near_words_of-in-Middle.ensures in
    let whole : length words ≡ 57 = search rules in
    for_kind c.args.kind Middle c.args.columns.now (twice c.args.columns.now words indexes masks whole told.0 told.1) c.in-Middle.is (columns_are c.args.columns.now words indexes masks whole told.0 told.1)

pub returns-in-Middle-clause-others : goal.returns-in-Middle-clause-others
returns-in-Middle-clause-others c = λ k out.
    let words = c.args.words.now in
    let (indexes, masks) = c.near_words_of-in-Middle.result in
    let told = c.near_words_of-in-Middle.ensures in
    let whole : length words ≡ 57 = search rules in
    others_stay c.args.columns.now words indexes masks whole told.0 told.1 k (subst (λ kind. (k < 1) ⊎ (rows_from kind ≤ k)) c.in-Middle.is out)
