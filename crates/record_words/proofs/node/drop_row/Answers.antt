-- Where each column is used still, the rows and the numbers alone change.
use Rattle.record_words.proofs.Common.{◌∷◌, List, ℕ, ◌<◌, ◌++◌, drop, map, subst, ◌≡◌, ◌+◌, ◌-◌, ◌*◌, ◌/◌, ◌^◌, ◌≤◌, ◌∙◌, ap, arith, get_or, get_or-set_other, get_or-set_same, get_or-take, inl, length, refl, rules, sym, take, HeadView, IsLawfulNode, NodeView, head_of, removed_row, IsColumns, IsRowOver, or_all, squeezed, used_bits, kept, length-map, take_at, with_unused}
use Rattle.record_words.specs.Node.{head_words}
use Rattle.record_words.specs.declared.numbers.HeadNumbers.{HeadNumbers}
use Rattle.record_words.proofs.Written.{head_put}
use Rattle.record_words.specs.HeadParts.{AreNumbersOf}
use Rattle.record_words.specs.Kinds.{kind_of, kind_part}
use Rattle.record_words.specs.Dropping.{CanDropAt, CanDropColumns}
use Rattle.record_words.specs.Packed.{meta_word}
use Rattle.record_words.proofs.node.DroppedRows.{columns_same, first_long, left, left_built, left_fits, old_ladder, old_unused, over, rows_counted, rows_same, used}
use Rattle.record_words.proofs.node.Forking.{some_before_rows}
use Rattle.record_words.proofs.HeadParts.HeadsByKind.{head_parts}
use Rattle.record_words.proofs.node.SameColumns.{has_next}
use Rattle.record_words.proofs.node.drop_row.Goals as goal

module _ {words : List ℕ} {at : ℕ} (numbers : HeadNumbers) (tells : (node : NodeView) → IsLawfulNode node → get_or (head_words (head_of node)) 0 0 ≡ get_or words 0 0 → AreNumbersOf numbers node)
    (node : NodeView) (can : CanDropAt words node at) where
  told : AreNumbersOf numbers node
  told = tells node can.lawful (ap (λ ws. get_or ws 0 0) can.begins ∙ get_or-take 25 words 0 0 (omega arith))

  -- the columns that are used
  module _ (old : List ℕ) (old_are : old ≡ with_unused node.rows) (height : ℕ) (positive : 0 < height) (bound : height ≤ 65535) (rows : List ℕ)
      (rows_are : rows ≡ removed_row at (take numbers.count old) ++ 4294967295 ∷ drop numbers.count old) (bits : ℕ) (bits_are : bits ≡ or_all (take (numbers.count - 1) rows)) where
    can_drop : CanDropColumns words node (take (numbers.count - 1) rows) bits
    can_drop = record {
      lawful = can.lawful;
      begins = can.begins;
      over = over can numbers.count told.count_is old old_are height positive bound rows rows_are;
      used_over = subst (IsRowOver (length node.columns)) (sym bits_are) (used can numbers.count told.count_is old old_are height positive bound rows rows_are);
      left = subst (λ u. IsColumns (kept (used_bits u) node.columns)) (sym bits_are) (left_fits can numbers.count told.count_is old old_are height positive bound rows rows_are _ _ refl refl).lawful.positions;
    }

pub remove_row-rows-requires-clause-ladder : goal.remove_row-rows-requires-clause-ladder
remove_row-rows-requires-clause-ladder c =
    let (node, can) = c.requires.dropping in
    old_ladder can c.read_numbers-numbers.result.count (told c.read_numbers-numbers.result c.read_numbers-numbers.ensures.node node can).count_is c.rows_in-rows.result (c.rows_in-rows.ensures node can.lawful can.begins)

pub remove_row-rows-requires-clause-unused : goal.remove_row-rows-requires-clause-unused
remove_row-rows-requires-clause-unused c =
    let (node, can) = c.requires.dropping in
    old_unused can c.read_numbers-numbers.result.count (told c.read_numbers-numbers.result c.read_numbers-numbers.ensures.node node can).count_is c.rows_in-rows.result (c.rows_in-rows.ensures node can.lawful can.begins)

pub drop_columns-requires-clause-dropping : goal.drop_columns-requires-clause-dropping
drop_columns-requires-clause-dropping c = let (node, can) = c.requires.dropping in (node, can_drop c.read_numbers-numbers.result c.read_numbers-numbers.ensures.node node can c.rows_in-rows.result (c.rows_in-rows.ensures node can.lawful can.begins) c.args.height c.requires.height (omega (arith, c.ranges.height.fits)) c.remove_row-rows.result c.remove_row-rows.ensures c.or_first_rows-used.result c.or_first_rows-used.ensures)

pub drop_columns-requires-clause-few : goal.drop_columns-requires-clause-few
drop_columns-requires-clause-few c =
    let (node, can) = c.requires.dropping in omega (arith, (told c.read_numbers-numbers.result c.read_numbers-numbers.ensures.node node can).count_is, can.lawful.room)

pub returns-then-used-numbers : goal.returns-then-used-numbers
returns-then-used-numbers c = λ node can.
    let words = c.args.words.now in
    let numbers = c.read_numbers-numbers.result in
    let rows : List ℕ = c.remove_row-rows.result in
    let height = c.args.height in
    let counted : numbers.count ≡ length node.entries = (told numbers c.read_numbers-numbers.ensures.node node can).count_is in
    let bound : height ≤ 65535 = omega (arith, c.ranges.height.fits) in
    let old_are = c.rows_in-rows.ensures node can.lawful can.begins in
    let first : List ℕ = take (numbers.count - 1) rows in
    let part : List ℕ = map (squeezed (or_all first)) first in
    let columns : List ℕ = kept (used_bits (or_all first)) node.columns in
    let out : List ℕ = part ++ drop (numbers.count - 1) rows in
    let head : HeadView = left can numbers.count counted c.rows_in-rows.result old_are height c.requires.height bound rows c.remove_row-rows.ensures columns out refl refl in
    let fits = left_fits can numbers.count counted c.rows_in-rows.result old_are height c.requires.height bound rows c.remove_row-rows.ensures columns out refl refl in
    let part_long : length part ≡ numbers.count - 1 = length-map first (squeezed (or_all first)) ∙ first_long can numbers.count counted c.rows_in-rows.result old_are height c.requires.height bound rows c.remove_row-rows.ensures columns out refl refl in
    let of_columns : kept (used_bits c.or_first_rows-used.result) node.columns ≡ columns = ap (λ u. kept (used_bits u) node.columns) c.or_first_rows-used.ensures in
    let of_rows : with_unused (map (squeezed c.or_first_rows-used.result) first) ≡ with_unused head.rows =
    ap (λ u. with_unused (map (squeezed u) first)) c.or_first_rows-used.ensures ∙ ap with_unused (sym (take_at part (drop (numbers.count - 1) rows) (numbers.count - 1) part_long)) in
    record {
      head = head;
      has = c.drop_columns.ensures node (can_drop c.read_numbers-numbers.result c.read_numbers-numbers.ensures.node node can c.rows_in-rows.result (c.rows_in-rows.ensures node can.lawful can.begins) c.args.height c.requires.height (omega (arith, c.ranges.height.fits)) c.remove_row-rows.result c.remove_row-rows.ensures c.or_first_rows-used.result c.or_first_rows-used.ensures)
          ∙ ap (λ front. front ++ drop 25 words) (head_put head (numbers.count - 1) height _ _ (sym fits.counted) refl of_columns of_rows);
      built = left_built can numbers.count counted c.rows_in-rows.result old_are height c.requires.height bound rows c.remove_row-rows.ensures columns out refl refl;
    }

pub returns : goal.returns
returns c = λ node can.
    let words = c.args.words.now in
    let out = c.put_rows.new.words in
    let numbers = c.read_numbers-numbers.result in
    let rows = c.remove_row-rows.result in
    let height = c.args.height in
    let are = told numbers c.read_numbers-numbers.ensures.node node can in
    let old_are = c.rows_in-rows.ensures node can.lawful can.begins in
    let counted : numbers.count ≡ length node.entries = are.count_is in
    let tall : numbers.height ≡ node.height = are.height_is in
    let bound : height ≤ 65535 = omega (arith, c.ranges.height.fits) in
    let full : or_all (take (numbers.count - 1) rows) ≡ 4294967295 - 4294967295 / 2 ^ length node.columns =
    sym c.or_first_rows-used.ensures ∙ (c.if-used-numbers.false ∙ ap (λ n. 4294967295 - 4294967295 / 2 ^ n) are.columns_are) in
    let same_columns = columns_same can numbers.count counted c.rows_in-rows.result old_are height c.requires.height bound rows c.remove_row-rows.ensures full in
    let same_rows = rows_same can numbers.count counted c.rows_in-rows.result old_are height c.requires.height bound rows c.remove_row-rows.ensures full in
    let fits = left_fits can numbers.count counted c.rows_in-rows.result old_are height c.requires.height bound rows c.remove_row-rows.ensures node.columns rows same_columns same_rows in
    let long : length words ≡ 57 = search rules in
    let whole : length out ≡ 57 = search rules in
    let old_word : get_or words 0 0 ≡ meta_word (length node.rows) (length node.columns) node.height + kind_part (kind_of node.columns) node.columns =
    sym (get_or-take 25 words 0 0 (omega arith)) ∙ (head_parts (length node.rows) node.height node.columns node.rows (take 25 words) can.begins).numbers in
    let word : get_or out 0 0 ≡ get_or words 0 0 - 1 - 65536 * numbers.height + 65536 * height =
    c.put_rows.ensures.others 0 (inl (some_before_rows numbers.kind)) ∙ get_or-set_same words 0 _ 0 (omega (arith, long)) in
    let new_word : get_or out 0 0 ≡ meta_word (length (take (numbers.count - 1) rows)) (length node.columns) height + kind_part (kind_of node.columns) node.columns =
    omega (arith, word, old_word, tall, fits.counted, counted, can.several, rows_counted can numbers.count counted c.rows_in-rows.result old_are) in
    let head : HeadView = left can numbers.count counted c.rows_in-rows.result old_are height c.requires.height bound rows c.remove_row-rows.ensures node.columns rows same_columns same_rows in
    record {
      head = head;
      has = has_next words (head_of node) head can.begins long refl rows fits.padded numbers.kind are.kind_is out whole new_word
          (λ k more outside. c.put_rows.ensures.others k outside ∙ get_or-set_other words 0 k _ 0 (λ e. omega (arith, e, more))) c.put_rows.ensures.rows;
      built = left_built can numbers.count counted c.rows_in-rows.result old_are height c.requires.height bound rows c.remove_row-rows.ensures node.columns rows same_columns same_rows;
    }
