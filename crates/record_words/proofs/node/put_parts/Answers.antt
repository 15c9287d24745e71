-- The first word and the unused ones are written, then the columns, then the rows.
use Rattle.record_words.proofs.Common.{List, ℕ, ◌≡◌, ◌∙◌, ◌++◌, ◌^◌, ◌-◌, arith, ap, drop, length, replicate, rules, length-take-le}
use Rattle.record_words.proofs.node.HeadPut.{as_fixed, in_order, put_together, start, start_behind, start_first, start_ones, start_whole}
use Rattle.record_words.proofs.node.put_parts.Goals as goal

pub returns : goal.returns
returns c =
    let old : List ℕ = c.args.words.now in
    let middle : List ℕ = c.put_columns.new.words in
    let words : List ℕ = c.put_rows.new.words in
    let columns : List ℕ = c.args.columns.now in
    let rows : List ℕ = c.args.rows in
    let filled : List ℕ = c.fill.new.self in
    let n : ℕ = c.word_of_numbers.result in
    let kind = c.kind_of-kind.result in
    let old_whole : length old ≡ 57 = search rules in
    let whole : length words ≡ 57 = search rules in
    let middle_whole : length middle ≡ 57 = search rules in
    let full : filled ≡ replicate 25 (2 ^ 64 - 1) = c.fill.ensures.after (λ y e. e) ∙ ap (λ k. replicate k (2 ^ 64 - 1)) (length-take-le 25 old (omega (arith, old_whole))) in
    put_together kind c.args.count c.args.height columns rows old words whole
    (in_order kind _ columns rows old (start filled old n full old_whole) middle words old_whole (start_whole filled old n full old_whole) middle_whole whole
    (start_first filled old n full old_whole ∙ c.word_of_numbers.ensures) (start_ones filled old n full old_whole) (start_behind filled old n full old_whole)
    c.put_columns.ensures.columns c.put_columns.ensures.others c.put_rows.ensures.rows c.put_rows.ensures.others)
    ∙ ap (λ front. front ++ drop 25 old)
    (as_fixed kind c.args.count c.args.height columns rows c.kind_of-kind.ensures)
