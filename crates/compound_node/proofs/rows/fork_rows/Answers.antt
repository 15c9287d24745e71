-- A row of the bit comes behind the others, and one without it before them.
use Rattle.std.proofs.Common.{[], ap, arith, bit_or, drop, get_or, insert, map, sym, take, ◌++◌, ◌+◌, ◌-◌, ◌∙◌, ◌∷◌, ◌≡◌}
use Rattle.compound_node.proofs.Editing.{part_first, put-behind}
use Rattle.node_tries.specs.Growth.{edited}
use Rattle.compound_node.proofs.rows.fork_rows.Goals as goal
use Rattle.compound_node.proofs.rows.fork_rows.Goals.{then-bit, else-bit}

pub returns : goal.returns
returns c =
    let rows = c.args.rows in let first = c.args.first in let n = c.args.last + 1 - first in
    let end : first + n ≡ c.args.last + 1 = omega (arith, c.requires.range) in
    let row : get_or (take n (drop first rows)) 0 0 ≡ get_or rows first 0 = part_first first n 0 rows (omega (arith, c.requires.range)) in
    elim c.if-bit.branch [
      | then-bit w ↦ rw w.if-bit.true (w.result-is ∙ (w.insert_row.ensures ∙ ap (take 32)
          (ap (λ k. insert rows k (bit_or (get_or rows first 0) c.args.weight)) (sym end)
          ∙ (put-behind first n (bit_or (get_or rows first 0) c.args.weight) rows ∙ ap (λ x. edited first n (λ ys. ys ++ bit_or x c.args.weight ∷ []) rows) (sym row)))))
      | else-bit w ↦ rw w.if-bit.false (w.result-is ∙ (w.fork_rows_before.ensures ∙ ap (λ k. take 32 (edited first k (λ ys. get_or ys 0 0 ∷ map (λ r. bit_or r c.args.weight) ys) rows)) (omega arith)))
    ]
