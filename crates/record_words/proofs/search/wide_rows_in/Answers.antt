-- The halves are the rows, one after the other.
use Rattle.record_words.proofs.Common.{◌≡◌, ◌∙◌, ◌/◌, ◌%◌, ◌*◌, ◌^◌, ◌++◌, ◌+◌, ℕ, ap, arith, get_or, length, length-append, refl, sym, get_or-drop, get_or-chunk, pick_l_whole, head_of}
use Rattle.record_words.specs.Node.{head_words}
use Rattle.record_words.proofs.Lanes.{row_lanes_read, rows_joined}
use Rattle.record_words.proofs.HeadParts.{wide_row}
use Rattle.record_words.proofs.search.wide_rows_in.Goals as goal

pub returns : goal.returns
returns c = λ node lawful kinded same.
    let words = c.args.words.now in let all = head_words (head_of node) in let l = c.split_into_halves-low in let h = c.split_into_halves-high in
    let word : (j : ℕ) → get_or words j 0 ≡ get_or all (9 + j) 0 = λ j. ap (λ ws. get_or ws j 0) (sym same) ∙ get_or-drop 9 all j 0 in
    let both : length (l.result ++ h.result) ≡ 32 = length-append l.result h.result ∙ omega (arith, l.ensures.whole, h.ensures.whole) in
    pick_l_whole 0 (l.result ++ h.result) 32 both
    ∙ row_lanes_read node lawful (l.result ++ h.result) both
    (λ k few. rows_joined l.result h.result l.ensures.whole h.ensures.whole all
    (λ i low. l.ensures.each i low ∙ ap (λ w. w / 2 ^ (32 * (i % 2)) % 2 ^ 32) (get_or-chunk 0 8 words (i / 2) 0 (omega (arith, low)) ∙ (word (0 + i / 2) ∙ ap (λ o. get_or all o 0) (omega arith))))
    (λ i low. h.ensures.each i low ∙ ap (λ w. w / 2 ^ (32 * (i % 2)) % 2 ^ 32) (get_or-chunk 8 8 words (i / 2) 0 (omega (arith, low)) ∙ (word (8 + i / 2) ∙ ap (λ o. get_or all o 0) (omega arith)))) k few
    ∙ wide_row node lawful all refl kinded k few)
