-- A number of 64 bits has at most 20 digits, and they follow what stood before.
use Rattle.hot_scripts.proofs.Common.{◌≡◌, ◌++◌, ◌+◌, ◌≤◌, ℕ, List, sym, ◌∙◌, ap, arith, length, take, drop, append_assoc, length-append, decimal, length-decimal-le, length-take-le, take-append-drop, take_at}
use Rattle.hot_scripts.proofs.page.Page.put_number.Goals as goal
use Rattle.hot_scripts.proofs.page.Page.put_number.Goals.{After-count_digits}

placed : (old new digits rest : List ℕ) (start end : ℕ) → start ≤ length old → start + length digits ≡ end → drop start new ≡ digits ++ rest
    → take start new ≡ take start old → take end new ≡ take start old ++ digits
placed old new digits rest start end inside size written before =
    let front : take start new ++ drop start new ≡ take start old ++ (digits ++ rest) = ap (λ z. z ++ drop start new) before ∙ ap (λ z. take start old ++ z) written in
    let whole : new ≡ take start old ++ digits ++ rest = sym (take-append-drop start new) ∙ (front ∙ sym (append_assoc (take start old) digits rest)) in
    let long : length (take start old ++ digits) ≡ end = omega (arith, size, length-append (take start old) digits, length-take-le start old inside) in
    ap (take end) whole ∙ take_at (take start old ++ digits) rest end long

fits : (c : After-count_digits) → (c.self.inside.end + length (decimal c.args.number) ≤ 1024)
fits c =
    let few = length-decimal-le 20 c.args.number (omega arith) (omega (arith, c.ranges.number.fits)) c.ranges.number.fits in
    let size = length-take-le c.self.inside.end c.self.inside.room (omega (arith, c.self.invariant)) in
    omega (arith, few, size, ap length c.self.view_is)

pub overflow_add-end : goal.overflow_add-end
overflow_add-end c = omega (arith, fits c, c.count_digits.ensures)

pub write_digits-requires : goal.write_digits-requires
write_digits-requires c = (omega (arith, c.count_digits.ensures), omega (arith, fits (goal.at.write_digits-requires c).After-count_digits, c.count_digits.ensures, c.self.told))

pub returns : goal.returns
returns c =
    let start : c.write_digits.result ≡ c.self.inside.end = omega (arith, c.write_digits.ensures.start, c.count_digits.ensures) in
    let is = placed c.self.inside.room c.write_digits.new.buf (decimal c.args.number) _ c.write_digits.result _ (omega (arith, start, c.self.invariant)) c.write_digits.ensures.start
    c.write_digits.ensures.written c.write_digits.ensures.before in
    is ∙ ap (λ z. z ++ decimal c.args.number) (ap (λ k. take k c.self.inside.room) start ∙ c.self.view_is)
