-- There is room for each part.
use Rattle.hot_scripts.proofs.Common.{◌+◌, ◌≤◌, [], ◌∷◌, ℕ, List, arith, length, ap, length-append, decimal, codes, length-decimal-le, lower_digits}
use Rattle.hex.proofs.HexLemmas.{length-encode_with}
use Rattle.hot_scripts.specs.Meaning.{key_text}
use Rattle.hot_scripts.proofs.answer.put_pair.Goals as goal
use Rattle.hot_scripts.proofs.answer.put_pair.Goals.{After-put_key, After-put_text-2}

key_short : (key : List ℕ) → length key ≤ 240 → length (key_text key) ≤ 480
key_short [] short = omega arith
key_short (b ∷ bytes) short = omega (arith, short, length-encode_with lower_digits (b ∷ bytes))

with_key : (c : After-put_key) → length c.put_key.new.page ≤ length c.args.page.now + 485
with_key c =
    omega (
      arith,
      ap length c.put_text.ensures,
      length-append c.args.page.now (codes "pair "),
      ap length c.put_key.ensures,
      length-append c.put_text.new.self (key_text c.args.key.now),
      key_short c.args.key.now c.requires.key,
    )

pub put_text-requires-2 : goal.put_text-requires-2
put_text-requires-2 c = omega (arith, with_key (goal.at.put_text-requires-2 c).After-put_key, c.requires.room)

spaced : (c : After-put_text-2) → length c.put_text-2.new.self ≤ length c.args.page.now + 486
spaced c = omega (arith, with_key (goal.at.After-put_text-2 c).After-put_key, ap length c.put_text-2.ensures, length-append c.put_key.new.page (codes " "))

pub put_number-requires : goal.put_number-requires
put_number-requires c = omega (arith, spaced (goal.at.put_number-requires c).After-put_text-2, c.requires.room)

pub put_text-requires-3 : goal.put_text-requires-3
put_text-requires-3 c =
    let few = length-decimal-le 20 c.args.value (omega arith) (omega (arith, c.ranges.value.fits)) c.ranges.value.fits in
    omega (arith, few, spaced (goal.at.put_text-requires-3 c).After-put_text-2, ap length c.put_number.ensures, length-append c.put_text-2.new.self (decimal c.args.value), c.requires.room)
