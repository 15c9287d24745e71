-- The key's first bytes and its last ones overlap or touch, so together they are the key.
use Rattle.std.proofs.Common.{◌≡◌, ℕ, ◌+◌, ◌-◌, ◌≤◌, List, ◌++◌, length, take, drop, refl, ap, ◌∙◌, arith}
use Rattle.std.proofs.lemmas.List.{length-append, length-drop, length-take-le, take-append-drop, take-append-le, take-take, take_rest}
use Rattle.std.proofs.lemmas.Slice.{drop-append-drop, drop-put_mid, take-put_mid}
use borrow.Rule.Slice.PartMut.{put_mid}
use Rattle.hot_c.proofs.pairs.write_pair_by_ends.Goals as goal

-- the last n bytes are written over what begins with the first n
ends_meet : (key front others back : List ℕ) (n k : ℕ) → n ≤ length key → length key ≤ n + n → front ≡ take n key → back ≡ drop (length key - n) key
    → take (length key) (put_mid (length key - n) k (front ++ others) back) ≡ key
ends_meet key front others back n k short meet is_front is_back =
    let last = length key - n in
    let within : last ≤ length front = let long = ap length is_front ∙ length-take-le n key short in omega (arith, long) in
    let many : length back ≡ length key - last = ap length is_back ∙ length-drop last key in
    take-put_mid last k (front ++ others) back (length key) (omega (arith, many)) (omega (arith, within, length-append front others))
    ∙ ap (λ bytes. bytes ++ back) (take-append-le last front others within ∙ ap (take last) is_front ∙ take-take last n key (omega arith))
    ∙ ap (λ bytes. take last key ++ bytes) is_back ∙ take-append-drop last key

-- and what stands behind both is as it was
behind_stays : (key front was back : List ℕ) (n k : ℕ) → n ≤ length key → length key ≤ n + n → front ≡ take n key → back ≡ drop (length key - n) key → k ≡ length key - (length key - n)
    → drop (length key) (put_mid (length key - n) k (front ++ drop n was) back) ≡ drop (length key) was
behind_stays key front was back n k short meet is_front is_back size =
    let last = length key - n in
    let wide : length front ≡ n = ap length is_front ∙ length-take-le n key short in
    let many : length back ≡ length key - last = ap length is_back ∙ length-drop last key in
    drop-put_mid last k (front ++ drop n was) back (length key) (omega (arith, size)) (omega (arith, wide, length-append front (drop n was))) (omega (arith, many, size))
    ∙ drop-append-drop n was front (length key) short wide

pub returns : goal.returns
returns g c =
    let key = c.args.key.now in
    let first = c.copy_from_slice-2.ensures.after ∙ c.copy_from_slice.ensures.after in
    let rest = c.copy_from_slice-4.ensures.after ∙ c.copy_from_slice-3.ensures.after ∙ take_rest key (length key - g.row.N) in
    record {
      key = ends_meet key _ _ _ g.row.N _ c.requires.covered.0 c.requires.covered.1 first rest;
      behind = behind_stays key _ _ _ g.row.N _ c.requires.covered.0 c.requires.covered.1 first rest (omega arith);
      count = refl;
      value = refl;
    }
