-- Positions that stay the columns of a node.
use Rattle.partial_keys.proofs.Common.{Bool, List, ap, arith, drop, false, get_or, length, replicate, subst, sym, take, ℕ, ◌++◌, ◌+◌, ◌-◌, ◌<◌, ◌∙◌, ◌≡◌, ◌≤◌, append_assoc, drop-drop, get_or-drop, length-replicate, replicate-append-replicate, take_all, take_at, insert, Ascends-kept, AllBelow-kept, length-with_position, AllBelow-with_position, Ascends-with_position, length-kept, with_position-split, kept, front_below, has, with_position}
use lib.Seq.{paste}
use Rattle.partial_keys.proofs.Putting.{drop_pad}
use Rattle.partial_keys.specs.Columns.{HoldsColumns, IsColumns, with_free}

pub IsColumns-with_position : (p : ℕ) (cs : List ℕ) → IsColumns cs → length cs < 31 → p < 65535 → has cs p ≡ false → IsColumns (with_position p cs)
IsColumns-with_position p cs h room below new = record {
  some = omega (arith, length-with_position p cs);
  few = omega (arith, length-with_position p cs);
  rise = Ascends-with_position p 0 cs (omega arith) new h.rise;
  below = AllBelow-with_position p 65535 cs below h.below;
}

pub IsColumns-kept : (us : List Bool) (cs : List ℕ) → IsColumns cs → 0 < length (kept us cs) → IsColumns (kept us cs)
IsColumns-kept us cs h some = record {
  some = some;
  few = let l : length cs ≤ 31 = h.few in omega (arith, length-kept us cs);
  rise = Ascends-kept 0 us cs h.rise;
  below = AllBelow-kept 65535 us cs h.below;
}

-- places of columns, with a position put in as a column
module _ (places : List ℕ) (count p : ℕ) (h : HoldsColumns places count) (room : length (take count places) < 31) (below : p < 65535) (new : has (take count places) p ≡ false) where
  abbrev put : List ℕ
  put = insert (take count places) (front_below p (take count places)) p ++ drop (count + 1) places

  put_is : put ≡ with_position p (take count places) ++ drop (count + 1) places
  put_is = ap (λ cs. cs ++ drop (count + 1) places) (sym (with_position-split p (take count places)))

  longer : length (with_position p (take count places)) ≡ count + 1
  longer = length-with_position p (take count places) ∙ omega (arith, h.counted)

  pub put_shown : take (count + 1) put ≡ with_position p (take count places)
  put_shown = ap (take (count + 1)) put_is ∙ take_at (with_position p (take count places)) (drop (count + 1) places) (count + 1) longer

  put_behind : drop (count + 1) places ≡ replicate (31 - (count + 1)) 65535
  put_behind =
      ap (drop (count + 1)) (sym h.filled)
      ∙ ap (λ n. drop (count + 1) (take count places ++ replicate (31 - n) 65535)) h.counted
      ∙ drop_pad 31 count (take count places) 65535 h.counted

  pub put_holds : HoldsColumns put (count + 1)
  put_holds = record {
    columns = subst IsColumns (sym put_shown) (IsColumns-with_position p (take count places) h.columns room below new);
    counted = ap length put_shown ∙ longer;
    filled = ap with_free put_shown ∙ ap (λ n. with_position p (take count places) ++ replicate (31 - n) 65535) longer
        ∙ sym (put_is ∙ ap (λ xs. with_position p (take count places) ++ xs) put_behind);
  }

-- ---- positions that are moved to the front
-- lists with the same end have the same element there
pub same_behind : (xs ys : List ℕ) (j d : ℕ) → drop j xs ≡ drop j ys → get_or xs j d ≡ get_or ys j d
same_behind xs ys j d e =
    let z : j + 0 ≡ j = omega arith in
    sym (get_or-drop j xs 0 d ∙ ap (λ k. get_or xs k d) z) ∙ ap (λ zs. get_or zs 0 d) e ∙ get_or-drop j ys 0 d ∙ ap (λ k. get_or ys k d) z

pub more_behind : (xs ys : List ℕ) (j : ℕ) → drop j xs ≡ drop j ys → drop (j + 1) xs ≡ drop (j + 1) ys
more_behind xs ys j e = sym (drop-drop 1 j xs) ∙ ap (drop 1) e ∙ drop-drop 1 j ys

-- unused places behind those that are kept
pub filled_behind : (places front : List ℕ) (found count : ℕ) → found ≤ count → count ≤ 31 → take found places ≡ front → found ≡ length front → drop count places ≡ replicate (31 - count) 65535 →
    paste places found (replicate (count - found) 65535) (count - found) ≡ with_free front
filled_behind places front found count l few at_front counted behind =
    let n : found + (count - found) ≡ count = omega arith in
    let m : count - found + (31 - count) ≡ 31 - length front = omega arith in
    append_assoc (take found places) (take (count - found) (replicate (count - found) 65535)) (drop (found + (count - found)) places)
    ∙ ap (λ xs. xs ++ (take (count - found) (replicate (count - found) 65535) ++ drop (found + (count - found)) places)) at_front
    ∙ ap (λ xs. front ++ (xs ++ drop (found + (count - found)) places)) (take_all (count - found) (replicate (count - found) 65535) (omega (arith, length-replicate {A = ℕ} (count - found) 65535)))
    ∙ ap (λ k. front ++ (replicate (count - found) 65535 ++ drop k places)) n
    ∙ ap (λ xs. front ++ (replicate (count - found) 65535 ++ xs)) behind
    ∙ ap (λ xs. front ++ xs) (replicate-append-replicate (count - found) (31 - count) 65535 ∙ ap (λ k. replicate k 65535) m)

-- columns in front of unused places
pub holds_front : (cs places : List ℕ) (count : ℕ) → IsColumns cs → count ≡ length cs → places ≡ with_free cs → HoldsColumns places count
holds_front cs places count columns counted filled =
    let shown : take count places ≡ cs = ap (take count) filled ∙ take_at cs (replicate (31 - length cs) 65535) count (sym counted) in
    record { columns = subst IsColumns (sym shown) columns; counted = ap length shown ∙ sym counted; filled = ap with_free shown ∙ sym filled }
