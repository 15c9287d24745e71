-- Where the bytes of the last key are.
pub mod Backwards
use Rattle.std.proofs.Common.{◌≡◌, ℕ, ◌+◌, ◌-◌, ◌≤◌, List, [], ◌∷◌, ◌++◌, length, take, drop, ap, sym, subst, ◌∙◌, arith, length-drop}
use Rattle.std.proofs.lemmas.List.{drop-drop, take_all}
use Rattle.key_bits.specs.Key.{IsKey}
use Rattle.packed_pairs.specs.declared.head.PairHead.{PairHead}
use Rattle.packed_pairs.specs.Last.{IsLastKey}
use Rattle.packed_pairs.specs.Packed.{ArePacked, unpacked}

-- the bytes of the last key are the last ones
pub record IsAtEnd (heads : List PairHead) (head : PairHead) (bytes : List ℕ) : Type 0 where
  pub low : head.count ≤ length bytes
  pub is_key : IsKey (drop (length bytes - head.count) bytes)
  pub last : IsLastKey (unpacked (heads ++ head ∷ []) bytes) (drop (length bytes - head.count) bytes)

none_left : (n : ℕ) (bytes : List ℕ) → n ≤ length bytes → drop n bytes ≡ [] → length bytes ≡ n
none_left n bytes low none = let l = length-drop n bytes in let z : length (drop n bytes) ≡ 0 = ap length none in omega (arith, l, z, low)

pub at_end : (heads : List PairHead) (head : PairHead) (bytes : List ℕ) → ArePacked (heads ++ head ∷ []) bytes → IsAtEnd heads head bytes
at_end [] head bytes (low, key, none) =
    let n = none_left head.count bytes low none in
    let all : take head.count bytes ≡ drop (length bytes - head.count) bytes = take_all head.count bytes (omega (arith, n)) ∙ ap (λ m. drop m bytes) (let z : 0 ≡ length bytes - head.count = omega (arith, n) in z) in
    record { low = low; is_key = subst IsKey all key; last = ([], head.value, ap (λ k. (k, head.value) ∷ []) all) }
at_end (h ∷ heads) head bytes (low, key, packed) =
    let rest = drop h.count bytes in
    let e = at_end heads head rest packed in
    let n = length-drop h.count bytes in
    let same : drop (length rest - head.count) rest ≡ drop (length bytes - head.count) bytes = drop-drop (length rest - head.count) h.count bytes ∙ ap (λ m. drop m bytes) (let l = e.low in let z : h.count + (length rest - head.count) ≡ length bytes - head.count = omega (arith, l, n, low) in z) in
    record {
      low = let l = e.low in omega (arith, l, n);
      is_key = subst IsKey same e.is_key;
      last = ((take h.count bytes, h.value) ∷ e.last.0, e.last.1, ap (λ l. (take h.count bytes, h.value) ∷ l) (e.last.2 ∙ ap (λ k. e.last.0 ++ (k, e.last.1) ∷ []) same));
    }

-- where these are all heads, and this is the last one
pub at_end_of : (all front heads : List PairHead) (head : PairHead) (bytes : List ℕ) → ArePacked all bytes → heads ≡ all → heads ≡ front ++ head ∷ [] →
    IsAtEnd front head bytes × (unpacked all bytes ≡ unpacked (front ++ head ∷ []) bytes)
at_end_of all front heads head bytes packed same parts =
    let e : all ≡ front ++ head ∷ [] = sym same ∙ parts in (at_end front head bytes (subst (λ l. ArePacked l bytes) e packed), ap (λ l. unpacked l bytes) e)

pub end_of : (bytes items rest : List ℕ) (len count : ℕ) → rest ≡ drop (len - count) bytes → bytes ≡ items → len ≡ length items → rest ≡ drop (length items - count) items
end_of bytes items rest len count is same count_is = is ∙ (ap (λ n. drop (n - count) bytes) count_is ∙ ap (drop (length items - count)) same)
