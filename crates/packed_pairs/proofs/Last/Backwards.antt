-- Packed pairs without the last one: its key has the last bytes, and the others have those before.
use Rattle.std.proofs.Common.{◌≡◌, ℕ, ◌+◌, ◌-◌, ◌≤◌, List, [], ◌∷◌, ◌++◌, length, take, drop, ap, sym, subst, ◌∙◌, arith, length-drop}
use Rattle.std.proofs.lemmas.List.{drop-take, length-take-le, take-append-drop, take-take}
use Rattle.key_bits.specs.Key.{IsKey}
use Rattle.packed_pairs.specs.declared.head.PairHead.{PairHead}
use Rattle.packed_pairs.specs.Packed.{ArePacked, unpacked}
use Rattle.packed_pairs.proofs.Last.{at_end}
use Rattle.packed_pairs.proofs.Packed.{unpacked-push}

-- the bytes before those of the last key
abbrev pub before : PairHead → List ℕ → List ℕ
before head bytes = take (length bytes - head.count) bytes

pub packed-front : (heads : List PairHead) (head : PairHead) (bytes : List ℕ) → ArePacked (heads ++ head ∷ []) bytes → ArePacked heads (before head bytes)
packed-front [] head bytes (low, key, none) =
    let l = length-drop head.count bytes in let z : length (drop head.count bytes) ≡ 0 = ap length none in
    let n : length bytes - head.count ≡ 0 = omega (arith, l, z) in ap (λ m. take m bytes) n
packed-front (h ∷ heads) head bytes (low, key, packed) =
    let rest = drop h.count bytes in
    let end = (at_end heads head rest packed).low in
    let l = length-drop h.count bytes in
    let m = length bytes - head.count in
    let most : m ≤ length bytes = omega arith in
    let size = length-take-le m bytes most in
    let less : h.count ≤ m = omega (arith, end, l, low) in
    let parts : m ≡ h.count + (length rest - head.count) = omega (arith, end, l, low) in (
      omega (arith, size, less),
      subst IsKey (sym (take-take h.count m bytes less)) key,
      subst (ArePacked heads) (sym (ap (λ n. drop h.count (take n bytes)) parts ∙ drop-take h.count (length rest - head.count) bytes)) (packed-front heads head rest packed),
    )

pub unpacked-front : (heads : List PairHead) (head : PairHead) (bytes : List ℕ) → ArePacked (heads ++ head ∷ []) bytes →
    unpacked (heads ++ head ∷ []) bytes ≡ unpacked heads (before head bytes) ++ (drop (length bytes - head.count) bytes, head.value) ∷ []
unpacked-front heads head bytes packed =
    let m = length bytes - head.count in
    let low = (at_end heads head bytes packed).low in
    let l = length-drop m bytes in
    let many : head.count ≡ length (drop m bytes) = omega (arith, low, l) in
    ap (unpacked (heads ++ head ∷ [])) (sym (take-append-drop m bytes)) ∙ unpacked-push (drop m bytes) head many heads (before head bytes) (packed-front heads head bytes packed)

-- where these are all heads, and this is the last one: what is left, and what was taken
pub record IsTaken (all front : List PairHead) (head : PairHead) (bytes left key : List ℕ) : Type 0 where
  pub low : head.count ≤ length bytes
  pub packed : ArePacked front left
  pub pairs : unpacked all bytes ≡ unpacked front left ++ (key, head.value) ∷ []

pub taken : (all front : List PairHead) (head : PairHead) (bytes left key : List ℕ) → ArePacked all bytes → all ≡ front ++ head ∷ [] → left ≡ before head bytes → key ≡ drop (length bytes - head.count) bytes →
    IsTaken all front head bytes left key
taken all front head bytes left key packed parts left_is key_is =
    let p = subst (λ l. ArePacked l bytes) parts packed in
    record {
      low = (at_end front head bytes p).low;
      packed = subst (ArePacked front) (sym left_is) (packed-front front head bytes p);
      pairs = ap (λ l. unpacked l bytes) parts ∙ unpacked-front front head bytes p ∙ ap (λ (z : List ℕ × List ℕ). unpacked front z.0 ++ (z.1, head.value) ∷ []) (λ x. (sym left_is x, sym key_is x));
    }
