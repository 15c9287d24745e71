-- Packed pairs: how many they are, and one more at the end.
use Rattle.std.proofs.Common.{◌≡◌, ℕ, suc, List, [], ◌∷◌, ◌++◌, length, take, drop, refl, ap, sym, subst, arith, length-append}
use Rattle.std.proofs.lemmas.List.{take-append-le, drop-append-le, take_all}
use Rattle.std.proofs.lemmas.List.Elements.{All-cons, All-nil}
use Rattle.std.specs.Prelude.{All}
use Rattle.key_bits.specs.Key.{IsKey}
use Rattle.packed_pairs.specs.declared.head.PairHead.{PairHead}
use Rattle.packed_pairs.specs.Packed.{ArePacked, unpacked}

pub length-unpacked : (heads : List PairHead) (bytes : List ℕ) → length (unpacked heads bytes) ≡ length heads
length-unpacked [] bytes = refl
length-unpacked (h ∷ heads) bytes = ap suc (length-unpacked heads (drop h.count bytes))

-- each of the keys is one
pub all_keys : (heads : List PairHead) (bytes : List ℕ) → ArePacked heads bytes → All (λ pair. IsKey pair.0) (unpacked heads bytes)
all_keys [] bytes none = All-nil (λ pair. IsKey pair.0)
all_keys (h ∷ heads) bytes (low, first, rest) = All-cons (λ pair. IsKey pair.0) (take h.count bytes, h.value) _ first (all_keys heads (drop h.count bytes) rest)

whole : (key : List ℕ) (n : ℕ) → n ≡ length key → take n key ≡ key
whole key n e = take_all n key (omega (arith, e))

module _ (key : List ℕ) (head : PairHead) (is : head.count ≡ length key) where
  pub unpacked-push : (heads : List PairHead) (bytes : List ℕ) → ArePacked heads bytes → unpacked (heads ++ head ∷ []) (bytes ++ key) ≡ unpacked heads bytes ++ (key, head.value) ∷ []
  unpacked-push [] bytes none = rw (none, whole key head.count is) refl
  unpacked-push (h ∷ heads) bytes (low, first, rest) =
      rw (take-append-le h.count bytes key low, drop-append-le h.count bytes key low, unpacked-push heads (drop h.count bytes) rest) refl

  pub packed-push : (heads : List PairHead) (bytes : List ℕ) → ArePacked heads bytes → IsKey key → ArePacked (heads ++ head ∷ []) (bytes ++ key)
  packed-push [] bytes none k =
      rw none (omega (arith, is), subst IsKey (sym (whole key head.count is)) k, rw is (drop_whole key))
    where
      drop_whole : (xs : List ℕ) → drop (length xs) xs ≡ []
      drop_whole [] = refl
      drop_whole (x ∷ xs) = drop_whole xs
  packed-push (h ∷ heads) bytes (low, first, rest) k = (
    let e = length-append bytes key in omega (arith, low, e),
    subst IsKey (sym (take-append-le h.count bytes key low)) first,
    subst (ArePacked (heads ++ head ∷ [])) (sym (drop-append-le h.count bytes key low)) (packed-push heads (drop h.count bytes) rest k),
  )
