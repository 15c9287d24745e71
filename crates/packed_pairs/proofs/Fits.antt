-- The heads of packed pairs and the bytes of their keys; and which of them fit into so many bytes.
use Rattle.std.proofs.Common.{◌≡◌, ℕ, ◌-◌, ◌<◌, ◌≤◌, suc, pred, Bool, true, false, nat_le, List, [], ◌∷◌, ◌++◌, length, map, take, drop, if◌then◌else◌, refl, ap, sym, ◌∙◌, subst, arith, length-append}
use Rattle.std.proofs.Math.Seq.{take-append_seam}
use Rattle.std.proofs.lemmas.Bool.{le-leb, leb-true, lt-leb}
use Rattle.std.proofs.lemmas.List.{length-take-le, take-append-drop}
use Rattle.packed_pairs.specs.declared.head.PairHead.{PairHead}
use Rattle.packed_pairs.specs.Packed.{ArePacked, unpacked}
use Rattle.packed_pairs.specs.Parts.{fitting, packed_head, keys_in}

pub heads_are : (heads : List PairHead) (bytes : List ℕ) → ArePacked heads bytes → heads ≡ map packed_head (unpacked heads bytes)
heads_are [] bytes none = refl
heads_are (h ∷ heads) bytes (low, key, rest) =
    let count : h.count ≡ length (take h.count bytes) = sym (length-take-le h.count bytes low) in
    let first : h ≡ packed_head (take h.count bytes, h.value) = ap (λ n. record { count = n; value = h.value }) count in
    ap (λ (l : List PairHead). h ∷ l) (heads_are heads (drop h.count bytes) rest) ∙ ap (λ (x : PairHead). x ∷ map packed_head (unpacked heads (drop h.count bytes))) first

pub keys_are : (heads : List PairHead) (bytes : List ℕ) → ArePacked heads bytes → bytes ≡ keys_in (unpacked heads bytes)
keys_are [] bytes none = none
keys_are (h ∷ heads) bytes (low, key, rest) = sym (take-append-drop h.count bytes) ∙ ap (λ l. take h.count bytes ++ l) (keys_are heads (drop h.count bytes) rest)

-- what is left without the last item
pub popped : {A : Type 0} (xs front : List A) (x : A) → xs ≡ front ++ x ∷ [] → front ≡ take (pred (length xs)) xs
popped xs front x parts =
    let n = ap length parts ∙ length-append front (x ∷ []) in
    let less : pred (length xs) ≡ length front = omega (arith, n) in
    sym (rw (less, parts) (take-append_seam front (x ∷ [])))

-- where all keys fit, all pairs stay
pub fitting_all : (room : ℕ) (pairs : List (List ℕ × ℕ)) → length (keys_in pairs) ≤ room → fitting room pairs ≡ pairs
fitting_all room [] low = refl
fitting_all room (pair ∷ pairs) low =
    let n = length-append pair.0 (keys_in pairs) in
    rw (le-leb (length pair.0) room (omega (arith, n, low))) (ap (λ (l : List (List ℕ × ℕ)). pair ∷ l) (fitting_all (room - length pair.0) pairs (omega (arith, n, low))))

alike : (pair : List ℕ × ℕ) (some others : List (List ℕ × ℕ)) (is : Bool) → (is ≡ true → some ≡ others) → (if is then pair ∷ some else []) ≡ (if is then pair ∷ others else [])
alike pair some others true same = ap (λ (l : List (List ℕ × ℕ)). pair ∷ l) (same refl)
alike pair some others false same = refl

-- where not all keys fit, the last one doesn't
pub fitting_less : (room : ℕ) (front : List (List ℕ × ℕ)) (last : List ℕ × ℕ) → room < length (keys_in (front ++ last ∷ [])) → fitting room (front ++ last ∷ []) ≡ fitting room front
fitting_less room [] last low = let n = length-append last.0 [] in rw (lt-leb (length last.0) room (omega (arith, n, low))) refl
fitting_less room (pair ∷ front) last low =
    let n = length-append pair.0 (keys_in (front ++ last ∷ [])) in
    alike pair _ _ (nat_le (length pair.0) room) (λ yes. fitting_less (room - length pair.0) front last (let first = leb-true (length pair.0) room yes in omega (arith, n, low, first)))

-- the pairs without the last one, where there is one
pub record IsFront (pairs front : List (List ℕ × ℕ)) : Type 0 where
  pub last : List ℕ × ℕ
  pub parts : pairs ≡ front ++ last ∷ []

snoc : (pairs : List (List ℕ × ℕ)) → 0 < length pairs → IsFront pairs (take (pred (length pairs)) pairs)
snoc [] low = absurd (omega (arith, low))
snoc (pair ∷ []) low = record { last = pair; parts = refl }
snoc (pair ∷ next ∷ pairs) low = let front = snoc (next ∷ pairs) (omega arith) in record { last = front.last; parts = ap (λ (l : List (List ℕ × ℕ)). pair ∷ l) front.parts }

some : (room : ℕ) (pairs : List (List ℕ × ℕ)) → room < length (keys_in pairs) → 0 < length pairs
some room [] low = absurd (omega (arith, low))
some room (pair ∷ pairs) low = omega arith

-- as many fit of those without the last one
pub fits_without : (room : ℕ) (pairs : List (List ℕ × ℕ)) → room < length (keys_in pairs) → fitting room (take (pred (length pairs)) pairs) ≡ fitting room pairs
fits_without room pairs low =
    let front = snoc pairs (some room pairs low) in
    let rest = take (pred (length pairs)) pairs in
    sym (ap (fitting room) front.parts ∙ fitting_less room rest front.last (subst (λ (l : List (List ℕ × ℕ)). room < length (keys_in l)) front.parts low))

-- those that fit are no more than all
pub few_fit : (room : ℕ) (pairs : List (List ℕ × ℕ)) → length (fitting room pairs) ≤ length pairs
few_fit room [] = omega arith
few_fit room (pair ∷ pairs) = let rest = few_fit (room - length pair.0) pairs in few (nat_le (length pair.0) room) _ rest
  where
    few : (is : Bool) (some : List (List ℕ × ℕ)) → length some ≤ length pairs → length (if is then pair ∷ some else []) ≤ suc (length pairs)
    few true some low = omega (arith, low)
    few false some low = omega arith

-- and their keys have no more bytes than there is room for
pub room_fits : (room : ℕ) (pairs : List (List ℕ × ℕ)) → length (keys_in (fitting room pairs)) ≤ room
room_fits room [] = omega arith
room_fits room (pair ∷ pairs) = fits (nat_le (length pair.0) room) refl (room_fits (room - length pair.0) pairs)
  where
    fits : (is : Bool) → nat_le (length pair.0) room ≡ is → length (keys_in (fitting (room - length pair.0) pairs)) ≤ room - length pair.0 →
        length (keys_in (if is then pair ∷ fitting (room - length pair.0) pairs else [])) ≤ room
    fits true low_one rest =
        let low = leb-true (length pair.0) room low_one in
        let n = length-append pair.0 (keys_in (fitting (room - length pair.0) pairs)) in omega (arith, low, rest, n)
    fits false not_one rest = omega arith
