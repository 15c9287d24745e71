-- Bytes at the front of places, and what is behind them.
use Rattle.std.proofs.Common.{◌≡◌, ℕ, suc, ◌+◌, ◌-◌, ◌<◌, ◌≤◌, List, [], ◌∷◌, ◌++◌, length, take, drop, replicate, set, sym, ap, subst, ◌∙◌, arith, append_assoc, length-append}
use Rattle.std.proofs.Math.Seq.{set-append_seam}
use Rattle.std.proofs.lemmas.List.{append-nil, drop-replicate, length-replicate, take_all}
use Rattle.std.proofs.lemmas.List.Elements.{All-append, All-cons, All-nil, All-replicate}
use Rattle.key_bits.specs.Key.{HoldsKey, IsKey, with_zeros}
use Rattle.key_bits.specs.declared.TheConstants.{MAX_BYTES}
use Rattle.key_bits.proofs.Holding.{holds}
use Rattle.key_ranges.specs.Ranges.{last_with}

-- One byte more

pub one_more_key : (front : List ℕ) (last : ℕ) → IsKey front → length front < MAX_BYTES → last < 256 → IsKey (front ++ last ∷ [])
one_more_key front last is room small = record {
  short = let n = length-append front (last ∷ []) in omega (arith, n, room);
  are_bytes = All-append (λ byte. byte < 256) front (last ∷ []) is.are_bytes (All-cons (λ byte. byte < 256) last [] small (All-nil (λ byte. byte < 256)));
}

one_more : (front : List ℕ) (last n : ℕ) → set (front ++ replicate (suc n) 0) (length front) last ≡ (front ++ last ∷ []) ++ replicate n 0
one_more front last n = set-append_seam front 0 (replicate n 0) last ∙ sym (append_assoc front (last ∷ []) (replicate n 0))

pub holds_one_more : (front copied : List ℕ) (last : ℕ) → copied ≡ front → IsKey front → length front < MAX_BYTES → last < 256 →
    HoldsKey (set (copied ++ drop (length front) (replicate MAX_BYTES 0)) (length front) last) (length front + 1)
holds_one_more front copied last same is room small =
    let n = length-append front (last ∷ []) in
    let left : MAX_BYTES - length front ≡ suc (MAX_BYTES - length (front ++ last ∷ [])) = omega (arith, n, room) in
    let places = set (copied ++ drop (length front) (replicate MAX_BYTES 0)) (length front) last in
    let written : places ≡ with_zeros (front ++ last ∷ []) =
    ap (λ l. set (l ++ drop (length front) (replicate MAX_BYTES 0)) (length front) last) same
    ∙ (ap (λ l. set (front ++ l) (length front) last) (drop-replicate {X = ℕ} (length front) MAX_BYTES 0 ∙ ap (λ m. replicate m 0) left) ∙ one_more front last (MAX_BYTES - length (front ++ last ∷ []))) in
    subst (HoldsKey places) n (holds (front ++ last ∷ []) places (one_more_key front last is room small) written)

-- All places

length-last_with : (prefix : List ℕ) → length prefix ≤ MAX_BYTES → length (last_with prefix) ≡ MAX_BYTES
length-last_with prefix short = let n = length-append prefix (replicate (MAX_BYTES - length prefix) 255) in let m = length-replicate {A = ℕ} (MAX_BYTES - length prefix) 255 in omega (arith, n, m, short)

pub last_is_key : (prefix : List ℕ) → IsKey prefix → IsKey (last_with prefix)
last_is_key prefix is = record {
  short = let n = length-last_with prefix is.short in omega (arith, n);
  are_bytes = All-append (λ byte. byte < 256) prefix (replicate (MAX_BYTES - length prefix) 255) is.are_bytes (All-replicate (λ byte. byte < 256) (MAX_BYTES - length prefix) 255 (omega arith));
}

pub written_last : (prefix copied : List ℕ) → copied ≡ prefix → copied ++ drop (length prefix) (replicate MAX_BYTES 255) ≡ last_with prefix
written_last prefix copied same = ap (λ l. l ++ drop (length prefix) (replicate MAX_BYTES 255)) same ∙ ap (λ rest. prefix ++ rest) (drop-replicate {X = ℕ} (length prefix) MAX_BYTES 255)

pub holds_last : (prefix places : List ℕ) → IsKey prefix → places ≡ last_with prefix → HoldsKey places MAX_BYTES
holds_last prefix places is same =
    let n = length-last_with prefix is.short in
    let none : replicate (MAX_BYTES - length (last_with prefix)) 0 ≡ [] = ap (λ m. replicate m 0) (let z : MAX_BYTES - length (last_with prefix) ≡ 0 = omega (arith, n) in z) in
    subst (HoldsKey places) n (holds (last_with prefix) places (last_is_key prefix is) (same ∙ (sym (append-nil (last_with prefix)) ∙ ap (λ l. last_with prefix ++ l) (sym none))))

pub takes_last : (prefix places : List ℕ) → IsKey prefix → places ≡ last_with prefix → take MAX_BYTES places ≡ last_with prefix
takes_last prefix places is same = ap (take MAX_BYTES) same ∙ take_all MAX_BYTES (last_with prefix) (let n = length-last_with prefix is.short in omega (arith, n))
