-- The next key: with a byte more, or with one raised.
use Rattle.std.proofs.Common.{◌≡◌, ℕ, suc, ◌+◌, ◌<◌, ◌≤◌, List, [], ◌∷◌, ◌++◌, length, replicate, refl, sym, ap, subst, ◌∙◌, arith, append_assoc, length-append}
use Rattle.std.specs.Prelude.{All}
use Rattle.std.proofs.Math.Seq.{drop-append_seam}
use Rattle.std.proofs.lemmas.List.{length-replicate, take_at}
use Rattle.std.proofs.lemmas.List.Elements.{All-drop, All-head, All-take}
use Rattle.std.specs.declared.cmp.Ordering.TheVariants.{Less}
use Rattle.key_bits.specs.Key.{IsKey}
use Rattle.key_bits.specs.declared.TheConstants.{MAX_BYTES}
use Rattle.finite_map.specs.Maps.{key_order}
use Rattle.key_ranges.specs.Ranges.{IsNextKey, NoKeyAbove}
use Rattle.key_ranges.proofs.Ranges.Above.{longer_above, longer_least, none_above, raised_above, raised_least}
use Rattle.key_ranges.proofs.Ranges.Places.{one_more_key}

pub next_longer : (key bytes next : List ℕ) → bytes ≡ key → IsKey key → length bytes < MAX_BYTES → next ≡ bytes ++ 0 ∷ [] → IsNextKey key next
next_longer key bytes next same is room e = subst (IsNextKey key) (sym (e ∙ ap (λ l. l ++ 0 ∷ []) same)) (record {
  is_key = one_more_key key 0 is (subst (λ (l : List ℕ). length l < MAX_BYTES) same room) (omega arith);
  above = longer_above key 0;
  least = λ other of less. longer_least key other less;
})

pub front_key : (front rest : List ℕ) → IsKey (front ++ rest) → IsKey front
front_key front rest is = record {
  short = let n = length-append front rest in let s = is.short in omega (arith, n, s);
  are_bytes = subst (λ l. All (λ byte. byte < 256) l) (take_at front rest (length front) refl) (All-take (λ byte. byte < 256) (length front) (front ++ rest) is.are_bytes);
}

-- a byte of the key, where all behind it are 255
pub record IsCut (key front : List ℕ) (b n : ℕ) : Type 0 where
  pub parts : key ≡ front ++ b ∷ replicate n 255
  pub is_key : IsKey front
  pub room : length front + 1 + n ≡ length key
  pub small : b < 256

pub cut : (key rest front : List ℕ) (b n : ℕ) → IsKey key → key ≡ rest ++ replicate n 255 → rest ≡ front ++ b ∷ [] → IsCut key front b n
cut key rest front b n is whole last =
    let parts : key ≡ front ++ b ∷ replicate n 255 = whole ∙ (ap (λ l. l ++ replicate n 255) last ∙ append_assoc front (b ∷ []) (replicate n 255)) in
    let key_is = subst IsKey parts is in
    record {
      parts = parts;
      is_key = front_key front (b ∷ replicate n 255) key_is;
      room = let l = length-append front (b ∷ replicate n 255) in let m = length-replicate {A = ℕ} n 255 in let k : length key ≡ length (front ++ b ∷ replicate n 255) = ap length parts in omega (arith, l, m, k);
      small = All-head (λ byte. byte < 256) b (replicate n 255) (subst (λ l. All (λ byte. byte < 256) l) (drop-append_seam front (b ∷ replicate n 255)) (All-drop (λ byte. byte < 256) (length front) (front ++ b ∷ replicate n 255) key_is.are_bytes));
    }

pub next_raised : (key front next : List ℕ) (b n : ℕ) → IsKey key → MAX_BYTES ≤ length key → IsCut key front b n → b < 255 → next ≡ front ++ (b + 1) ∷ [] → IsNextKey key next
next_raised key front next b n is full c low e = subst (IsNextKey key) (sym e) (record {
  is_key = one_more_key front (b + 1) c.is_key (let s = is.short in let r = c.room in omega (arith, s, r)) (omega arith);
  above = subst (λ k. key_order k (front ++ (b + 1) ∷ []) ≡ Less) (sym c.parts) (raised_above front (replicate n 255) b);
  least = λ other of less. raised_least front other b n of.are_bytes (let s = of.short in let r = c.room in omega (arith, s, r, full)) (subst (λ k. key_order k other ≡ Less) c.parts less);
})

-- one byte more of 255
pub cut_more : (key front : List ℕ) (b n : ℕ) → IsCut key front b n → 255 ≤ b → (m : ℕ) × (key ≡ front ++ replicate m 255)
cut_more key front b n c high = let top : b ≡ 255 = let s = c.small in omega (arith, s, high) in (suc n, c.parts ∙ ap (λ z. front ++ z ∷ replicate n 255) top)

pub no_next : (key rest : List ℕ) (n : ℕ) → IsKey key → MAX_BYTES ≤ length key → key ≡ rest ++ replicate n 255 → length rest ≡ 0 → NoKeyAbove key
no_next key [] n is full e none other of less =
    let l : length key ≡ length (replicate n 255) = ap length e in
    none_above n other of.are_bytes (let m = length-replicate {A = ℕ} n 255 in let s = of.short in omega (arith, l, m, s, full)) (subst (λ k. key_order k other ≡ Less) e less)
no_next key (x ∷ rest) n is full e none other of less = omega (arith, none)
