-- What the columns of each kind are.
use Rattle.record_words.proofs.Common.{ℕ, zero, suc, ◌≡◌, ◌≢◌, ◌+◌, ◌/◌, ◌%◌, ◌<◌, ◌≤◌, Bool, true, false, ◌&&◌, not, eqb, nat_lt, List, [], ◌∷◌, length, get_or, refl, arith, nat_le, eqb-false, false≢true, le-leb, leb-true, ltb-true, IsColumns, all}
use Rattle.record_words.specs.Kinds.{HasNearLanes, are_near, first_byte, is_near, kind_of}
use Rattle.record_words.specs.declared.kind.HeadKind.{HeadKind}
use Rattle.record_words.specs.declared.kind.HeadKind.TheVariants.{Middle, Narrow, Wide}

-- a position in the sixteen bytes from this one on, and not the bit that says that there is a byte
pub record KeepsAllButOneEntry (first p : ℕ) : Type 0 where
  pub a_bit : p % 9 ≢ 0
  pub below : p / 9 < first + 16

-- near columns, at most so many
pub record AreNear (columns : List ℕ) (most : ℕ) : Type 0 where
  pub few : length columns ≤ most
  pub within : first_byte columns + 16 ≤ 240
  pub each : (i : ℕ) → i < length columns → KeepsAllButOneEntry (first_byte columns) (get_or columns i 0)

and_left : (a b : Bool) → a && b ≡ true → a ≡ true
and_left true b e = refl
and_left false b e = e

and_right : (a b : Bool) → a && b ≡ true → b ≡ true
and_right true b e = e
and_right false b e = absurd (false≢true e)

pub not_true : (b : Bool) → not b ≡ true → b ≡ false
not_true true e = absurd (false≢true e)
not_true false e = refl

each_of : (t : ℕ → Bool) (xs : List ℕ) → all t xs ≡ true → (i : ℕ) → i < length xs → t (get_or xs i 0) ≡ true
each_of t [] e i l = absurd (omega (arith, l))
each_of t (x ∷ xs) e zero l = and_left (t x) (all t xs) e
each_of t (x ∷ xs) e (suc i) l = each_of t xs (and_right (t x) (all t xs) e) i (omega (arith, l))

near_one : (first p : ℕ) → is_near first p ≡ true → KeepsAllButOneEntry first p
near_one first p e = record {
  a_bit = eqb-false (p % 9) 0 (not_true (eqb (p % 9) 0) (and_left (not (eqb (p % 9) 0)) (nat_lt (p / 9) (first + 16)) e));
  below = ltb-true (p / 9) (first + 16) (and_right (not (eqb (p % 9) 0)) (nat_lt (p / 9) (first + 16)) e);
}

near_all : (columns : List ℕ) (most : ℕ) → are_near columns ≡ true → nat_le (length columns) most ≡ true → AreNear columns most
near_all columns most near few =
    let first : ℕ = first_byte columns in
    let test : Bool = nat_le (first + 16) 240 in
    let both : Bool = all (is_near first) columns in record {
      few = leb-true (length columns) most few;
      within = leb-true (first + 16) 240 (and_left test both near);
      each = λ i l. near_one first (get_or columns i 0) (each_of (is_near first) columns (and_right test both near) i l);
    }

-- columns of each kind
pub data OfKind (columns : List ℕ) : Type 0 where
  is_wide : kind_of columns ≡ Wide → OfKind columns
  is_narrow : kind_of columns ≡ Narrow → AreNear columns 8 → OfKind columns
  is_middle : kind_of columns ≡ Middle → AreNear columns 16 → OfKind columns

pub of_kind : (columns : List ℕ) → OfKind columns
of_kind columns = go (are_near columns) refl (nat_le (length columns) 16) refl (nat_le (length columns) 8) refl
  where
    go : (near : Bool) → are_near columns ≡ near → (some : Bool) → nat_le (length columns) 16 ≡ some → (few : Bool) → nat_le (length columns) 8 ≡ few → OfKind columns
    go true a true b true c = is_narrow (rw (a, b, c) refl) (near_all columns 8 a c)
    go true a true b false c = is_middle (rw (a, b, c) refl) (near_all columns 16 a b)
    go true a false b few c = is_wide (rw (a, b) refl)
    go false a some b few c = is_wide (rw a refl)

pub near_of : (columns : List ℕ) → HasNearLanes columns → AreNear columns 16
near_of columns has = near_all columns 16 has.near (le-leb (length columns) 16 has.few)

-- columns of another kind than wide can have lanes
pub few_and_near : (columns : List ℕ) → kind_of columns ≢ Wide → (length columns ≤ 16) × (are_near columns ≡ true)
few_and_near columns other = go (are_near columns) refl (nat_le (length columns) 16) refl
  where
    go : (near : Bool) → are_near columns ≡ near → (some : Bool) → nat_le (length columns) 16 ≡ some → (length columns ≤ 16) × (are_near columns ≡ true)
    go true a true b = (leb-true (length columns) 16 b, a)
    go true a false b = absurd (other (rw (a, b) refl))
    go false a some b = absurd (other (rw a refl))

-- all but wide ones are near
pub are_near_unless_wide : (columns : List ℕ) → kind_of columns ≢ Wide → AreNear columns 16
are_near_unless_wide columns other = go (of_kind columns)
  where
    go : OfKind columns → AreNear columns 16
    go (is_wide e) = absurd (other e)
    go (is_narrow e near) = record { few = omega (arith, near.few); within = near.within; each = near.each }
    go (is_middle e near) = near

pub has_near_lanes : (columns : List ℕ) → IsColumns columns → kind_of columns ≢ Wide → HasNearLanes columns
has_near_lanes columns positions other = record {
  positions = positions;
  few = (are_near_unless_wide columns other).few;
  near = (few_and_near columns other).1;
}

-- no kind is another
pub narrow-not-wide : (kind : HeadKind) → kind ≡ Narrow → kind ≢ Wide
narrow-not-wide kind e wide = cc

pub middle-not-wide : (kind : HeadKind) → kind ≡ Middle → kind ≢ Wide
middle-not-wide kind e wide = cc

pub narrow_few : (columns : List ℕ) → kind_of columns ≡ Narrow → length columns ≤ 8
narrow_few columns e = go (of_kind columns)
  where
    go : OfKind columns → length columns ≤ 8
    go (is_wide f) = cc
    go (is_narrow f near) = near.few
    go (is_middle f near) = cc

pub middle_few : (columns : List ℕ) → kind_of columns ≡ Middle → length columns ≤ 16
middle_few columns e = (are_near_unless_wide columns (middle-not-wide (kind_of columns) e)).few
