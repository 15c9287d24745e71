-- What a map holds after a key got a value or was taken away, and that its keys stay in order.
use Rattle.finite_map.proofs.Common.{◌≡◌, ◌≢◌, ℕ, List, [], ◌∷◌, Bool, true, false, cond, Option, Some, None, refl, sym, ap, ◌∙◌, ⊎_elim, Ordering, Less, Equal, Greater, is_eq, ordering_reverse, match_ordering, nat_list_cmp_total, IsStrictlySortedBy, keys_of, is_at, cases_Bool, eq_by_cmp_equiv, All-from_recursion, recursion_from_All, All-weaker, exact_bytes, All-keys-insert_entry, All-map-remove_entry}
use Rattle.std.proofs.lemmas.Map.{lookup-remove_entry}
use Rattle.std.proofs.lemmas.Map.Keys.{IsDistinct-from_sorted}
use Rattle.finite_map.specs.Maps.{Map, key_order, IsRising, value_at, with_value, without}

-- Equal keys

is_eq-Equal : (o : Ordering) → is_eq o ≡ true → o ≡ Equal
is_eq-Equal Less h = cc
is_eq-Equal Equal h = refl
is_eq-Equal Greater h = cc

pub at_itself : (key : List ℕ) → is_at (key_order key) key ≡ true
at_itself key = (eq_by_cmp_equiv nat_list_cmp_total).refl key

pub same_from_at : (q key : List ℕ) → is_at (key_order q) key ≡ true → q ≡ key
same_from_at q key h = exact_bytes q key (is_eq-Equal _ h)

pub apart_at : (q key : List ℕ) → q ≢ key → is_at (key_order q) key ≡ false
apart_at q key ne = ⊎_elim (λ h. absurd (ne (same_from_at q key h))) (λ h. h) (cases_Bool (is_at (key_order q) key))

-- A key with a value

twice : (b : Bool) (v w x : Option ℕ) → cond b v x ≡ cond b v (cond b w x)
twice true v w x = refl
twice false v w x = refl

swapped : (a b : Bool) (v w x : Option ℕ) → (b ≡ true → a ≡ false) → cond b w (cond a v x) ≡ cond a v (cond b w x)
swapped true true v w x h = absurd (let e : true ≡ false = h refl in cc)
swapped true false v w x h = refl
swapped false true v w x h = refl
swapped false false v w x h = refl

module _ (key : List ℕ) (value : ℕ) where
  value_after : (e : List ℕ × ℕ) (es : Map) (q : List ℕ) (o : Ordering) → key_order key e.0 ≡ o →
      value_at (with_value es key value) q ≡ cond (is_at (key_order q) key) (Some value) (value_at es q) →
      value_at (match_ordering o ((key, value) ∷ e ∷ es) ((e.0, value) ∷ es) (e ∷ with_value es key value)) q
      ≡ cond (is_at (key_order q) key) (Some value) (value_at (e ∷ es) q)
  value_after e es q Less h i = refl
  value_after e es q Equal h i = let same : key ≡ e.0 = exact_bytes key e.0 h in rw same (twice (is_at (key_order q) e.0) (Some value) (Some e.1) (value_at es q))
  value_after e es q Greater h i =
      ap (cond (is_at (key_order q) e.0) (Some e.1)) i
      ∙ swapped (is_at (key_order q) key) (is_at (key_order q) e.0) (Some value) (Some e.1) (value_at es q)
      (λ at. apart_at q key (λ same. let here : key_order key e.0 ≡ Equal = is_eq-Equal _ (rw (← same) at) in let no : Greater ≡ Equal = sym h ∙ here in cc))

  pub value_at-with_value : (m : Map) (q : List ℕ) → value_at (with_value m key value) q ≡ cond (is_at (key_order q) key) (Some value) (value_at m q)
  value_at-with_value [] q = refl
  value_at-with_value (e ∷ es) q = value_after e es q (key_order key e.0) refl (value_at-with_value es q)

  pub value_at-with_value_same : (m : Map) → value_at (with_value m key value) key ≡ Some value
  value_at-with_value_same m = value_at-with_value m key ∙ ap (λ b. cond b (Some value) (value_at m key)) (at_itself key)

  pub value_at-with_value_other : (m : Map) (q : List ℕ) → q ≢ key → value_at (with_value m key value) q ≡ value_at m q
  value_at-with_value_other m q ne = value_at-with_value m q ∙ ap (λ b. cond b (Some value) (value_at m q)) (apart_at q key ne)

  rising_after : (e : List ℕ × ℕ) (es : Map) (o : Ordering) → key_order key e.0 ≡ o → IsRising (e ∷ es) → IsRising (with_value es key value) →
      IsRising (match_ordering o ((key, value) ∷ e ∷ es) ((e.0, value) ∷ es) (e ∷ with_value es key value))
  unfolding IsStrictlySortedBy
  rising_after e es Less h r i =
      ((h, recursion_from_All _ _ (All-weaker _ _ (λ q l. nat_list_cmp_total.trans key e.0 q h l) _ (All-from_recursion _ _ r.0))), r)
  rising_after e es Equal h r i = r
  rising_after e es Greater h r i =
      let after : key_order e.0 key ≡ Less = nat_list_cmp_total.antisymm e.0 key ∙ ap ordering_reverse h in
      (recursion_from_All _ _ (All-keys-insert_entry key_order key value (λ q. key_order e.0 q ≡ Less) es (All-from_recursion _ _ r.0) after), i)

  pub with_value-rising : (m : Map) → IsRising m → IsRising (with_value m key value)
  unfolding IsStrictlySortedBy
  with_value-rising [] r = (tt, tt)
  with_value-rising (e ∷ es) r = rising_after e es (key_order key e.0) refl r (with_value-rising es r.1)

-- A key taken away

module _ (key : List ℕ) where
  value_at-without : (m : Map) (q : List ℕ) → IsRising m → value_at (without m key) q ≡ cond (is_at (key_order key) q) None (value_at m q)
  value_at-without m q r =
      lookup-remove_entry (eq_by_cmp_equiv nat_list_cmp_total) (is_at (key_order key)) ((eq_by_cmp_equiv nat_list_cmp_total).congr key) q m (IsDistinct-from_sorted key_order (keys_of m) r)

  pub value_at-without_same : (m : Map) → IsRising m → value_at (without m key) key ≡ None
  value_at-without_same m r = value_at-without m key r ∙ ap (λ b. cond b None (value_at m key)) (at_itself key)

  pub value_at-without_other : (m : Map) (q : List ℕ) → IsRising m → q ≢ key → value_at (without m key) q ≡ value_at m q
  value_at-without_other m q r ne = value_at-without m q r ∙ ap (λ b. cond b None (value_at m q)) (apart_at key q (λ e. ne (sym e)))

  rising_without : (b : Bool) (e : List ℕ × ℕ) (es : Map) → IsRising (e ∷ es) → IsRising (without es key) → IsRising (cond b es (e ∷ without es key))
  unfolding IsStrictlySortedBy
  rising_without true e es r i = r.1
  rising_without false e es r i =
      (recursion_from_All _ _ (All-map-remove_entry (is_at (key_order key)) (λ x. x.0) (λ q. key_order e.0 q ≡ Less) es (All-from_recursion _ _ r.0)), i)

  pub without-rising : (m : Map) → IsRising m → IsRising (without m key)
  unfolding IsStrictlySortedBy
  without-rising [] r = tt
  without-rising (e ∷ es) r = rising_without (is_at (key_order key) e.0) e es r (without-rising es r.1)
