-- The first pairs of a scan are those of a scan that was cut after them, upwards and downwards.
use Rattle.hot_c.proofs.Common.{◌≡◌, ◌≢◌, ℕ, ◌+◌, ◌<◌, ◌≤◌, List, [], length, take, get_or, All, Any, Contains, Bool, true, false, IsTrue, leb, refl, sym, ap, ◌∙◌, subst, ⊎_elim, arith, ordering_reverse, Ordering, Less, Greater, nat_list_cmp_total, cases_Bool, leb-true, leb-false, get_or_default, get_or-take, length-take-le, All-take, Change, Scan, Map, key_order, falling_order, IsLawfulReverseScan, is_within, IsHeldBetween, IsLawfulScan, IsLawfulScanWith, IsHeldThroughout, ScanOrder, ScanLaw}
use Rattle.std.specs.Cmp.{IsTotalOrder}
use Rattle.std.specs.List.Sorted.{IsStrictlySortedBy}
use Rattle.std.specs.Map.{keys_of}
use Rattle.std.proofs.lemmas.Map.Entries.{length-keys_of}
use Rattle.std.proofs.lemmas.Map.Keys.{Less-from_sorted, sorted_from_all_adjacent}
use Rattle.std.proofs.Math.ListN.{get_or-map}

-- a pair that is read where there is none
abbrev some : List ℕ × ℕ
some = ([], 0)

-- the key at a place
key_at : (pairs : List (List ℕ × ℕ)) (i : ℕ) (d : List ℕ × ℕ) → get_or (keys_of pairs) i d.0 ≡ (get_or pairs i d).0
key_at pairs i d = get_or-map (λ (e : List ℕ × ℕ). e.0) pairs i d

-- of keys in this order, of which one is near another where it isn't above it
module _ (order : List ℕ → List ℕ → Ordering) (total : IsTotalOrder order) (KeepsAllButOneEntry : List ℕ → List ℕ → Type 0) (apart : (one other : List ℕ) → order one other ≡ Less → KeepsAllButOneEntry other one → ⊥) where
  abbrev pub AreSorted : Map → Type 0
  AreSorted pairs = IsStrictlySortedBy order (keys_of pairs)

  abbrev pub IsReached : Map → List ℕ → Type 0
  IsReached pairs key = Any (λ e. KeepsAllButOneEntry key e.0) pairs

  abbrev pub IsBeyond : Map → List ℕ → Type 0
  IsBeyond pairs key = All (λ e. order e.0 key ≡ Less) pairs

  abbrev pub scan_order : ScanOrder
  scan_order = record { ordered = AreSorted; reached = IsReached; beyond = IsBeyond }

  module _ (pairs : List (List ℕ × ℕ)) (rising : AreSorted pairs) (n : ℕ) (few : n < length pairs) where
    below : (i j : ℕ) (d e : List ℕ × ℕ) → i < j → j < length pairs → order (get_or pairs i d).0 (get_or pairs j e).0 ≡ Less
    below i j d e less inside =
        let many = length-keys_of pairs in
        let at_d = ap (λ (x : List ℕ × ℕ). x.0) (get_or_default pairs i some d (omega (arith, less, inside))) in
        let at_e = ap (λ (x : List ℕ × ℕ). x.0) (get_or_default pairs j some e inside) in
        rw (← at_d, ← at_e, ← key_at pairs i some, ← key_at pairs j some) (Less-from_sorted order (keys_of pairs) i j [] rising less (omega (arith, many, inside)))

    many : length (take n pairs) ≡ n
    many = length-take-le n pairs (omega (arith, few))

    rising_part : AreSorted (take n pairs)
    rising_part = sorted_from_all_adjacent total (keys_of (take n pairs)) [] (λ k low.
        let here = length-keys_of (take n pairs) in
        let inside : k + 1 < n = omega (arith, low, here, many) in
        rw (key_at (take n pairs) k some, key_at (take n pairs) (k + 1) some, get_or-take n pairs k some (omega (arith, inside)), get_or-take n pairs (k + 1) some inside)
        (below k (k + 1) some some (omega arith) (omega (arith, inside, few))))

    past_part : IsBeyond (take n pairs) (get_or pairs n some).0
    past_part k d low =
        let inside : k < n = omega (arith, low, many) in
        rw (get_or-take n pairs k d inside) (below k n d some inside few)

    inside_part : (key : List ℕ) → Contains (keys_of pairs) key → IsReached (take n pairs) key → Contains (keys_of (take n pairs)) key
    inside_part key (k, low, is) (j, e, front, at, up) =
        let all = length-keys_of pairs in let first = length-keys_of (take n pairs) in
        let key_is : (get_or pairs k (key, 0)).0 ≡ key = sym (key_at pairs k (key, 0)) ∙ is in
        let j_first : j < n = omega (arith, front, many) in
        let e_is : get_or pairs j e ≡ e = sym (get_or-take n pairs j e j_first) ∙ at in
        ⊎_elim
        (λ low_one. let inside : k < n = let h = leb-true (k + 1) n low_one in omega (arith, h) in (k, omega (arith, inside, first, many), key_at (take n pairs) k (key, 0) ∙ (ap (λ (x : List ℕ × ℕ). x.0) (get_or-take n pairs k (key, 0) inside) ∙ key_is)))
        (λ high_one. let over : n ≤ k = let h = leb-false (k + 1) n high_one in omega (arith, h) in
        absurd (apart e.0 key (subst (λ (x : List ℕ). order x key ≡ Less) (ap (λ (x : List ℕ × ℕ). x.0) e_is) (subst (λ (x : List ℕ). order (get_or pairs j e).0 x ≡ Less) key_is (below j k e (key, 0) (omega (arith, j_first, over)) (omega (arith, low, all))))) up))
        (cases_Bool (leb (k + 1) n))

  module _ {before after : List Change} {from upto : List ℕ} {limit : ℕ} (whole : Scan) (law : IsLawfulScanWith scan_order before after from upto limit whole) (pairs : List (List ℕ × ℕ)) (all : whole.pairs.items ≡ pairs) (n : ℕ) (few : n < length pairs) where
    -- a key that was there all along is among all pairs, if it isn't above them
    held_all : (is_more : Bool) → whole.more ≡ is_more → (key : List ℕ) → IsTrue (is_within from upto key) → IsHeldThroughout before after key → IsReached whole.pairs.items key → Contains (keys_of whole.pairs.items) key
    held_all true more key inside kept up = law.part more key inside kept up
    held_all false more key inside kept up = law.whole more key inside kept

    -- what is not above the last of the first pairs is not above the last of all
    up_all : (key : List ℕ) → IsReached (take n pairs) key → IsReached pairs key
    up_all key (j, e, front, at, up) =
        let long = many pairs (subst AreSorted all law.ordered) n few in
        let inside : j < n = omega (arith, front, long) in
        (j, e, omega (arith, inside, few), sym (get_or-take n pairs j e inside) ∙ at, up)

    pub cut : (scan : Scan) → scan.pairs.items ≡ take n pairs → scan.more ≡ true → IsLawfulScanWith scan_order before after from upto n scan
    cut scan is more =
        let rising = subst AreSorted all law.ordered in
        let next = get_or pairs n ([], 0) in
        let long = many pairs rising n few in
        record {
          begins = law.begins;
          ordered = subst AreSorted (sym is) (rising_part pairs rising n few);
          within = subst (All (λ (e : List ℕ × ℕ). IsTrue (is_within from upto e.0))) (sym is) (All-take (λ (e : List ℕ × ℕ). IsTrue (is_within from upto e.0)) n pairs (subst (All (λ (e : List ℕ × ℕ). IsTrue (is_within from upto e.0))) all law.within));
          short = let m = ap length is in omega (arith, m, long);
          held = subst (All (λ (e : List ℕ × ℕ). IsHeldBetween before after e.0 e.1)) (sym is) (All-take (λ (e : List ℕ × ℕ). IsHeldBetween before after e.0 e.1) n pairs (subst (All (λ (e : List ℕ × ℕ). IsHeldBetween before after e.0 e.1)) all law.held));
          whole = λ none. absurd cc;
          part = λ m key inside kept up. subst (λ (z : List (List ℕ × ℕ)). Contains (keys_of z) key) (sym is) (inside_part pairs rising n few key
              (subst (λ (z : List (List ℕ × ℕ)). Contains (keys_of z) key) all (held_all _ refl key inside kept (subst (λ (z : List (List ℕ × ℕ)). IsReached z key) (sym all) (up_all key (subst (λ (z : List (List ℕ × ℕ)). IsReached z key) is up)))))
              (subst (λ (z : List (List ℕ × ℕ)). IsReached z key) is up));
          full = λ m. (ap length is ∙ long);
          further = λ m. (
            next.0,
            next.1,
            subst (All (λ (e : List ℕ × ℕ). IsTrue (is_within from upto e.0))) all law.within n ([], 0) few,
            subst (All (λ (e : List ℕ × ℕ). IsHeldBetween before after e.0 e.1)) all law.held n ([], 0) few,
            subst (λ (z : List (List ℕ × ℕ)). IsBeyond z next.0) (sym is) (past_part pairs rising n few),
          );
        }

not_above : (one other : List ℕ) → key_order one other ≡ Less → key_order other one ≢ Greater → ⊥
not_above one other less not_one = not_one (nat_list_cmp_total.antisymm other one ∙ ap ordering_reverse less)

falling_total : IsTotalOrder falling_order
falling_total = record {
  antisymm = λ x y. nat_list_cmp_total.antisymm y x;
  trans = λ x y z below after. nat_list_cmp_total.trans z y x after below;
  congr = λ x y z same. (nat_list_cmp_total.antisymm z x ∙ (sym (ap ordering_reverse (nat_list_cmp_total.congr y x z same)) ∙ sym (nat_list_cmp_total.antisymm z y)));
}

-- a scan that is lawful may be cut after any of its first pairs
abbrev pub MayBeCut : ScanLaw → Type 0
MayBeCut IsLawful = (before after : List Change) (from upto : List ℕ) (limit : ℕ) (whole : Scan) → IsLawful before after from upto limit whole → (pairs : List (List ℕ × ℕ)) → whole.pairs.items ≡ pairs
    → (n : ℕ) → n < length pairs → (scan : Scan) → scan.pairs.items ≡ take n pairs → scan.more ≡ true → IsLawful before after from upto n scan

pub cut_rising : MayBeCut IsLawfulScan
cut_rising before after from upto limit whole law pairs all n few scan is more = cut key_order nat_list_cmp_total (λ key at. key_order key at ≢ Greater) not_above whole law pairs all n few scan is more

pub cut_falling : MayBeCut IsLawfulReverseScan
cut_falling before after from upto limit whole law pairs all n few scan is more = cut falling_order falling_total (λ key at. key_order key at ≢ Less) (λ one other less no. no less) whole law pairs all n few scan is more
