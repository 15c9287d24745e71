-- A scan that is lawful while nothing changes gives the first pairs of the map's range.
pub mod Ranges
use Rattle.finite_map.proofs.Common.{◌≡◌, ◌≢◌, ℕ, suc, ◌<◌, List, [], ◌∷◌, ◌++◌, length, take, drop, Bool, true, false, cond, Some, None, refl, sym, ap, ap₂, subst, ◌∙◌, arith, append-nil, length-append, get_or, inl, inr, ⊎_elim, ◌⊎◌, IsTrue, IsSome, Ordering, Less, Equal, Greater, is_eq, ordering_reverse, nat_list_cmp_total, All, filter, IsStrictlySortedBy, keys_of, is_at, cases_Bool, eq_by_cmp_equiv, take_all, All-nil, All-head, All-tail, All-from_recursion, exact_bytes, IsSome-lookup_from_Contains, take-append_seam, take-length, drop-length}
use Rattle.finite_map.specs.declared.Change.{Change}
use Rattle.finite_map.specs.declared.Kind.TheVariants.{Removed}
use Rattle.finite_map.specs.declared.Scan.{Scan}
use Rattle.finite_map.specs.Maps.{Map, key_order, IsRising, value_at}
use Rattle.finite_map.specs.Fronts.{map_of}
use Rattle.finite_map.specs.Scans.{is_within, range_of, IsScanOf, IsHeldBetween, IsUpToLast, IsLawfulScan}
use Rattle.finite_map.proofs.Maps.{same_from_at, at_itself}
use Rattle.finite_map.proofs.Scans.Ranges.{range-rising}

-- Look-ups in rising maps

-- the key is below each of these
abbrev IsBelow : List ℕ → List (List ℕ) → Type 0
IsBelow key keys = All (λ q. key_order key q ≡ Less) keys

rising_tail : (e : List ℕ × ℕ) (es : Map) → IsRising (e ∷ es) → IsRising es
unfolding IsStrictlySortedBy
rising_tail e es r = r.1

rising_head : (e : List ℕ × ℕ) (es : Map) → IsRising (e ∷ es) → IsBelow e.0 (keys_of es)
unfolding IsStrictlySortedBy
rising_head e es r = All-from_recursion (λ q. key_order e.0 q ≡ Less) (keys_of es) r.0

-- a key below others is none of them
none_below : (key : List ℕ) (m : Map) → IsBelow key (keys_of m) → value_at m key ≡ None
none_below key [] h = refl
none_below key (e ∷ es) h =
    ap (λ o. cond (is_eq o) (Some e.1) (value_at es key)) (All-head (λ q. key_order key q ≡ Less) e.0 (keys_of es) h)
    ∙ none_below key es (All-tail (λ q. key_order key q ≡ Less) e.0 (keys_of es) h)

-- a key below the first is in no rising map
none_before : (key : List ℕ) (e : List ℕ × ℕ) (es : Map) → IsRising (e ∷ es) → key_order key e.0 ≡ Less → value_at (e ∷ es) key ≡ None
none_before key e es r h =
    ap (λ o. cond (is_eq o) (Some e.1) (value_at es key)) h
    ∙ none_below key es (λ k d l. nat_list_cmp_total.trans key e.0 (get_or (keys_of es) k d) h (rising_head e es r k d l))

-- the first pair's key is held
first_held : (e : List ℕ × ℕ) (es : Map) → value_at (e ∷ es) e.0 ≡ Some e.1
first_held e es = ap (λ b. cond b (Some e.1) (value_at es e.0)) (at_itself e.0)

-- what a later pair holds, the whole map holds
held_later : (e : List ℕ × ℕ) (es : Map) (key : List ℕ) → IsRising (e ∷ es) → IsSome (value_at es key) → value_at (e ∷ es) key ≡ value_at es key
held_later e es key r h = by (is_at (key_order key) e.0) refl
  where
    by : (b : Bool) → is_at (key_order key) e.0 ≡ b → cond b (Some e.1) (value_at es key) ≡ value_at es key
    by true is = let none : value_at es key ≡ None = ap (value_at es) (same_from_at key e.0 is) ∙ none_below e.0 es (rising_head e es r) in let no = rw none at h in cc
    by false is = refl

-- a key that is held, and isn't the first pair's, is held by a later pair
held_by_later : (e : List ℕ × ℕ) (es : Map) (key : List ℕ) → key ≢ e.0 → value_at (e ∷ es) key ≡ value_at es key
held_by_later e es key ne = by (is_at (key_order key) e.0) refl
  where
    by : (b : Bool) → is_at (key_order key) e.0 ≡ b → cond b (Some e.1) (value_at es key) ≡ value_at es key
    by true is = absurd (ne (same_from_at key e.0 is))
    by false is = refl

-- a later pair's key isn't the first one's
later_apart : (e : List ℕ × ℕ) (es : Map) (key : List ℕ) → IsRising (e ∷ es) → IsSome (value_at es key) → key ≢ e.0
later_apart e es key r h is = let none : value_at es key ≡ None = ap (value_at es) is ∙ none_below e.0 es (rising_head e es r) in let no = rw none at h in cc

-- what holds of each pair holds of one that a look-up finds
pub at_found : (P : List ℕ → ℕ → Type 0) (m : Map) (key : List ℕ) (value : ℕ) → All (λ e. P e.0 e.1) m → value_at m key ≡ Some value → P key value
at_found P [] key value h found = cc
at_found P (e ∷ es) key value h found = by (is_at (key_order key) e.0) refl found (at_found P es key value (All-tail (λ x. P x.0 x.1) e es h))
  where
    by : (b : Bool) → is_at (key_order key) e.0 ≡ b → cond b (Some e.1) (value_at es key) ≡ Some value → (value_at es key ≡ Some value → P key value) → P key value
    by true is f later =
        let same : e.1 ≡ value = cc in
        subst (λ v. P key v) same (subst (λ k. P k e.1) (sym (same_from_at key e.0 is)) (All-head (λ x. P x.0 x.1) e es h))
    by false is f later = later f

-- The part of a map that passes a test

module _ (p : List ℕ → Bool) where
  -- what the part holds
  held_in_part : (m : Map) (key : List ℕ) → p key ≡ true → value_at (filter (λ e. p e.0) m) key ≡ value_at m key
  held_in_part [] key h = refl
  held_in_part (e ∷ es) key h = by (is_at (key_order key) e.0) refl (p e.0) refl (held_in_part es key h)
    where
      by : (at : Bool) → is_at (key_order key) e.0 ≡ at → (b : Bool) → p e.0 ≡ b → value_at (filter (λ e. p e.0) es) key ≡ value_at es key →
          value_at (cond b (e ∷ filter (λ e. p e.0) es) (filter (λ e. p e.0) es)) key ≡ cond at (Some e.1) (value_at es key)
      by at is true passes i = ap (λ b. cond b (Some e.1) (value_at (filter (λ e. p e.0) es) key)) is ∙ ap (cond at (Some e.1)) i
      by true is false passes i = let no : true ≡ false = sym h ∙ ap p (same_from_at key e.0 is) ∙ passes in cc
      by false is false passes i = i

  -- and its keys pass
  part_passes : (m : Map) (key : List ℕ) → IsSome (value_at (filter (λ e. p e.0) m) key) → p key ≡ true
  part_passes [] key h = cc
  part_passes (e ∷ es) key h = by (is_at (key_order key) e.0) refl (p e.0) refl h (part_passes es key)
    where
      by : (at : Bool) → is_at (key_order key) e.0 ≡ at → (b : Bool) → p e.0 ≡ b →
          IsSome (value_at (cond b (e ∷ filter (λ e. p e.0) es) (filter (λ e. p e.0) es)) key) → (IsSome (value_at (filter (λ e. p e.0) es) key) → p key ≡ true) → p key ≡ true
      by true is true passes f later = ap p (same_from_at key e.0 is) ∙ passes
      by false is true passes f later = later (rw is at f)
      by at is false passes f later = later f

-- First pairs

-- the pairs are pairs of the map, and with a key each key of the map below it
record AreFirst (pairs m : Map) : Type 0 where
  pub known : (key : List ℕ) (value : ℕ) → value_at pairs key ≡ Some value → value_at m key ≡ Some value
  pub closed : (key q : List ℕ) → IsSome (value_at m key) → IsSome (value_at pairs q) → key_order key q ≢ Greater → IsSome (value_at pairs key)

-- the first of both is one pair
same_first : (p : List ℕ × ℕ) (ps : Map) (r : List ℕ × ℕ) (rs : Map) → IsRising (p ∷ ps) → IsRising (r ∷ rs) → AreFirst (p ∷ ps) (r ∷ rs) → p ≡ r
same_first p ps r rs up ur h = by (key_order p.0 r.0) refl
  where
    by : (o : Ordering) → key_order p.0 r.0 ≡ o → p ≡ r
    by Less is = let no : None ≡ Some p.1 = sym (none_before p.0 r rs ur is) ∙ h.known p.0 p.1 (first_held p ps) in cc
    by Equal is =
        let key : p.0 ≡ r.0 = exact_bytes p.0 r.0 is in
        let value : Some r.1 ≡ Some p.1 = sym (first_held r rs) ∙ ap (value_at (r ∷ rs)) (sym key) ∙ h.known p.0 p.1 (first_held p ps) in
        let number : p.1 ≡ r.1 = cc in
        ap₂ (λ k v. (k, v)) key number
    by Greater is =
        let below : key_order r.0 p.0 ≡ Less = nat_list_cmp_total.antisymm r.0 p.0 ∙ ap ordering_reverse is in
        let listed : IsSome (value_at (p ∷ ps) r.0) =
        h.closed r.0 p.0 (rw (first_held r rs) refl) (rw (first_held p ps) refl) (λ e. let no : Less ≡ Greater = sym below ∙ e in cc) in
        let no = rw (none_before r.0 p ps up below) at listed in cc

-- so are the others
first_others : (p : List ℕ × ℕ) (ps rs : Map) → IsRising (p ∷ ps) → IsRising (p ∷ rs) → AreFirst (p ∷ ps) (p ∷ rs) → AreFirst ps rs
first_others p ps rs up ur h = record {
  known = λ key value found.
      let some : IsSome (value_at ps key) = rw found refl in
      sym (held_by_later p rs key (later_apart p ps key up some)) ∙ h.known key value (held_later p ps key up some ∙ found);
  closed = λ key q held listed le.
      subst IsSome (held_by_later p ps key (later_apart p rs key ur held))
      (h.closed key q (subst IsSome (sym (held_later p rs key ur held)) held) (subst IsSome (sym (held_later p ps q up listed)) listed) le);
}

-- a rising map begins with its first pairs
begins : (ps rs : Map) → IsRising ps → IsRising rs → AreFirst ps rs → (more : Map) × (rs ≡ ps ++ more)
begins [] rs up ur h = (rs, refl)
begins (p ∷ ps) [] up ur h = let no : None ≡ Some p.1 = h.known p.0 p.1 (first_held p ps) in cc
begins (p ∷ ps) (r ∷ rs) up ur h =
    let same = same_first p ps r rs up ur h in
    let ur = subst (λ x. IsRising (x ∷ rs)) (sym same) ur in
    let later = begins ps rs (rising_tail p ps up) (rising_tail p rs ur) (first_others p ps rs up ur (subst (λ x. AreFirst (p ∷ ps) (x ∷ rs)) (sym same) h)) in
    (later.0, ap (λ xs. r ∷ xs) later.1 ∙ ap (λ x. x ∷ (ps ++ later.0)) (sym same))

-- a map holds the key of each of its pairs
held_after : (xs : Map) (q : List ℕ × ℕ) (qs : Map) → IsSome (value_at (xs ++ q ∷ qs) q.0)
held_after [] q qs = rw (first_held q qs) refl
held_after (x ∷ xs) q qs = by (is_at (key_order q.0) x.0) (held_after xs q qs)
  where
    by : (b : Bool) → IsSome (value_at (xs ++ q ∷ qs) q.0) → IsSome (cond b (Some x.1) (value_at (xs ++ q ∷ qs) q.0))
    by true s = refl
    by false s = s

-- no earlier pair has the key of a later one
none_earlier : (ps : Map) (q : List ℕ × ℕ) (qs : Map) → IsRising (ps ++ q ∷ qs) → value_at ps q.0 ≡ None
none_earlier [] q qs r = refl
none_earlier (p ∷ ps) q qs r =
    held_by_later p ps q.0 (later_apart p (ps ++ q ∷ qs) q.0 r (held_after ps q qs)) ∙ none_earlier ps q qs (rising_tail p (ps ++ q ∷ qs) r)

-- Scans

module _ (front : List Change) (from upto : List ℕ) (limit : ℕ) (scan : Scan) (h : IsLawfulScan front front from upto limit scan) where
  abbrev m : Map
  m = map_of front

  abbrev range : Map
  range = range_of m from upto

  abbrev pairs : Map
  pairs = scan.pairs.items

  -- what was held between two fronts that are one
  held_still : (key : List ℕ) (value : ℕ) → IsHeldBetween front front key value → value_at m key ≡ Some value
  held_still key value t =
      let n : t.0 ≡ length front = omega (arith, t.1, t.2) in
      ap (λ (cs : List Change). value_at (map_of cs) key) (sym (ap (λ k. take k front) n ∙ take-length front)) ∙ t.3

  in_range : (key : List ℕ) (value : ℕ) → IsTrue (is_within from upto key) → IsHeldBetween front front key value → value_at range key ≡ Some value
  in_range key value w t = held_in_part (is_within from upto) m key w ∙ held_still key value t

  -- each held key of the range was never removed
  kept : (key : List ℕ) → IsSome (value_at range key) → IsTrue (is_within from upto key) × IsSome (value_at m key)
  kept key s = let w = part_passes (is_within from upto) m key s in (w, subst IsSome (held_in_part (is_within from upto) m key w) s)

  none_removed : drop (length front) front ≡ []
  none_removed = drop-length front

  -- a key that a pair's key isn't below is at most the last one's
  up_to_last : (ps : Map) (key q : List ℕ) → IsSome (value_at ps q) → key_order key q ≢ Greater → IsUpToLast ps key
  up_to_last [] key q s le = cc
  up_to_last (p ∷ ps) key q s le = by (is_at (key_order q) p.0) refl s (λ t. up_to_last ps key q t le)
    where
      by : (b : Bool) → is_at (key_order q) p.0 ≡ b → IsSome (cond b (Some p.1) (value_at ps q)) → (IsSome (value_at ps q) → IsUpToLast ps key) → IsUpToLast (p ∷ ps) key
      by true is t others = (0, p, omega arith, refl, λ e. le (ap (key_order key) (same_from_at q p.0 is) ∙ e))
      by false is t others = let later = others t in (suc later.0, later.1, omega (arith, later.2), later.3, later.4)

  listed : (key : List ℕ) → IsSome (value_at range key) → (q : List ℕ) → IsSome (value_at pairs q) → key_order key q ≢ Greater → IsSome (value_at pairs key)
  listed key s q there le =
      let k = kept key s in
      let removed : All (λ c. c.kind ≡ Removed → c.key ≢ key) (drop (length front) front) = rw none_removed (All-nil _) in
      IsSome-lookup_from_Contains (eq_by_cmp_equiv nat_list_cmp_total) key pairs
      (⊎_elim (λ more. h.part more key k.0 (k.1, removed) (up_to_last pairs key q there le)) (λ more. h.whole more key k.0 (k.1, removed)) (cases_Bool scan.more))

  first : AreFirst pairs range
  first = record {
    known = λ key value found.
        in_range key value (at_found (λ k v. IsTrue (is_within from upto k)) pairs key value h.within found) (at_found (λ k v. IsHeldBetween front front k v) pairs key value h.held found);
    closed = λ key q held there le. listed key held q there le;
  }

  -- what the range has beyond the pairs
  beyond : (more : Map) × (range ≡ pairs ++ more)
  beyond = begins pairs range h.ordered (range-rising front from upto) first

  -- the pairs are the range's first ones
  first_pairs : (more : Map) → range ≡ pairs ++ more → (length pairs ≡ limit) ⊎ (more ≡ []) → pairs ≡ take limit range
  first_pairs more split full = ⊎_elim
      (λ n. sym (ap (take limit) split ∙ ap (λ k. take k (pairs ++ more)) (sym n) ∙ take-append_seam pairs more))
      (λ none. let all : range ≡ pairs = split ∙ ap (λ xs. pairs ++ xs) none ∙ append-nil pairs in
      sym (ap (take limit) all ∙ take_all limit pairs h.short))
      full

  -- a scan without `more` has the whole range
  whole_range : (more : Map) → range ≡ pairs ++ more → scan.more ≡ false → more ≡ []
  whole_range [] split ends = refl
  whole_range (q ∷ qs) split ends =
      let held : IsSome (value_at range q.0) = subst (λ xs. IsSome (value_at xs q.0)) (sym split) (held_after pairs q qs) in
      let k = kept q.0 held in
      let removed : All (λ c. c.kind ≡ Removed → c.key ≢ q.0) (drop (length front) front) = rw none_removed (All-nil _) in
      let there = IsSome-lookup_from_Contains (eq_by_cmp_equiv nat_list_cmp_total) q.0 pairs (h.whole ends q.0 k.0 (k.1, removed)) in
      let no = rw (none_earlier pairs q qs (subst IsRising split (range-rising front from upto))) at there in cc

  -- a scan with `more` has less than the range
  part_range : (more : Map) → range ≡ pairs ++ more → scan.more ≡ true → limit < length range
  part_range [] split cut =
      let f = h.further cut in
      let found : value_at pairs f.0 ≡ Some f.1 = ap (λ xs. value_at xs f.0) (sym (append-nil pairs) ∙ sym split) ∙ in_range f.0 f.1 f.2 f.3 in
      let below : key_order f.0 f.0 ≡ Less = at_found (λ k v. key_order k f.0 ≡ Less) pairs f.0 f.1 f.4 found in
      let same : is_at (key_order f.0) f.0 ≡ false = ap is_eq below in
      let no : true ≡ false = sym (at_itself f.0) ∙ same in cc
  part_range (q ∷ qs) split cut = omega (arith, ap length split, length-append pairs (q ∷ qs), h.full cut)

  pub lawful-scan_of : IsScanOf m from upto limit scan
  lawful-scan_of = ⊎_elim
      (λ cut. record {
        pairs = first_pairs beyond.0 beyond.1 (inl (h.full cut));
        more = ((λ _. part_range beyond.0 beyond.1 cut), (λ _. cut));
      })
      (λ ends. let none = whole_range beyond.0 beyond.1 ends in
      let all : range ≡ pairs = beyond.1 ∙ ap (λ xs. pairs ++ xs) none ∙ append-nil pairs in
      record {
        pairs = first_pairs beyond.0 beyond.1 (inr none);
        more = ((λ t. let no : true ≡ false = sym t ∙ ends in cc), (λ l. absurd (omega (arith, l, ap length all, h.short))));
      })
      (cases_Bool scan.more)
