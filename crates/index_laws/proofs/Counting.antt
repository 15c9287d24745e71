-- What a count of all records finds in a core in which no pass has a record of its own.
use Rattle.index_laws.proofs.Common.{◌≡◌, ℕ, zero, suc, ◌+◌, ◌-◌, ◌<◌, ◌≤◌, List, [], ◌∷◌, ◌++◌, Bool, true, false, length, Option, Some, None, refl, sym, ap, ap₂, subst, ◌∙◌, arith, add-one, count_by, range_with_len, sum_by-cons, state_word, Layout, Rec, a_node, a_leaf, Tag, FreeTag, HeldTag, Live, Locked, Obsolete, Fate, Free, Held, Ready, InTree, Unlinked, Marked, Core, IsLawful, holder_of, is_in_tree, lock_of, state_at, tag_of, Act, FoundTags, OneForEach, counts_in, is_free, is_held, is_live, is_obsolete, loads_in, loads_of}
use Rattle.index_laws.specs.Rest.{CountsKeys, CountsNoneLost, NoneIsLost, is_free_fate, number_of_keys}
use Rattle.index_laws.proofs.Rounding.{ActsLead, IsPlaced, acts_split}
use Rattle.index_laws.proofs.Standing.{leaves_in_tree, nodes_in_tree, one_if}

-- ---- what the loads find
-- the tags spell the states of the records of one kind from this number on
abbrev Finds : Core → (ℕ → Rec) → ℕ → List Tag → Type 0
Finds c kind n [] = Unit {0}
Finds c kind n (tag ∷ tags) = (state_word tag ≡ state_at c (kind n)) × Finds c kind (suc n) tags

-- they change nothing
loads_find : (q : ℕ) (kind : ℕ → Rec) (n : ℕ) (tags : List Tag) (c d : Core) → ActsLead q c (loads_of kind n tags) d → Finds c kind n tags × (d ≡ c)
loads_find q kind n [] c d is = (tt, is)
loads_find q kind n (tag ∷ tags) c d (legal, rest) = let (finds, is) = loads_find q kind (suc n) tags c d rest in ((legal.1.1, finds), is)

loads_find_on : (q : ℕ) (kind : ℕ → Rec) (n : ℕ) (tags : List Tag) (c e d : Core) → e ≡ c → ActsLead q e (loads_of kind n tags) d → Finds c kind n tags ×
    (d ≡ c)
loads_find_on q kind n tags c e d is lead = loads_find q kind n tags c d (subst (λ z. ActsLead q z (loads_of kind n tags) d) is lead)

-- what was found of the nodes, and of the leaves of each class
pub record HaveFound (c : Core) (layout : Layout) (tags : FoundTags) : Type 0 where
  pub nodes : Finds c a_node 0 tags.nodes
  pub short : Finds c a_leaf 0 tags.short
  pub medium : Finds c a_leaf layout.medium_from tags.medium
  pub large : Finds c a_leaf layout.large_from tags.large
  pub wide : Finds c a_leaf layout.wide_from tags.wide
  pub long : Finds c a_leaf layout.long_from tags.long

pub count_finds : (q : ℕ) (layout : Layout) (tags : FoundTags) (c d : Core) → ActsLead q c (loads_in layout tags) d → HaveFound c layout tags × (d ≡ c)
count_finds q layout tags c d lead =
    let two : List Act = loads_of a_node 0 tags.nodes ++ loads_of a_leaf 0 tags.short in
    let three : List Act = two ++ loads_of a_leaf layout.medium_from tags.medium in
    let four : List Act = three ++ loads_of a_leaf layout.large_from tags.large in
    let five : List Act = four ++ loads_of a_leaf layout.wide_from tags.wide in
    let (m5, top5, last5) = acts_split q c five (loads_of a_leaf layout.long_from tags.long) d lead in
    let (m4, top4, last4) = acts_split q c four (loads_of a_leaf layout.wide_from tags.wide) m5 top5 in
    let (m3, top3, last3) = acts_split q c three (loads_of a_leaf layout.large_from tags.large) m4 top4 in
    let (m2, top2, last2) = acts_split q c two (loads_of a_leaf layout.medium_from tags.medium) m3 top3 in
    let (m1, top1, last1) = acts_split q c (loads_of a_node 0 tags.nodes) (loads_of a_leaf 0 tags.short) m2 top2 in
    let nodes = loads_find q a_node 0 tags.nodes c m1 top1 in
    let short = loads_find_on q a_leaf 0 tags.short c m1 m2 nodes.1 last1 in
    let medium = loads_find_on q a_leaf layout.medium_from tags.medium c m2 m3 short.1 last2 in
    let large = loads_find_on q a_leaf layout.large_from tags.large c m3 m4 medium.1 last3 in
    let wide = loads_find_on q a_leaf layout.wide_from tags.wide c m4 m5 large.1 last4 in
    let long = loads_find_on q a_leaf layout.long_from tags.long c m5 d wide.1 last5 in
    (record { nodes = nodes.0; short = short.0; medium = medium.0; large = large.0; wide = wide.0; long = long.0 }, long.1)

-- ---- what a tag says of a record that no pass has
abbrev is_retired : Fate → Bool
is_retired (Marked since last epoch) = true
is_retired f = false

abbrev Says : Fate → Tag → Type 0
Says f tag = (is_free tag ≡ is_free_fate f) × (is_live tag ≡ is_in_tree f) × (is_held tag ≡ false) × (is_obsolete tag ≡ is_retired f)

says : (lock : Option ℕ) (f : Fate) (tag : Tag) → holder_of f ≡ None → state_word tag ≡ state_word (tag_of lock f) → Says f tag
says lock (Held q) tag none e = absurd cc
says lock (Ready q) tag none e = absurd cc
says lock (Unlinked since last q) tag none e = absurd cc
says lock Free FreeTag none e = (refl, refl, refl, refl)
says lock Free HeldTag none e = absurd (omega (arith, e))
says lock Free Live none e = absurd (omega (arith, e))
says lock Free Locked none e = absurd (omega (arith, e))
says lock Free (Obsolete epoch) none e = absurd (omega (arith, e))
says None (InTree since) FreeTag none e = absurd (omega (arith, e))
says None (InTree since) HeldTag none e = absurd (omega (arith, e))
says None (InTree since) Live none e = (refl, refl, refl, refl)
says None (InTree since) Locked none e = (refl, refl, refl, refl)
says None (InTree since) (Obsolete epoch) none e = absurd (omega (arith, e))
says (Some p) (InTree since) FreeTag none e = absurd (omega (arith, e))
says (Some p) (InTree since) HeldTag none e = absurd (omega (arith, e))
says (Some p) (InTree since) Live none e = (refl, refl, refl, refl)
says (Some p) (InTree since) Locked none e = (refl, refl, refl, refl)
says (Some p) (InTree since) (Obsolete epoch) none e = absurd (omega (arith, e))
says lock (Marked since last m) FreeTag none e = absurd (omega (arith, e))
says lock (Marked since last m) HeldTag none e = absurd (omega (arith, e))
says lock (Marked since last m) Live none e = absurd (omega (arith, e))
says lock (Marked since last m) Locked none e = absurd (omega (arith, e))
says lock (Marked since last m) (Obsolete epoch) none e = (refl, refl, refl, refl)

-- ---- counts
-- a count over a range is that over its two parts
join : (p : ℕ → Bool) (a n m b k : ℕ) → b ≡ a + n → k ≡ n + m → count_by p (range_with_len a n) + count_by p (range_with_len b m) ≡ count_by p
    (range_with_len a k)
join p a zero m b k begins ends =
    let start : b ≡ a = omega (arith, begins) in
    let size : m ≡ k = omega (arith, ends) in
    let same = ap₂ (λ x y. count_by p (range_with_len x y)) start size in
    let none : count_by p (range_with_len a zero) ≡ 0 = refl in
    omega (arith, same, none)
join p a (suc n) m b k begins ends =
    let size : k ≡ suc (n + m) = omega (arith, ends) in
    let whole = ap (λ z. count_by p (range_with_len a z)) size in
    let one = sum_by-cons (λ i. one_if (p i)) a (range_with_len (a + 1) n) in
    let all = sum_by-cons (λ i. one_if (p i)) a (range_with_len (a + 1) (n + m)) in
    omega (arith, whole, one, all, join p (a + 1) n m b (n + m) (omega (arith, begins)) refl)

none_in : (rs : List ℕ) → count_by (λ i. false) rs ≡ 0
none_in [] = refl
none_in (r ∷ rs) = let all = sum_by-cons (λ i. one_if false) r rs in omega (arith, all, none_in rs)

-- of so many numbers all are counted, or none
abbrev many : Bool → ℕ → ℕ
many true n = n
many false n = 0

many_none : (t : Bool) → 0 ≡ many t 0
many_none true = refl
many_none false = refl

many_more : (t : Bool) (n : ℕ) → many t (suc n) ≡ one_if t + many t n
many_more true n = omega arith
many_more false n = refl

same_in : (p : ℕ → Bool) (t : Bool) (a n : ℕ) → ((i : ℕ) → a ≤ i → i < a + n → p i ≡ t) → count_by p (range_with_len a n) ≡ many t n
same_in p t a zero all = many_none t
same_in p t a (suc n) all =
    let one = sum_by-cons (λ i. one_if (p i)) a (range_with_len (a + 1) n) in
    let here = ap one_if (all a (omega arith) (omega arith)) in
    let rest = same_in p t (a + 1) n (λ i from below. all i (omega (arith, from)) (omega (arith, below))) in
    omega (arith, one, here, rest, many_more t n)

-- the records that were not counted are free
pub record LeftFree (c : Core) (layout : Layout) (tags : FoundTags) : Type 0 where
  pub nodes : (n : ℕ) → length tags.nodes ≤ n → n < layout.nodes → c.fate (a_node n) ≡ Free
  pub short : (n : ℕ) → length tags.short ≤ n → n < layout.medium_from → c.fate (a_leaf n) ≡ Free
  pub medium : (n : ℕ) → layout.medium_from + length tags.medium ≤ n → n < layout.large_from → c.fate (a_leaf n) ≡ Free
  pub large : (n : ℕ) → layout.large_from + length tags.large ≤ n → n < layout.wide_from → c.fate (a_leaf n) ≡ Free
  pub wide : (n : ℕ) → layout.wide_from + length tags.wide ≤ n → n < layout.long_from → c.fate (a_leaf n) ≡ Free
  pub long : (n : ℕ) → layout.long_from + length tags.long ≤ n → n < layout.leaves → c.fate (a_leaf n) ≡ Free

-- no more records were counted than there are
pub record Fit (layout : Layout) (tags : FoundTags) : Type 0 where
  pub nodes : length tags.nodes ≤ layout.nodes
  pub short : length tags.short ≤ layout.medium_from
  pub medium : length tags.medium ≤ layout.large_from - layout.medium_from
  pub large : length tags.large ≤ layout.wide_from - layout.large_from
  pub wide : length tags.wide ≤ layout.long_from - layout.wide_from
  pub long : length tags.long ≤ layout.leaves - layout.long_from

pub each_fits : (layout : Layout) (uncommitted : ℕ → ℕ) (tags : FoundTags) → OneForEach layout uncommitted tags → Fit layout tags
each_fits layout uncommitted tags each = record {
  nodes = let some = layout.nodes_in_range in omega (arith, some, each.nodes);
  short = omega (arith, each.short);
  medium = omega (arith, each.medium);
  large = omega (arith, each.large);
  wide = omega (arith, each.wide);
  long = omega (arith, each.long);
}

-- What is counted of the states is what is counted of the records. `t` says of free records.
module _ (c : Core) (is : Tag → Bool) (of : Rec → Bool) (agree : (r : Rec) (tag : Tag) → state_word tag ≡ state_at c r → is tag ≡ of r) (t : Bool)
    (free : (r : Rec) → c.fate r ≡ Free → of r ≡ t) where
  found : (kind : ℕ → Rec) (n : ℕ) (tags : List Tag) → Finds c kind n tags → count_by is tags ≡ count_by (λ i. of (kind i)) (range_with_len n (length tags))
  found kind n [] finds = refl
  found kind n (tag ∷ tags) (here, rest) =
      let one = sum_by-cons (λ t. one_if (is t)) tag tags in
      let all = sum_by-cons (λ i. one_if (of (kind i))) n (range_with_len (n + 1) (length tags)) in
      let same : one_if (is tag) ≡ one_if (of (kind n)) = ap one_if (agree (kind n) tag here) in
      let next = ap (λ z. count_by (λ i. of (kind i)) (range_with_len z (length tags))) (add-one n) in
      omega (arith, one, all, same, next, found kind (suc n) tags rest)

  of_class : (kind : ℕ → Rec) (first size : ℕ) (tags : List Tag) → length tags ≤ size → Finds c kind first tags →
      ((n : ℕ) → first + length tags ≤ n → n < first + size → c.fate (kind n) ≡ Free) →
      count_by is tags + many t (size - length tags) ≡ count_by (λ i. of (kind i)) (range_with_len first size)
  of_class kind first size tags fits finds left =
      let p : ℕ → Bool = λ i. of (kind i) in
      let rest = same_in p t (first + length tags) (size - length tags) (λ n from below. free (kind n) (left n from (omega (arith, below, fits)))) in
      let both = join p first (length tags) (size - length tags) (first + length tags) size refl (omega (arith, fits)) in
      let some = found kind first tags finds in
      omega (arith, some, rest, both)

  module _ (layout : Layout) (tags : FoundTags) (fit : Fit layout tags) (has : HaveFound c layout tags) (left : LeftFree c layout tags) where
    nodes_found : count_by is tags.nodes + many t (layout.nodes - length tags.nodes) ≡ count_by (λ i. of (a_node i)) (range_with_len 0 layout.nodes)
    nodes_found = of_class a_node 0 layout.nodes tags.nodes fit.nodes has.nodes (λ n from below. left.nodes n (omega (arith, from)) (omega (arith, below)))

    leaves_found : count_by is tags.short + count_by is tags.medium + count_by is tags.large + count_by is tags.wide + count_by is tags.long +
        (many t (layout.medium_from - length tags.short) + many t (layout.large_from - layout.medium_from - length tags.medium) +
        many t (layout.wide_from - layout.large_from - length tags.large) + many t (layout.long_from - layout.wide_from - length tags.wide) +
        many t (layout.leaves - layout.long_from - length tags.long)) ≡
        count_by (λ i. of (a_leaf i)) (range_with_len 0 layout.leaves)
    leaves_found =
        let p : ℕ → Bool = λ i. of (a_leaf i) in
        let l = layout in
        let (one, two, three, four) = l.classes_in_order in
        add_up _ _ _ _ _ _ _ _ _ _ _ _ _ _ _ _ _ _ _
        (of_class a_leaf 0 l.medium_from tags.short fit.short has.short (λ n from below. left.short n (omega (arith, from)) (omega (arith, below))))
        (of_class a_leaf l.medium_from (l.large_from - l.medium_from) tags.medium fit.medium has.medium (λ n from below. left.medium n from (omega (arith, below, one))))
        (of_class a_leaf l.large_from (l.wide_from - l.large_from) tags.large fit.large has.large (λ n from below. left.large n from (omega (arith, below, two))))
        (of_class a_leaf l.wide_from (l.long_from - l.wide_from) tags.wide fit.wide has.wide (λ n from below. left.wide n from (omega (arith, below, three))))
        (of_class a_leaf l.long_from (l.leaves - l.long_from) tags.long fit.long has.long (λ n from below. left.long n from (omega (arith, below, four))))
        (join p 0 l.medium_from (l.large_from - l.medium_from) l.medium_from l.large_from (omega arith) (omega (arith, one)))
        (join p 0 l.large_from (l.wide_from - l.large_from) l.large_from l.wide_from (omega arith) (omega (arith, two)))
        (join p 0 l.wide_from (l.long_from - l.wide_from) l.wide_from l.long_from (omega arith) (omega (arith, three)))
        (join p 0 l.long_from (l.leaves - l.long_from) l.long_from l.leaves (omega arith) (omega (arith, four)))
      where
        add_up : (s m g w o us um ug uw uo s' m' g' w' o' two three four all : ℕ) → s + us ≡ s' → m + um ≡ m' → g + ug ≡ g' → w + uw ≡ w' → o + uo ≡ o' → s' + m' ≡ two →
            two + g' ≡ three → three + w' ≡ four → four + o' ≡ all → s + m + g + w + o + (us + um + ug + uw + uo) ≡ all
        add_up s m g w o us um ug uw uo s' m' g' w' o' two three four all a b c d e f h i j = omega (arith, a, b, c, d, e, f, h, i, j)

bare : (n m : ℕ) → n + (0 + 0 + 0 + 0 + 0) ≡ m → n ≡ m
bare n m is = omega (arith, is)

bare_one : (n m : ℕ) → n + 0 ≡ m → n ≡ m
bare_one n m is = omega (arith, is)

module _ (c : Core) (law : IsLawful c) (unowned : (r : Rec) → holder_of (c.fate r) ≡ None) (tags : FoundTags) (fit : Fit c.layout tags)
    (has : HaveFound c c.layout tags) (left : LeftFree c c.layout tags) where
  said : (r : Rec) (tag : Tag) → state_word tag ≡ state_at c r → Says (c.fate r) tag
  said r tag e = says (lock_of c r) (c.fate r) tag (unowned r) e

  pub counts_keys : CountsKeys (number_of_keys c) (counts_in c.layout tags)
  counts_keys = record {
    leaves = bare _ _ (leaves_found c is_live (λ r. is_in_tree (c.fate r)) (λ r tag e. (said r tag e).1) false (λ r is. ap is_in_tree is) c.layout tags fit has left) ∙
        leaves_in_tree c law;
    nodes = subst (λ n. n ≤ number_of_keys c - 1)
        (sym (bare_one _ _ (nodes_found c is_live (λ r. is_in_tree (c.fate r)) (λ r tag e. (said r tag e).1) false (λ r is. ap is_in_tree is) c.layout tags fit has left)))
        (nodes_in_tree c law);
    leaves_held = bare _ _ (leaves_found c is_held (λ r. false) (λ r tag e. (said r tag e).2) false (λ r is. refl) c.layout tags fit has left) ∙
        none_in (range_with_len 0 c.layout.leaves);
    nodes_held = bare_one _ _ (nodes_found c is_held (λ r. false) (λ r tag e. (said r tag e).2) false (λ r is. refl) c.layout tags fit has left) ∙
        none_in (range_with_len 0 c.layout.nodes);
  }

  pub counts_none_lost : ((r : Rec) → IsPlaced (c.fate r)) → NoneIsLost c → CountsNoneLost c.layout (number_of_keys c) (counts_in c.layout tags)
  counts_none_lost placed none =
      let still : (r : Rec) (tag : Tag) → state_word tag ≡ state_at c r → is_obsolete tag ≡ false = λ r tag e. (said r tag e).3 ∙
      unretired (c.fate r) (placed r) in
      record {
        live = counts_keys;
        leaves_retired = bare _ _ (leaves_found c is_obsolete (λ r. false) still false (λ r is. refl) c.layout tags fit has left) ∙
            none_in (range_with_len 0 c.layout.leaves);
        nodes_retired = bare_one _ _ (nodes_found c is_obsolete (λ r. false) still false (λ r is. refl) c.layout tags fit has left) ∙
            none_in (range_with_len 0 c.layout.nodes);
        leaves =
            ap (λ n. n + number_of_keys c) (leaves_found c is_free (λ r. is_free_fate (c.fate r)) (λ r tag e. (said r tag e).0) true (λ r is. ap is_free_fate is) c.layout tags fit has left) ∙
            none.leaves;
        nodes = subst (λ n. c.layout.nodes ≤ n + (number_of_keys c - 1))
            (sym (nodes_found c is_free (λ r. is_free_fate (c.fate r)) (λ r tag e. (said r tag e).0) true (λ r is. ap is_free_fate is) c.layout tags fit has left)) none.nodes;
      }
    where
      unretired : (f : Fate) → IsPlaced f → is_retired f ≡ false
      unretired Free ok = refl
      unretired (InTree since) ok = refl
      unretired (Held q) ok = refl
      unretired (Ready q) ok = refl
      unretired (Unlinked since last q) ok = refl
      unretired (Marked since last epoch) ok = absurd ok
