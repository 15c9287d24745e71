-- What a count leaves out. It is free where the count's pass goes on alone. Nothing is left out where all records are committed.
use Rattle.index_laws.proofs.Common.{◌≡◌, ◌≢◌, ◌⊎◌, ⊎_elim, ℕ, suc, ◌+◌, ◌-◌, ◌<◌, ◌≤◌, List, [], ◌∷◌, ◌++◌, if◌then◌else◌, nat_lt, length, refl, sym, ap, subst, ◌∙◌, arith, append_assoc, append_cancel_left, All, All-append, All-cons, All-head, All-nil, All-tail, eq-eqb, ne_eqb, cases_lt, lt-ltb, le-ltb, state_word, Layout, Rec, a_node, a_leaf, Tag, Free, Act, LoadState, Event, Core, opening, EventsLead, SeatView, TableView, OthersStepOn, own_acts, steps_are_in_one_run, runs_same, FoundTags, OneForEach, counts_in, loads_in, loads_of}
use Rattle.record_words.specs.Layout.{uncommitted_in}
use Rattle.record_words.specs.declared.TheConstants.{RECORD_KINDS}
use Rattle.rowex_table.proofs.Committed.{uncommitted_are_free}
use Rattle.rowex_table.specs.Committed.{IsTaken, TakesRecord, count_from, record_kind}
use Rattle.hot_index_calls.specs.Census.{FindsUncommitted, all_uncommitted, counts_of}
use Rattle.hot_index_calls.specs.declared.census.RecordCounts.{RecordCounts}
use Rattle.hot_index_calls.proofs.Counted.{total_is}
use Rattle.index_laws.specs.Rest.{AreUncommittedFree, CountLeavesNoneOut, CountsEach, StepsAlone, all_of}
use Rattle.index_laws.proofs.Counting.{LeftFree, each_fits}

-- ---- loads take no record
abbrev TakesNone : Layout → Act → Type 0
TakesNone layout act = (r : Rec) → TakesRecord layout act r → ⊥

loads_take_none : (layout : Layout) (kind : ℕ → Rec) (n : ℕ) (tags : List Tag) → All (TakesNone layout) (loads_of kind n tags)
loads_take_none layout kind n [] = All-nil (TakesNone layout)
loads_take_none layout kind n (tag ∷ tags) = All-cons (TakesNone layout) (LoadState (kind n) (state_word tag)) (loads_of kind (suc n) tags) (λ r h. h) (loads_take_none layout kind (suc n) tags)

count_takes_none : (layout : Layout) (tags : FoundTags) → All (TakesNone layout) (loads_in layout tags)
count_takes_none layout tags =
    let none = TakesNone layout in
    All-append none _ _ (All-append none _ _ (All-append none _ _ (All-append none _ _ (All-append none _ _ (loads_take_none layout a_node 0 tags.nodes) (loads_take_none layout a_leaf 0 tags.short))
    (loads_take_none layout a_leaf layout.medium_from tags.medium)) (loads_take_none layout a_leaf layout.large_from tags.large)) (loads_take_none layout a_leaf layout.wide_from tags.wide))
    (loads_take_none layout a_leaf layout.long_from tags.long)

none_taken : (q : ℕ) (layout : Layout) (steps : List Event) → All (λ x. x.pass ≡ q) steps → All (TakesNone layout) (own_acts q steps) → (r : Rec) → IsTaken layout steps r → ⊥
none_taken q layout [] own plain r taken = taken
none_taken q layout (x ∷ xs) own plain r taken =
    let mine = All-head (λ (y : Event). y.pass ≡ q) x xs own in
    let acts = subst (λ b. All (TakesNone layout) (if b then x.act ∷ own_acts q xs else own_acts q xs)) (eq-eqb x.pass q mine) plain in
    ⊎_elim (λ here. All-head (TakesNone layout) x.act (own_acts q xs) acts r here)
    (λ later. none_taken q layout xs (All-tail (λ (y : Event). y.pass ≡ q) x xs own) (All-tail (TakesNone layout) x.act (own_acts q xs) acts) r later) taken

-- ---- after its first step a pass that is alone has seen all steps of others
all_behind : (P : Event → Type 0) (xs ys : List Event) → All P (xs ++ ys) → All P ys
all_behind P [] ys all = all
all_behind P (x ∷ xs) ys all = all_behind P xs ys (All-tail P x (xs ++ ys) all)

own_behind : (q : ℕ) (between first rest more : List Event) → first ++ rest ≡ between ++ more → All (λ x. x.pass ≢ q) between → (own_acts q first ≡ [] → ⊥) → All (λ x. x.pass ≡ q) more →
    All (λ x. x.pass ≡ q) rest
own_behind q [] first rest more is others some own = all_behind (λ x. x.pass ≡ q) first rest (subst (All (λ x. x.pass ≡ q)) (sym is) own)
own_behind q (b ∷ between) [] rest more is others some own = absurd (some refl)
own_behind q (b ∷ between) (x ∷ first) rest more is others some own =
    let head : x ≡ b = cc in
    let tail : first ++ rest ≡ between ++ more = cc in
    let apart : x.pass ≢ q = subst (λ (z : Event). z.pass ≢ q) (sym head) (All-head (λ (y : Event). y.pass ≢ q) b between others) in
    own_behind q between first rest more tail (All-tail (λ (y : Event). y.pass ≢ q) b between others)
    (λ none. some (ap (λ t. if t then x.act ∷ own_acts q first else own_acts q first) (ne_eqb x.pass q apart) ∙ none)) own

module _ {G : Type 0} (table : TableView) (becomes : G → Event → G → Type 0) where
  pub free_behind : (a b : SeatView × G) (run : List Event) → OthersStepOn a.0.known.pass a.0.trace run → StepsAlone a.0.known.pass run b.0.trace → (d : Core) →
      EventsLead (opening table.layout) b.0.trace d → (tags : FoundTags) (found : FindsUncommitted table becomes (loads_in table.layout tags) a b) → (kind : ℕ) → kind < RECORD_KINDS →
      (r : Rec) → record_kind table.layout r ≡ kind → count_from table.layout r ≤ uncommitted_in found.middle.0.bounds kind → d.fate r ≡ Free
  free_behind a b run (between, run_is, others) (more, is, own) d led tags found kind low r like beyond =
      let q = a.0.known.pass in
      let m = found.middle in
      let x = steps_are_in_one_run becomes table (found.first ∷ []) a m found.begins in
      let y = steps_are_in_one_run becomes table found.others m b found.goes_on in
      let pass : m.0.known.pass ≡ q = (runs_same table becomes (found.first ∷ []) a m found.begins).2 in
      let all : a.0.trace ++ (x.steps ++ y.steps) ≡ a.0.trace ++ (between ++ more) =
      sym (append_assoc a.0.trace x.steps y.steps) ∙ (ap (λ l. l ++ y.steps) (sym x.trace) ∙ (sym y.trace ∙ (is ∙ (ap (λ l. l ++ more) run_is ∙ append_assoc a.0.trace between more)))) in
      let same : x.steps ++ y.steps ≡ between ++ more = append_cancel_left a.0.trace (x.steps ++ y.steps) (between ++ more) all in
      let mine = own_behind q between x.steps y.steps more same others (λ none. no_act found.first (sym x.own ∙ none)) own in
      let acts : own_acts q y.steps ≡ found.others = subst (λ p. own_acts p y.steps ≡ found.others) pass y.own in
      let plain = All-tail (TakesNone table.layout) found.first found.others (subst (All (TakesNone table.layout)) found.acts_are (count_takes_none table.layout tags)) in
      uncommitted_are_free table.layout m.0.trace y.steps d kind (uncommitted_in m.0.bounds kind) (subst (λ l. EventsLead (opening table.layout) l d) y.trace led) (found.taken kind low)
      (none_taken q table.layout y.steps mine (subst (All (TakesNone table.layout)) (sym acts) plain)) r like beyond
    where
      no_act : (act : Act) → act ∷ [] ≡ [] → ⊥
      no_act act is = absurd cc

-- ---- the class of a leaf
module _ (l : Layout) (n : ℕ) where
  abbrev pick : {X : Type 0} (a b c d e : X) → X
  pick a b c d e = if nat_lt n l.medium_from then a else (if nat_lt n l.large_from then b else (if nat_lt n l.wide_from then c else (if nat_lt n l.long_from then d else e)))

  pick_short : (a b c d e : ℕ) → n < l.medium_from → pick a b c d e ≡ a
  pick_short a b c d e low = rw (lt-ltb n l.medium_from low) refl

  pick_medium : (a b c d e : ℕ) → l.medium_from ≤ n → n < l.large_from → pick a b c d e ≡ b
  pick_medium a b c d e from low = rw (le-ltb n l.medium_from from, lt-ltb n l.large_from low) refl

  pick_large : (a b c d e : ℕ) → l.large_from ≤ n → n < l.wide_from → pick a b c d e ≡ c
  pick_large a b c d e from low = let order = l.classes_in_order in rw (le-ltb n l.medium_from (omega (arith, order, from)), le-ltb n l.large_from from, lt-ltb n l.wide_from low) refl

  pick_wide : (a b c d e : ℕ) → l.wide_from ≤ n → n < l.long_from → pick a b c d e ≡ d
  pick_wide a b c d e from low =
      let order = l.classes_in_order in
      rw (le-ltb n l.medium_from (omega (arith, order, from)), le-ltb n l.large_from (omega (arith, order, from)), le-ltb n l.wide_from from, lt-ltb n l.long_from low) refl

  pick_long : (a b c d e : ℕ) → l.long_from ≤ n → pick a b c d e ≡ e
  pick_long a b c d e from =
      let (one, two, three, four) = l.classes_in_order in
      rw (le-ltb n l.medium_from (omega (arith, one, two, three, from)), le-ltb n l.large_from (omega (arith, two, three, from)), le-ltb n l.wide_from (omega (arith, three, from)), le-ltb n l.long_from from) refl

module _ (l : Layout) (u : ℕ → ℕ) (tags : FoundTags) (each : OneForEach l u tags) (d : Core)
    (free : (kind : ℕ) → kind < RECORD_KINDS → (r : Rec) → record_kind l r ≡ kind → count_from l r ≤ u kind → d.fate r ≡ Free) where
  -- a leaf of a class
  leaf_free : (n kind end : ℕ) → kind < RECORD_KINDS → pick l n 1 2 3 4 5 ≡ kind → pick l n l.medium_from l.large_from l.wide_from l.long_from l.leaves ≡ end → end - n ≤ u kind → d.fate (a_leaf n) ≡ Free
  leaf_free n kind end low like ends few = free kind low (a_leaf n) like (subst (λ z. z - n ≤ u kind) (sym ends) few)

  pub left_free : LeftFree d l tags
  left_free = record {
    nodes = λ n from below. free 0 (omega arith) (a_node n) refl (omega (arith, from, below, each.nodes));
    short = λ n from below. leaf_free n 1 l.medium_from (omega arith) (pick_short l n 1 2 3 4 5 below) (pick_short l n l.medium_from l.large_from l.wide_from l.long_from l.leaves below) (omega (arith, from, each.short));
    medium = λ n from below. (let first : l.medium_from ≤ n = omega (arith, from) in leaf_free n 2 l.large_from (omega arith) (pick_medium l n 1 2 3 4 5 first below) (pick_medium l n l.medium_from l.large_from l.wide_from l.long_from l.leaves first below) (omega (arith, from, each.medium)));
    large = λ n from below. (let first : l.large_from ≤ n = omega (arith, from) in leaf_free n 3 l.wide_from (omega arith) (pick_large l n 1 2 3 4 5 first below) (pick_large l n l.medium_from l.large_from l.wide_from l.long_from l.leaves first below) (omega (arith, from, each.large)));
    wide = λ n from below. (let first : l.wide_from ≤ n = omega (arith, from) in leaf_free n 4 l.long_from (omega arith) (pick_wide l n 1 2 3 4 5 first below) (pick_wide l n l.medium_from l.large_from l.wide_from l.long_from l.leaves first below) (omega (arith, from, each.wide)));
    long = λ n from below. (let first : l.long_from ≤ n = omega (arith, from) in leaf_free n 5 l.leaves (omega arith) (pick_long l n 1 2 3 4 5 first) (pick_long l n l.medium_from l.large_from l.wide_from l.long_from l.leaves first) (omega (arith, from, each.long)));
  }

  -- so what the counts call uncommitted is free
  pub uncommitted_free : AreUncommittedFree l (counts_in l tags) d
  uncommitted_free (a_node n) has beyond = left_free.nodes n (omega (arith, beyond, has)) has
  uncommitted_free (a_leaf n) has beyond = by_class (cases_lt n l.medium_from)
    where
      c : RecordCounts
      c = counts_in l tags

      -- what is said of its class
      within : (end many : ℕ) → pick l n l.medium_from l.large_from l.wide_from l.long_from l.leaves ≡ end →
          pick l n c.short.uncommitted c.medium.uncommitted c.large.uncommitted c.wide.uncommitted c.long.uncommitted ≡ many → end - n ≤ many
      within end many ends are = subst (λ z. end - n ≤ z) are (subst (λ z. z - n ≤ pick l n c.short.uncommitted c.medium.uncommitted c.large.uncommitted c.wide.uncommitted c.long.uncommitted) ends beyond)

      wide_or_long : l.wide_from ≤ n → d.fate (a_leaf n) ≡ Free
      wide_or_long third = ⊎_elim
          (λ (low : n < l.long_from). left_free.wide n (let left = within _ _ (pick_wide l n l.medium_from l.large_from l.wide_from l.long_from l.leaves third low) (pick_wide l n c.short.uncommitted c.medium.uncommitted c.large.uncommitted c.wide.uncommitted c.long.uncommitted third low) in let fit = (each_fits l u tags each).wide in omega (arith, left, low, fit, third)) low)
          (λ (from : l.long_from ≤ n). left_free.long n (let left = within _ _ (pick_long l n l.medium_from l.large_from l.wide_from l.long_from l.leaves from) (pick_long l n c.short.uncommitted c.medium.uncommitted c.large.uncommitted c.wide.uncommitted c.long.uncommitted from) in let fit = (each_fits l u tags each).long in omega (arith, left, has, fit, from)) has)
          (cases_lt n l.long_from)

      large_on : l.large_from ≤ n → d.fate (a_leaf n) ≡ Free
      large_on second = ⊎_elim
          (λ (low : n < l.wide_from). left_free.large n (let left = within _ _ (pick_large l n l.medium_from l.large_from l.wide_from l.long_from l.leaves second low) (pick_large l n c.short.uncommitted c.medium.uncommitted c.large.uncommitted c.wide.uncommitted c.long.uncommitted second low) in let fit = (each_fits l u tags each).large in omega (arith, left, low, fit, second)) low)
          wide_or_long
          (cases_lt n l.wide_from)

      medium_on : l.medium_from ≤ n → d.fate (a_leaf n) ≡ Free
      medium_on first = ⊎_elim
          (λ (low : n < l.large_from). left_free.medium n (let left = within _ _ (pick_medium l n l.medium_from l.large_from l.wide_from l.long_from l.leaves first low) (pick_medium l n c.short.uncommitted c.medium.uncommitted c.large.uncommitted c.wide.uncommitted c.long.uncommitted first low) in let fit = (each_fits l u tags each).medium in omega (arith, left, low, fit, first)) low)
          large_on
          (cases_lt n l.large_from)

      by_class : (n < l.medium_from) ⊎ (l.medium_from ≤ n) → d.fate (a_leaf n) ≡ Free
      by_class = ⊎_elim
          (λ (low : n < l.medium_from). left_free.short n (let left = within _ _ (pick_short l n l.medium_from l.large_from l.wide_from l.long_from l.leaves low) (pick_short l n c.short.uncommitted c.medium.uncommitted c.large.uncommitted c.wide.uncommitted c.long.uncommitted low) in let fit = (each_fits l u tags each).short in omega (arith, left, low, fit)) low)
          medium_on

-- ---- each record is counted once
rejoin : (n m : ℕ) → n ≤ m → n + (m - n) ≡ m
rejoin n m low = omega (arith, low)

all_like : (size : ℕ) (tags : List Tag) → length tags ≤ size → all_of (counts_of (size - length tags) tags) ≡ size
all_like size tags fits = ap (λ n. n + (size - length tags)) (total_is tags) ∙ rejoin (length tags) size fits

counts_each : (l : Layout) (u : ℕ → ℕ) (tags : FoundTags) → OneForEach l u tags → CountsEach l (counts_in l tags)
counts_each l u tags each =
    let fit = each_fits l u tags each in
    let (one, two, three, four) = l.classes_in_order in record {
      nodes = all_like l.nodes tags.nodes fit.nodes;
      short = all_like l.medium_from tags.short fit.short;
      medium = ap (λ n. l.medium_from + n) (all_like (l.large_from - l.medium_from) tags.medium fit.medium) ∙ rejoin l.medium_from l.large_from one;
      large = ap (λ n. l.large_from + n) (all_like (l.wide_from - l.large_from) tags.large fit.large) ∙ rejoin l.large_from l.wide_from two;
      wide = ap (λ n. l.wide_from + n) (all_like (l.long_from - l.wide_from) tags.wide fit.wide) ∙ rejoin l.wide_from l.long_from three;
      long = ap (λ n. l.long_from + n) (all_like (l.leaves - l.long_from) tags.long fit.long) ∙ rejoin l.long_from l.leaves four;
    }

none_left : (l : Layout) (u : ℕ → ℕ) (tags : FoundTags) → ((kind : ℕ) → u kind ≡ 0) → OneForEach l u tags → all_uncommitted (counts_in l tags) ≡ 0
none_left l u tags none each =
    let some = l.nodes_in_range in
    let nodes : l.nodes - length tags.nodes ≡ 0 = let z = none 0 in omega (arith, some, each.nodes, z) in
    let short : l.medium_from - length tags.short ≡ 0 = let z = none 1 in omega (arith, each.short, z) in
    let medium : l.large_from - l.medium_from - length tags.medium ≡ 0 = let z = none 2 in omega (arith, each.medium, z) in
    let large : l.wide_from - l.large_from - length tags.large ≡ 0 = let z = none 3 in omega (arith, each.large, z) in
    let wide : l.long_from - l.wide_from - length tags.wide ≡ 0 = let z = none 4 in omega (arith, each.wide, z) in
    let long : l.leaves - l.long_from - length tags.long ≡ 0 = let z = none 5 in omega (arith, each.long, z) in
    sum _ _ _ _ _ _ nodes short medium large wide long
  where
    sum : (a b c d e f : ℕ) → a ≡ 0 → b ≡ 0 → c ≡ 0 → d ≡ 0 → e ≡ 0 → f ≡ 0 → a + b + c + d + e + f ≡ 0
    sum a b c d e f p q r s t v = omega (arith, p, q, r, s, t, v)

pub count_leaves_none_out : {G : Type 0} (becomes : G → Event → G → Type 0) → CountLeavesNoneOut becomes
count_leaves_none_out becomes = record {
  each = λ index a b counts counted. subst (CountsEach index.layout) (sym counted.counts_are) (counts_each index.layout _ counted.tags counted.each);
  all_committed = λ index a b counts committed counted.
      (let found = counted.found in
      let fell = (runs_same index becomes (found.first ∷ []) (a.0.seat, a.1) found.middle found.begins).4 in
      ap all_uncommitted counted.counts_are ∙ none_left index.layout (uncommitted_in found.middle.0.bounds) counted.tags (λ kind. (let less = fell kind in let none = committed kind in omega (arith, less, none))) counted.each);
}
