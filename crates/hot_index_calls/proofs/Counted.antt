-- What a count of records comes to.
use Rattle.hot_index_calls.proofs.Common.{◌≡◌, ℕ, suc, ◌+◌, ◌-◌, ◌*◌, ◌≤◌, le_trans, append-nil, List, [], ◌∷◌, ◌++◌, Bool, true, false, if◌then◌else◌, None, refl, sym, ap, subst, ◌∙◌, arith, length, length-append, count_by, sum_by-append, WORD_BYTES, Tag, Live, Locked, Obsolete, word_count, HasStateWord, state_word, Rec, a_node, a_leaf, Act, LoadState, Event, Known, lock_of, tag_of, Does, Steps, SeatView, TableView, does_none, runs_told, collecting}
use Rattle.record_words.specs.declared.state.Tag.TheVariants.{Free, Held}
use Rattle.record_words.specs.Reading.{IsSpelling}
use Rattle.rowex_core.proofs.Words.{has_state_word}
use Rattle.epochs.proofs.Runs.{collects_append, collects_look}
use Rattle.rowex_table.proofs.Committed.Chains.{runs_then_bounds}
use Rattle.rowex_table.specs.Seats.{HasFoundBounds}
use Rattle.record_words.specs.Layout.{uncommitted_in}
use Rattle.std.proofs.Common.{append_assoc}
use Rattle.std.specs.Prelude.{get_or}
use Rattle.hot_index_calls.specs.Census.{CountsAll, CountsFrom, CountsLeaves, CountsNodes, FindsUncommitted, FoundTags, HasCounted, LoadsUncommitted, OneForEach, all_uncommitted, counts_of, is_free, is_held, is_live, is_obsolete, loads_in, loads_of, with_tag}
use Rattle.hot_index_calls.specs.Answers.{IsUnnoted}
use Rattle.hot_index_calls.specs.Passes.{IsSettled, pass_of}
use Rattle.hot_index_calls.specs.declared.census.RecordCounts.{RecordCounts}
use Rattle.hot_index_calls.specs.declared.census.StateCounts.{StateCounts}
use Rattle.hot_index_calls.proofs.Passes.Collected.{does_settled, does_unnoted}

-- Counts

counts_are : (u f h l o f' h' l' o' : ℕ) → f ≡ f' → h ≡ h' → l ≡ l' → o ≡ o' →
    (let x : StateCounts = record { free = f; held = h; live = l; obsolete = o; uncommitted = u } in x) ≡ record { free = f'; held = h'; live = l'; obsolete = o'; uncommitted = u }
counts_are u f h l o f' h' l' o' a b c d = cc

single : (t : Bool) → 0 + (if t then 1 else 0) ≡ if t then 1 else 0
single true = refl
single false = refl

-- of one tag more, behind the others or before them
count_one : (is : Tag → Bool) (tags : List Tag) (tag : Tag) → count_by is (tags ++ tag ∷ []) ≡ count_by is tags + (if is tag then 1 else 0)
count_one is tags tag = sum_by-append (λ t. if is t then 1 else 0) tags (tag ∷ []) ∙ ap (λ n. count_by is tags + n) (single (is tag))

pub count_first : (is : Tag → Bool) (tag : Tag) (tags : List Tag) → count_by is (tag ∷ tags) ≡ (if is tag then 1 else 0) + count_by is tags
count_first is tag tags = sum_by-append (λ t. if is t then 1 else 0) (tag ∷ []) tags ∙ ap (λ n. n + count_by is tags) (single (is tag))

same : (is : Tag → Bool) (tags : List Tag) (tag : Tag) → is tag ≡ false → count_by is (tags ++ tag ∷ []) ≡ count_by is tags
same is tags tag other = count_one is tags tag ∙ (ap (λ (t : Bool). count_by is tags + (if t then 1 else 0)) other ∙ omega arith)

grown : (is : Tag → Bool) (tags : List Tag) (tag : Tag) → is tag ≡ true → count_by is (tags ++ tag ∷ []) ≡ count_by is tags + 1
grown is tags tag one = count_one is tags tag ∙ ap (λ (t : Bool). count_by is tags + (if t then 1 else 0)) one

pub count_more : (u : ℕ) (tags : List Tag) (tag : Tag) → counts_of u (tags ++ tag ∷ []) ≡ with_tag tag (counts_of u tags)
count_more u tags Free = counts_are u _ _ _ _ _ _ _ _ (grown is_free tags Free refl) (same is_held tags Free refl) (same is_live tags Free refl) (same is_obsolete tags Free refl)
count_more u tags Held = counts_are u _ _ _ _ _ _ _ _ (same is_free tags Held refl) (grown is_held tags Held refl) (same is_live tags Held refl) (same is_obsolete tags Held refl)
count_more u tags Live = counts_are u _ _ _ _ _ _ _ _ (same is_free tags Live refl) (same is_held tags Live refl) (grown is_live tags Live refl) (same is_obsolete tags Live refl)
count_more u tags Locked = counts_are u _ _ _ _ _ _ _ _ (same is_free tags Locked refl) (same is_held tags Locked refl) (grown is_live tags Locked refl) (same is_obsolete tags Locked refl)
count_more u tags (Obsolete e) = counts_are u _ _ _ _ _ _ _ _ (same is_free tags (Obsolete e) refl) (same is_held tags (Obsolete e) refl) (same is_live tags (Obsolete e) refl) (grown is_obsolete tags (Obsolete e) refl)

-- each tag is counted once
pub total_is : (tags : List Tag) → count_by is_free tags + count_by is_held tags + count_by is_live tags + count_by is_obsolete tags ≡ length tags
total_is [] = refl
total_is (tag ∷ tags) = omega (arith, once tag, total_is tags, count_first is_free tag tags, count_first is_held tag tags, count_first is_live tag tags, count_first is_obsolete tag tags)
  where
    once : (t : Tag) → (if is_free t then 1 else 0) + (if is_held t then 1 else 0) + (if is_live t then 1 else 0) + (if is_obsolete t then 1 else 0) ≡ 1
    once Free = refl
    once Held = refl
    once Live = refl
    once Locked = refl
    once (Obsolete epoch) = refl

-- Loads

loads_more : (kind : ℕ → Rec) (n : ℕ) (tags : List Tag) (tag : Tag) → loads_of kind n (tags ++ tag ∷ []) ≡ loads_of kind n tags ++ LoadState (kind (n + length tags)) (state_word tag) ∷ []
loads_more kind n [] tag = let z : n ≡ n + 0 = omega arith in ap (λ m. LoadState (kind m) (state_word tag) ∷ []) z
loads_more kind n (t ∷ tags) tag =
    let z : suc n + length tags ≡ n + suc (length tags) = omega arith in
    ap (λ (acts : List Act). LoadState (kind n) (state_word t) ∷ acts) (loads_more kind (suc n) tags tag ∙ ap (λ m. loads_of kind (suc n) tags ++ LoadState (kind m) (state_word tag) ∷ []) z)

loads_many : (kind : ℕ → Rec) (n : ℕ) (tags : List Tag) → length (loads_of kind n tags) ≡ length tags
loads_many kind n [] = refl
loads_many kind n (tag ∷ tags) = ap suc (loads_many kind (suc n) tags)

module _ {G : Type 0} {table : TableView} {becomes : G → Event → G → Type 0} where
  -- the tag that a load of a state found
  pub found_tag : {r : Rec} {word : ℕ} {a b : SeatView × G} → Steps table becomes (LoadState r word) a b → IsSpelling HasStateWord state_word word
  found_tag {r = r} step = let e = step.event in
      (tag_of (lock_of e.core r) (e.core.fate r), has_state_word (lock_of e.core r) (e.core.fate r) (λ since last epoch is. e.lawful.epochs.marked r since last epoch is), sym e.legal.1.1)

  pub counts_none : {kind : ℕ → Rec} {first : ℕ} (before : List Tag) (u : ℕ) {counts : StateCounts} {a : SeatView × G} → counts ≡ counts_of u before → CountsFrom table becomes kind first first before u counts a a
  counts_none {first = first} before u {a = a} none = record {
    tags = [];
    each = omega arith;
    counts_are = none ∙ ap (counts_of u) (sym (append-nil before));
    does = does_none table becomes collecting a (λ k. refl);
  }

  -- so few were counted
  pub counts_few : {kind : ℕ → Rec} {first behind u : ℕ} {before : List Tag} {counts : StateCounts} {a b : SeatView × G} → CountsFrom table becomes kind first behind before u counts a b
      → counts.free + counts.held + counts.live + counts.obsolete + first ≡ behind + length before
  counts_few {first = first} {before = before} from = let total = total_is (before ++ from.tags) in
      rw from.counts_are (omega (arith, total, from.each, length-append before from.tags))

  -- one record more
  pub counts_more : {kind : ℕ → Rec} {first behind u : ℕ} {before : List Tag} {counts more : StateCounts} {word : ℕ} {a m b : SeatView × G} → CountsFrom table becomes kind first behind before u counts a m
      → Steps table becomes (LoadState (kind behind) word) m b → ((tag : Tag) → HasStateWord tag → state_word tag ≡ word → more ≡ with_tag tag counts) → CountsFrom table becomes kind first (behind + 1) before u more a b
  counts_more {kind = kind} {first = first} {behind = behind} {u = u} {before = before} {word = word} {a = a} {m = m} {b = b} from step one =
      let (tag, has, is) = found_tag step in
      let tags = from.tags in
      let all = from.each in
      let here : LoadState (kind behind) word ∷ [] ≡ LoadState (kind (first + length tags)) (state_word tag) ∷ [] = cc in record {
        tags = tags ++ tag ∷ [];
        each = omega (arith, all, length-append tags (tag ∷ []));
        counts_are = one tag has is ∙ (ap (with_tag tag) from.counts_are ∙ (sym (count_more u (before ++ tags) tag) ∙ ap (counts_of u) (append_assoc before tags (tag ∷ []))));
        does = subst (λ (acts : List Act). Does table becomes collecting acts a b) (ap (λ (acts : List Act). loads_of kind first tags ++ acts) here ∙ sym (loads_more kind first tags tag))
            (collects_append table becomes (loads_of kind first tags) (LoadState (kind behind) word ∷ []) a m b from.does (collects_look table becomes (kind behind) word m b step));
      }

  -- A load of the words that say how many are uncommitted may stand after a step. No chain of steps tells it.
  does_then_bounds : (act : Act) (a : SeatView × G) (s t : SeatView) (g : G) → Does table becomes collecting (act ∷ []) a (s, g) → HasFoundBounds s t → Does table becomes collecting (act ∷ []) a (t, g)
  does_then_bounds act a s t g does (bounds, is, less) = subst (λ z. Does table becomes collecting (act ∷ []) a (z, g)) (sym is) (record {
    seat = (does.seat.0, does.seat.1, does.seat.2, does.seat.3, λ kind. le_trans (less kind) (does.seat.4 kind));
    steps = runs_then_bounds table becomes act [] a s (record s { bounds = bounds }) g does.steps (bounds, refl, less);
    rest = does.rest;
  })

  -- All of them: the parts one after the other
  module _ {first : ℕ} {words : List ℕ} {nodes short medium large wide long : StateCounts} {a b c d e f g : SeatView × G} {s : SeatView} {h : G}
      (load : Steps table becomes (LoadState (a_node 0) first) a (s, h)) (loaded : LoadsUncommitted table.layout words s b.0) (told : b.1 ≡ h)
      (of_nodes : CountsNodes table becomes first (get_or words 0 0) nodes b c)
      (of_short : CountsLeaves table becomes 0 table.layout.medium_from (get_or words 1 0) short c d)
      (of_medium : CountsLeaves table becomes table.layout.medium_from table.layout.large_from (get_or words 2 0) medium d e)
      (of_large : CountsLeaves table becomes table.layout.large_from table.layout.wide_from (get_or words 3 0) large e f)
      (of_wide : CountsLeaves table becomes table.layout.wide_from table.layout.long_from (get_or words 4 0) wide f g)
      {i : SeatView × G} (of_long : CountsLeaves table becomes table.layout.long_from table.layout.leaves (get_or words 5 0) long g i) where
    abbrev tag : Tag
    tag = (found_tag load).0

    abbrev rest : CountsFrom table becomes a_node 1 (suc (table.layout.nodes - 1 - get_or words 0 0)) (tag ∷ []) (table.layout.nodes - suc (table.layout.nodes - 1 - get_or words 0 0)) nodes b c
    rest = of_nodes tag (found_tag load).1 (found_tag load).2

    abbrev found : FoundTags
    found = record { nodes = tag ∷ rest.tags; short = of_short.tags; medium = of_medium.tags; large = of_large.tags; wide = of_wide.tags; long = of_long.tags }

    counted : (n s m l w o n' s' m' l' w' o' : StateCounts) (bytes bytes' : ℕ) → n ≡ n' → s ≡ s' → m ≡ m' → l ≡ l' → w ≡ w' → o ≡ o' → bytes ≡ bytes' →
        (let x : RecordCounts = record { nodes = n; short = s; medium = m; large = l; wide = w; long = o; bytes = bytes } in x) ≡ record { nodes = n'; short = s'; medium = m'; large = l'; wide = w'; long = o'; bytes = bytes' }
    counted n s m l w o n' s' m' l' w' o' bytes bytes' i j k p q r t = cc

    -- the first load, and the words after it
    begins : Does table becomes collecting (LoadState (a_node 0) (state_word tag) ∷ []) a b
    begins = subst (λ (z : G). Does table becomes collecting (LoadState (a_node 0) (state_word tag) ∷ []) a (b.0, z)) (sym told)
        (does_then_bounds (LoadState (a_node 0) (state_word tag)) a s b.0 h
        (subst (λ z. Does table becomes collecting (LoadState (a_node 0) z ∷ []) a (s, h)) (sym (found_tag load).2) (collects_look table becomes (a_node 0) first a (s, h) load)) loaded.found)

    abbrev behind : List Act → List Act
    behind front =
        front ++ loads_of a_leaf 0 of_short.tags ++ loads_of a_leaf table.layout.medium_from of_medium.tags ++ loads_of a_leaf table.layout.large_from of_large.tags ++
        loads_of a_leaf table.layout.wide_from of_wide.tags ++ loads_of a_leaf table.layout.long_from of_long.tags

    does_behind : (front : List Act) (z : SeatView × G) → Does table becomes collecting front z c → Does table becomes collecting (behind front) z i
    does_behind front z does =
        let l = table.layout in
        let two = front ++ loads_of a_leaf 0 of_short.tags in
        let three = two ++ loads_of a_leaf l.medium_from of_medium.tags in
        let four = three ++ loads_of a_leaf l.large_from of_large.tags in
        let five = four ++ loads_of a_leaf l.wide_from of_wide.tags in
        collects_append table becomes five (loads_of a_leaf l.long_from of_long.tags) z g i
        (collects_append table becomes four (loads_of a_leaf l.wide_from of_wide.tags) z f g
        (collects_append table becomes three (loads_of a_leaf l.large_from of_large.tags) z e f
        (collects_append table becomes two (loads_of a_leaf l.medium_from of_medium.tags) z d e
        (collects_append table becomes front (loads_of a_leaf 0 of_short.tags) z c d does of_short.does) of_medium.does) of_large.does) of_wide.does) of_long.does

    abbrev finds : FindsUncommitted table becomes (loads_in table.layout found) a i
    finds = record {
      first = LoadState (a_node 0) (state_word tag);
      others = behind (loads_of a_node 1 rest.tags);
      acts_are = refl;
      middle = b;
      begins = begins.steps;
      taken = loaded.taken;
      goes_on = (does_behind (loads_of a_node 1 rest.tags) b rest.does).steps;
    }

    each : OneForEach table.layout (uncommitted_in b.0.bounds) found
    each =
        let w = loaded.words_are in record {
          nodes = omega (arith, rest.each, w 0 (omega arith));
          short = omega (arith, of_short.each, w 1 (omega arith));
          medium = omega (arith, of_medium.each, w 2 (omega arith));
          large = omega (arith, of_large.each, w 3 (omega arith));
          wide = omega (arith, of_wide.each, w 4 (omega arith));
          long = omega (arith, of_long.each, w 5 (omega arith));
        }

    left : (first next committed : ℕ) (tags : List Tag) (counts : StateCounts) → counts ≡ counts_of (next - first - committed) tags → first + committed ≡ first + length tags → counts ≡ counts_of (next - first - length tags) tags
    left first next committed tags counts are size = let same : committed ≡ length tags = omega (arith, size) in are ∙ ap (λ n. counts_of (next - first - n) tags) same

    short_left : (next committed : ℕ) (tags : List Tag) (counts : StateCounts) → counts ≡ counts_of (next - 0 - committed) tags → 0 + committed ≡ 0 + length tags → counts ≡ counts_of (next - length tags) tags
    short_left next committed tags counts are size = let same : next - 0 - committed ≡ next - length tags = omega (arith, size) in are ∙ ap (λ n. counts_of n tags) same

    nodes_left : (count behind : ℕ) (tags : List Tag) (counts : StateCounts) → counts ≡ counts_of (count - behind) tags → behind ≡ length tags → counts ≡ counts_of (count - length tags) tags
    nodes_left count behind tags counts are size = are ∙ ap (λ n. counts_of (count - n) tags) size

    pub counts_all : (bytes : ℕ) → bytes ≡ WORD_BYTES * word_count table.layout
        → CountsAll table becomes (record { nodes = nodes; short = short; medium = medium; large = large; wide = wide; long = long; bytes = bytes }) a i
    counts_all bytes size =
        let l = table.layout in (
          found,
          finds,
          each,
          counted _ _ _ _ _ _ _ _ _ _ _ _ _ _ (nodes_left l.nodes _ (tag ∷ rest.tags) nodes rest.counts_are (omega (arith, rest.each))) (short_left l.medium_from _ of_short.tags short of_short.counts_are of_short.each)
              (left l.medium_from l.large_from _ of_medium.tags medium of_medium.counts_are of_medium.each) (left l.large_from l.wide_from _ of_large.tags large of_large.counts_are of_large.each)
              (left l.wide_from l.long_from _ of_wide.tags wide of_wide.counts_are of_wide.each) (left l.long_from l.leaves _ of_long.tags long of_long.counts_are of_long.each) size,
          does_behind (LoadState (a_node 0) (state_word tag) ∷ loads_of a_node 1 rest.tags) a
              (collects_append table becomes (LoadState (a_node 0) (state_word tag) ∷ []) (loads_of a_node 1 rest.tags) a b c begins rest.does),
        )

  -- What it leaves
  module _ {counts : RecordCounts} {a b : SeatView × G} (all : CountsAll table becomes counts a b) (some : 1 ≤ table.layout.nodes) where
    -- a first load, of the first node
    first : (tag : Tag) × (tags : List Tag) × (all.0.nodes ≡ tag ∷ tags)
    first = cases all.0.nodes all.2.nodes
      where
        cases : (tags : List Tag) {n : ℕ} → length tags ≡ suc n → (tag : Tag) × (rest : List Tag) × (tags ≡ tag ∷ rest)
        cases [] none = absurd (omega (arith, none))
        cases (tag ∷ tags) is = (tag, tags, refl)

    abbrev loads_with : List Tag → List Act
    loads_with nodes =
        loads_of a_node 0 nodes ++ loads_of a_leaf 0 all.0.short ++ loads_of a_leaf table.layout.medium_from all.0.medium ++
        loads_of a_leaf table.layout.large_from all.0.large ++ loads_of a_leaf table.layout.wide_from all.0.wide ++ loads_of a_leaf table.layout.long_from all.0.long

    does : (tag : Tag) (tags : List Tag) → all.0.nodes ≡ tag ∷ tags → Does table becomes collecting (loads_with (tag ∷ tags)) a b
    does tag tags is = subst (λ (nodes : List Tag). Does table becomes collecting (loads_with nodes) a b) is all.4

    pub counts_settled : b.0.known.pin ≡ None → IsSettled a.0.known → IsSettled b.0.known
    counts_settled free settled = let (tag, tags, is) = first in does_settled (does tag tags is) free settled

    pub counts_unnoted : IsSettled a.0.known → IsUnnoted table.layout (pass_of a.0) (pass_of b.0)
    counts_unnoted settled = let (tag, tags, is) = first in does_unnoted (does tag tags is) settled

    -- one load for each committed record
    loads_counted : length (loads_in table.layout all.0) + all_uncommitted counts ≡ table.layout.nodes + table.layout.leaves
    loads_counted =
        let t = all.0 in
        let o = all.2 in
        let l = table.layout in
        let (medium, large, wide, long) = l.classes_in_order in
        let two = loads_of a_node 0 t.nodes ++ loads_of a_leaf 0 t.short in
        let three = two ++ loads_of a_leaf l.medium_from t.medium in
        let four = three ++ loads_of a_leaf l.large_from t.large in
        let five = four ++ loads_of a_leaf l.wide_from t.wide in
        let sum : length (loads_in l t) ≡ length t.nodes + length t.short + length t.medium + length t.large + length t.wide + length t.long = omega (
          arith,
          loads_many a_node 0 t.nodes,
          loads_many a_leaf 0 t.short,
          loads_many a_leaf l.medium_from t.medium,
          loads_many a_leaf l.large_from t.large,
          loads_many a_leaf l.wide_from t.wide,
          loads_many a_leaf l.long_from t.long,
          length-append (loads_of a_node 0 t.nodes) (loads_of a_leaf 0 t.short),
          length-append two (loads_of a_leaf l.medium_from t.medium),
          length-append three (loads_of a_leaf l.large_from t.large),
          length-append four (loads_of a_leaf l.wide_from t.wide),
          length-append five (loads_of a_leaf l.long_from t.long),
        ) in
        ap (λ n. n + all_uncommitted counts) sum ∙ (ap (λ n. length t.nodes + length t.short + length t.medium + length t.large + length t.wide + length t.long + n) (ap all_uncommitted all.3) ∙
        add_up _ _ _ _ _ _ _ _ _ _ _ _ _ _ _ _ _ _ _ (all_nodes _ _ _ some o.nodes) (all_like _ _ _ o.short) (all_like _ _ _ o.medium) (all_like _ _ _ o.large) (all_like _ _ _ o.wide) (all_like _ _ _ o.long)
        (classes l.medium_from l.large_from l.wide_from l.long_from l.leaves medium large wide long))
      where
        all_like : (count found left : ℕ) → found ≡ count - left → found + (count - found) ≡ count
        all_like count found left is = omega (arith, is)

        all_nodes : (count found left : ℕ) → 1 ≤ count → found ≡ suc (count - 1 - left) → found + (count - found) ≡ count
        all_nodes count found left one is = omega (arith, one, is)

        classes : (s m g w e : ℕ) → s ≤ m → m ≤ g → g ≤ w → w ≤ e → s + (m - s) + (g - m) + (w - g) + (e - w) ≡ e
        classes s m g w e a b c d = omega (arith, a, b, c, d)

        add_up : (n s m g w o un us um ug uw uo n' s' m' g' w' o' whole : ℕ) → n + un ≡ n' → s + us ≡ s' → m + um ≡ m' → g + ug ≡ g' → w + uw ≡ w' → o + uo ≡ o' →
            s' + m' + g' + w' + o' ≡ whole → n + s + m + g + w + o + (un + us + um + ug + uw + uo) ≡ n' + whole
        add_up n s m g w o un us um ug uw uo n' s' m' g' w' o' whole a b c d e f all = omega (arith, a, b, c, d, e, f, all)

    pub has_counted : HasCounted table becomes (pass_of a.0, a.1) (pass_of b.0, b.1) counts
    has_counted = record {
      tags = all.0;
      begins = refl;
      ends = refl;
      found = all.1;
      each = all.2;
      counts_are = all.3;
      steps = all.4.steps;
      told = runs_told table becomes (loads_in table.layout all.0) a b all.4.steps;
      front = ap (λ (z : Known). z.front) all.4.rest;
      many = let steps = ap (λ (z : Known). z.steps) all.4.rest in omega (arith, steps, loads_counted);
    }
