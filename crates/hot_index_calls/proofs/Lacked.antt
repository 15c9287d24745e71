-- In a table with one pass a call that was refused as full leaves used what it lacked. So a count after it finds fewer free than the call
-- needs.
use Rattle.hot_index_calls.proofs.Common.{◌≡◌, ◌≢◌, ◌⊎◌, inl, inr, ℕ, zero, suc, ◌+◌, ◌<◌, ◌≤◌, List, [], ◌∷◌, ◌++◌, Bool, true, false, if◌then◌else◌, Option, Some, None, Result, Err, length, refl, sym, ap, subst, ◌∙◌, arith, All, Contains, IfErr, count_by, cases_Bool, false≢true, All-cons, All-nil, Call, Note, Reply, key_of, leaf_size, state_word, LARGE_WORDS, LEAF_WORDS, MEDIUM_WORDS, SHORT_WORDS, WIDE_WORDS, MAX_BYTES, Layout, Rec, a_node, a_leaf, Tag, FreeTag, HeldTag, Live, Locked, Obsolete, Key, Fate, Free, Held, Ready, InTree, Unlinked, Marked, same_rec, same_rec_refl, same_rec_true, lock_of, tag_of, LoadState, Event, Known, Runs, SeatView, TableView, IsAnothers, nodes_among, TryFault, FullNodes, FullLeaves, Full, Nodes, Leaves, runs_split}
use Rattle.record_words.proofs.Runs.{IsClass, large_class, long_class, medium_class, short_class, wide_class}
use Rattle.record_words.specs.Leaf.{words_for}
use Rattle.record_words.specs.Layout.{uncommitted_in}
use Rattle.rowex_table.specs.Committed.{AtMost}
use Rattle.rowex_table.specs.Seats.{HasAllCommitted}
use Rattle.rowex_table.proofs.Committed.{all_committed}
use Rattle.hot_index_calls.specs.Answers.{IsRefusedFor, fault_of}
use Rattle.hot_index_calls.specs.Asked.{HasLacked}
use Rattle.hot_index_calls.specs.Census.{FoundTags, OneForEach, counts_in, is_free, loads_in, loads_of}
use Rattle.hot_index_calls.specs.Lacking.{IsUsed, IsUsedAt, LeavesUsed}
use Rattle.hot_index_calls.specs.Passes.{pass_of}
use Rattle.hot_index_calls.specs.Refusals.{AreAllAtRest, IsShortOf}
use Rattle.hot_index_calls.specs.Traces.{CollectsNone, HasEnded, IsAttempt, is_full}
use Rattle.hot_index_calls.proofs.Counted.{count_first}
use Rattle.hot_index_calls.proofs.Refusing.{no_other}
use Rattle.hot_index_calls.proofs.Rooms.{step_here}
use Rattle.hot_index_calls.proofs.Used.{SparesRecord, attempt_missed, attempt_used, none_used_leaf, none_used_node, runs_used}

-- ---- after the tries of a call
module _ {G : Type 0} (table : TableView) (becomes : G → Event → G → Type 0) where
  -- after an attempt
  pub attempt_leaves : (call : Call) (made : List Rec) (r : Result Reply TryFault) {said : Known → List Note} (a b : SeatView × G) → HasEnded table becomes (IsAttempt table.layout) said a b → HasLacked table made r a.0 b.0 →
      IfErr r (IsRefusedFor table.layout call (pass_of a.0) (pass_of b.0)) → LeavesUsed table.layout (key_of call) (nodes_among made) r a.0 b.0
  attempt_leaves call made r {said} a b ended lacked refused = record {
    nodes = λ one none is n low other.
        let l = lacked is in
        attempt_missed table becomes (a_node n) (IsAnothers table.layout b.0.known.pass (nodes_among made) l.locked)
        (λ p fits its. other (its.1 (no_other table.layout.passes b.0.known.pass p one mine fits))) a b ended (l.missed n low (all_committed table.layout (uncommitted_in a.0.bounds) (a_node n) none low));
    leaves = λ one none is n low room.
        let cause = (subst (λ (z : Result Reply TryFault). IfErr z (IsRefusedFor table.layout call (pass_of a.0) (pass_of b.0))) is refused).cause in
        attempt_missed table becomes (a_leaf n) (IsAnothers table.layout b.0.known.pass [] [])
        (λ p fits its. let has : Contains [] (a_leaf n) = its.1 (no_other table.layout.passes b.0.known.pass p one mine fits) in let no = has.1 in omega (arith, no)) a b ended
        (cause n low room (λ q upto fits. all_committed table.layout (uncommitted_in a.0.bounds) (a_leaf q) none (omega (arith, low, upto))));
  }
    where
      mine : b.0.known.pass < table.layout.passes
      mine =
          let (acts, are, (m, run, last)) = ended in
          let low = last.event.knows.pass in let lay = ap (λ (l : Layout). l.passes) last.event.layout_is in let same = ap (λ (z : Known). z.pass) last.event.learned_is in omega (arith, low, lay, same)

  -- after a round that gives none back of the kind, and an attempt that does nothing
  pub rested_leaves : (key : Key) (own : List Rec) (lacks : Full) (r : Result Reply TryFault) {said : Known → List Note} (a : SeatView) (b c d : SeatView × G) → r ≡ Err (fault_of lacks) → CollectsNone table becomes lacks b c →
      HasEnded table becomes (IsAttempt table.layout) said c d → LeavesUsed table.layout key own r a b.0 → LeavesUsed table.layout key own r a d.0
  rested_leaves key own Nodes r a b c d is none ended left = record {
    nodes = λ one all same n low other. attempt_used table becomes (a_node n) c d ended (none_used_node table becomes one b c n none (left.nodes one all same n low other));
    leaves = λ one all same n low room. absurd (nodes_not (sym is ∙ same));
  }
    where
      nodes_not : (let x : Result Reply TryFault = Err FullNodes in x) ≡ Err FullLeaves → ⊥
      nodes_not e = cc
  rested_leaves key own Leaves r a b c d is none ended left = record {
    nodes = λ one all same n low other. absurd (leaves_not (sym is ∙ same));
    leaves = λ one all same n low room. attempt_used table becomes (a_leaf n) c d ended (none_used_leaf table becomes one b c n none (left.leaves one all same n low room));
  }
    where
      leaves_not : (let x : Result Reply TryFault = Err FullLeaves in x) ≡ Err FullNodes → ⊥
      leaves_not e = cc

-- what is so where all was committed later is so where all was before
pub used_since : (layout : Layout) (key : Key) (own : List Rec) (r : Result Reply TryFault) (a b t : SeatView) → AtMost (uncommitted_in b.bounds) (uncommitted_in a.bounds) → LeavesUsed layout key own r b t → LeavesUsed layout key own r a t
used_since layout key own r a b t falls left = record { nodes = λ one all. left.nodes one (later all); leaves = λ one all. left.leaves one (later all) }
  where
    later : HasAllCommitted a → HasAllCommitted b
    later all kind = let few = falls kind in let none = all kind in omega (arith, few, none)

-- a call that isn't refused as full
pub none_lacked : (layout : Layout) (key : Key) (own : List Rec) (r : Result Reply TryFault) (s t : SeatView) → is_full r ≡ false → LeavesUsed layout key own r s t
none_lacked layout key own r s t not = record {
  nodes = λ one all is n low other. absurd (false≢true (sym not ∙ ap is_full is));
  leaves = λ one all is n low room. absurd (false≢true (sym not ∙ ap is_full is));
}

-- ---- lists of records
-- the others of a list are those of the rest, and those of a list with one more of the rest with one more
others_first : (x : Rec) (own : List Rec) (s : Rec) → s ≢ x → Contains (x ∷ own) s → Contains own s
others_first x own s other (zero, low, is) = absurd (other (sym is))
others_first x own s other (suc i, low, is) = (i, omega arith, is)

others_more : (x : Rec) (own rest : List Rec) (s : Rec) → (Contains own s → Contains rest s) → Contains (x ∷ own) s → Contains (x ∷ rest) s
others_more x own rest s keep (zero, low, is) = (0, omega arith, is)
others_more x own rest s keep (suc i, low, is) = let (at, within, same) = keep (i, omega arith, is) in (suc at, omega (arith, within), same)

-- the list without one that it has
pub without_one : (own : List Rec) (r : Rec) → Contains own r → (rest : List Rec) × (length own ≡ length rest + 1) × ((s : Rec) → s ≢ r → Contains own s → Contains rest s)
without_one [] r (i, low, is) = absurd (omega arith)
without_one (x ∷ own) r (zero, low, is) = (own, omega arith, λ s other has. others_first x own s (λ e. other (e ∙ is)) has)
without_one (x ∷ own) r (suc i, low, is) =
    let (rest, size, keep) = without_one own r (i, omega arith, is) in (x ∷ rest, omega (arith, size), λ s other has. others_more x own rest s (keep s other) has)

-- it has a record, or not
has_or_not : (own : List Rec) (r : Rec) → Contains own r ⊎ (Contains own r → ⊥)
has_or_not [] r = inr (λ has. let low = has.1 in omega (arith, low))
has_or_not (x ∷ own) r = elim (cases_Bool (same_rec x r)) [
  | inl same ↦ inl (0, omega arith, same_rec_true x r same)
  | inr apart ↦ elim (has_or_not own r) [
    | inl (i, low, is) ↦ inl (suc i, omega (arith, low), is)
    | inr none ↦ inr (λ has. none (others_first x own r (λ e. false≢true (sym apart ∙ subst (λ z. same_rec x z ≡ true) (sym e) (same_rec_refl x))) has))
  ]
]

-- ---- the count
-- the tag of a used record
tag_used : (tag : Tag) (lock : Option ℕ) (f : Fate) → IsUsed f → state_word tag ≡ state_word (tag_of lock f) → is_free tag ≡ false
tag_used FreeTag lock Free used same = absurd used
tag_used FreeTag lock (Held q) used same = absurd used
tag_used FreeTag lock (Ready q) used same = absurd used
tag_used FreeTag None (InTree since) used same = absurd (omega (arith, same))
tag_used FreeTag (Some q) (InTree since) used same = absurd (omega (arith, same))
tag_used FreeTag None (Unlinked since last q) used same = absurd (omega (arith, same))
tag_used FreeTag (Some p) (Unlinked since last q) used same = absurd (omega (arith, same))
tag_used FreeTag lock (Marked since last epoch) used same = absurd (omega (arith, same))
tag_used HeldTag lock f used same = refl
tag_used Live lock f used same = refl
tag_used Locked lock f used same = refl
tag_used (Obsolete e) lock f used same = refl

count_more : (tag : Tag) (tags : List Tag) (t : Bool) → is_free tag ≡ t → count_by is_free (tag ∷ tags) ≡ (if t then 1 else 0) + count_by is_free tags
count_more tag tags t is = count_first is_free tag tags ∙ ap (λ (b : Bool). (if b then 1 else 0) + count_by is_free tags) is

loads_spare : (i : Rec) (kind : ℕ → Rec) (first : ℕ) (tags : List Tag) → All (SparesRecord i) (loads_of kind first tags)
loads_spare i kind first [] = All-nil (SparesRecord i)
loads_spare i kind first (tag ∷ tags) = All-cons (SparesRecord i) (LoadState (kind first) (state_word tag)) (loads_of kind (suc first) tags) tt (loads_spare i kind (suc first) tags)

module _ {G : Type 0} (table : TableView) (becomes : G → Event → G → Type 0) (one : table.layout.passes ≡ 1) where
  -- loads of some records find no more free than these, where the others are used
  loads_few : (kind : ℕ → Rec) → ((n m : ℕ) → kind n ≡ kind m → n ≡ m) → (first : ℕ) (tags : List Tag) (a b : SeatView × G) → Runs table becomes (loads_of kind first tags) a b → (own : List Rec) →
      ((n : ℕ) → first ≤ n → n < first + length tags → (Contains own (kind n) → ⊥) → IsUsedAt table.layout a.0 (kind n)) → count_by is_free tags ≤ length own
  loads_few kind apart first [] a b run own used = omega arith
  loads_few kind apart first (tag ∷ tags) a b (m, step, more) own used = of (is_free tag) refl (λ left others. loads_few kind apart (suc first) tags m b more left others)
    where
      on : (n : ℕ) → IsUsedAt table.layout a.0 (kind n) → IsUsedAt table.layout m.0 (kind n)
      on n was = runs_used table becomes (kind n) (LoadState (kind first) (state_word tag) ∷ []) a m (All-cons (SparesRecord (kind n)) (LoadState (kind first) (state_word tag)) [] tt (All-nil (SparesRecord (kind n)))) (m, step, refl) was

      not_first : is_free tag ≡ true → (Contains own (kind first) → ⊥) → ⊥
      not_first free none =
          let lone = step_here table becomes one (LoadState (kind first) (state_word tag)) a m step in
          let there = used first (omega arith) (omega arith) none step.event.core lone in
          false≢true (sym (tag_used tag (lock_of step.event.core (kind first)) (step.event.core.fate (kind first)) there step.event.legal.1.1) ∙ free)

      of : (t : Bool) → is_free tag ≡ t → ((left : List Rec) → ((n : ℕ) → suc first ≤ n → n < suc first + length tags → (Contains left (kind n) → ⊥) → IsUsedAt table.layout m.0 (kind n)) → count_by is_free tags ≤ length left) →
          count_by is_free (tag ∷ tags) ≤ length own
      of false is rest =
          let few = rest own (λ n from below none. on n (used n (omega (arith, from)) (omega (arith, below)) none)) in
          let count = count_more tag tags false is in omega (arith, few, count)
      of true is rest = elim (has_or_not own (kind first)) [
        | inr none ↦ absurd (not_first is none)
        | inl has ↦
            let (left, size, keep) = without_one own (kind first) has in
            let few = rest left
            (λ n from below none. on n (used n (omega (arith, from)) (omega (arith, below)) (λ there. none (keep (kind n) (λ e. let same = apart n first e in omega (arith, same, from)) there)))) in
            let count = count_more tag tags true is in omega (arith, few, count, size)
      ]

  -- what is used stays so while states are loaded
  loads_used : (i : Rec) (kind : ℕ → Rec) (first : ℕ) (tags : List Tag) (a b : SeatView × G) → Runs table becomes (loads_of kind first tags) a b → IsUsedAt table.layout a.0 i → IsUsedAt table.layout b.0 i
  loads_used i kind first tags a b run was = runs_used table becomes i (loads_of kind first tags) a b (loads_spare i kind first tags) run was

  -- each leaf record with so many words is used
  abbrev HasRoomUsed : ℕ → SeatView → Type 0
  HasRoomUsed words s = (n : ℕ) → n < table.layout.leaves → words ≤ leaf_size table.layout n → IsUsedAt table.layout s (a_leaf n)

  -- so none of a class with so many words is free
  class_short : (first next size words : ℕ) (tags : List Tag) (a b : SeatView × G) → IsClass table.layout first next size → first + length tags ≤ next → Runs table becomes (loads_of a_leaf first tags) a b → HasRoomUsed words a.0 → words ≤ size →
      count_by is_free tags < 1
  class_short first next size words tags a b class are run used fits =
      let none = loads_few a_leaf (λ n m e. let same : n ≡ m = cc in same) first tags a b run []
      (λ n from below no. used n (let within = class.within in omega (arith, below, are, within)) (let sized = class.sized n from (omega (arith, below, are)) in omega (arith, sized, fits))) in omega (arith, none)

  -- A count of all finds fewer free than are needed, where what was lacked is used.
  pub counts_short : (uncommitted : ℕ → ℕ) (tags : FoundTags) (s : SeatView) → HasAllCommitted s → (a b : SeatView × G) → OneForEach table.layout uncommitted tags → Runs table becomes (loads_in table.layout tags) a b → (key : Key) → length key ≤ MAX_BYTES → (own : List Rec) (lacks : Full) →
      LeavesUsed table.layout key own (Err (fault_of lacks)) s a.0 → AreAllAtRest (counts_in table.layout tags) → (needs : ℕ) → needs ≡ length own + 1 → IsShortOf lacks needs (length key) (counts_in table.layout tags)
  counts_short uncommitted tags s all a b each run key short own lacks left rest needs is =
      let l = table.layout in
      let (s5, run5, of_long) = runs_split table becomes (loads_of a_node 0 tags.nodes ++ loads_of a_leaf 0 tags.short ++ loads_of a_leaf l.medium_from tags.medium ++ loads_of a_leaf l.large_from tags.large ++ loads_of a_leaf l.wide_from tags.wide) (loads_of a_leaf l.long_from tags.long) a b run in
      let (s4, run4, of_wide) = runs_split table becomes (loads_of a_node 0 tags.nodes ++ loads_of a_leaf 0 tags.short ++ loads_of a_leaf l.medium_from tags.medium ++ loads_of a_leaf l.large_from tags.large) (loads_of a_leaf l.wide_from tags.wide) a s5 run5 in
      let (s3, run3, of_large) = runs_split table becomes (loads_of a_node 0 tags.nodes ++ loads_of a_leaf 0 tags.short ++ loads_of a_leaf l.medium_from tags.medium) (loads_of a_leaf l.large_from tags.large) a s4 run4 in
      let (s2, run2, of_medium) = runs_split table becomes (loads_of a_node 0 tags.nodes ++ loads_of a_leaf 0 tags.short) (loads_of a_leaf l.medium_from tags.medium) a s3 run3 in
      let (s1, of_nodes, of_short) = runs_split table becomes (loads_of a_node 0 tags.nodes) (loads_of a_leaf 0 tags.short) a s2 run2 in
      of lacks left s1 s2 s3 s4 s5 of_nodes of_short of_medium of_large of_wide of_long
    where
      of : (lacks : Full) → LeavesUsed table.layout key own (Err (fault_of lacks)) s a.0 → (s1 s2 s3 s4 s5 : SeatView × G) → Runs table becomes (loads_of a_node 0 tags.nodes) a s1 → Runs table becomes (loads_of a_leaf 0 tags.short) s1 s2 →
          Runs table becomes (loads_of a_leaf table.layout.medium_from tags.medium) s2 s3 → Runs table becomes (loads_of a_leaf table.layout.large_from tags.large) s3 s4 → Runs table becomes (loads_of a_leaf table.layout.wide_from tags.wide) s4 s5 →
          Runs table becomes (loads_of a_leaf table.layout.long_from tags.long) s5 b → IsShortOf lacks needs (length key) (counts_in table.layout tags)
      of Nodes left s1 s2 s3 s4 s5 of_nodes of_short of_medium of_large of_wide of_long =
          let few = loads_few a_node (λ n m e. let same : n ≡ m = cc in same) 0 tags.nodes a s1 of_nodes own (λ n from below none. left.nodes one all refl n (let many = each.nodes in let some = table.layout.nodes_in_range in omega (arith, below, many, some)) none) in
          record { free = omega (arith, few, is); held = rest.nodes.held; obsolete = rest.nodes.obsolete }
      of Leaves left s1 s2 s3 s4 s5 of_nodes of_short of_medium of_large of_wide of_long =
          let l = table.layout in let words = words_for (length key) in let order = l.classes_in_order in
          let u : HasRoomUsed words a.0 = λ n low room. left.leaves one all refl n low room in
          let u1 : HasRoomUsed words s1.0 = λ n low room. loads_used (a_leaf n) a_node 0 tags.nodes a s1 of_nodes (u n low room) in
          let u2 : HasRoomUsed words s2.0 = λ n low room. loads_used (a_leaf n) a_leaf 0 tags.short s1 s2 of_short (u1 n low room) in
          let u3 : HasRoomUsed words s3.0 = λ n low room. loads_used (a_leaf n) a_leaf l.medium_from tags.medium s2 s3 of_medium (u2 n low room) in
          let u4 : HasRoomUsed words s4.0 = λ n low room. loads_used (a_leaf n) a_leaf l.large_from tags.large s3 s4 of_large (u3 n low room) in
          let u5 : HasRoomUsed words s5.0 = λ n low room. loads_used (a_leaf n) a_leaf l.wide_from tags.wide s4 s5 of_wide (u4 n low room) in
          record {
            here = λ fits. record { free = class_short 0 l.medium_from SHORT_WORDS words tags.short s1 s2 (short_class l) (omega (arith, each.short)) of_short u1 (omega (arith, fits)); held = rest.short.held; obsolete = rest.short.obsolete };
            larger = λ none. record {
              here = λ fits. record { free = class_short l.medium_from l.large_from MEDIUM_WORDS words tags.medium s2 s3 (medium_class l) (omega (arith, each.medium, order)) of_medium u2 (omega (arith, fits)); held = rest.medium.held; obsolete = rest.medium.obsolete };
              larger = λ none. record {
                here = λ fits. record { free = class_short l.large_from l.wide_from LARGE_WORDS words tags.large s3 s4 (large_class l) (omega (arith, each.large, order)) of_large u3 (omega (arith, fits)); held = rest.large.held; obsolete = rest.large.obsolete };
                larger = λ none. record {
                  here = λ fits. record { free = class_short l.wide_from l.long_from WIDE_WORDS words tags.wide s4 s5 (wide_class l) (omega (arith, each.wide, order)) of_wide u4 (omega (arith, fits)); held = rest.wide.held; obsolete = rest.wide.obsolete };
                  larger = λ none. record { free = class_short l.long_from l.leaves LEAF_WORDS words tags.long s5 b (long_class l) (omega (arith, each.long, order)) of_long u5 (omega (arith, short)); held = rest.long.held; obsolete = rest.long.obsolete };
                };
              };
            };
          }
