-- A value is stored: by whom it may be, and what the state is then.
use Rattle.rowex_replay_state.proofs.Common.{All, ◌≡◌, ◌⊎◌, inl, inr, ◌+◌, ◌<◌, ◌^◌, ℕ, suc, List, [], ◌∷◌, ◌++◌, map, set, get_or, Some, None, true, false, if◌then◌else◌, nat_lt, refl, sym, ap, ap₂, ◌∙◌, subst, arith, props, ∥∥₁_elim, cases_lt, lt-ltb, le-ltb, eq-eqb, map-append, same_Some, get_or_from_slice_get, Leaf, NodeView, piece, Change, Replaced, size, entry_word, HasNodeWords, node_words, items, Tree, leaf, node, fork, Rec, a_node, a_leaf, Free, InTree, NodeWords, is_linked, next_fate, HasLockedNamer, in_root, in_node, items_of, Publish, Value, entry_of, leaf_of, node_words_of, IsPacked, Core, IsLawful, IsPastFilling, HasRecord, bare, IsLockedAt, after, next_tree, stored_words, entry_of_word, entry_at_is, entry_word_is, few_entries, node_is}
use Rattle.std.specs.Prelude.{◌≤◌}
use Rattle.tries.specs.Place.{entry_at}
use Rattle.versions.proofs.Heap.Revalued.{revalued}
use Rattle.rowex_core.proofs.Cores.Valuing.{fate_stays, valued_in_tree, value_tree}
use Rattle.rowex_replay_state.specs.declared.linked.Item.{Item as ReadItem}
use Rattle.rowex_replay_state.specs.Versions.{read_item}
use Rattle.rowex_replay_state.specs.declared.fate.Fate.TheVariants.{InTree as IsTree}
use Rattle.rowex_replay_state.specs.Records.{AreRecordsOf, HasKeyIn, IsEncodedIn, with_words_in}
use Rattle.rowex_replay_state.specs.States.{StateView, HasNamerLocked, IsStateOf, IsStepped}
use Rattle.rowex_replay_state.specs.Publishing.{AreRevalued, revalued_item}
use Rattle.rowex_replay_state.proofs.Tables as table
use Rattle.rowex_replay_state.proofs.LoadSteps.{record_word_at, word_from}
use Rattle.rowex_replay_state.proofs.States.{lock_from, tree_from, words_from}
use Rattle.rowex_replay_state.proofs.Sound.{used}

-- ---- what names a leaf

-- The node has the leaf as an entry at this place.
abbrev pub Names : List ℕ → ℕ → ℕ → Type 0
Names words l place = (place < size (node_words_of words).subtrie) × (entry_at (node_words_of words).subtrie place ≡ Leaf l)

names-prop : (words : List ℕ) (l place : ℕ) → IsProp (Names words l place)
names-prop words l place = Prim.hlevel props

module _ (view : NodeView) (words : List ℕ) (small : All (λ w. w < 2 ^ 64) words) (has : HasNodeWords view) (same : node_words view ≡ words) (l place : ℕ) where
  shows : node_words_of words ≡ record { fixed = record { height = view.height; columns = view.columns; rows = view.rows }; subtrie = piece view }
  shows = node_is view words small has same

  by_word : l < 2 ^ 32 → place < 32 → get_or words (25 + place) 0 ≡ entry_word (Some (Leaf l)) → Names words l place
  by_word fits few is =
      subst (λ (z : NodeWords). (place < size z.subtrie) × (entry_at z.subtrie place ≡ Leaf l)) (sym shows)
      (go (sym (entry_of_word (Some (Leaf l)) fits) ∙ (ap entry_of (sym is) ∙ entry_at_is view words small has same place few)) (cases_lt place (size (piece view))))
    where
      go : Some (Leaf l) ≡ (if nat_lt place (size (piece view)) then Some (entry_at (piece view) place) else None) →
          (place < size (piece view)) ⊎ (size (piece view) ≤ place) → (place < size (piece view)) × (entry_at (piece view) place ≡ Leaf l)
      go at (inl low) = (low, same_Some (entry_at (piece view) place) (Leaf l) (sym (at ∙ rw (lt-ltb place (size (piece view)) low) refl)))
      go at (inr high) = absurd (let x : Some (Leaf l) ≡ None = at ∙ rw (le-ltb place (size (piece view)) high) refl in cc)

  by_name : Names words l place → (place < 32) × (get_or words (25 + place) 0 ≡ entry_word (Some (Leaf l)))
  by_name h =
      let (low, at) = subst (λ (z : NodeWords). (place < size z.subtrie) × (entry_at z.subtrie place ≡ Leaf l)) shows h in
      let few : place < 32 = omega (arith, low, few_entries view words small has same) in
      (few, entry_word_is view words small has same place few ∙ rw (lt-ltb place (size (piece view)) low, at) refl)

module _ (n : ℕ) (words : List ℕ) (small : All (λ w. w < 2 ^ 64) words) (packed : IsPacked (a_node n) words) (l place : ℕ) where
  -- Its word there is the leaf's,
  pub named_by_word : l < 2 ^ 32 → place < 32 → get_or words (25 + place) 0 ≡ entry_word (Some (Leaf l)) → Names words l place
  unfolding IsPacked
  named_by_word = by_word packed.0 words small packed.1 packed.2 l place

  -- and the other way round.
  pub word_by_name : Names words l place → (place < 32) × (get_or words (25 + place) 0 ≡ entry_word (Some (Leaf l)))
  unfolding IsPacked
  word_by_name = by_name packed.0 words small packed.1 packed.2 l place

-- what the state says, of each core that it is of
pub namer_at : (s : StateView) (c : Core) (q l : ℕ) → ∥ IsLawful c ∥₁ → IsStateOf s c → l < 2 ^ 32 → HasNamerLocked s q l → HasLockedNamer (bare c) q l
namer_at s c q l lawful h fits (inl (anchor, root)) = in_root (h.anchor ∙ anchor) (h.root ∙ root)
namer_at s c q l lawful h fits (inr (n, low, (lock, (since, fate), (j, few, (words, there, at))))) =
    let in_tree : c.fate (a_node n) ≡ InTree since = h.records.fates_are (a_node n) (IsTree since) fate in
    let is : get_or (c.words (a_node n)) (25 + j) 0 ≡ entry_word (Some (Leaf l)) = ap (λ z. get_or z (25 + j) 0) (h.records.words_are (a_node n) words there) ∙ get_or_from_slice_get words (25 + j) (entry_word (Some (Leaf l))) 0 at in
    let named : Names (c.words (a_node n)) l j =
    ∥∥₁_elim lawful (names-prop (c.words (a_node n)) l j) (λ law. named_by_word n (c.words (a_node n)) (law.records.sized (a_node n)).1 (law.records.packed (a_node n) (subst IsPastFilling (sym in_tree) tt)) l j fits few is) in
    in_node n since j (h.records.locks_are n (Some q) lock) in_tree named.0 named.1

-- and what a core says, of its state
pub namer_from : (s : StateView) (c : Core) (q l : ℕ) → IsLawful c → IsStateOf s c → HasLockedNamer (bare c) q l → HasNamerLocked s q l
namer_from s c q l law h (in_root anchor root) = inl (sym h.anchor ∙ anchor, sym h.root ∙ root)
namer_from s c q l law h (in_node n since place lock fate low names) =
    let there : HasRecord c.layout (a_node n) = used c (a_node n) ∣ law ∣₁ (λ e. let x : Free ≡ InTree since = sym e ∙ fate in cc) in
    let word = word_by_name n (c.words (a_node n)) (law.records.sized (a_node n)).1 (law.records.packed (a_node n) (subst IsPastFilling (sym fate) tt)) l place (low, names) in
    inr (
      n,
      subst (λ (z : Rattle.record_words.specs.declared.layout.Layout.Layout). n < z.nodes) (sym h.records.layout_is) there,
      (
        lock_from s c h (a_node n) there ∙ ap Some lock,
        (since, tree_from s c h n since there fate),
        (place, word.0, word_from s c law h (a_node n) (25 + place) (26 + place) (entry_word (Some (Leaf l))) (omega arith) (omega (arith, word.0)) there (sym word.1 ∙ sym (record_word_at c (a_node n) (25 + place) (26 + place) (omega arith)))),
      ),
    )

-- a leaf that is named so has words that spell it
pub named_spelled : (s : StateView) (c : Core) (q l : ℕ) → IsLawful c → IsStateOf s c → IsLockedAt c q (Value l) → IsEncodedIn s.records (a_leaf l)
named_spelled s c q l law h named =
    (c.words (a_leaf l), words_from s c h (a_leaf l) named.0, law.records.packed (a_leaf l) (subst IsPastFilling (sym (valued_in_tree c q l 0 law named).1) tt))

-- ---- the leaves with the value

items_revalued : (l w : ℕ) (t : Tree) → items (revalued l w t) ≡ map (revalued_item l w) (items t)
items_revalued l w (leaf n k v) = refl
items_revalued l w (node n x b) = items_revalued l w b
items_revalued l w (fork p a b) = ap₂ (λ x y. x ++ y) (items_revalued l w a) (items_revalued l w b) ∙ sym (map-append (revalued_item l w) (items a) (items b))

list_revalued : (l w : ℕ) (old new : List ReadItem) → AreRevalued l w old new → map (revalued_item l w) (map read_item old) ≡ map read_item new
list_revalued l w [] [] a = refl
list_revalued l w [] (x ∷ xs) a = absurd (omega (arith, a.count))
list_revalued l w (y ∷ ys) [] a = absurd (omega (arith, a.count))
list_revalued l w (y ∷ ys) (x ∷ xs) a =
    let (z, at, is) = a.each 0 x refl in
    ap₂ (λ u us. u ∷ us) (ap (λ i. revalued_item l w (read_item i)) (same_Some y z at) ∙ sym is)
    (list_revalued l w ys xs (record { count = omega (arith, a.count); each = λ i v e. a.each (suc i) v e }))

-- ---- the answers

pub not_named : (s t : StateView) (q l w : ℕ) → t ≡ s → ¬ (HasNamerLocked s q l) → IsStepped false s t q (Publish (Value l) w)
not_named s t q l w same none = (same, λ c law h legal. none (namer_from s c q l law h legal.0.1))

pub not_there : (s t : StateView) (q l w : ℕ) → t ≡ s → ¬ (IsEncodedIn s.records (a_leaf l)) → IsStepped false s t q (Publish (Value l) w)
not_there s t q l w same none = (same, λ c law h legal. none (named_spelled s c q l law h legal.0))

module _ (s : StateView) (q l w : ℕ) (fits : l < 2 ^ 32) (small : w < 2 ^ 64) (named : HasNamerLocked s q l) (key : List ℕ) (has : HasKeyIn s.records l key)
    (new : List ReadItem) (revalues : AreRevalued l w s.items new) where
  abbrev change : Change
  change = record { pass = q; key = key; value = w; kind = Replaced }

  abbrev then_ : StateView
  then_ = record s { records = with_words_in s.records (a_leaf l) (set has.0 0 w); changes = s.changes ++ change ∷ []; items = new }

  module _ (c : Core) (lawful : ∥ IsLawful c ∥₁) (h : IsStateOf s c) where
    locked : IsLockedAt c q (Value l)
    locked = (table.has_words s.records c.layout c.words c.fate c.lock h.records (a_leaf l) has.0 has.1, namer_at s c q l lawful h fits named)

    words_are : c.words (a_leaf l) ≡ has.0
    words_are = h.records.words_are (a_leaf l) has.0 has.1

    fate_is : (r : Rec) → next_fate c.past.now q (is_linked (next_tree c (Value l) w) r) (c.fate r) ≡ c.fate r
    fate_is r = ∥∥₁_elim lawful (Prim.hlevel props) (λ law. fate_stays c q l w law locked r)

    items_are : items_of (next_tree c (Value l) w) ≡ map read_item new
    items_are = ∥∥₁_elim lawful (Prim.hlevel props) (λ law.
        let t = value_tree c q l w law locked in
        ap items_of t.2 ∙ (items_revalued l w t.0 ∙ (ap (map (revalued_item l w)) (ap items_of (sym t.1) ∙ h.items) ∙ list_revalued l w s.items new revalues)))

    records_are : AreRecordsOf then_.records c.layout (stored_words c (Value l) w) c.fate c.lock
    records_are = subst (λ z. AreRecordsOf then_.records c.layout (λ i. if Rattle.versions.specs.Steps.same_rec i (a_leaf l) then set z 0 w else c.words i) c.fate c.lock) (sym words_are)
        (table.words_set s.records c.layout c.words c.fate c.lock h.records (a_leaf l) (set has.0 0 w))

    state_is : IsStateOf then_ (after c q (Publish (Value l) w))
    state_is = record {
      records = record {
        layout_is = records_are.layout_is;
        node_count = records_are.node_count;
        leaf_count = records_are.leaf_count;
        words_are = records_are.words_are;
        fates_are = λ r f e. fate_is r ∙ records_are.fates_are r f e;
        locks_are = records_are.locks_are;
      };
      passes = h.passes;
      anchor = h.anchor;
      root = h.root;
      epoch = h.epoch;
      changes = ap₂ (λ xs k. xs ++ record { pass = q; key = k; value = w; kind = Replaced } ∷ []) h.changes (ap (λ z. (leaf_of z).key) words_are ∙ has.2);
      items = rw (eq-eqb (suc c.past.now) (suc c.past.now) refl) items_are;
    }

  pub value_steps : IsStepped true s then_ q (Publish (Value l) w)
  value_steps = λ c lawful h. ((locked c lawful h, small), state_is c lawful h)
