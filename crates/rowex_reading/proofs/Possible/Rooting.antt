-- What a load of the root tells.
use Rattle.rowex_reading.proofs.Common.{◌≡◌, ℕ, ◌*◌, ◌≤◌, List, [], ◌∷◌, ◌++◌, length, take, Option, Some, None, refl, ap, sym, ◌∙◌, subst, arith, le_refl, IfSome, Entry, Leaf, Node, height_of, MAX_BYTES, Change, map_of, Place, Layout, HasEntryWord, entry_word, IsSpelling, Tree, leaf, node, fork, subtrie, IsBuilt, Pin, Heap, IsTop, content, LoadRef, Root, Rooted, Fresh, Known, Core, IsLawful, heap_of, Recalls, IsEvent, IsPinnedSince, version_of, pin_is, entry_of, root_of, head_entry, entry_of_word, silent}
use Rattle.tries.specs.Content.{Item, items, pairs}
use Rattle.rowex_reading.specs.Seen.{RootIs, since}
use Rattle.rowex_reading.proofs.Seen.{seen_told}
use Rattle.rowex_reading.proofs.Seen.Loading.{IsTaught, root_taught, taught_now}

-- a tree has an item
an_item : (t : Tree) → (x : Item) × (xs : List Item) × (items t ≡ x ∷ xs)
an_item (leaf n k v) = (record { number = n; key = k; value = v }, [], refl)
an_item (node n h b) = an_item b
an_item (fork p a b) = let i = an_item a in (i.0, i.1 ++ items b, ap (λ (z : List Item). z ++ items b) i.2)

no_tree : (t : Option Tree) → content t ≡ [] → t ≡ None
no_tree None e = refl
no_tree (Some t) e = absurd (full (items t) (an_item t) e)
  where
    full : (xs : List Item) → (x : Item) × (rest : List Item) × (xs ≡ x ∷ rest) → pairs xs ≡ [] → ⊥
    full xs (x, rest, e) h = let y : pairs (x ∷ rest) ≡ [] = ap pairs (sym e) ∙ h in cc

no_top : (heap : Heap) (t : Option Tree) → IsTop heap None t → t ≡ None
no_top heap None h = refl
no_top heap (Some t) h = absurd h

-- the tree whose head has the entry
a_top : (t : Option Tree) (e : Entry) → root_of t ≡ Some e → (u : Tree) × (t ≡ Some u) × (subtrie u ≡ Place e)
a_top None e h = absurd (let x : None ≡ Some e = h in cc)
a_top (Some t) e h = (t, refl, go t h)
  where
    go : (t : Tree) → head_entry t ≡ Some e → subtrie t ≡ Place e
    go (leaf n k v) p = cc
    go (node n x b) p = cc
    go (fork q a b) p = absurd cc

low_height : (t : Tree) (e : Entry) → subtrie t ≡ Place e → IsBuilt t → height_of e ≤ 9 * MAX_BYTES
low_height (leaf n k v) e p b = subst (λ (z : Entry). height_of z ≤ 9 * MAX_BYTES) (place_entry p) (omega arith)
  where
    place_entry : {x : Entry} → subtrie (leaf n k v) ≡ Place x → Leaf n ≡ x
    place_entry q = cc
low_height (node n x d) e p b = subst (λ (z : Entry). height_of z ≤ 9 * MAX_BYTES) (place_entry p) (let f = b.3.bound in omega arith)
  where
    place_entry : {y : Entry} → subtrie (node n x d) ≡ Place y → Node n x.height ≡ y
    place_entry q = cc
low_height (fork q a d) e p b = absurd cc

-- the word is that of the root's entry
pub root_spelled : (layout : Layout) (k j : Known) (w : ℕ) → IsEvent layout (LoadRef Root w) silent k j → IsSpelling HasEntryWord entry_word w
root_spelled layout k j w event = (event.core.root, event.lawful.root, sym event.legal.1)

module _ (layout : Layout) (k j : Known) (p : Pin) (pinned : k.pin ≡ Some p) (w : ℕ) (event : IsEvent layout (LoadRef Root w) silent k j) where
  abbrev core : Core
  core = event.core

  is : IsTaught core (Rooted p.version core.past.now core.root) k j
  is = root_taught layout k j p pinned w event

  fresh_is : j.fresh ≡ record { front = core.changes; step = k.steps; pinned = version_of k.pin }
  fresh_is = ap (λ (z : Known). z.fresh) event.learned_is

  pub root_fresh : j.fresh ≡ record { front = j.front; step = k.steps; pinned = version_of k.pin }
  root_fresh = fresh_is ∙ ap (λ (z : List Change). let f : Fresh = record { front = z; step = k.steps; pinned = version_of k.pin } in f) (sym is.front)

  -- the newest version, by its number
  fresh_now : since j ≡ core.past.now
  fresh_now = ap (λ (z : Fresh). length z.front) fresh_is ∙ event.lawful.core.told.count

  pub root_since : IsPinnedSince j (since j)
  root_since = (
    p,
    ap (λ (z : Known). z.pin) event.learned_is ∙ pinned,
    subst (λ z. p.version ≤ z) (sym fresh_now) (event.lawful.core.paced.floors k.pass p (pin_is core k event.knows ∙ pinned)).2,
  )

  found_root : (e : Option Entry) → HasEntryWord e → entry_word e ≡ w → e ≡ core.root
  found_root e has spells = sym (entry_of_word e has) ∙ (ap entry_of (spells ∙ event.legal.1) ∙ entry_of_word core.root event.lawful.root)

  pub root_low : (e : Option Entry) → HasEntryWord e → entry_word e ≡ w → IfSome e (λ x. height_of x ≤ 9 * MAX_BYTES)
  root_low e has spells = go e (found_root e has spells)
    where
      top : (t : Option Tree) (x : Entry) → core.past.version core.past.now ≡ t → IsTop (heap_of core.words) (Some x) t → height_of x ≤ 9 * MAX_BYTES
      top None x g h = absurd h
      top (Some t) x g h = low_height t x h.0 (event.lawful.core.state.trees core.past.now t (le_refl core.past.now) g).1

      go : (e : Option Entry) → e ≡ core.root → IfSome e (λ x. height_of x ≤ 9 * MAX_BYTES)
      go None h = tt
      go (Some x) h = top (core.past.version core.past.now) x refl (subst (λ z. IsTop (heap_of core.words) z (core.past.version core.past.now)) (sym h) event.lawful.core.state.top)

  -- in each core of which j is true, the root was this one then
  fact_there : (c : Core) → Recalls c j → root_of (c.past.version (since j)) ≡ core.root
  fact_there c recalls = ap (λ z. root_of (c.past.version z)) fresh_now ∙ (is.fact c recalls).2

  front_long : since j ≤ length j.front
  front_long = subst (λ z. z ≤ length j.front) (sym fresh_now) (subst (λ z. core.past.now ≤ z) (sym (taught_now event.lawful is)) (le_refl core.past.now))

  -- and the content is that of the core here
  same_content : (c : Core) → IsLawful c → Recalls c j → content (c.past.version (since j)) ≡ content (core.past.version core.past.now)
  same_content c lawful recalls =
      (seen_told lawful recalls).content_is (since j) front_long ∙
      (ap (λ (z : ℕ). map_of (take z j.front)) fresh_now ∙ (ap (λ (z : List Change). map_of (take core.past.now z)) is.front ∙ sym (event.lawful.core.told.content_is core.past.now (le_refl core.past.now))))

  pub root_told : (e : Option Entry) → HasEntryWord e → entry_word e ≡ w → RootIs j e
  root_told e has spells = go e (found_root e has spells)
    where
      go : (e : Option Entry) → e ≡ core.root → RootIs j e
      go None h = λ c lawful recalls. (
        since j,
        le_refl (since j),
        front_long,
        no_tree (c.past.version (since j)) (same_content c lawful recalls ∙
            ap content (no_top (heap_of core.words) (core.past.version core.past.now) (subst (λ z. IsTop (heap_of core.words) z (core.past.version core.past.now)) (sym h) event.lawful.core.state.top))),
      )
      go (Some x) h = λ c lawful recalls. (let t = a_top (c.past.version (since j)) x (fact_there c recalls ∙ sym h) in (since j, t.0, le_refl (since j), front_long, t.1, t.2))
