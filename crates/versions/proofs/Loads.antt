-- After a load the core is lawful.
use Rattle.versions.proofs.Common.{◌≡◌, ◌⊎◌, inl, inr, ℕ, zero, suc, ◌+◌, ◌-◌, ◌<◌, ◌≤◌, List, [], ◌∷◌, ◌++◌, length, map, take, if◌then◌else◌, refl, ap, sym, ◌∙◌, subst, arith, Option, Some, None, le_refl, append-nil, append_assoc, cases_lt, none-some, take_all, take-map, length-append, length-map, map-append, Change, reply_of, step_where, value_at, with_value, map_of, LegalFront, map_of-push, legal_front_push, Entry, Key, Tree, leaf, node, fork, Has, IsTrie, IsBuilt, Item, items, pairs, Each, IsRising, content_rises, AreKeys, are_keys, more_inserts, more_was_absent, some_same, trie_within, built_within, Rec}
use Rattle.finite_map.specs.declared.Call.TheVariants.{Insert}
use Rattle.finite_map.specs.declared.Note.{Note}
use Rattle.finite_map.specs.declared.Reply.TheVariants.{Inserted}
use Rattle.finite_map.specs.Calls.{LegalCalls}
use Rattle.finite_map.proofs.Calls.{legal_at_first, legal_change}
use Rattle.tries.proofs.Place.{more_after}
use Rattle.versions.specs.Heap.{Heap, IsCopied, IsShown}
use Rattle.versions.specs.State.{Past, State, Life, Linked, Spans, last_of, Stands, IsSameRecord, IsTop, IsReach, IsLived, IsLinked, IsLawfulState}
use Rattle.versions.specs.Core.{Fate, Free, InTree, life_of, view}
use Rattle.versions.specs.Steps.{at_first, is_linked, IsLawfulCore}
use Rattle.versions.specs.Told.{items_of, content, added_change, added_notes, TellChanges}
use Rattle.versions.specs.Loads.{forked, first_leaves, first_leaves_of, loaded_past, loaded_by, LoadIsLawful, LoadIsLegal}
use Rattle.versions.proofs.Heap.{shown_within, copied_if_shown, near_refl}
use Rattle.versions.proofs.Core.{linked_cases}
use Rattle.versions.proofs.State.Publish.{version_old, version_new, links_within, within_links, same_step, top_shown}

-- The first leaves of a tree

take_parts : {A : Type 0} (i : ℕ) (xs ys : List A) → take i (xs ++ ys) ≡ take i xs ++ take (i - length xs) ys
take_parts zero [] ys = refl
take_parts (suc i) [] ys = let e : suc i ≡ suc i - 0 = omega arith in ap (λ n. take n ys) e
take_parts zero (x ∷ xs) ys = let e : 0 ≡ 0 - suc (length xs) = omega arith in ap (λ n. take n ys) e
take_parts (suc i) (x ∷ xs) ys = let e : i - length xs ≡ suc i - suc (length xs) = omega arith in ap (λ l. x ∷ l) (take_parts i xs ys ∙ ap (λ n. take i xs ++ take n ys) e)

none_taken : {A : Type 0} (i : ℕ) (l : List A) → l ≡ [] → [] ≡ take i l
none_taken zero l e = refl
none_taken (suc i) l e = rw e refl

items_forked : (p : ℕ) (a b : Option Tree) → items_of (forked p a b) ≡ items_of a ++ items_of b
items_forked p None b = refl
items_forked p (Some a) None = sym (append-nil (items a))
items_forked p (Some a) (Some b) = refl

items_first : (t : Tree) (i : ℕ) → items_of (first_leaves t i) ≡ take i (items t)
items_first (leaf n k v) zero = refl
items_first (leaf n k v) (suc i) = ap (λ (l : List Item). record { number = n; key = k; value = v } ∷ l) (none_taken i [] refl)
items_first (node n x b) i = items_first b i
items_first (fork p a b) i =
    items_forked p (first_leaves a i) (first_leaves b (i - length (items a))) ∙
    ((λ z. items_first a i z ++ items_first b (i - length (items a)) z) ∙ sym (take_parts i (items a) (items b)))

-- it is empty, or a bit trie whose keys are the tree's
abbrev IsPartOf : Tree → Option Tree → Type 0
IsPartOf t o = (u : Tree) → o ≡ Some u → IsTrie u × ((k : Key) → Has u k → Has t k)

part_forked : (p : ℕ) (a b : Tree) (c d : Option Tree) → IsTrie (fork p a b) → IsPartOf a c → IsPartOf b d → IsPartOf (fork p a b) (forked p c d)
part_forked p a b None d law f g u e = let x = g u e in (x.0, λ k h. inr (x.1 k h))
part_forked p a b (Some c) None law f g u e = let x = f u e in (x.0, λ k h. inl (x.1 k h))
part_forked p a b (Some c) (Some d) law f g u e = subst (λ z. IsTrie z × ((k : Key) → Has z k → Has (fork p a b) k)) (some_same e) (
  (x.0, y.0, (λ k l h m. law.2 k l (both k h) (both l m)), (λ k h. law.3 k (x.1 k h)), (λ k h. law.4 k (y.1 k h))),
  both,
)
  where
    x : IsTrie c × ((k : Key) → Has c k → Has a k)
    x = f c refl

    y : IsTrie d × ((k : Key) → Has d k → Has b k)
    y = g d refl

    both : (k : Key) → Has c k ⊎ Has d k → Has a k ⊎ Has b k
    both k (inl h) = inl (x.1 k h)
    both k (inr h) = inr (y.1 k h)

first_part : (t : Tree) (i : ℕ) → IsTrie t → IsPartOf t (first_leaves t i)
first_part (leaf n k v) zero law = λ u e. absurd cc
first_part (leaf n k v) (suc i) law = λ u e. subst (λ z. IsTrie z × ((l : Key) → Has z l → Has (leaf n k v) l)) (some_same e) (law, λ l h. h)
first_part (node n x b) i law = first_part b i law
first_part (fork p a b) i law = part_forked p a b (first_leaves a i) (first_leaves b (i - length (items a))) law (first_part a i law.0) (first_part b (i - length (items a)) law.1)

-- and it has no nodes
built_forked : (p : ℕ) (c d : Option Tree) → ((u : Tree) → c ≡ Some u → IsBuilt u) → ((u : Tree) → d ≡ Some u → IsBuilt u) → (u : Tree) → forked p c d ≡ Some u → IsBuilt u
built_forked p None d f g u e = g u e
built_forked p (Some c) None f g u e = f u e
built_forked p (Some c) (Some d) f g u e = subst IsBuilt (some_same e) (f c refl, g d refl)

first_built : (t : Tree) (i : ℕ) (u : Tree) → first_leaves t i ≡ Some u → IsBuilt u
first_built (leaf n k v) zero u e = absurd cc
first_built (leaf n k v) (suc i) u e = subst IsBuilt (some_same e) tt
first_built (node n x b) i u e = first_built b i u e
first_built (fork p a b) i u e = built_forked p (first_leaves a i) (first_leaves b (i - length (items a))) (first_built a i) (first_built b (i - length (items a))) u e

-- before the first leaf it is empty

pub some_items : (t : Tree) → 0 < length (items t)
some_items (leaf n k v) = omega arith
some_items (node n x b) = some_items b
some_items (fork p a b) = let some = some_items a in omega (arith, length-append (items a) (items b))

none_first : (t : Tree) → first_leaves t 0 ≡ None
none_first (leaf n k v) = refl
none_first (node n x b) = none_first b
none_first (fork p a b) = let e : 0 - length (items a) ≡ 0 = omega arith in
    (λ z. forked p (none_first a z) (first_leaves b (0 - length (items a)))) ∙ (ap (first_leaves b) e ∙ none_first b)

pub loaded_first : (t : Option Tree) → (loaded_past t).version 0 ≡ None
loaded_first None = refl
loaded_first (Some t) = version_old (first_leaves_of (Some t)) (length (items t)) (Some t) 0 (some_items t) ∙ none_first t

-- Insertions in the order of the keys

each_left : (P : Item → Type 0) (xs ys : List Item) → Each P (xs ++ ys) → Each P xs
each_left P [] ys h = tt
each_left P (x ∷ xs) ys h = (h.0, each_left P xs ys h.1)

rising_left : (xs ys : List Item) → IsRising (xs ++ ys) → IsRising xs
rising_left [] ys h = tt
rising_left (x ∷ xs) ys h = (each_left _ xs ys h.0, rising_left xs ys h.1)

-- the changes that add these lead to their map, and each is legal
abbrev AreTold : ℕ → List Item → Type 0
AreTold q xs = (map_of (map (added_change q) xs) ≡ pairs xs) × LegalFront (map (added_change q) xs) × LegalCalls (map (added_change q) xs) q (added_notes 0 xs)

-- one insertion more
notes_push : (n : ℕ) (xs : List Item) (x : Item) → added_notes n (xs ++ x ∷ []) ≡ added_notes n xs ++ record { place = n + length xs; call = Insert x.key x.value; reply = Inserted } ∷ []
notes_push n [] x = let e : n ≡ n + 0 = omega arith in (λ i. record { place = e i; call = Insert x.key x.value; reply = Inserted } ∷ [])
notes_push n (y ∷ xs) x =
    let e : suc n + length xs ≡ n + suc (length xs) = omega arith in
    (λ i. record { place = n; call = Insert y.key y.value; reply = Inserted } ∷ notes_push (suc n) xs x i) ∙
    (λ i. record { place = n; call = Insert y.key y.value; reply = Inserted } ∷ (added_notes (suc n) xs ++ record { place = e i; call = Insert x.key x.value; reply = Inserted } ∷ []))

one_more : (q : ℕ) (x : Item) (done : List Item) → IsRising (done ++ x ∷ []) → AreKeys (done ++ x ∷ []) → AreTold q done → AreTold q (done ++ x ∷ [])
one_more q x done rise keys told = (
  ap map_of split ∙ (map_of-push front (added_change q x) ∙ (ap (λ m. with_value m x.key x.value) told.0 ∙ more_inserts x done (done ++ x ∷ []) (more_after x done) rise keys)),
  subst LegalFront (sym split) (legal_front_push front (added_change q x) told.1 absent),
  subst (λ (ns : List Note). LegalCalls (map (added_change q) (done ++ x ∷ [])) q ns) (sym (notes_push 0 done x))
      (subst (λ (cs : List Change). LegalCalls cs q (added_notes 0 done ++ note ∷ [])) (sym split)
      (legal_change front q (added_notes 0 done) note (added_change q x) told.2 (let l = length-map done (added_change q) in omega (arith, l)) inserted refl)),
)
  where
    front : List Change
    front = map (added_change q) done

    split : map (added_change q) (done ++ x ∷ []) ≡ front ++ added_change q x ∷ []
    split = map-append (added_change q) done (x ∷ [])

    note : Note
    note = record { place = 0 + length done; call = Insert x.key x.value; reply = Inserted }

    absent : value_at (map_of front) x.key ≡ None
    absent = subst (λ m. value_at m x.key ≡ None) (sym told.0) (more_was_absent x done (done ++ x ∷ []) (more_after x done) rise keys)

    inserted : Inserted ≡ reply_of (map_of front) (Insert x.key x.value)
    inserted = ap (λ o. (step_where o (map_of front) (Insert x.key x.value)).1) (sym absent)

told_from : (q : ℕ) (done todo : List Item) → IsRising (done ++ todo) → AreKeys (done ++ todo) → AreTold q done → AreTold q (done ++ todo)
told_from q done [] rise keys told = subst (AreTold q) (sym (append-nil done)) told
told_from q done (x ∷ todo) rise keys told =
    let e : (done ++ x ∷ []) ++ todo ≡ done ++ x ∷ todo = append_assoc done (x ∷ []) todo in
    let r : IsRising ((done ++ x ∷ []) ++ todo) = subst IsRising (sym e) rise in
    let a : AreKeys ((done ++ x ∷ []) ++ todo) = subst AreKeys (sym e) keys in
    subst (AreTold q) e (told_from q (done ++ x ∷ []) todo r a (one_more q x done (rising_left (done ++ x ∷ []) todo r) (each_left _ (done ++ x ∷ []) todo a) told))

all_told : (q : ℕ) (t : Option Tree) → ((u : Tree) → t ≡ Some u → IsTrie u) → AreTold q (items_of t)
all_told q None law = (refl, tt, legal_at_first q)
all_told q (Some t) law = told_from q [] (items t) (content_rises t (law t refl)) (are_keys t (law t refl)) (refl, tt, legal_at_first q)

module _ (heap : Heap) (q : ℕ) (root : Option Entry) (t : Option Tree) (top : IsTop heap root t) (law : (u : Tree) → t ≡ Some u → IsTrie u × IsBuilt u) where
  abbrev last : ℕ
  last = length (items_of t)

  abbrev past : Past
  past = loaded_past t

  abbrev fate : Rec → Fate
  fate r = if is_linked t r then InTree last else Free

  -- a version is one of the first leaves, or the tree
  version_is : (n : ℕ) → n ≤ last → ((n < last) × (past.version n ≡ first_leaves_of t n)) ⊎ ((n ≡ last) × (past.version n ≡ t))
  version_is n h = elim (cases_lt n last) [
    | inl x ↦ inl (x, version_old (first_leaves_of t) last t n x)
    | inr x ↦ let e : n ≡ last = omega arith in inr (e, ap past.version e ∙ version_new (first_leaves_of t) last t)
  ]

  first_lawful : (n : ℕ) (o : Option Tree) → t ≡ o → (u : Tree) → first_leaves_of o n ≡ Some u → IsTrie u × IsBuilt u
  first_lawful n None e u f = absurd cc
  first_lawful n (Some v) e u f = ((first_part v n (law v e).0 u f).0, first_built v n u f)

  trees : (n : ℕ) (u : Tree) → n ≤ last → past.version n ≡ Some u → IsTrie u × IsBuilt u
  trees n u h e = elim (version_is n h) [ inl x ↦ first_lawful n t refl u (sym x.1 ∙ e) | inr x ↦ law u (sym x.1 ∙ e) ]

  -- The lives of records

  abbrev life : Rec → Life
  life r = life_of (fate r)

  linked_life : (r : Rec) → IsLinked t r → life r ≡ Linked last
  linked_life r h = elim (linked_cases t r) [ inl x ↦ rw x.1 refl | inr x ↦ absurd (x.0 h) ]

  -- a life is that of a linked record, or none
  spans_linked : (r : Rec) (n : ℕ) → Spans last (life r) n → (n ≡ last) × IsLinked t r
  spans_linked r n h = elim (linked_cases t r) [
    | inl x ↦ (let y : (last ≤ n) × (n ≤ last) = rw x.1 at h in omega (arith, y.0, y.1), x.0)
    | inr x ↦ absurd (let y : ⊥ = rw x.1 at h in y)
  ]

  abbrev s : State
  s = view (record { heap = heap; shared = loaded_by at_first q root t })

  in_last : (r : Rec) (n : ℕ) (u : Tree) → n ≡ last → (st : Stands past n r u) → t ≡ Some st.tree
  in_last r n u e st = sym (version_new (first_leaves_of t) last t) ∙ (ap past.version (sym e) ∙ st.is_version)

  stands_links : (r : Rec) (n : ℕ) (u : Tree) → n ≡ last → Stands past n r u → IsLinked t r
  stands_links r n u e st = subst (λ z. IsLinked z r) (sym (in_last r n u e st)) (within_links st.within r st.is_record)

  links_stands : (r : Rec) (n : ℕ) → n ≡ last → IsLinked t r → (u : Tree) × Stands past n r u
  links_stands r n e h = go t refl h
    where
      go : (o : Option Tree) → t ≡ o → IsLinked o r → (u : Tree) × Stands past n r u
      go None f h = absurd h
      go (Some v) f h = let x = links_within v r h in (x.0, record { tree = v; is_version = ap past.version e ∙ (version_new (first_leaves_of t) last t ∙ f); within = x.1; is_record = x.2 })

  tree_at : (r : Rec) (n : ℕ) (u : Tree) → n ≡ last → Stands past n r u → IsTrie u × IsBuilt u × IsShown heap u
  tree_at r n u e st =
      let f = in_last r n u e st in
      let x = law st.tree f in
      (trie_within st.within x.0, built_within st.within x.1, shown_within heap st.within (top_shown heap root t st.tree top f))

  lived : (r : Rec) → IsLived last (life r)
  lived r = elim (linked_cases t r) [ inl x ↦ rw x.1 (le_refl last) | inr x ↦ rw x.1 tt ]

  present : IsReach s last
  present n lo hi r u st = let e : n ≡ last = omega arith in subst (λ l. Spans last l n) (sym (linked_life r (stands_links r n u e st))) (lo, hi)

  frozen : (r : Rec) (u : Tree) → Spans last (life r) (last_of last (life r)) → Stands past (last_of last (life r)) r u → IsCopied heap u
  frozen r u h st = copied_if_shown heap u (tree_at r (last_of last (life r)) u (spans_linked r (last_of last (life r)) h).0 st).2

  same : (r : Rec) (n : ℕ) (u v : Tree) → Spans last (life r) n → Stands past n r u → Stands past (last_of last (life r)) r v → IsSameRecord u v
  same r n u v h su sv =
      let l = spans_linked r n h in
      let x = tree_at r n u l.0 su in
      let y = tree_at r (last_of last (life r)) v (ap (last_of last) (linked_life r l.1)) sv in
      same_step heap heap (near_refl heap) r u v su.is_record sv.is_record x.1 x.0 y.0 x.2 y.2

  state_lawful : IsLawfulState s
  state_lawful = record {
    trees = trees;
    top = subst (IsTop heap root) (sym (version_new (first_leaves_of t) last t)) top;
    lived = lived;
    alive = λ r n h. let x = spans_linked r n h in links_stands r n x.0 x.1;
    present = present;
    frozen = frozen;
    same = same;
    reach = λ p m e. absurd (none-some m e);
  }

  -- The content of each version

  first_told : (n : ℕ) (o : Option Tree) → t ≡ o → AreTold q (items_of (first_leaves_of o n))
  first_told n o e = all_told q (first_leaves_of o n) (λ u f. (first_lawful n o e u f).0)

  told : TellChanges past (map (added_change q) (items_of t))
  told = record {
    count = long;
    content_is = λ n h. elim (version_is n h) [ inl x ↦ ap content x.1 ∙ before n t refl | inr x ↦ ap content x.1 ∙ whole n x.0 ];
    legal = (all_told q t (λ u e. (law u e).0)).1;
  }
    where
      long : length (map (added_change q) (items_of t)) ≡ last
      long = length-map (items_of t) (added_change q)

      whole : (n : ℕ) → n ≡ last → content t ≡ map_of (take n (map (added_change q) (items_of t)))
      whole n e = sym (all_told q t (λ u e. (law u e).0)).0 ∙ ap map_of (sym (take_all n (map (added_change q) (items_of t)) (omega (arith, long))))

      before : (n : ℕ) (o : Option Tree) → t ≡ o → content (first_leaves_of o n) ≡ map_of (take n (map (added_change q) (items_of o)))
      before zero None e = refl
      before (suc n) None e = refl
      before n (Some v) e = sym (first_told n (Some v) e).0 ∙ ap map_of (ap (map (added_change q)) (items_first v n) ∙ sym (take-map (added_change q) n (items v)))

  lawful : IsLawfulCore (record { heap = heap; shared = loaded_by at_first q root t })
  lawful = record {
    state = state_lawful;
    paced = record {
      floors = λ o p e. absurd (none-some p e);
      loads = λ o. (omega arith, omega arith, le_refl 0);
      after = λ o i p e. absurd (none-some p e);
      marks = λ r f l m e o p g. absurd (none-some p g);
      bounds = λ o i p e h. absurd (none-some p e);
    };
    told = told;
    locked = λ n o e. absurd (none-some o e);
  }

pub load_is_lawful : LoadIsLawful
load_is_lawful = lawful

pub load_is_legal : LoadIsLegal
load_is_legal q t law = (all_told q t law).2
