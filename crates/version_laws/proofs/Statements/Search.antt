-- The search of a key, from the root to a leaf.
use Rattle.version_laws.proofs.Common.{◌≡◌, ◌≢◌, ◌⊎◌, inl, inr, ℕ, ◌≤◌, refl, ap, sym, ◌∙◌, subst, Option, Some, None, le_refl, le_trans, Key, Tree, leaf, node, fork, Has, Holds, Within, here, inside, zero_side, one_side, Entry, Leaf, Follows, LeafWords, IsCopied, Spans, last_of, State, Stands, IsSameRecord, IsTop, IsReach, IsLawfulState, WasAbsentSince, IsLed, IsHeldSince, Rec, a_leaf, same_key, spans_last, spans_ended, leaf_number}

-- What a record that stood in a version of its life says of the words as they are now.
pub same_record_now : (s : State) → IsLawfulState s → (r : Rec) (n : ℕ) (u : Tree) → Spans s.now (s.life r) n → Stands s.past n r u →
    (v : Tree) × Stands s.past (last_of s.now (s.life r)) r v × IsSameRecord u v × IsCopied s.heap v
same_record_now s law r n u h st =
    let g = spans_last s.now (s.life r) n (law.lived r) h in
    let v = law.alive r (last_of s.now (s.life r)) g in
    (v.0, v.1, law.same r n u v.0 h st v.1, law.frozen r v.0 g v.1)

-- A leaf that stood in a version since `m` has that key now; and when it stood last, in a version since, it had the key and the value
-- that it has now.
pub record LeafNow (s : State) (m o : ℕ) (k : Key) : Type 0 where
  pub key : (s.heap.leaves o).key ≡ k
  pub at : ℕ
  pub since : m ≤ at
  pub until : at ≤ s.now
  pub stands : Stands s.past at (a_leaf o) (leaf o (s.heap.leaves o).key (s.heap.leaves o).value)

pub leaf_now : (s : State) → IsLawfulState s → (m : ℕ) → IsReach s m → (n o a : ℕ) (k : Key) (w : ℕ) → m ≤ n → n ≤ s.now →
    Stands s.past n (a_leaf o) (leaf a k w) → LeafNow s m o k
leaf_now s law m reach n o a k w lo hi st = go v.0 v.1 v.2 v.3
  where
    spans : Spans s.now (s.life (a_leaf o)) n
    spans = reach n lo hi (a_leaf o) (leaf a k w) st

    v : (v : Tree) × Stands s.past (last_of s.now (s.life (a_leaf o))) (a_leaf o) v × IsSameRecord (leaf a k w) v × IsCopied s.heap v
    v = same_record_now s law (a_leaf o) n (leaf a k w) spans st

    go : (v : Tree) → Stands s.past (last_of s.now (s.life (a_leaf o))) (a_leaf o) v → IsSameRecord (leaf a k w) v → IsCopied s.heap v → LeafNow s m o k
    go (node c y d) i e f = elim e [ ]
    go (fork c y d) i e f = elim e [ ]
    go (leaf c l y) i e f =
        let number : o ≡ c = leaf_number i.is_record in
        let words : s.heap.leaves o ≡ record { key = l; value = y } = ap s.heap.leaves number ∙ f in
        let ends = spans_ended s.now (s.life (a_leaf o)) n (law.lived (a_leaf o)) spans in
        let same : leaf c l y ≡ leaf o (s.heap.leaves o).key (s.heap.leaves o).value =
        ap (λ z. leaf z l y) (sym number) ∙ ap (λ (z : LeafWords). leaf o z.key z.value) (sym words) in
        record {
          key = ap (λ (z : LeafWords). z.key) words ∙ sym e;
          at = last_of s.now (s.life (a_leaf o));
          since = le_trans lo ends.0;
          until = ends.1;
          stands = subst (Stands s.past (last_of s.now (s.life (a_leaf o))) (a_leaf o)) same i;
        }

pub begin_empty : (s : State) → IsLawfulState s → (m : ℕ) → m ≤ s.now → (k : Key) → s.root ≡ None → WasAbsentSince s.past m k
begin_empty s law m lo k h = (s.now, lo, le_refl s.now, go s.root (s.version s.now) h law.top)
  where
    go : (r : Option Entry) (f : Option Tree) → r ≡ None → IsTop s.heap r f → (t : Tree) → f ≡ Some t → Has t k → ⊥
    go None None h i t e x = absurd cc
    go None (Some u) h i t e x = elim i [ ]
    go (Some y) f h i t e x = absurd cc

-- what a part of a tree holds the tree holds
pub holds_within : {u t : Tree} → Within u t → (k : Key) (v : ℕ) → Holds u k v → Holds t k v
holds_within here k v h = h
holds_within (inside w) k v h = holds_within w k v h
holds_within (zero_side w) k v h = inl (holds_within w k v h)
holds_within (one_side w) k v h = inr (holds_within w k v h)

-- At a leaf the key was held with the leaf's value, or it was absent.
pub end : (s : State) → IsLawfulState s → (m : ℕ) → IsReach s m → (k : Key) (n : ℕ) → IsLed s.past m k (Leaf n) →
    ((k ≡ (s.heap.leaves n).key) × IsHeldSince s.past m k (s.heap.leaves n).value) ⊎ ((k ≢ (s.heap.leaves n).key) × WasAbsentSince s.past m k)
end s law m reach k n (o, node a x b, lo, hi, st, e, f) = absurd cc
end s law m reach k n (o, fork a x b, lo, hi, st, e, f) = absurd cc
end s law m reach k n (o, leaf a l w, lo, hi, st, e, f) = go (same_key k l) f
  where
    now : LeafNow s m n l
    now = leaf_now s law m reach o n a l w lo hi st

    held : k ≡ (s.heap.leaves n).key → IsHeldSince s.past m k (s.heap.leaves n).value
    held y = (now.at, now.stands.tree, now.since, now.until, now.stands.is_version, holds_within now.stands.within k (s.heap.leaves n).value (y, refl))

    go : Dec (k ≡ l) → (Follows k (leaf a l w) ⊎ WasAbsentSince s.past m k) →
        ((k ≡ (s.heap.leaves n).key) × IsHeldSince s.past m k (s.heap.leaves n).value) ⊎ ((k ≢ (s.heap.leaves n).key) × WasAbsentSince s.past m k)
    go (yes y) f = let z : k ≡ (s.heap.leaves n).key = y ∙ sym now.key in inl (z, held z)
    go (no y) (inl z) = absurd (y z)
    go (no y) (inr z) = inr (λ x. y (x ∙ now.key), z)
