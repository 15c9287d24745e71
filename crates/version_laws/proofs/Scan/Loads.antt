-- What a scan's loads leave it.
use Rattle.version_laws.proofs.Common.{◌≡◌, inl, inr, ℕ, ◌-◌, ◌<◌, true, false, refl, ap, sym, ◌∙◌, subst, arith, Some, None, Option, le_refl, le_trans, if◌then◌else◌, ltb, cases_lt, cond-true, cond-false, lt-ltb, le-ltb, Fixed, Tree, leaf, node, fork, subtrie, IsLower, IsBuilt, here, Entry, Node, Place, size, NodeWords, IsCopied, Past, State, Stands, IsSameRecord, IsTop, IsReach, IsLawfulState, last_of, a_node, a_leaf, entry_at, shape, height_of, built_within, record_of_subtrie, spans_ended}
use Rattle.version_laws.specs.Scan.{at_place, Stood, IsRooted, IsPlaced, EntryStoodSince}
use Rattle.version_laws.specs.Statements.{LoadsRoot, LoadsPlace, LoadsShape, LoadsLeaf}
use Rattle.version_laws.proofs.Statements.Search.{same_record_now, leaf_now}
use Rattle.version_laws.proofs.Scan.{node_of, leaf_of, record_node, placed_stands}

pub loads_root : LoadsRoot
loads_root s law m lo e h = go s.root (s.version s.now) h refl law.top
  where
    go : (r : Option Entry) (f : Option Tree) → r ≡ Some e → s.version s.now ≡ f → IsTop s.heap r f → IsRooted s.past m e
    go None f h g i = absurd cc
    go (Some x) None h g i = elim i [ ]
    go (Some x) (Some t) h g i = let y : x ≡ e = cc in (s.now, t, lo, le_refl s.now, g, i.0 ∙ ap Place y)

-- A node in reach in the last version of its life, whose words are those of now.
record Last (s : State) (m c h : ℕ) : Type 0 where
  body : Tree
  stood : Stood s.past m c body
  words : (s.heap.nodes c).subtrie ≡ subtrie body
  height : stood.fixed.height ≡ h

pub fixed_height : {a b : Fixed} → a ≡ b → a.height ≡ b.height
fixed_height e = ap (λ (z : Fixed). z.height) e

last_stood : (s : State) → IsLawfulState s → (m : ℕ) → IsReach s m → (c h : ℕ) → EntryStoodSince s.past m (Node c h) → Last s m c h
last_stood s law m reach c h (n, u, lo, hi, st, pg) =
    let spans = reach n lo hi (a_node c) u st in
    let top = spans_ended s.now (s.life (a_node c)) n (law.lived (a_node c)) spans in
    let w = same_record_now s law (a_node c) n u spans st in
    let o = node_of c h u pg in
    let x = record_node c w.0 w.1.is_record in
    let same : IsSameRecord (node c o.0 o.1) (node c x.0 x.1) = subst (λ z. IsSameRecord (node c o.0 o.1) z) x.2 (subst (λ z. IsSameRecord z w.0) o.2 w.2) in
    let copied : IsCopied s.heap (node c x.0 x.1) = subst (λ z. IsCopied s.heap z) x.2 w.3 in
    record {
      body = x.1;
      stood = record {
        at = last_of s.now (s.life (a_node c));
        since = le_trans lo top.0;
        until = top.1;
        fixed = x.0;
        stands = subst (λ z. Stands s.past (last_of s.now (s.life (a_node c))) (a_node c) z) x.2 w.1;
      };
      words = ap (λ (z : NodeWords). z.subtrie) copied;
      height = sym (fixed_height same.0) ∙ o.3;
    }

pub subtrie_at : (b : Tree) (j : ℕ) → j < size (subtrie b) → subtrie (at_place b j) ≡ Place (entry_at (subtrie b) j)
subtrie_at (leaf n k v) j h = refl
subtrie_at (node n x b) j h = refl
subtrie_at (fork p a b) j h =
    elim (cases_lt j (size (subtrie a))) as (λ z. subtrie (at_place (fork p a b) j) ≡ Place (entry_at (subtrie (fork p a b)) j)) [
      | inl l ↦ ap subtrie (cond-true (ltb j (size (subtrie a))) _ _ (lt-ltb j (size (subtrie a)) l)) ∙ (subtrie_at a j l ∙ ap Place (sym (cond-true (ltb j (size (subtrie a))) _ _ (lt-ltb j (size (subtrie a)) l))))
      | inr g ↦
          ap subtrie (cond-false (ltb j (size (subtrie a))) _ _ (le-ltb j (size (subtrie a)) g)) ∙
          (subtrie_at b (j - size (subtrie a)) (omega arith) ∙ ap Place (sym (cond-false (ltb j (size (subtrie a))) _ _ (le-ltb j (size (subtrie a)) g))))
    ]

pub lower_at : (h : ℕ) (b : Tree) (j : ℕ) → IsLower h b → height_of (entry_at (subtrie b) j) < h
lower_at h (leaf n k v) j i = i
lower_at h (node n x b) j i = i
lower_at h (fork p a b) j i =
    let x = lower_at h a j i.0 in let y = lower_at h b (j - size (subtrie a)) i.1 in
    elim (ltb j (size (subtrie a))) as (λ u. height_of (if u then entry_at (subtrie a) j else entry_at (subtrie b) (j - size (subtrie a))) < h) [ true ↦ x | false ↦ y ]

pub loads_place : LoadsPlace
loads_place s law m reach c h seen j lt =
    let l = last_stood s law m reach c h seen in
    let built : IsBuilt (node c l.stood.fixed l.body) =
    built_within l.stood.stands.within (law.trees l.stood.at l.stood.stands.tree l.stood.until l.stood.stands.is_version).1 in
    subst (λ p. IsPlaced s.past m c j (entry_at p j) × (height_of (entry_at p j) < h)) (sym l.words) (
      (l.body, l.stood, subst (λ p. j < size p) l.words lt, subtrie_at l.body j (subst (λ p. j < size p) l.words lt)),
      subst (λ z. height_of (entry_at (subtrie l.body) j) < z) l.height (lower_at l.stood.fixed.height l.body j built.1),
    )

pub loads_shape : LoadsShape
loads_shape s law m reach c h seen =
    let l = last_stood s law m reach c h seen in (l.body, l.stood, ap shape (sym l.words))

pub loads_leaf : LoadsLeaf
loads_leaf s law m reach n (o, u, lo, hi, st, pg) =
    let w = leaf_of n u pg in
    let sn : Stands s.past o (a_leaf n) (leaf n w.0 w.1) = subst (λ z. Stands s.past o (a_leaf n) z) w.2 st in
    let e = leaf_now s law m reach o n n w.0 w.1 lo hi sn in (e.at, e.since, e.until, e.stands)

-- What was placed was seen.
pub placed_seen : (s : Past) (m r j : ℕ) (e : Entry) → IsPlaced s m r j e → EntryStoodSince s m e
placed_seen s m r j e (b, st, lt, pg) = (st.at, at_place b j, st.since, st.until, placed_stands s m r j b st e pg, pg)

pub rooted_seen : (s : Past) (m : ℕ) (e : Entry) → IsRooted s m e → EntryStoodSince s m e
rooted_seen s m e (n, t, lo, hi, g, pg) = (n, t, lo, hi, record { tree = t; is_version = g; within = here; is_record = record_of_subtrie e t pg }, pg)
