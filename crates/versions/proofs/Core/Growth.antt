-- What was so in a past stays so as it grows; which records may be given back, and which stand now.
use Rattle.versions.proofs.Common.{◌≡◌, inl, inr, ℕ, ◌<◌, ◌≤◌, true, ap, ap₂, sym, ◌∙◌, subst, arith, Some, le_refl, le_trans, Key, Entry, Tree, leaf, node, fork, subtrie, Rec, a_node, a_leaf}
use Rattle.versions.specs.Heap.{NodeWords, IsCopied}
use Rattle.versions.specs.State.{rec_of, Spans, last_of, IsLived, Past, Stands, IsLawfulState, StoodWithKeys}
use Rattle.versions.specs.Frames.{IsGrown}
use Rattle.versions.specs.Core.{has_seen, InTree, Marked, life_of, BareCore, pin_version, view, HasLawfulEpochs}
use Rattle.versions.specs.declared.Pin.{Pin}
use Rattle.versions.proofs.Heap.{node_number}

-- The record was linked in no version since `m`.
abbrev pub IsUnlinkedSince : Past → ℕ → Rec → Type 0
IsUnlinkedSince s m r = (n : ℕ) → m ≤ n → n ≤ s.now → (u : Tree) → Stands s n r u → ⊥

pub stands_grown : (a b : Past) → IsGrown a b → (n : ℕ) (r : Rec) (u : Tree) → n ≤ a.now → Stands a n r u → Stands b n r u
stands_grown a b g n r u h st =
    record { tree = st.tree; is_version = g.kept n h ∙ st.is_version; within = st.within; is_record = st.is_record }

pub marked_grown : (a b : Past) → IsGrown a b → (m : ℕ) (P : Key → Type 0) (e : Entry) → StoodWithKeys a m P e → StoodWithKeys b m P e
marked_grown a b g m P e (n, u, lo, hi, st, pg, f) = (n, u, lo, le_trans hi g.longer, stands_grown a b g n (rec_of e) u hi st, pg, f)

-- A record that may be given back was linked in no version since a pass's pin.
pub give_back : (c : BareCore) → IsLawfulState (view c) → HasLawfulEpochs c.shared → (o : ℕ) (r : Rec) (f l s : ℕ) → c.fate r ≡ Marked f l s →
    s < (c.rounds o).bound → (q : ℕ) (p : Pin) → c.pins q ≡ Some p → has_seen (c.rounds o).seen q ≡ true → IsUnlinkedSince c.past p.version r
give_back c law pace o r f l s e h q p eq seen n lo hi u st =
    let spans : Spans c.past.now (life_of (Marked f l s)) n =
    subst (λ z. Spans c.past.now (life_of z) n) e (law.reach q p.version (ap pin_version eq) n lo hi r u st) in
    let low : (c.rounds o).bound ≤ p.floor = pace.bounds q o p eq seen in
    elim (pace.marks r f l s e q p eq) [ inl x ↦ absurd (omega arith) | inr x ↦ absurd (omega arith) ]

-- And it isn't linked now.
pub not_now : (c : BareCore) → IsLawfulState (view c) → (r : Rec) (f l s : ℕ) → c.fate r ≡ Marked f l s → IsUnlinkedSince c.past c.past.now r
not_now c law r f l s e n lo hi u st =
    let spans : Spans c.past.now (life_of (Marked f l s)) n =
    subst (λ z. Spans c.past.now (life_of z) n) e (law.present n lo hi r u st) in
    let old : (f ≤ l) × (l < c.past.now) = subst (λ z. IsLived c.past.now (life_of z)) e (law.lived r) in
    omega arith

-- A node that is in the tree stands in the newest version, with the words that it has: what a pass knows of a node that it has locked.
pub in_tree_now : (c : BareCore) → IsLawfulState (view c) → (n f : ℕ) → c.fate (a_node n) ≡ InTree f →
    (b : Tree) × Stands c.past c.past.now (a_node n) (node n (c.heap.nodes n).fixed b) × (subtrie b ≡ (c.heap.nodes n).subtrie)
in_tree_now c law n f e = go at_now.0 at_now.1 (law.frozen (a_node n) at_now.0 lasts (subst (λ z. Stands c.past z (a_node n) at_now.0) (sym is_last) at_now.1))
  where
    is_last : last_of c.past.now (life_of (c.fate (a_node n))) ≡ c.past.now
    is_last = ap (λ z. last_of c.past.now (life_of z)) e

    spans : Spans c.past.now (life_of (c.fate (a_node n))) c.past.now
    spans = subst (λ z. Spans c.past.now (life_of z) c.past.now) (sym e)
        (subst (λ z. IsLived c.past.now (life_of z)) e (law.lived (a_node n)), le_refl c.past.now)

    lasts : Spans c.past.now (life_of (c.fate (a_node n))) (last_of c.past.now (life_of (c.fate (a_node n))))
    lasts = subst (Spans c.past.now (life_of (c.fate (a_node n)))) (sym is_last) spans

    at_now : (u : Tree) × Stands c.past c.past.now (a_node n) u
    at_now = law.alive (a_node n) c.past.now spans

    go : (u : Tree) → Stands c.past c.past.now (a_node n) u → IsCopied c.heap u →
        (b : Tree) × Stands c.past c.past.now (a_node n) (node n (c.heap.nodes n).fixed b) × (subtrie b ≡ (c.heap.nodes n).subtrie)
    go (leaf a k w) st i = absurd (let r : a_node n ≡ a_leaf a = st.is_record in cc)
    go (fork a k w) st i = elim st.is_record [ ]
    go (node a x b) st i =
        let z : a ≡ n = sym (node_number st.is_record) in
        let y : c.heap.nodes n ≡ record { fixed = x; subtrie = subtrie b } = ap c.heap.nodes (sym z) ∙ i in
        let v : node a x b ≡ node n (c.heap.nodes n).fixed b = ap₂ (λ p q. node p q b) z (sym (ap (λ (w : NodeWords). w.fixed) y)) in
        (b, subst (Stands c.past c.past.now (a_node n)) v st, sym (ap (λ (w : NodeWords). w.subtrie) y))
