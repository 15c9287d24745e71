-- What a publish links anew and unlinks, put together step by step.
use Rattle.version_laws.proofs.Common.{◌≡◌, inl, inr, ℕ, List, [], ◌∷◌, Bool, true, false, refl, ap, sym, ◌∙◌, subst, Some, ◌⊎◌, Fixed, Tree, leaf, node, IsTrie, IsBuilt, Within, here, inside, zero_side, one_side, put, Item, grown, built_within, Heap, IsShown, Links, IsLawfulState, Rec, a_node, a_leaf, not_above, not_beside, shown_within, IsOneOf, AreApart, Key, bit, BareCore, Ready, InTree, view}
use Rattle.version_laws.proofs.Replaced.{linked_after_put, linked_before_put, links_new, links_old, linked_fate}
use Rattle.version_laws.specs.Writer.{IsNewLeaf}
use Rattle.version_laws.proofs.Now.{built_now, shown_now}

-- Where `s` was is `r`: it links what `s` linked and the records `new`, but for just the records `gone`.
pub record IsTraded (s r : Tree) (new gone : List Rec) : Type 0 where
  pub comes : (i : Rec) → Links r i → Links s i ⊎ IsOneOf i new
  pub came : (i : Rec) → IsOneOf i new → Links r i
  pub goes : (i : Rec) → Links s i → Links r i ⊎ IsOneOf i gone
  pub went : (i : Rec) → IsOneOf i gone → Links s i × (Links r i → ⊥)

-- what a place has is not linked outside it
outside : (m : Heap) (i : Rec) {s t : Tree} (w : Within s t) (r : Tree) → IsTrie t → IsBuilt t → IsShown m t → Links s i → Links (put w r) i → Links r i
outside m i here r t b h l o = o
outside m i (inside {n = a} {x = x} {b = d} w) r t b h l (inl e) = absurd (not_above m a x d b h (subst (λ z. Links d z) e (links_old w i l)))
outside m i (inside w) r t b h l (inr o) = outside m i w r t b.2 h.1 l o
outside m i (zero_side w) r t b h l (inl o) = outside m i w r t.0 b.0 h.0 l o
outside m i (zero_side {p = p} {a = a} {b = d} w) r t b h l (inr o) = absurd (not_beside m p i a d t h (links_old w i l) o)
outside m i (one_side {p = p} {a = a} {b = d} w) r t b h l (inl o) = absurd (not_beside m p i a d t h o (links_old w i l))
outside m i (one_side w) r t b h l (inr o) = outside m i w r t.1 b.1 h.1 l o

-- The rules

-- a new node around
pub traded_around : (s r : Tree) (m : ℕ) (x : Fixed) (new gone : List Rec) → ¬ (Links s (a_node m)) → IsTraded s r new gone → IsTraded s (node m x r) (a_node m ∷ new) gone
traded_around s r m x new gone fresh t = record {
  comes = λ i h. elim h [ inl e ↦ inr (inl e) | inr y ↦ elim (t.comes i y) [ inl z ↦ inl z | inr z ↦ inr (inr z) ] ];
  came = λ i h. elim h [ inl e ↦ inl e | inr y ↦ inr (t.came i y) ];
  goes = λ i h. elim (t.goes i h) [ inl y ↦ inl (inr y) | inr y ↦ inr y ];
  went = λ i h. (let w = t.went i h in (w.0, λ y. elim y [ inl e ↦ fresh (subst (Links s) e w.0) | inr z ↦ w.1 z ]));
}

-- an old node dissolved
pub traded_open : (m : Heap) (b r : Tree) (o : ℕ) (x : Fixed) (new gone : List Rec) → IsBuilt (node o x b) → IsShown m (node o x b) → ¬ (IsOneOf (a_node o) new) →
    IsTraded b r new gone → IsTraded (node o x b) r new (a_node o ∷ gone)
traded_open m b r o x new gone built shown old t = record {
  comes = λ i h. elim (t.comes i h) [ inl y ↦ inl (inr y) | inr y ↦ inr y ];
  came = t.came;
  goes = λ i h. elim h [ inl e ↦ inr (inl e) | inr y ↦ elim (t.goes i y) [ inl z ↦ inl z | inr z ↦ inr (inr z) ] ];
  went = λ i h. elim h [
    | inl e ↦ (inl e, λ y. elim (t.comes i y) [ inl z ↦ not_above m o x b built shown (subst (Links b) e z) | inr z ↦ old (subst (λ i. IsOneOf i new) e z) ])
    | inr y ↦ let w = t.went i y in (inr w.0, w.1)
  ];
}

-- a change at one place
pub traded_in_whole : (m : Heap) {s t : Tree} (w : Within s t) (r : Tree) (new gone : List Rec) → IsTrie t → IsBuilt t → IsShown m t → IsTraded s r new gone → IsTraded t (put w r) new gone
traded_in_whole m {s} {t} w r new gone f b h a = record {
  comes = λ i l. elim (linked_after_put w r i l) [ inl y ↦ inl y | inr y ↦ elim (a.comes i y) [ inl z ↦ inl (links_old w i z) | inr z ↦ inr z ] ];
  came = λ i l. links_new w r i (a.came i l);
  goes = λ i l. elim (linked_before_put w r i l) [ inl y ↦ inl y | inr y ↦ elim (a.goes i y) [ inl z ↦ inl (links_new w r i z) | inr z ↦ inr z ] ];
  went = λ i l. (let g = a.went i l in (links_old w i g.0, λ o. g.1 (outside m i w r f b h g.0 o)));
}

-- a new leaf beside
pub traded_grown : (u : Bool) (p : ℕ) (s : Tree) (x : Item) → ¬ (Links s (a_leaf x.number)) → IsTraded s (grown u p s x) (a_leaf x.number ∷ []) []
traded_grown false p s x fresh = record {
  comes = λ i h. elim h [ inl e ↦ inr (inl e) | inr y ↦ inl y ];
  came = λ i h. elim h [ inl e ↦ inl e | inr y ↦ absurd y ];
  goes = λ i h. inl (inr h);
  went = λ i h. absurd h;
}
traded_grown true p s x fresh = record {
  comes = λ i h. elim h [ inr e ↦ inr (inl e) | inl y ↦ inl y ];
  came = λ i h. elim h [ inl e ↦ inr e | inr y ↦ absurd y ];
  goes = λ i h. inl (inl h);
  went = λ i h. absurd h;
}

-- What a pass trades: what it links anew is its own and ready, and no record goes twice.
pub record IsTrade (c : BareCore) (q : ℕ) (s r : Tree) (new gone : List Rec) : Type 0 where
  pub trade : IsTraded s r new gone
  pub ready : (n : Rec) → IsOneOf n new → c.fate n ≡ Ready q
  pub apart : AreApart gone

tree_ready : {f q : ℕ} → InTree f ≡ Ready q → ⊥
tree_ready e = cc

module _ (c : BareCore) (q : ℕ) (law : IsLawfulState (view c)) (t : Tree) (now : c.past.version c.past.now ≡ Some t) where
  -- what is linked now is no new record
  pub old_now : {s : Tree} → Within s t → (i : Rec) → Links s i → ¬ (c.fate i ≡ Ready q)
  old_now w i h e = let f = linked_fate c law t now i (links_old w i h) in tree_ready (sym f.1 ∙ e)

  -- a part with the new leaf
  pub grown_trade : (x : Item) (p : ℕ) → IsNewLeaf c q x → (s : Tree) → Within s t → IsTrade c q s (grown (bit x.key p) p s x) (a_leaf x.number ∷ []) []
  grown_trade x p new s v = record {
    trade = traded_grown (bit x.key p) p s x (λ h. old_now v (a_leaf x.number) h new.fate);
    ready = λ i h. elim h [ inl e ↦ ap c.fate e ∙ new.fate | inr y ↦ absurd y ];
    apart = tt;
  }

  -- a node that goes, with what stands for its body in its place
  pub open_trade : {n : ℕ} {y : Fixed} {b : Tree} → Within (node n y b) t → (r : Tree) (us gs : List Rec) → IsTrade c q b r us gs → IsTrade c q (node n y b) r us (a_node n ∷ gs)
  open_trade {n} {y} {b} v r us gs a = record {
    trade = traded_open c.heap b r n y us gs (built_within v (built_now c law t now)) (shown_within c.heap v (shown_now c law t now)) (λ h. old_now v (a_node n) (inl refl) (a.ready (a_node n) h)) a.trade;
    ready = a.ready;
    apart = (λ h. not_above c.heap n y b (built_within v (built_now c law t now)) (shown_within c.heap v (shown_now c law t now)) (a.trade.went (a_node n) h).0, a.apart);
  }

  -- a new node around
  pub around_trade : (s r : Tree) (m : ℕ) (g : Fixed) (us gs : List Rec) → Within s t → c.fate (a_node m) ≡ Ready q → IsTrade c q s r us gs → IsTrade c q s (node m g r) (a_node m ∷ us) gs
  around_trade s r m g us gs v fate a = record {
    trade = traded_around s r m g us gs (λ h. old_now v (a_node m) h fate) a.trade;
    ready = λ i h. elim h [ inl e ↦ ap c.fate e ∙ fate | inr y ↦ a.ready i y ];
    apart = a.apart;
  }

  -- one leaf for another
  pub leaf_trade : (j : ℕ) (k : Key) (a : ℕ) (x : Item) → Within (leaf j k a) t → IsNewLeaf c q x → IsTrade c q (leaf j k a) (leaf x.number x.key x.value) (a_leaf x.number ∷ []) (a_leaf j ∷ [])
  leaf_trade j k a x v new = record {
    trade = record {
      comes = λ i h. inr (inl h);
      came = λ i h. elim h [ inl e ↦ e | inr y ↦ absurd y ];
      goes = λ i h. inr (inl h);
      went = λ i h. elim h [ inl e ↦ (e, λ o. old_now v i e (ap c.fate o ∙ new.fate)) | inr y ↦ absurd y ];
    };
    ready = λ i h. elim h [ inl e ↦ ap c.fate e ∙ new.fate | inr y ↦ absurd y ];
    apart = ((λ h. absurd h), tt);
  }
