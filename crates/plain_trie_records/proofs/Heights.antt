-- The nodes that remain and those that are built, up the way of an insertion.
use Rattle.plain_trie_records.proofs.Common.{◌≡◌, ◌⊎◌, inl, inr, ℕ, List, [], ◌∷◌, ◌++◌, refl, ap, sym, ◌∙◌, subst, arith, Some, set, length-append, length-set, eqb, get_or, slice_get, cases_Bool, eqb-true, eqb-false, slice_get-get_or, slice_get_within, Piece, Place, Fork, NodeView, Entry, Cut, Half, One, Many, Same, GrownShows, SidesShow, Two, some_injective}
use Rattle.insert_cases.specs.declared.growth.Grown.TheVariants.{One as Whole}
use Rattle.plain_trie_records.specs.Heights.{Remains, HasHeightAnew, KeepsHeight, KeepsHeights, IsHalfSteady, IsGrownSteady}
use Rattle.plain_trie_records.specs.Rising.{IsNew}
use Rattle.plain_trie_records.specs.Risen.{OthersStay, AllStay, pushed_nodes, kept_nodes}
use Rattle.plain_trie_records.proofs.Risen.{set_back, push_back, push_old, others_kept, others_pushed}

same_steady : {u v : NodeView} → v ≡ u → KeepsHeight u v
same_steady e columns rows = ap (λ (n : NodeView). n.height) e

remains_steady : (u v : NodeView) → Remains u v → KeepsHeight u v
remains_steady u v (inl e) columns rows = ap (λ (n : NodeView). n.height) e
remains_steady u v (inr e) columns rows = ap (λ (n : NodeView). n.height) e.2

pub heights_same : (ns : List NodeView) → KeepsHeights ns ns
heights_same ns = record {
  longer = omega arith;
  each = λ m v e. inl (v, e, inl refl);
  steady = λ m u v old new. same_steady (some_injective (sym new ∙ old));
}

-- ---- one change
pub heights_set : (ns : List NodeView) (n : ℕ) (u v : NodeView) → slice_get ns n ≡ Some u → Remains u v ⊎ (HasHeightAnew v × KeepsHeight u v) → KeepsHeights ns (set ns n v)
heights_set ns n u v at how = record {
  longer = omega (arith, length-set ns n v);
  each = λ m w e. pick m w how (set_back ns n m v w (slice_get_within ns n u at) e);
  steady = λ m o w old new. still m o w how old (set_back ns n m v w (slice_get_within ns n u at) new);
}
  where
    pick : (m : ℕ) (w : NodeView) → Remains u v ⊎ (HasHeightAnew v × KeepsHeight u v) → ((n ≡ m) × (w ≡ v)) ⊎ (slice_get ns m ≡ Some w) →
        ((o : NodeView) × (slice_get ns m ≡ Some o) × Remains o w) ⊎ HasHeightAnew w
    pick m w h (inr e) = inl (w, e, inl refl)
    pick m w (inl r) (inl e) = inl (u, ap (slice_get ns) (sym e.0) ∙ at, subst (Remains u) (sym e.1) r)
    pick m w (inr b) (inl e) = inr (subst HasHeightAnew (sym e.1) b.0)

    both : (m : ℕ) (o w : NodeView) → KeepsHeight u v → slice_get ns m ≡ Some o → (n ≡ m) × (w ≡ v) → KeepsHeight o w
    both m o w s old e =
        let same : u ≡ o = some_injective (sym at ∙ (ap (slice_get ns) e.0 ∙ old)) in
        subst (λ z. KeepsHeight z w) same (subst (KeepsHeight u) (sym e.1) s)

    still : (m : ℕ) (o w : NodeView) → Remains u v ⊎ (HasHeightAnew v × KeepsHeight u v) → slice_get ns m ≡ Some o → ((n ≡ m) × (w ≡ v)) ⊎ (slice_get ns m ≡ Some w) → KeepsHeight o w
    still m o w h old (inr e) = same_steady (some_injective (sym e ∙ old))
    still m o w (inl r) old (inl e) = both m o w (remains_steady u v r) old e
    still m o w (inr b) old (inl e) = both m o w b.1 old e

pub heights_push : (ns : List NodeView) (v : NodeView) → HasHeightAnew v → KeepsHeights ns (ns ++ v ∷ [])
heights_push ns v built = record {
  longer = omega (arith, length-append ns (v ∷ []));
  each = λ m w e. pick m w (push_back ns v m w e);
  steady = λ m o w old new. same_steady (some_injective (sym new ∙ push_old ns (v ∷ []) m o old));
}
  where
    pick : (m : ℕ) (w : NodeView) → (slice_get ns m ≡ Some w) ⊎ (w ≡ v) → ((o : NodeView) × (slice_get ns m ≡ Some o) × Remains o w) ⊎ HasHeightAnew w
    pick m w (inl e) = inl (w, e, inl refl)
    pick m w (inr e) = inr (subst HasHeightAnew (sym e) built)

pub heights_new : (ns ms : List NodeView) (e : Entry) (P : Piece Entry) → IsNew ns ms e P → KeepsHeights ns ms
heights_new ns ms e P i = subst (KeepsHeights ns) (sym i.added) (heights_push ns i.view i.built.height_is)

-- ---- one change after others
module _ (ns ms us : List NodeView) (first : KeepsHeights ns ms) (second : KeepsHeights ms us) where
  -- a node of the old records that the second leaves as it is
  settled_steady : (m : ℕ) (o w : NodeView) → slice_get ns m ≡ Some o → slice_get us m ≡ Some w → ((v : NodeView) → slice_get ms m ≡ Some v → slice_get us m ≡ Some v) → KeepsHeight o w
  settled_steady m o w old new stay =
      let mid = slice_get-get_or ms m o (let h = slice_get_within ns m o old in omega (arith, first.longer)) in
      first.steady m o w old (mid ∙ (sym (stay (get_or ms m o) mid) ∙ new))

  -- which leave all nodes as they are
  pub heights_then : AllStay ms us → KeepsHeights ns us
  heights_then stay = record {
    longer = omega (arith, first.longer, second.longer);
    each = λ m v e. pick m v e (second.each m v e);
    steady = λ m o w old new. settled_steady m o w old new (stay m);
  }
    where
      pick : (m : ℕ) (v : NodeView) → slice_get us m ≡ Some v → ((o : NodeView) × (slice_get ms m ≡ Some o) × Remains o v) ⊎ HasHeightAnew v →
          ((o : NodeView) × (slice_get ns m ≡ Some o) × Remains o v) ⊎ HasHeightAnew v
      pick m v e (inr b) = inr b
      pick m v e (inl r) = first.each m v (r.1 ∙ (sym (stay m r.0 r.1) ∙ e))

  -- or all but one, which the first left as it was
  pub heights_over : (n : ℕ) (u : NodeView) → slice_get ns n ≡ Some u → slice_get ms n ≡ Some u → OthersStay ms us n → KeepsHeights ns us
  heights_over n u old mid stay = record {
    longer = omega (arith, first.longer, second.longer);
    each = λ m v e. pick m v e (second.each m v e);
    steady = λ m o w was is. elim (cases_Bool (eqb n m)) [
      | inl i ↦ second.steady m o w (ap (slice_get ms) (sym (eqb-true n m i)) ∙ (mid ∙ (sym old ∙ (ap (slice_get ns) (eqb-true n m i) ∙ was)))) is
      | inr i ↦ settled_steady m o w was is (λ v. stay m v (eqb-false n m i))
    ];
  }
    where
      same : {m : ℕ} (o : NodeView) → n ≡ m → slice_get ms m ≡ Some o → slice_get ns m ≡ Some o
      same o e at = ap (slice_get ns) (sym e) ∙ (old ∙ (sym mid ∙ (ap (slice_get ms) e ∙ at)))

      pick : (m : ℕ) (v : NodeView) → slice_get us m ≡ Some v → ((o : NodeView) × (slice_get ms m ≡ Some o) × Remains o v) ⊎ HasHeightAnew v →
          ((o : NodeView) × (slice_get ns m ≡ Some o) × Remains o v) ⊎ HasHeightAnew v
      pick m v e (inr b) = inr b
      pick m v e (inl r) = elim (cases_Bool (eqb n m)) [
        | inl i ↦ inl (r.0, same r.0 (eqb-true n m i) r.1, r.2)
        | inr i ↦ first.each m v (r.1 ∙ (sym (stay m r.0 (eqb-false n m i) r.1) ∙ e))
      ]

-- ---- a node, or the halves of a cut, in the place of an old node
abbrev IsAnew : Half → Type 0
IsAnew (One e) = Unit {0}
IsAnew (Many v) = HasHeightAnew v
IsAnew Same = Unit {0}

sides_anew : (old : NodeView) (first second : Half) (a b : Piece Entry) → SidesShow old first second a b → IsAnew first × IsAnew second
sides_anew old (One e) (One f) a b s = (tt, tt)
sides_anew old (One e) (Many v) a b s = (tt, s.1.height_is)
sides_anew old (One e) Same a b s = (tt, tt)
sides_anew old (Many u) (One f) a b s = (s.0.height_is, tt)
sides_anew old (Many u) (Many v) a b s = (s.0.height_is, s.1.height_is)
sides_anew old (Many u) Same a b s = elim s.1 [ ]
sides_anew old Same (One f) a b s = (tt, tt)
sides_anew old Same (Many v) a b s = elim s.0 [ ]
sides_anew old Same Same a b s = elim s.0 [ ]

cut_anew : (old : NodeView) (cut : Cut) (P : Piece Entry) → GrownShows old (Two cut) P → IsAnew cut.zero × IsAnew cut.one
cut_anew old cut (Place x) s = elim s [ ]
cut_anew old cut (Fork p a b) s = sides_anew old cut.zero cut.one a b s.1

heights_pushed : (ns : List NodeView) (half : Half) → IsAnew half → KeepsHeights ns (pushed_nodes ns half)
heights_pushed ns (One e) i = heights_same ns
heights_pushed ns (Many v) i = heights_push ns v i
heights_pushed ns Same i = heights_same ns

heights_kept : (ns : List NodeView) (n : ℕ) (old : NodeView) (half : Half) → slice_get ns n ≡ Some old → IsAnew half → IsHalfSteady old half → KeepsHeights ns (kept_nodes ns n half)
heights_kept ns n old (One e) at i s = heights_same ns
heights_kept ns n old (Many v) at i s = heights_set ns n old v at (inr (i, s))
heights_kept ns n old Same at i s = heights_same ns

module _ (ns : List NodeView) (n : ℕ) (old : NodeView) (P : Piece Entry) (at : slice_get ns n ≡ Some old) where
  pub heights_whole : (v : NodeView) → GrownShows old (Whole v) P → IsGrownSteady old (Whole v) → KeepsHeights ns (set ns n v)
  heights_whole v s steady = heights_set ns n old v at (inr (s.height_is, steady))

  -- or both are
  pub heights_double : (cut : Cut) → GrownShows old (Two cut) P → IsGrownSteady old (Two cut) → KeepsHeights ns (kept_nodes (pushed_nodes ns cut.one) n cut.zero)
  heights_double cut s steady =
      let mid = pushed_nodes ns cut.one in
      let i = cut_anew old cut P s in
      let still = others_pushed ns cut.one n old at in
      heights_over ns mid (kept_nodes mid n cut.zero) (heights_pushed ns cut.one i.1) (heights_kept mid n old cut.zero still i.0 steady.0) n old at still (others_kept mid n cut.zero)
