-- What has risen, once the records for it are made.
use Rattle.rowex_writing.proofs.Common.{◌≡◌, ◌||◌, ℕ, ◌<◌, Bool, true, false, List, [], ◌∷◌, ◌++◌, refl, sym, ap, subst, ◌∙◌, arith, HalfShows, NodeView, piece, Entry, Node, Half, One, Many, Same, GrownShows, SidesShow, is_same, keeps_node, subtrie_of, Grown, Single, Two, Risen, Whole, Split, AtRootFork, Place, Fork, Layout, subtrie_forked, subtrie_grown, Key, bit, Subtrie, IsOneOf, Rec, a_node, body, entry, Newcomer, FirstForkIsFrom, node_words_of, le-ltb, Known, Locked, Made, made_of_leaf, IsSide, one, anew, HasFoundBelow, HasLeaf, HasRisen, rises_copied, rises_halved, rise_whole}
use Rattle.compound_node.specs.declared.entries.Entry.TheVariants.{Leaf}
use Rattle.rowex_writing.specs.build.Building.{IsHalfMade, IsMadeFrom}

-- a half that was made is a side
pub side_made : (old e : Entry) (half : Half) (part : Subtrie) (news : List Made) → HalfShows half part → IsHalfMade old half e news → IsSide part e news
side_made old e (One alone) part news shows (is, none) =
    subst (IsSide part e) (sym none) (one e (shows.0 ∙ ap (λ z. let x : Subtrie = Place z in x) (sym is)))
side_made old e (Many view) part news shows (m, is, made, has) =
    subst (λ z. IsSide part z news) (sym is) (subst (IsSide part (Node m view.height)) (sym made) (anew m view (has, shows.height_is) shows.shows_it))
side_made old e Same part news shows made = elim shows [ ]

-- neither side is the old node
sides_anew : (old : NodeView) (z o : Half) (a b : Subtrie) → is_same z || is_same o ≡ false → SidesShow old z o a b → HalfShows z a × HalfShows o b
sides_anew old (One e) (One f) a b n s = s
sides_anew old (One e) (Many v) a b n s = s
sides_anew old (Many v) (One e) a b n s = s
sides_anew old (Many v) (Many w) a b n s = s
sides_anew old (One e) Same a b n s = absurd cc
sides_anew old (Many v) Same a b n s = absurd cc
sides_anew old Same o a b n s = absurd cc

module _ (layout : Layout) (k : Known) (held : List Locked) (before after : List Made) (gone : List Rec) (x : Newcomer) (leaf : HasLeaf before x.item)
    (n : ℕ) (words : List ℕ) (at : IsOneOf (record { node = n; words = words }) held) (old : NodeView) (was : Entry) where
  -- the node's body has records
  pub rises_made : (g : Grown) (risen : Risen) (r : Subtrie) → GrownShows old g r → keeps_node g ≡ false → IsMadeFrom was g risen before after →
      HasRisen layout k held before x (body n) r gone → HasRisen layout k held after x (entry n) (subtrie_of risen) (a_node n ∷ gone)
  rises_made (Single view) (Whole e) r shows fresh (m, is, made, has) below =
      let copied = rises_copied layout k held before gone x leaf n words at m view (has, shows.height_is) (subst (λ z. HasRisen layout k held before x (body n) z gone) (sym shows.shows_it) below) in
      subst (λ z. HasRisen layout k held after x (entry n) (Place z) (a_node n ∷ gone)) (sym is)
      (subst (λ z. HasRisen layout k held z x (entry n) (Place (Node m view.height)) (a_node n ∷ gone)) (sym made) copied)
  rises_made (Single view) (Split q z o) r shows fresh made below = elim made [ ]
  rises_made (Two cut) (Whole e) r shows fresh made below = elim made [ ]
  rises_made (Two cut) (Split q z o) (Place e) shows fresh made below = elim shows [ ]
  rises_made (Two cut) (Split q z o) (Fork f a b) shows fresh (lower, upper, is, low, high, made) below =
      let sides = sides_anew old cut.zero cut.one a b fresh shows.1 in
      let halved = rises_halved layout k held before gone x leaf n words at f a b z o lower upper (side_made was z cut.zero a lower sides.0 low) (side_made was o cut.one b upper sides.1 high) below in
      subst (λ y. HasRisen layout k held after x (entry n) (Fork y (Place z) (Place o)) (a_node n ∷ gone)) (sym (is ∙ shows.0))
      (subst (λ y. HasRisen layout k held y x (entry n) (Fork f (Place z) (Place o)) (a_node n ∷ gone)) (sym made) halved)

-- ---- the node stays whole
-- before its first fork, the new one is above all of it
above_all : (p : ℕ) (k : Key) (e : Entry) (y : Subtrie) → AtRootFork (λ q a b. p < q) y → (subtrie_grown p k e y ≡ subtrie_forked (bit k p) p e y) × FirstForkIsFrom p y
above_all p k e (Place d) h = elim h [ ]
above_all p k e (Fork q a b) h = (rw (le-ltb q p (omega arith)) refl, omega arith)

no_place : (p : ℕ) (y : Subtrie) (e : Entry) → AtRootFork (λ q a b. p < q) y → y ≡ Place e → ⊥
no_place p (Place d) e h is = elim h [ ]
no_place p (Fork q a b) e h is = cc

kept_halves : (u : Bool) (p m : ℕ) (was : Entry) (old : NodeView) → AtRootFork (λ q a b. p < q) (piece old) → (c : ℕ) (first second : Half) → is_same first || is_same second ≡ true →
    AtRootFork (λ f a b. (c ≡ f) × SidesShow old first second a b) (subtrie_forked u p (Leaf m) (piece old)) → (q : ℕ) (z o : Entry) (lower upper : List Made) → q ≡ c →
    IsHalfMade was first z lower → IsHalfMade was second o upper → (Fork q (Place z) (Place o) ≡ subtrie_forked u p (Leaf m) (Place was)) × (lower ≡ []) × (upper ≡ [])
kept_halves true p m was old h c Same (One f) same s q z o lower upper is low high = (cc, low.1, high.1)
kept_halves false p m was old h c (One f) Same same s q z o lower upper is low high = (cc, low.1, high.1)
kept_halves true p m was old h c (One f) Same same s q z o lower upper is low high = absurd (no_place p (piece old) f h s.1.0)
kept_halves false p m was old h c Same (One f) same s q z o lower upper is low high = absurd (no_place p (piece old) f h s.1.1)
kept_halves true p m was old h c Same Same same s q z o lower upper is low high = absurd s.1.0
kept_halves false p m was old h c Same Same same s q z o lower upper is low high = absurd s.1.0
kept_halves true p m was old h c Same (Many v) same s q z o lower upper is low high = absurd s.1.0
kept_halves false p m was old h c Same (Many v) same s q z o lower upper is low high = absurd s.1.0
kept_halves true p m was old h c (Many v) Same same s q z o lower upper is low high = absurd s.1.1
kept_halves false p m was old h c (Many v) Same same s q z o lower upper is low high = absurd s.1.1
kept_halves u p m was old h c (One e) (One f) same s q z o lower upper is low high = absurd cc
kept_halves u p m was old h c (One e) (Many v) same s q z o lower upper is low high = absurd cc
kept_halves u p m was old h c (Many v) (One e) same s q z o lower upper is low high = absurd cc
kept_halves u p m was old h c (Many v) (Many w) same s q z o lower upper is low high = absurd cc

module _ (layout : Layout) (k : Known) (held : List Locked) (after : List Made) (x : Newcomer) (fresh : List ℕ) (n : ℕ) (words : List ℕ) (found : HasFoundBelow k held x n words)
    (old : NodeView) (shown : (node_words_of words).subtrie ≡ piece old) (height : (node_words_of words).fixed.height ≡ old.height) where
  pub rises_kept : (g : Grown) (risen : Risen) → GrownShows old g (subtrie_grown x.mismatch x.item.key (Leaf x.item.number) (piece old)) → keeps_node g ≡ true → AtRootFork (λ q a b. x.mismatch < q) (piece old) →
      IsMadeFrom (Node n old.height) g risen (made_of_leaf x.item fresh ∷ []) after → HasRisen layout k held after x (entry n) (subtrie_of risen) [] × (after ≡ made_of_leaf x.item fresh ∷ [])
  rises_kept (Single view) risen shows kept before made = absurd cc
  rises_kept (Two cut) (Whole e) shows kept before made = elim made [ ]
  rises_kept (Two cut) (Split q z o) shows kept before (lower, upper, is, low, high, made) =
      let u = bit x.item.key x.mismatch in
      let all = above_all x.mismatch x.item.key (Leaf x.item.number) (piece old) before in
      let (subtrie, none, nor) = kept_halves u x.mismatch x.item.number (Node n old.height) old before cut.position cut.zero cut.one kept
      (subst (GrownShows old (Two cut)) all.0 shows) q z o lower upper is low high in
      let same : after ≡ made_of_leaf x.item fresh ∷ [] = made ∙ (ap (λ y. y ++ (upper ++ made_of_leaf x.item fresh ∷ [])) none ∙ ap (λ y. y ++ made_of_leaf x.item fresh ∷ []) nor) in
      let whole = rise_whole layout k held x fresh n words found (subst (FirstForkIsFrom x.mismatch) (sym shown) all.1) in
      let tall : subtrie_forked u x.mismatch (Leaf x.item.number) (Place (Node n (node_words_of words).fixed.height)) ≡ Fork q (Place z) (Place o) = ap (λ h. subtrie_forked u x.mismatch (Leaf x.item.number) (Place (Node n h))) height ∙ sym subtrie in
      (subst (λ y. HasRisen layout k held after x (entry n) y []) tall (subst (λ y. HasRisen layout k held y x (entry n) (subtrie_forked u x.mismatch (Leaf x.item.number) (Place (Node n (node_words_of words).fixed.height))) []) (sym same) whole), same)
