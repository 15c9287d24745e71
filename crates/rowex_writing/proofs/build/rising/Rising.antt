-- One level up.
use Rattle.rowex_writing.proofs.Common.{◌≡◌, ℕ, ◌<◌, ◌≤◌, ◌+◌, ◌-◌, List, [], ◌∷◌, ◌++◌, refl, sym, ap, ap₂, subst, ◌∙◌, arith, Option, Some, None, Bool, true, false, inl, inr, ◌⊎◌, append_assoc, get_or, MatchOption, IfSome, IsTrue, ◌↔◌, slice_get, drop-append-le, drop-take, length-take-le, map-append, take_more, get_or_from_slice_get, slice_get-get_or, slice_get_within, NodeView, piece, height_of, IsBuiltFrom, HasNodeWords, Entry, Node, Half, One, Many, Same, GrownShows, keeps_node, is_whole, subtrie_of, Grown, Single, Two, Risen, Whole, Split, AtRootFork, Place, Fork, size, PathNode, size-piece, subtrie_grown, spot, with_subtrie, Subtrie, NodeWords, IsOneOf, Rec, of_right, a_node, Side, body, entry, Newcomer, Event, node_words_of, Made, TableView, SeatView, HasLeaf, HasRisen, IsLockedAbove, risen_stays, rises_pulled, rises_wrapped, rise_grows, made_of_node, made_of_leaf, IsSide, anew, HasFoundBelow, IsPairOf, pair_facts}
use Rattle.std.specs.Prelude.{length, map, drop, take}
use Rattle.compound_node.specs.declared.entries.Entry.TheVariants.{Leaf}
use Rattle.rowex_writing.specs.build.Building.{IsBuilding, IsHalfMade, IsMadeFrom, IsRaising, GetsFork, IsLevelRisen, GetsLeaf, IsLowRisen, IsAtMostOneHigher, IsRisenAt, IsSingle, IsSplit, FitsAbove, IsLockedSpan, Rises, IsGrowing, IsGrownFrom, HasNotMade, HasRisenTo, gone_unless_whole, gone_with_way, newcomer_of}
use Rattle.rowex_writing.specs.locks.Going.{WorksOn, WorksOnKeepingRecords, HasLocked, IsNodeOf}
use Rattle.rowex_writing.specs.build.Taking.{no_step}
use Rattle.rowex_writing.specs.build.Remaking.{AwaitsLeaf, IsSubtrieOfTree, IsLowHalf, IsNoHigher, subtrie_with_fork, subtrie_with_leaf}
use Rattle.rowex_writing.specs.declared.plan.Span.{Span}
use Rattle.rowex_writing.specs.declared.build.remaking.Fork.{Fork as NewFork}
use Rattle.rowex_writing.specs.declared.build.remaking.NewLeaf.{NewLeaf}
use Rattle.rowex_writing.specs.declared.build.rising.Rise.{Rise}
use Rattle.rowex_writing.proofs.build.remaking.Remaking.{built_low}
use Rattle.rowex_writing.proofs.build.Building.{building_on}
use Rattle.rowex_writing.proofs.build.rising.Raising.{rises_made, rises_kept}
use Rattle.rowex_writing.proofs.locks.Going.{goes_more}
use Rattle.rowex_writing.proofs.build.Staging.{risen_subtrie}

-- ---- heights
half_made_low : (old : Entry) (h : ℕ) (half : Half) (e : Entry) (news : List Made) → height_of old ≡ h → IsLowHalf h half → IsHalfMade old half e news → height_of e ≤ h
half_made_low old h (One x) e news tall low made = let same = ap height_of made.0 in omega (arith, low)
half_made_low old h (Many v) e news tall low made = let same = ap height_of made.1 in omega (arith, low)
half_made_low old h Same e news tall low made = let same = ap height_of made.0 in omega arith

made_low : (was : Entry) (h : ℕ) (g : Grown) (risen : Risen) (before after : List Made) → height_of was ≡ h → IsNoHigher h g → IsMadeFrom was g risen before after → IsLowRisen h risen
made_low was h (Single v) (Whole e) before after tall low made = let same = ap height_of made.1 in omega (arith, low)
made_low was h (Single v) (Split q z o) before after tall low made = elim made [ ]
made_low was h (Two cut) (Whole e) before after tall low made = elim made [ ]
made_low was h (Two cut) (Split q z o) before after tall low made = (half_made_low was h cut.zero z made.0 tall low.0 made.3, half_made_low was h cut.one o made.1 tall low.1 made.4)

-- what was made before stays made
pub made_keeps : (was : Entry) (g : Grown) (risen : Risen) (before after : List Made) → IsMadeFrom was g risen before after → (y : Made) → IsOneOf y before → IsOneOf y after
made_keeps was (Single v) (Whole e) before after (m, is, made, has) y h = subst (IsOneOf y) (sym made) (inr h)
made_keeps was (Single v) (Split q z o) before after made y h = elim made [ ]
made_keeps was (Two cut) (Whole e) before after made y h = elim made [ ]
made_keeps was (Two cut) (Split q z o) before after (lower, upper, is, low, high, made) y h = subst (IsOneOf y) (sym made) (of_right y lower (upper ++ before) (of_right y upper before h))

-- ---- what has risen stays
module _ {G : Type 0} (table : TableView) (becomes : G → Event → G → Type 0) where
  pub risen_on : (a m : SeatView × G) (news : List Made) (gone : List Rec) (x : Newcomer) (d : Side) (r : Subtrie) → WorksOn table becomes a m →
      HasRisen table.layout a.0.known a.0.known.locks news x d r gone → HasRisen table.layout m.0.known m.0.known.locks news x d r gone
  risen_on a m news gone x d r goes risen =
      subst (λ held. HasRisen table.layout m.0.known held news x d r gone) (sym goes.stays.1)
      (risen_stays table.layout a.0.known m.0.known goes.stays.0 a.0.known.locks news gone x d r risen)

  abbrev pub raising_on : (a m : SeatView × G) (made : List Rec) (gone : List Rec) (x : Newcomer) (d : Side) (r : Subtrie) → WorksOnKeepingRecords table becomes a m → IsRaising table a.0 made gone x d r → IsRaising table m.0 made gone x d r
  raising_on a m made gone x d r reads i = record {
    news = i.news;
    building = building_on table becomes a m made i.news reads.goes reads.own i.building;
    leaf = i.leaf;
    risen = risen_on a m i.news gone x d r reads.goes i.risen;
  }

  -- ---- a fork in the node above
  module _ {a m : SeatView × G} {made : List Rec} {above : ℕ} {fork : NewFork} {node : NodeView} (reads : WorksOnKeepingRecords table becomes a m) (b : GetsFork table a.0 made above fork) (shown : (words : List ℕ) → HasLocked a.0.known above words → IsNodeOf words node) where
    is_node : IsNodeOf b.over.upper node
    is_node = shown b.over.upper b.over.has_upper

    subtrie_is : (node_words_of b.over.upper).subtrie ≡ piece node
    subtrie_is = ap (λ (z : NodeWords). z.subtrie) is_node.shows

    height_is : (node_words_of b.over.upper).fixed.height ≡ node.height
    height_is = ap (λ (z : NodeWords). z.fixed.height) is_node.shows

    abbrev now : IsRaising table m.0 made b.here.gone b.here.newcomer (entry b.lower) (Fork fork.position (Place fork.zero) (Place fork.one))
    now = raising_on a m made b.here.gone b.here.newcomer (entry b.lower) (Fork fork.position (Place fork.zero) (Place fork.one)) reads b.here.raising

    upper_locked : IsOneOf (record { node = above; words = b.over.upper }) m.0.known.locks
    upper_locked = subst (IsOneOf (record { node = above; words = b.over.upper })) (sym reads.goes.stays.1) b.over.has_upper

    still_over : IsLockedAbove m.0.known.locks b.here.newcomer.item.key b.here.newcomer.mismatch above b.lower
    still_over = record {
      upper = b.over.upper;
      lower = b.over.lower;
      has_upper = upper_locked;
      has_lower = subst (IsOneOf (record { node = b.lower; words = b.over.lower })) (sym reads.goes.stays.1) b.over.has_lower;
      height = b.over.height;
      entry = b.over.entry;
      path = b.over.path;
    }

    body_risen : HasRisen table.layout m.0.known m.0.known.locks b.here.raising.news b.here.newcomer (body above) (with_subtrie b.here.newcomer.item.key (Fork fork.position (Place fork.zero) (Place fork.one)) (piece node)) b.here.gone
    unfolding still_over
    body_risen =
        subst (λ y. HasRisen table.layout m.0.known m.0.known.locks b.here.raising.news b.here.newcomer (body above) (with_subtrie b.here.newcomer.item.key (Fork fork.position (Place fork.zero) (Place fork.one)) y) b.here.gone) subtrie_is
        (rises_pulled table.layout m.0.known m.0.known.locks b.here.raising.news b.here.gone b.here.newcomer above b.lower (Fork fork.position (Place fork.zero) (Place fork.one)) still_over now.risen)

    pub lift_tree : IsSubtrieOfTree (subtrie_with_fork fork (piece node))
    lift_tree =
        subst (λ k. IsSubtrieOfTree (with_subtrie k (Fork fork.position (Place fork.zero) (Place fork.one)) (piece node))) (sym b.key_is)
        (risen_subtrie table.layout m.0.known b.here.raising.news b.here.gone b.here.newcomer (body above) b.over.upper (with_subtrie b.here.newcomer.item.key (Fork fork.position (Place fork.zero) (Place fork.one)) (piece node))
        now.building.possible now.building.holds now.building.packed now.leaf upper_locked body_risen)

    pub lift_zero : height_of fork.zero < node.height
    lift_zero = let l = b.zero_low in omega (arith, height_is)

    pub lift_one : height_of fork.one < node.height
    lift_one = let l = b.one_low in omega (arith, height_is)

    pub lift_building : IsBuilding table m.0 made b.here.raising.news
    lift_building = now.building

    -- the node's own records
    pub lifted : (c : SeatView × G) (after_made : List Rec) (was : Entry) (g : Grown) (answer : Option Risen) → GrownShows node g (subtrie_with_fork fork (piece node)) → keeps_node g ≡ false →
        WorksOn table becomes m c →
        MatchOption answer (HasNotMade table c.0 after_made) (λ risen. (after : List Made) × IsMadeFrom was g risen b.here.raising.news after × IsBuilding table c.0 after_made after) →
        MatchOption answer (HasNotMade table c.0 after_made)
        (λ risen. IsRaising table c.0 after_made (a_node above ∷ b.here.gone) b.here.newcomer (entry above) (subtrie_of risen))
    lifted c after_made was g None shows fresh goes made = made
    lifted c after_made was g (Some risen) shows fresh goes (after, made, building) = record {
      news = after;
      building = building;
      leaf = (now.leaf.0, made_keeps was g risen b.here.raising.news after made _ now.leaf.1, now.leaf.2);
      risen = risen_on m c after (a_node above ∷ b.here.gone) b.here.newcomer (entry above) (subtrie_of risen) goes
          (rises_made table.layout m.0.known m.0.known.locks b.here.raising.news after b.here.gone b.here.newcomer now.leaf above b.over.upper upper_locked node was g risen
          (with_subtrie b.here.newcomer.item.key (Fork fork.position (Place fork.zero) (Place fork.one)) (piece node))
          (subst (λ k. GrownShows node g (with_subtrie k (Fork fork.position (Place fork.zero) (Place fork.one)) (piece node))) b.key_is shows) fresh made body_risen);
    }

-- ---- the lowest node
kept_or_not : (stays : Bool) → (stays ≡ true) ⊎ (stays ≡ false)
kept_or_not true = inl refl
kept_or_not false = inr refl

module _ {G : Type 0} (table : TableView) (becomes : G → Event → G → Type 0) {a m : SeatView × G} {made : List Rec} {number : ℕ} {new : NewLeaf} {node : NodeView}
    (reads : WorksOnKeepingRecords table becomes a m) (b : GetsLeaf table a.0 made number new) (shown : (words : List ℕ) → HasLocked a.0.known number words → IsNodeOf words node) where
  low_node : IsNodeOf b.words node
  low_node = shown b.words b.found.locked

  low_subtrie : (node_words_of b.words).subtrie ≡ piece node
  low_subtrie = ap (λ (z : NodeWords). z.subtrie) low_node.shows

  low_grown : HasRisen table.layout a.0.known a.0.known.locks (made_of_leaf b.item b.made_leaf.fresh ∷ []) (newcomer_of b) (body number) (subtrie_grown new.position b.item.key (Leaf b.item.number) (piece node)) []
  low_grown =
      subst (λ y. HasRisen table.layout a.0.known a.0.known.locks (made_of_leaf b.item b.made_leaf.fresh ∷ []) (newcomer_of b) (body number) (subtrie_grown new.position b.item.key (Leaf b.item.number) y) []) low_subtrie
      (rise_grows table.layout a.0.known a.0.known.locks (newcomer_of b) b.made_leaf.fresh number b.words b.found b.part)

  low_leaf : HasLeaf (made_of_leaf b.item b.made_leaf.fresh ∷ []) b.item
  low_leaf = (b.made_leaf.fresh, inl refl, b.made_leaf.spelled)

  same_subtrie : subtrie_grown new.position b.item.key (Leaf b.item.number) (piece node) ≡ subtrie_with_leaf new (piece node)
  same_subtrie = ap₂ (λ k n. subtrie_grown new.position k (Leaf n) (piece node)) (sym b.key_is) (sym b.leaf_is)

  low_tree : IsSubtrieOfTree (subtrie_with_leaf new (piece node))
  low_tree =
      subst IsSubtrieOfTree same_subtrie
      (risen_subtrie table.layout a.0.known (made_of_leaf b.item b.made_leaf.fresh ∷ []) [] (newcomer_of b) (body number) b.words (subtrie_grown new.position b.item.key (Leaf b.item.number) (piece node))
      b.made_leaf.building.possible b.made_leaf.building.holds b.made_leaf.building.packed low_leaf b.found.locked low_grown)

  low_leads : spot new.key.now (piece node) ≡ new.slot
  low_leads = ap (λ k. spot k (piece node)) b.key_is ∙ (ap (spot b.item.key) (sym low_subtrie) ∙ b.leads)

  pub low_takes : {words : List ℕ} → IsNodeOf words node → AwaitsLeaf words node new
  low_takes is = record { is = is; leads = low_leads; tree = low_tree }

  pub low_building : IsBuilding table m.0 made (made_of_leaf b.item b.made_leaf.fresh ∷ [])
  low_building = building_on table becomes a m made (made_of_leaf b.item b.made_leaf.fresh ∷ []) reads.goes reads.own b.made_leaf.building

  pub lowered : (c : SeatView × G) (after_made : List Rec) (g : Grown) (stays : Bool) (risen : Risen) → GrownShows node g (subtrie_with_leaf new (piece node)) → stays ≡ keeps_node g →
      (keeps_node g ≡ true → AtRootFork (λ q x y. new.position < q) (piece node)) → WorksOn table becomes m c → (after : List Made) → IsMadeFrom (Node number node.height) g risen (made_of_leaf b.item b.made_leaf.fresh ∷ []) after →
      IsBuilding table c.0 after_made after → IsRaising table c.0 after_made (gone_unless_whole stays number) (newcomer_of b) (entry number) (subtrie_of risen)
  lowered c after_made g stays risen shows is before goes after made building = go (kept_or_not stays)
    where
      here : GrownShows node g (subtrie_grown new.position b.item.key (Leaf b.item.number) (piece node))
      here = subst (GrownShows node g) (sym same_subtrie) shows

      all : WorksOn table becomes a c
      all = goes_more table becomes a m c reads.goes goes

      leaf_stays : HasLeaf after b.item
      leaf_stays = (b.made_leaf.fresh, made_keeps (Node number node.height) g risen (made_of_leaf b.item b.made_leaf.fresh ∷ []) after made _ (inl refl), b.made_leaf.spelled)

      go : (stays ≡ true) ⊎ (stays ≡ false) → IsRaising table c.0 after_made (gone_unless_whole stays number) (newcomer_of b) (entry number) (subtrie_of risen)
      go (inl whole) =
          let keeps : keeps_node g ≡ true = sym is ∙ whole in
          let (kept, same) = rises_kept table.layout a.0.known a.0.known.locks after (newcomer_of b) b.made_leaf.fresh number b.words b.found node low_subtrie (ap (λ (z : NodeWords). z.fixed.height) low_node.shows) g risen here keeps (before keeps) made in
          subst (λ z. IsRaising table c.0 after_made (gone_unless_whole z number) (newcomer_of b) (entry number) (subtrie_of risen)) (sym whole)
          (record { news = after; building = building; leaf = leaf_stays; risen = risen_on table becomes a c after [] (newcomer_of b) (entry number) (subtrie_of risen) all kept })
      go (inr cut) =
          let fresh : keeps_node g ≡ false = sym is ∙ cut in
          subst (λ z. IsRaising table c.0 after_made (gone_unless_whole z number) (newcomer_of b) (entry number) (subtrie_of risen)) (sym cut)
          (record {
            news = after;
            building = building;
            leaf = leaf_stays;
            risen = risen_on table becomes a c after (a_node number ∷ []) (newcomer_of b) (entry number) (subtrie_of risen) all
                (rises_made table.layout a.0.known a.0.known.locks (made_of_leaf b.item b.made_leaf.fresh ∷ []) after [] (newcomer_of b) low_leaf number b.words b.found.locked node (Node number node.height) g risen
                (subtrie_grown new.position b.item.key (Leaf b.item.number) (piece node)) here fresh made low_grown);
          })

  -- the same, or no record for it
  pub lowest_made : (c : SeatView × G) (after_made : List Rec) (h : ℕ) → h ≡ node.height → (answer : Option (Risen × Bool)) → WorksOn table becomes m c →
      MatchOption answer (HasNotMade table c.0 after_made)
      (λ r. (after : List Made) × IsGrownFrom (Node number h) node new r.0 r.1 (made_of_leaf b.item b.made_leaf.fresh ∷ []) after × IsBuilding table c.0 after_made after) →
      MatchOption answer (HasNotMade table c.0 after_made) (λ r. IsRaising table c.0 after_made (gone_unless_whole r.1 number) (newcomer_of b) (entry number) (subtrie_of r.0))
  lowest_made c after_made h tall None goes made = made
  lowest_made c after_made h tall (Some r) goes (after, grown, building) =
      lowered c after_made grown.grown r.1 r.0 grown.shows grown.keeps grown.above goes after (subst (λ z. IsMadeFrom (Node number z) grown.grown r.0 (made_of_leaf b.item b.made_leaf.fresh ∷ []) after) tall grown.made) building

-- so of the node that was read
pub grown_for : {view node : NodeView} → view ≡ node → (number : ℕ) (new : NewLeaf) (risen : Risen) (stays : Bool) (before after : List Made) → IsGrownFrom (Node number view.height) view new risen stays before after →
    IsGrownFrom (Node number node.height) node new risen stays before after
grown_for same number new risen stays before after grown = subst (λ v. IsGrownFrom (Node number v.height) v new risen stays before after) same grown

-- ---- without a leaf
pub left_over : (table : TableView) (c : SeatView) (after_made : List Rec) (shown : Subtrie) (view : NodeView) (answer : Option Entry) → IsBuiltFrom view shown → HasNodeWords view →
    MatchOption answer (HasNotMade table c after_made) (λ e. (m : ℕ) × (e ≡ Node m view.height) × IsBuilding table c after_made (made_of_node m view ∷ [])) →
    MatchOption answer (HasNotMade table c after_made) (λ e. (news : List Made) × IsSide shown e news × IsBuilding table c after_made news)
left_over table c after_made shown view None built has made = made
left_over table c after_made shown view (Some e) built has (m, is, building) =
    (made_of_node m view ∷ [], subst (λ z. IsSide shown z (made_of_node m view ∷ [])) (sym is) (anew m view (has, built.height_is) built.shows_it), building)

-- ---- a pair
pub paired : (table : TableView) (a c : SeatView) (after_made : List Rec) (news : List Made) (view : NodeView) (shown : Subtrie) (answer : Option Entry) → IsBuiltFrom view shown →
    MatchOption answer (HasNotMade table c after_made) (λ e. (m : ℕ) × (e ≡ Node m view.height) × HasNodeWords view × IsBuilding table c after_made (made_of_node m view ∷ news)) →
    MatchOption answer (HasNotMade table c after_made) (λ e. (more : List Made) × IsSide shown e more × IsBuilding table c after_made (more ++ news))
paired table a c after_made news view shown None built made = made
paired table a c after_made news view shown (Some e) built (m, is, has, building) =
    (made_of_node m view ∷ [], subst (λ z. IsSide shown z (made_of_node m view ∷ [])) (sym is) (anew m view (has, built.height_is) built.shows_it), building)

-- ---- the topmost node
fork_risen : (table : TableView) (a : SeatView) (made : List Rec) (number q : ℕ) (z o : Entry) (risen : Risen) → risen ≡ Split q z o → (b : IsRisenAt table a made number risen) →
    HasRisen table.layout a.known a.known.locks b.raising.news b.newcomer (entry number) (Fork q (Place z) (Place o)) b.gone
fork_risen table a made number q z o risen is b =
    subst (λ (y : Risen). HasRisen table.layout a.known a.known.locks b.raising.news b.newcomer (entry number) (subtrie_of y) b.gone) is b.raising.risen

-- what a fork of two entries that has risen owes
pub risen_fork_is_pair : (table : TableView) (a : SeatView) (made : List Rec) (number q : ℕ) (z o : Entry) (risen : Risen) → risen ≡ Split q z o → IsRisenAt table a made number risen → IsPairOf q z o
risen_fork_is_pair table a made number q z o risen is b =
    let i = b.raising in
    let (t, subtrie_is, trie, built) = risen_subtrie table.layout a.known b.raising.news b.gone b.newcomer (entry number) b.words (Fork q (Place z) (Place o)) i.building.possible i.building.holds i.building.packed i.leaf b.locked
    (fork_risen table a made number q z o risen is b) in
    pair_facts q z o t subtrie_is trie built

pub settled : {G : Type 0} (table : TableView) (becomes : G → Event → G → Type 0) (a c : SeatView × G) (made after_made : List Rec) (number q : ℕ) (z o : Entry) (risen : Risen) → risen ≡ Split q z o →
    (b : IsRisenAt table a.0 made number risen) (view : NodeView) → IsBuiltFrom view (Fork q (Place z) (Place o)) → WorksOn table becomes a c → (answer : Option Entry) →
    MatchOption answer (HasNotMade table c.0 after_made) (λ e. (m : ℕ) × (e ≡ Node m view.height) × HasNodeWords view × IsBuilding table c.0 after_made (made_of_node m view ∷ b.raising.news)) →
    MatchOption answer (HasNotMade table c.0 after_made) (λ e. IsRaising table c.0 after_made b.gone b.newcomer (entry number) (Place e))
settled table becomes a c made after_made number q z o risen is b view built goes None answer = answer
settled table becomes a c made after_made number q z o risen is b view built goes (Some e) (m, e_is, has, building) =
    let i = b.raising in
    let here = subst (λ y. HasRisen table.layout a.0.known a.0.known.locks b.raising.news b.newcomer (entry number) y b.gone) (sym built.shows_it) (fork_risen table a.0 made number q z o risen is b) in
    let wrapped = rises_wrapped table.layout a.0.known a.0.known.locks b.raising.news b.gone b.newcomer i.leaf number b.words b.locked m view (has, built.height_is) here in
    record {
      news = made_of_node m view ∷ b.raising.news;
      building = building;
      leaf = (i.leaf.0, inr i.leaf.1, i.leaf.2);
      risen = risen_on table becomes a c (made_of_node m view ∷ b.raising.news) b.gone b.newcomer (entry number) (Place e) goes
          (subst (λ y. HasRisen table.layout a.0.known a.0.known.locks (made_of_node m view ∷ b.raising.news) b.newcomer (entry number) (Place y) b.gone) (sym e_is) wrapped);
    }

pub settled_whole : (table : TableView) (a : SeatView) (made : List Rec) (number : ℕ) (e : Entry) (risen : Risen) → risen ≡ Whole e → (b : IsRisenAt table a made number risen) → IsRaising table a made b.gone b.newcomer (entry number) (Place e)
settled_whole table a made number e risen is b = subst (λ (y : Risen). IsRaising table a made b.gone b.newcomer (entry number) (subtrie_of y)) is b.raising

-- ---- a full node gives a fork
split_made : (was : Entry) (g : Grown) (risen : Risen) (before after : List Made) → ¬ (IsTrue (is_whole g)) → IsMadeFrom was g risen before after → IsSplit risen
split_made was (Single v) risen before after cut made = absurd (cut refl)
split_made was (Two cut) (Whole e) before after two made = elim made [ ]
split_made was (Two cut) (Split q z o) before after two made = tt

-- and a node with room gives one entry
single_made : (was : Entry) (g : Grown) (risen : Risen) (before after : List Made) → IsTrue (is_whole g) → IsMadeFrom was g risen before after → IsSingle risen
single_made was (Single v) (Whole e) before after whole made = tt
single_made was (Single v) (Split q z o) before after whole made = elim made [ ]
single_made was (Two cut) risen before after whole made = absurd (let z : false ≡ true = whole in cc)

-- so what has risen from the node with these words; and the same where a claim may have failed, of a fork and of a leaf
level_made : (words : List ℕ) (node : NodeView) (was : Entry) (g : Grown) (risen : Risen) (before after : List Made) → IsNodeOf words node → height_of was ≡ node.height → IsNoHigher node.height g →
    (IsTrue (is_whole g) ↔ (length node.entries < 32)) → IsMadeFrom was g risen before after → IsLevelRisen words risen
level_made words node was g risen before after is tall low whole made =
    let long : length node.entries ≡ size (node_words_of words).subtrie = sym (size-piece node is.has.lawful) ∙ ap size (sym (ap (λ (z : NodeWords). z.subtrie) is.shows)) in
    record {
      low = subst (λ h. IsLowRisen h risen) (sym (ap (λ (z : NodeWords). z.fixed.height) is.shows)) (made_low was node.height g risen before after tall low made);
      split = λ full. split_made was g risen before after (λ t. absurd (let l = whole.0 t in omega (arith, long, full))) made;
      single = λ room. single_made was g risen before after (whole.1 (omega (arith, long, room))) made;
    }

pub fork_level : (words : List ℕ) (node : NodeView) (was : Entry) (g : Grown) (answer : Option Risen) (None_made : Type 0) (before : List Made) (Q : List Made → Type 0) → IsNodeOf words node → height_of was ≡ node.height → IsNoHigher node.height g →
    (IsTrue (is_whole g) ↔ (length node.entries < 32)) → MatchOption answer None_made (λ risen. (after : List Made) × IsMadeFrom was g risen before after × Q after) → IfSome answer (IsLevelRisen words)
fork_level words node was g None none before Q is tall low whole made = tt
fork_level words node was g (Some risen) none before Q is tall low whole (after, made, rest) = level_made words node was g risen before after is tall low whole made

pub leaf_level : (words : List ℕ) (node : NodeView) (was : Entry) (new : NewLeaf) (answer : Option (Risen × Bool)) (None_made : Type 0) (before : List Made) (Q : List Made → Type 0) → IsNodeOf words node → height_of was ≡ node.height →
    MatchOption answer None_made (λ r. (after : List Made) × IsGrownFrom was node new r.0 r.1 before after × Q after) → IfSome answer (λ r. IsLevelRisen words r.0)
leaf_level words node was new None none before Q is tall made = tt
leaf_level words node was new (Some r) none before Q is tall (after, grown, rest) = level_made words node was grown.grown r.0 before after is tall grown.low grown.whole grown.made

-- ---- the height of what has risen, as one entry
pub whole_height : (h : ℕ) (e : Entry) (risen : Risen) → risen ≡ Whole e → IsLowRisen h risen → IsAtMostOneHigher h risen e
whole_height h e risen is low = let l : IsLowRisen h (Whole e) = subst (IsLowRisen h) is low in (omega (arith, l), λ s. l)

pub split_height : (h q : ℕ) (z o : Entry) (risen : Risen) (view : NodeView) (none has : Type 0) (rest : ℕ → Type 0) (answer : Option Entry) → risen ≡ Split q z o → IsLowRisen h risen → IsBuiltFrom view (Fork q (Place z) (Place o)) →
    MatchOption answer none (λ e. (m : ℕ) × (e ≡ Node m view.height) × has × rest m) → IfSome answer (IsAtMostOneHigher h risen)
split_height h q z o risen view none has rest None is low built made = tt
split_height h q z o risen view none has rest (Some e) is low built (m, e_is, spelled, more) =
    let l : IsLowRisen h (Split q z o) = subst (IsLowRisen h) is low in
    let tall : view.height ≤ h + 1 = built_low view (Fork q (Place z) (Place o)) (h + 1) built (omega (arith, l.0, l.1)) in
    let same : height_of e ≡ view.height = ap height_of e_is in
    (omega (arith, tall, same), λ s. absurd (let f : IsSingle (Split q z o) = subst IsSingle is s in f))

-- so beside the node with these words, which gave one entry where it had room
pub fits_above : (words : List ℕ) (risen : Risen) (answer : Option Entry) → (size (node_words_of words).subtrie < 32 → IsSingle risen) → IfSome answer (IsAtMostOneHigher (node_words_of words).fixed.height risen) → IfSome answer (FitsAbove words)
fits_above words risen None single low = tt
fits_above words risen (Some e) single low = (low.0, λ room. low.1 (single room))

-- ---- on upwards
-- under another name for the node, or for what has risen
abbrev risen_as : (table : TableView) (a : SeatView) (made : List Rec) (n m : ℕ) (risen then : Risen) → n ≡ m → risen ≡ then → IsRisenAt table a made n risen → IsRisenAt table a made m then
risen_as table a made n m risen then same is here = record {
  gone = here.gone;
  newcomer = here.newcomer;
  words = here.words;
  locked = subst (λ k. HasLocked a.known k here.words) same here.locked;
  raising = subst (λ (y : Risen). IsRaising table a made here.gone here.newcomer (entry m) (subtrie_of y)) is
      (subst (λ k. IsRaising table a made here.gone here.newcomer (entry k) (subtrie_of risen)) same here.raising);
}

-- the nodes that go, one more
pub gone_more : (way : List PathNode) (end above level : ℕ) (gone : List Rec) (s : PathNode) → above + 1 ≡ level → end ≤ above → slice_get way above ≡ Some s → gone_with_way way end above (a_node s.number ∷ gone) ≡ gone_with_way way end level gone
gone_more way end above level gone s next upto at =
    let within : above < length way = slice_get_within way above s at in
    let f : PathNode → Rec = λ (z : PathNode). a_node z.number in
    let all : take level way ≡ take above way ++ s ∷ [] = ap (λ n. take n way) (sym next) ∙ (take_more way above s within ∙ ap (λ z. take above way ++ z ∷ []) (get_or_from_slice_get way above s s at)) in
    let long : end ≤ length (take above way) = let e = length-take-le above way (omega arith) in omega arith in
    let parts : drop end (take level way) ≡ drop end (take above way) ++ s ∷ [] = ap (drop end) all ∙ drop-append-le end (take above way) (s ∷ []) long in
    sym (ap (λ z. map f z ++ gone) parts ∙ (ap (λ z. z ++ gone) (map-append f (drop end (take above way)) (s ∷ [])) ∙ append_assoc (map f (drop end (take above way))) (a_node s.number ∷ []) gone))

pub gone_with_no_node : (way : List PathNode) (end : ℕ) (gone : List Rec) → gone_with_way way end end gone ≡ gone
gone_with_no_node way end gone =
    let zero : end + 0 ≡ end = omega arith in
    ap (λ z. map (λ (s : PathNode). a_node s.number) z ++ gone) (ap (λ n. drop end (take n way)) (sym zero) ∙ drop-take end 0 way)

-- What has risen since then rises on for the same newcomer, and what goes with the way from there is what goes with it from here.
pub record RisesOn {table : TableView} {a : SeatView} {made : List Rec} {way : List PathNode} {rise : Rise} (before : Rises table a made way rise) (b : SeatView) (built : List Rec) (next : Rise) : Type 0 where
  pub up : Rises table b built way next
  pub newcomer : up.here.newcomer ≡ before.here.newcomer
  pub end : next.end ≡ rise.end
  pub gone : gone_with_way way next.end next.level up.here.gone ≡ gone_with_way way rise.end rise.level before.here.gone

-- a fork that rises into the node above
module _ {table : TableView} {a : SeatView} {made : List Rec} {way : List PathNode} {rise : Rise} (up : Rises table a made way rise) (below : rise.end < rise.level) where
  pub up_within : rise.level - 1 < length way
  up_within = let h = slice_get_within way rise.level up.step up.at in omega (arith, h)

  abbrev pub up_step : PathNode
  up_step = get_or way (rise.level - 1) no_step

  pub up_at : slice_get way (rise.level - 1) ≡ Some up_step
  up_at = slice_get-get_or way (rise.level - 1) no_step up_within

  pub next : rise.level - 1 + 1 ≡ rise.level
  next = omega (arith, below)

  pub up_over : (over : IsLockedAbove a.known.locks up.here.newcomer.item.key up.here.newcomer.mismatch up_step.number up.step.number) × ((node_words_of over.lower).fixed.height < (node_words_of over.upper).fixed.height)
  up_over = up.chain.above (rise.level - 1) up_step up.step (omega (arith, below)) (omega (arith, below)) up_at (ap (slice_get way) next ∙ up.at)

  pub up_there : up_step.number < table.layout.nodes
  up_there = up.chain.there (rise.level - 1) up_step (omega (arith, below)) up_at

  abbrev pub up_below : (fork : NewFork) → fork.key.now ≡ rise.key.now → rise.risen ≡ Split fork.position fork.zero fork.one → GetsFork table a made up_step.number fork
  up_below fork key is =
      let sides : IsLowRisen (node_words_of up_over.0.lower).fixed.height (Split fork.position fork.zero fork.one) = subst (IsLowRisen (node_words_of up_over.0.lower).fixed.height) is (up.low up_over.0.lower up_over.0.has_lower) in
      let h = up_over.1 in
      record {
        lower = up.step.number;
        here = risen_as table a made up.step.number up.step.number rise.risen (Split fork.position fork.zero fork.one) refl is up.here;
        key_is = key ∙ up.key_is;
        over = up_over.0;
        zero_low = omega (arith, sides.0);
        one_low = omega (arith, sides.1);
      }

  abbrev pub up_on : {m : SeatView} {made_then : List Rec} (then : Risen) → m.known.locks ≡ a.known.locks → IsRaising table m made_then (a_node up_step.number ∷ up.here.gone) up.here.newcomer (entry up_step.number) (subtrie_of then) →
      ((words : List ℕ) → HasLocked a.known up_step.number words → IsLevelRisen words then) → RisesOn up m made_then (record { key = rise.key; end = rise.end; level = rise.level - 1; risen = then })
  up_on {m} {made_then} then locks raising rises =
      let before : (words : List ℕ) → HasLocked m.known up_step.number words → HasLocked a.known up_step.number words = λ words. subst (IsOneOf (record { node = up_step.number; words = words })) locks in
      record {
        up = record {
          step = up_step;
          at = up_at;
          upto = omega (arith, below);
          here = record {
            gone = a_node up_step.number ∷ up.here.gone;
            newcomer = up.here.newcomer;
            words = up_over.0.upper;
            locked = subst (IsOneOf (record { node = up_step.number; words = up_over.0.upper })) (sym locks) up_over.0.has_upper;
            raising = raising;
          };
          key_is = up.key_is;
          low = λ other h. (rises other (before other h)).low;
          split = λ more. (rises up_over.0.upper up_over.0.has_upper).split (up.chain.full (rise.level - 1) up_step more (omega (arith, below)) up_at up_over.0.upper up_over.0.has_upper);
          single = λ other h. (rises other (before other h)).single;
          chain = subst (λ held. IsLockedSpan table.layout.nodes held way up.here.newcomer.item.key up.here.newcomer.mismatch rise.end (rise.level - 1)) (sym locks) (record {
            there = λ i u l e. up.chain.there i u (omega arith) e;
            above = λ i u v l h e f. up.chain.above i u v l (omega arith) e f;
            full = λ i u l h e. up.chain.full i u l (omega arith) e;
          });
        };
        newcomer = refl;
        end = refl;
        gone = gone_more way rise.end (rise.level - 1) rise.level up.here.gone up_step next (omega (arith, below)) up_at;
      }

-- the end of the way up
module _ {table : TableView} {a : SeatView} {made : List Rec} {way : List PathNode} {rise : Rise} (up : Rises table a made way rise) where
  pub settled_at_end : (c : SeatView) (after : List Rec) (answer : Option Entry) → rise.level ≡ rise.end →
      MatchOption answer (HasNotMade table c after) (λ e. IsRaising table c after up.here.gone up.here.newcomer (entry up.step.number) (Place e)) →
      MatchOption answer (HasNotMade table c after) (HasRisenTo table c after way up.here.newcomer rise.end (gone_with_way way rise.end rise.level up.here.gone))
  settled_at_end c after None same given = given
  settled_at_end c after (Some e) same raising =
      let gone : gone_with_way way rise.end rise.level up.here.gone ≡ up.here.gone = ap (λ n. gone_with_way way rise.end n up.here.gone) same ∙ gone_with_no_node way rise.end up.here.gone in (
        up.step,
        ap (slice_get way) (sym same) ∙ up.at,
        subst (λ y. IsRaising table c after y up.here.newcomer (entry up.step.number) (Place e)) (sym gone) raising,
      )

-- nothing has yet
pub rises_here : {table : TableView} {a : SeatView} {made : List Rec} {way : List PathNode} {rise : Rise} (up : Rises table a made way rise) → RisesOn up a made rise
rises_here up = record { up = up; newcomer = refl; end = refl; gone = refl }

-- so of what has risen on
module _ {table : TableView} {a : SeatView} {made : List Rec} {way : List PathNode} {rise : Rise} {before : Rises table a made way rise} {b : SeatView} {built : List Rec} {next : Rise} (on : RisesOn before b built next) where
  pub rises_then : {c : SeatView} {more : List Rec} {last : Rise} → RisesOn on.up c more last → RisesOn before c more last
  rises_then then = record { up = then.up; newcomer = then.newcomer ∙ on.newcomer; end = then.end ∙ on.end; gone = then.gone ∙ on.gone }

  pub settled_on : (c : SeatView) (after : List Rec) (answer : Option Entry) → next.level ≡ next.end →
      MatchOption answer (HasNotMade table c after) (λ e. IsRaising table c after on.up.here.gone on.up.here.newcomer (entry on.up.step.number) (Place e)) →
      MatchOption answer (HasNotMade table c after) (HasRisenTo table c after way before.here.newcomer rise.end (gone_with_way way rise.end rise.level before.here.gone))
  settled_on c after answer same given =
      subst (λ x. MatchOption answer (HasNotMade table c after) (HasRisenTo table c after way x rise.end (gone_with_way way rise.end rise.level before.here.gone))) on.newcomer
      (subst (λ g. MatchOption answer (HasNotMade table c after) (HasRisenTo table c after way on.up.here.newcomer rise.end g)) on.gone
      (subst (λ n. MatchOption answer (HasNotMade table c after) (HasRisenTo table c after way on.up.here.newcomer n (gone_with_way way next.end next.level on.up.here.gone))) on.end
      (settled_at_end on.up c after answer same given)))

-- ---- all of a span
module _ {table : TableView} {a : SeatView} {made : List Rec} {way : List PathNode} {span : Span} {new : NewLeaf} (b : IsGrowing table a made way span new) where
  abbrev pub number : ℕ
  number = (get_or way (span.len - 1) no_step).number

  pub number_is : number ≡ b.step.number
  number_is = ap (λ (z : PathNode). z.number) (get_or_from_slice_get way (span.len - 1) b.step no_step b.at)

  abbrev pub low_at : GetsLeaf table a made number new
  low_at = record {
    since = b.lowest.since;
    item = b.lowest.item;
    like = b.lowest.like;
    words = b.lowest.words;
    key_is = b.lowest.key_is;
    leaf_is = b.lowest.leaf_is;
    made_leaf = b.lowest.made_leaf;
    found = subst (λ n. HasFoundBelow a.known a.known.locks (newcomer_of b.lowest) n b.lowest.words) (sym number_is) b.lowest.found;
    part = b.lowest.part;
    leads = b.lowest.leads;
  }

  abbrev pub up_first : {m : SeatView} {made_then : List Rec} (then : Risen) (stays : Bool) → m.known.locks ≡ a.known.locks → IsRaising table m made_then (gone_unless_whole stays number) (newcomer_of b.lowest) (entry number) (subtrie_of then) →
      ((words : List ℕ) → HasLocked a.known number words → IsLevelRisen words then) → Rises table m made_then way (record { key = new.key; end = span.end; level = span.len - 1; risen = then })
  up_first {m} {made_then} then stays locks raising rises =
      let before : (words : List ℕ) → HasLocked m.known b.step.number words → HasLocked a.known number words =
      λ words h. subst (λ n. HasLocked a.known n words) (sym number_is) (subst (IsOneOf (record { node = b.step.number; words = words })) locks h) in
      record {
        step = b.step;
        at = b.at;
        upto = b.upto;
        here = record {
          gone = gone_unless_whole stays number;
          newcomer = newcomer_of b.lowest;
          words = b.lowest.words;
          locked = subst (IsOneOf (record { node = b.step.number; words = b.lowest.words })) (sym locks) b.lowest.found.locked;
          raising = subst (λ n. IsRaising table m made_then (gone_unless_whole stays number) (newcomer_of b.lowest) (entry n) (subtrie_of then)) number_is raising;
        };
        key_is = b.lowest.key_is;
        low = λ other h. (rises other (before other h)).low;
        split = λ more. (rises b.lowest.words (subst (λ n. HasLocked a.known n b.lowest.words) (sym number_is) b.lowest.found.locked)).split (b.full more);
        single = λ other h. (rises other (before other h)).single;
        chain = subst (λ held. IsLockedSpan table.layout.nodes held way b.lowest.item.key new.position span.end (span.len - 1)) (sym locks) b.chain;
      }
