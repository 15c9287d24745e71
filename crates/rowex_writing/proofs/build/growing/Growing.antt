-- From what a pass knows under its locks to the way up of a new leaf.
use Rattle.rowex_writing.proofs.Common.{◌≡◌, inl, inr, ◌⊎◌, ⊎_elim, ℕ, zero, suc, ◌+◌, ◌-◌, ◌<◌, ◌≤◌, Bool, true, false, List, [], ◌∷◌, length, refl, sym, ap, subst, ◌∙◌, arith, le_trans, if◌then◌else◌, nat_lt, ◌&&◌, Some, None, slice_get, cases_lt, le-ltb, ltb-true, piece, height_of, Entry, LeafEntry, Node, IsLevel, IsChosen, IsChainEnd, case_of, Case, LeafPushdown, NormalInsert, Overflow, Choice, PathNode, key_part, some_injective, some_at, NodeWords, Past, a_node, all_of, size_pos, Place, Fork, size, HasLeafWords, Layout, IsPastFilling, IsPinnedSince, IsPacked, node_words_of, IsLocked, Spot, Known, knows_all, node_is, IsPossible, Sure, IsSpotOf, HasFoundBelow, IsLockedAbove, IsSure, above_goes_on, descent_begins, descent_ends, descent_finds, descent_goes_on, seen_is_sure, EntryStoodSince, IsPlaced, HadShapeSince, IsRead, way_of_leaf, subtrie_affected, FirstForkIsBefore, IsLeafOrForkSubtrie, IsTipSubtrie, Key, bit, seek, Subtrie, first_position, size-piece, IsWayNode, IsWayOf, end_of, named, named_at, named_end, Found, Nothing, Leaf, item, spot}
use Rattle.versions.specs.Frames.{IsGrown}
use Rattle.version_laws.specs.Ways.{IsOnWay, IsWayFrom}
use Rattle.version_laws.proofs.Scan.Persist.{placed_grown, shaped_grown, read_grown}
use Rattle.rowex_writing.specs.build.Building.{FitsAbove, IsLockedSpan}
use Rattle.rowex_writing.specs.locks.Checks.{IsChecked}
use Rattle.rowex_writing.specs.locks.Going.{HasLocked}
use Rattle.rowex_writing.specs.locks.Locks.{HasLockedSpan}
use Rattle.rowex_writing.specs.build.Putting.{IsSpotAbove}
use Rattle.rowex_writing.specs.plan.Plans.{change, IsCase, IsNewLeafPlan}
use Rattle.rowex_writing.specs.plan.Planned.{AffectsJust, AreAffected, IsPlanned}
use Rattle.rowex_writing.specs.declared.plan.Aim.{Aim}
use Rattle.rowex_writing.specs.declared.plan.Aim.TheVariants.{Insert, Upsert, Remove}
use Rattle.rowex_writing.specs.declared.plan.Deed.TheVariants.{Empty, Grow, PushDown, Put, Take, TakeTop, Value}
use Rattle.rowex_writing.specs.declared.plan.Plan.{Plan}
use Rattle.rowex_writing.specs.declared.plan.Plan.TheVariants.{Answer, Change}
use Rattle.rowex_writing.specs.declared.plan.Span.{Span}
use Rattle.rowex_writing.proofs.plan.Plans.{chosen_within, same_span, takes_too}
use Rattle.rowex_writing.proofs.build.Above.{locked_at, holds_above}
use Rattle.rowex_writing.proofs.locks.Shapes.{IsStepOf, locked_shape, shape_affects, way_node_locked}
use Rattle.rowex_writing.proofs.build.Staging.{stage_of_held}

-- ---- the plan
-- a plan by which a node gets the new leaf
pub record IsGrowPlan (k : Known) (m : ℕ) (key : Key) (way : List PathNode) (found : Found) (len end position : ℕ) : Type 0 where
  pub number : ℕ
  pub value : ℕ
  pub level : ℕ
  pub low : ℕ
  pub high : ℕ
  pub chosen : Choice
  pub found_is : found ≡ Leaf number value (Some position)
  pub is_level : IsLevel way position level
  pub is_chosen : IsChosen way level low high chosen
  pub len_is : len ≡ chosen.level + 1
  pub chain : IsChainEnd way chosen.level end
  pub affected : AreAffected k m key way (Leaf number value (Some position)) low high

-- what the choice is, and why
abbrev IsSeveral : List PathNode → (level first last : ℕ) → Choice → Type 0
IsSeveral way level first last c = (first < last) × (s : PathNode) × (slice_get way level ≡ Some s) × (c ≡ record { level = level; first = first; last = last; case = case_of s.height s.count false })

abbrev IsNext : List PathNode → (level first last : ℕ) → Choice → Type 0
IsNext way level first last c =
    (last ≤ first) × (s : PathNode) × (slice_get way (level + 1) ≡ Some s) × (c ≡ record { level = level + 1; first = 0; last = s.count - 1; case = case_of s.height s.count false })

abbrev IsOnLeaf : List PathNode → (level first last : ℕ) → Choice → Type 0
IsOnLeaf way level first last c =
    (last ≤ first) × (length way ≤ level + 1) × (s : PathNode) × (slice_get way level ≡ Some s) × (c ≡ record { level = level; first = first; last = last; case = case_of s.height s.count true })

chosen_is : (way : List PathNode) (level first last : ℕ) (c : Choice) → level < length way → IsChosen way level first last c → IsSeveral way level first last c ⊎ (IsNext way level first last c ⊎ IsOnLeaf way level first last c)
chosen_is way level first last c h is = ⊎_elim several (λ o. ⊎_elim (next o) (leaf o) (cases_lt (level + 1) (length way))) (cases_lt first last)
  where
    here : (s : PathNode) × (slice_get way level ≡ Some s)
    here = some_at way level h

    several : first < last → IsSeveral way level first last c ⊎ (IsNext way level first last c ⊎ IsOnLeaf way level first last c)
    several o = inl (o, here.0, here.1, is.several o here.0 here.1)

    next : last ≤ first → level + 1 < length way → IsSeveral way level first last c ⊎ (IsNext way level first last c ⊎ IsOnLeaf way level first last c)
    next o m = let s = some_at way (level + 1) m in inr (inl (o, s.0, s.1, is.next o s.0 s.1))

    leaf : last ≤ first → length way ≤ level + 1 → IsSeveral way level first last c ⊎ (IsNext way level first last c ⊎ IsOnLeaf way level first last c)
    leaf o m = inr (inr (o, m, here.0, here.1, is.leaf o m here.0 here.1))

-- it goes by the count of the chosen node
case_there : (way : List PathNode) (level first last : ℕ) (c : Choice) → level < length way → IsChosen way level first last c → (s : PathNode) → slice_get way c.level ≡ Some s → (b : Bool) × (c.case ≡ case_of s.height s.count b)
case_there way level first last c h is s at = elim (chosen_is way level first last c h is) [
  | inl (o, u, e, c_is) ↦ (false, by u level false e (ap (λ (z : Choice). z.level) c_is) (ap (λ (z : Choice). z.case) c_is))
  | inr o ↦ elim o [
    | inl (l, u, e, c_is) ↦ (false, by u (level + 1) false e (ap (λ (z : Choice). z.level) c_is) (ap (λ (z : Choice). z.case) c_is))
    | inr (l, m, u, e, c_is) ↦ (true, by u level true e (ap (λ (z : Choice). z.level) c_is) (ap (λ (z : Choice). z.case) c_is))
  ]
]
  where
    by : (u : PathNode) (l : ℕ) (b : Bool) → slice_get way l ≡ Some u → c.level ≡ l → c.case ≡ case_of u.height u.count b → c.case ≡ case_of s.height s.count b
    by u l b e level_is case = let same : u ≡ s = some_injective (sym e ∙ (ap (slice_get way) (sym level_is) ∙ at)) in case ∙ ap (λ (z : PathNode). case_of z.height z.count b) same

case_room : (h n : ℕ) (b : Bool) → case_of h n b ≡ NormalInsert → n < 32
case_room h n b is = ltb-true n 32 (go (b && nat_lt 1 h) (nat_lt n 32) is)
  where
    go : (u v : Bool) → (if u then LeafPushdown else (if v then NormalInsert else Overflow)) ≡ NormalInsert → v ≡ true
    go true v e = absurd cc
    go false true e = refl
    go false false e = absurd cc

-- a node with room is the end of its chain
one_chain : (way : List PathNode) (level first last : ℕ) (c : Choice) → level < length way → IsChosen way level first last c → c.case ≡ NormalInsert → IsChainEnd way c.level c.level
one_chain way level first last c h is case = record {
  upto = omega arith;
  pulls = λ l s u le lt e f. absurd (omega arith);
  stops = λ l s u next e f full. absurd (let (b, is_case) = case_there way level first last c h is s e in let room = case_room s.height s.count b (sym is_case ∙ case) in omega (arith, full));
}

abbrev IsGrowOf : (position : ℕ) → Plan → Type 0
IsGrowOf position (Answer reply) = ⊥
IsGrowOf position (Change span (Grow p)) = p ≡ position
IsGrowOf position (Change span (Put)) = ⊥
IsGrowOf position (Change span (Value)) = ⊥
IsGrowOf position (Change span (PushDown p)) = ⊥
IsGrowOf position (Change span (Take)) = ⊥
IsGrowOf position (Change span (TakeTop)) = ⊥
IsGrowOf position (Change span (Empty)) = ⊥

module _ (k : Known) (m : ℕ) (key : Key) (way : List PathNode) (len end position : ℕ) where
  abbrev plan : Plan
  plan = change len end (Grow position)

  no_other : (other : Plan) → plan ≡ other → ¬ (IsGrowOf position other) → ⊥
  no_other other is other_deed = other_deed (subst (IsGrowOf position) is refl)

  grown : (number value p level low high : ℕ) (c : Choice) → IsLevel way p level → IsChosen way level low high c → AreAffected k m key way (Leaf number value (Some p)) low high → (end_at : ℕ) → IsChainEnd way c.level end_at →
      plan ≡ change (c.level + 1) end_at (Grow p) → IsGrowPlan k m key way (Leaf number value (Some p)) len end position
  grown number value p level low high c at is affected end_at chain same =
      let pos : IsGrowOf position (change (c.level + 1) end_at (Grow p)) = subst (IsGrowOf position) same refl in
      record {
        number = number;
        value = value;
        level = level;
        low = low;
        high = high;
        chosen = c;
        found_is = ap (λ z. Leaf number value (Some z)) pos;
        is_level = subst (λ z. IsLevel way z level) pos at;
        is_chosen = is;
        len_is = (same_span same).0;
        chain = subst (IsChainEnd way c.level) (sym (same_span same).1) chain;
        affected = subst (λ z. AreAffected k m key way (Leaf number value (Some z)) low high) pos affected;
      }

  by_case : (number value p level low high : ℕ) (c : Choice) (case : Case) → c.case ≡ case → IsLevel way p level → IsChosen way level low high c → AreAffected k m key way (Leaf number value (Some p)) low high →
      IsCase way p c case plan → IsGrowPlan k m key way (Leaf number value (Some p)) len end position
  by_case number value p level low high c LeafPushdown e at is affected same = absurd (no_other _ same (λ z. z))
  by_case number value p level low high c NormalInsert e at is affected same = grown number value p level low high c at is affected c.level (one_chain way level low high c at.within is e) same
  by_case number value p level low high c Overflow e at is affected (end_at, chain, same) = grown number value p level low high c at is affected end_at chain same

  new_leaf : (number value p low high : ℕ) → IsNewLeafPlan way p low high plan → AreAffected k m key way (Leaf number value (Some p)) low high → IsGrowPlan k m key way (Leaf number value (Some p)) len end position
  new_leaf number value p low high is affected = go way refl is
    where
      go : (w : List PathNode) → w ≡ way → IsNewLeafPlan w p low high plan → IsGrowPlan k m key way (Leaf number value (Some p)) len end position
      go [] e same = absurd (no_other _ same (λ z. z))
      go (s ∷ ss) e (level, at, (c, chosen, case)) =
          by_case number value p level low high c c.case refl (subst (λ w. IsLevel w p level) e at) (subst (λ w. IsChosen w level low high c) e chosen) affected (subst (λ w. IsCase w p c c.case plan) e case)

  pub grow_plan : (aim : Aim) (found : Found) → IsPlanned k m key way aim found (change len end (Grow position)) → IsGrowPlan k m key way found len end position
  grow_plan Insert Nothing (low, high, is, affected) = absurd (no_other _ is (λ z. z))
  grow_plan Upsert Nothing (low, high, is, affected) = absurd (no_other _ is (λ z. z))
  grow_plan Remove Nothing (low, high, is, affected) = absurd (no_other _ is (λ z. z))
  grow_plan Insert (Leaf n v None) (low, high, is, affected) = absurd (no_other _ is (λ z. z))
  grow_plan Upsert (Leaf n v None) (low, high, is, affected) = absurd (no_other _ is (λ z. z))
  grow_plan Remove (Leaf n v None) (low, high, is, affected) = absurd (takes_too way is)
  grow_plan Remove (Leaf n v (Some p)) (low, high, is, affected) = absurd (no_other _ is (λ z. z))
  grow_plan Insert (Leaf n v (Some p)) (low, high, is, affected) = new_leaf n v p low high is affected
  grow_plan Upsert (Leaf n v (Some p)) (low, high, is, affected) = new_leaf n v p low high is affected

-- ---- the affected part
-- more than one entry
part_of_two : (y : Subtrie) → 1 < size y → IsLeafOrForkSubtrie y
part_of_two (Place e) h = absurd (omega arith)
part_of_two (Fork q a b) h = tt

-- one entry
tip_of_one_place : (y : Subtrie) → size y ≤ 1 → IsTipSubtrie y
tip_of_one_place (Place e) h = tt
tip_of_one_place (Fork q a b) h = let l = size_pos a in let r = size_pos b in absurd (omega arith)

-- which is that of the key's search
tip_seek : (p : ℕ) (key : Key) (x : Subtrie) → IsTipSubtrie (subtrie_affected p key x) → subtrie_affected p key x ≡ Place (seek key x)
tip_seek p key (Place e) h = refl
tip_seek p key (Fork q x y) h = go (nat_lt q p) (bit key q) (tip_seek p key x) (tip_seek p key y) h
  where
    go : (u o : Bool) → (IsTipSubtrie (subtrie_affected p key x) → subtrie_affected p key x ≡ Place (seek key x)) → (IsTipSubtrie (subtrie_affected p key y) → subtrie_affected p key y ≡ Place (seek key y)) →
        IsTipSubtrie (if u then (if o then subtrie_affected p key y else subtrie_affected p key x) else Fork q x y) →
        (if u then (if o then subtrie_affected p key y else subtrie_affected p key x) else Fork q x y) ≡ Place (if o then seek key y else seek key x)
    go true true f g h = g h
    go true false f g h = f h
    go false o f g h = elim h [ ]

size_affected : (key : Key) (p first last : ℕ) (x : Subtrie) → AffectsJust key p first last x → size (subtrie_affected p key x) + first ≡ last + 1
size_affected key p first last x a = ap (λ j. j + first) (sym ((key_part key p x).count)) ∙ a.upto

-- a subtrie of two entries or more whose first fork is not before the position
abbrev IsForked : Subtrie → Type 0
IsForked (Place e) = ⊥
IsForked (Fork q a b) = Unit {0}

forked_big : (x : Subtrie) → 2 ≤ size x → IsForked x
forked_big (Place e) h = absurd (omega arith)
forked_big (Fork q a b) h = tt

whole_part : (key : Key) (p : ℕ) (x : Subtrie) → IsForked x → p ≤ first_position x → IsLeafOrForkSubtrie (subtrie_affected p key x)
whole_part key p (Place e) f h = elim f [ ]
whole_part key p (Fork q a b) f h = let e : nat_lt q p ≡ false = le-ltb q p h in rw e tt

below_first : (p : ℕ) (x : Subtrie) → IsForked x → first_position x < p → FirstForkIsBefore p x
below_first p (Place e) f h = elim f [ ]
below_first p (Fork q a b) f h = h

-- ---- the rest of the way
seen_on : (m : ℕ) (e : Entry) (a b : Past) → IsGrown a b → EntryStoodSince a m e → EntryStoodSince b m e
seen_on m e a b g (n, u, lo, hi, st, is) = (n, u, lo, le_trans hi g.longer, record { tree = st.tree; is_version = g.kept n hi ∙ st.is_version; within = st.within; is_record = st.is_record }, is)

module _ (layout : Layout) (k : Known) (m : ℕ) (key : Key) (number value p : ℕ) (since : IsPinnedSince k m) (l : Key) (read : Sure k (λ past. IsRead past m number l value)) where
  abbrev found : Found
  found = Leaf number value (Some p)

  abbrev AreWay : List PathNode → Type 0
  AreWay way = (i : ℕ) (s : PathNode) → slice_get way i ≡ Some s → (e : Entry) × (named way found (i + 1) ≡ Some e) × IsWayNode layout k m key s e

  rest_of : (s : PathNode) (way : List PathNode) → AreWay (s ∷ way) → AreWay way
  rest_of s way nodes i u at =
      let later : suc i + 1 ≡ suc (i + 1) = omega arith in subst (λ z. (e : Entry) × (named (s ∷ way) found z ≡ Some e) × IsWayNode layout k m key u e) later (nodes (suc i) u at)

  sure_read : IsSure k (λ s. IsRead s m number l value)
  sure_read = seen_is_sure k (λ s. IsRead s m number l value) (λ a b g. read_grown a b g m number l value) read

  -- from a node of the way down to the leaf
  goes_down : (r a : ℕ) (way : List PathNode) → AreWay way → (e : Entry) → named way found 0 ≡ Some e → IsSure k (λ s. IsOnWay s m r a e) → IsSure k (λ s. IsOnWay s m r a (LeafEntry number))
  goes_down r a [] nodes e is on = subst (λ z. IsSure k (λ s. IsOnWay s m r a z)) (sym (some_injective is)) on
  goes_down r a (s ∷ way) nodes e is on =
      let (next, named_is, node) = nodes 0 s refl in
      let placed : IsSure k (λ z. IsPlaced z m s.number s.slot next) = seen_is_sure k (λ z. IsPlaced z m s.number s.slot next) (λ x y g. placed_grown x y g m s.number s.slot next) node.placed in
      goes_down r a way (rest_of s way nodes) next named_is
      (descent_goes_on k m r a s.number s.height s.slot next since (subst (λ z. IsSure k (λ s. IsOnWay s m r a z)) (sym (some_injective is)) on) placed)

  -- from what the way names at a level
  pub way_from : (way : List PathNode) → AreWay way → (i : ℕ) (e : Entry) → named way found i ≡ Some e → IsSure k (λ s. IsWayFrom s m l e)
  way_from [] nodes i e is = subst (λ z. IsSure k (λ s. IsWayFrom s m l z)) (some_injective is) (λ c law recalls. way_of_leaf c.past m number l value (sure_read c law recalls))
  way_from (s ∷ way) nodes zero e is =
      let (next, named_is, node) = nodes 0 s refl in
      let led : IsSure k (λ z. EntryStoodSince z m (Node s.number s.height)) = seen_is_sure k (λ z. EntryStoodSince z m (Node s.number s.height)) (seen_on m (Node s.number s.height)) node.seen in
      let shaped : IsSure k (λ z. HadShapeSince z m s.number node.forks) = seen_is_sure k (λ z. HadShapeSince z m s.number node.forks) (λ x y g. shaped_grown x y g m s.number node.forks) node.shaped in
      let r : ℕ = first_position node.forks in
      let begun = descent_begins k m s.number s.height r node.forks since led shaped refl in
      let down = goes_down r s.number (s ∷ way) nodes (Node s.number s.height) refl begun in
      subst (λ z. IsSure k (λ s. IsWayFrom s m l z)) (some_injective is) (descent_ends k m r s.number s.height number l value since down sure_read)
  way_from (s ∷ way) nodes (suc i) e is = way_from way (rest_of s way nodes) i e is

-- ---- the locked nodes of a span
module _ (layout : Layout) (k : Known) (m : ℕ) (key : Key) (way : List PathNode) (found : Found) (span : Span) (possible : IsPossible layout k) (own : k.own ≡ []) (w : IsWayOf layout k m key way found) (locked : HasLockedSpan k way span)
    (checked : IsChecked k key way found span) where
  -- each is locked
  pub held_at : (i : ℕ) (s : PathNode) → span.end ≤ i + 1 → i < span.len → slice_get way i ≡ Some s → (words : List ℕ) × HasLocked k s.number words
  held_at i s low high at = locked_at k way span locked i s low high at

  -- what its words show
  step_at : (i : ℕ) (s : PathNode) (at : slice_get way i ≡ Some s) (words : List ℕ) → HasLocked k s.number words → IsStepOf key s (w.nodes i s at).2.forks (node_words_of words)
  step_at i s at words h = let n = w.nodes i s at in way_node_locked layout k m key s n.0 words possible w.since n.2 h

  forked : (n : ℕ) (words : List ℕ) → HasLocked k n words → IsForked (node_words_of words).subtrie
  unfolding IsPacked
  forked n words h =
      let (lock, tree, same) = all_of (IsLocked k.pass possible.core) (record { node = n; words = words }) k.locks (knows_all possible.core k possible.knows).locks h in
      let (view, has, spells) = possible.lawful.records.packed (a_node n) (subst IsPastFilling (sym tree.1) tt) in
      let shows = node_is view (possible.core.words (a_node n)) (possible.lawful.records.sized (a_node n)).1 has spells in
      let subtrie_is : (node_words_of words).subtrie ≡ piece view = ap (λ (z : NodeWords). z.subtrie) (ap node_words_of (sym same) ∙ shows) in
      forked_big (node_words_of words).subtrie (let e = ap size subtrie_is ∙ size-piece view has.lawful in let l = has.lawful.several in omega (arith, e))

  -- the locked node above names the one below, which is lower
  over : (p i : ℕ) (s u : PathNode) (ws wu : List ℕ) → span.end ≤ i + 1 → i < span.len → slice_get way i ≡ Some s → slice_get way (i + 1) ≡ Some u → HasLocked k s.number ws → HasLocked k u.number wu →
      FirstForkIsBefore p (node_words_of wu).subtrie ⊎ IsTipSubtrie (subtrie_affected p key (node_words_of ws).subtrie) → IsLockedAbove k.locks key p s.number u.number
  over p i s u ws wu low high at next hs hu path = record {
    upper = ws;
    lower = wu;
    has_upper = hs;
    has_lower = hu;
    height = u.height;
    entry = some_injective (sym (checked.entries i s low high at ws hs) ∙ named_at way found (i + 1) u next);
    path = path;
  }

  falls : (i : ℕ) (s u : PathNode) (ws wu : List ℕ) → slice_get way i ≡ Some s → slice_get way (i + 1) ≡ Some u → HasLocked k s.number ws → HasLocked k u.number wu → (node_words_of wu).fixed.height < (node_words_of ws).fixed.height
  falls i s u ws wu at next hs hu =
      let n = w.nodes i s at in
      let same : n.0 ≡ Node u.number u.height = some_injective (sym n.1 ∙ named_at way found (i + 1) u next) in
      let high : height_of n.0 ≡ u.height = ap height_of same in
      omega (arith, n.2.below, high, (step_at i s at ws hs).height, (step_at (i + 1) u next wu hu).height)

-- ---- where a new leaf goes
module _ (layout : Layout) (k : Known) (m : ℕ) (key : Key) (way : List PathNode) (found : Found) (span : Span) (possible : IsPossible layout k) (own : k.own ≡ []) (w : IsWayOf layout k m key way found) (locked : HasLockedSpan k way span)
    (checked : IsChecked k key way found span) (position : ℕ) (plan : IsGrowPlan k m key way found span.len span.end position) where
  abbrev top : ℕ
  top = plan.chosen.level

  -- the chosen node is one of the way
  pub top_within : top < length way
  top_within = chosen_within way plan.level plan.low plan.high plan.chosen plan.is_level.within plan.is_chosen

  pub top_below : top + 1 ≡ span.len
  top_below = sym plan.len_is

  -- at the level the insertion affects these entries
  affected_at : (s : PathNode) → slice_get way plan.level ≡ Some s → (words : List ℕ) → HasLocked k s.number words → AffectsJust key position plan.low plan.high (node_words_of words).subtrie
  affected_at s at words h =
      let (forks, shaped, affects) = plan.affected plan.level s plan.is_level at in
      let n = w.nodes plan.level s at in
      let same = (locked_shape layout k m s.number s.height forks words possible w.since n.2.seen shaped h).0 in
      shape_affects key position plan.low plan.high (node_words_of words).subtrie forks same affects

  -- one entry is affected there
  tip_at : plan.high ≤ plan.low → (s : PathNode) → slice_get way plan.level ≡ Some s → (words : List ℕ) → HasLocked k s.number words → IsTipSubtrie (subtrie_affected position key (node_words_of words).subtrie)
  tip_at few s at words h = let count = size_affected key position plan.low plan.high (node_words_of words).subtrie (affected_at s at words h) in tip_of_one_place (subtrie_affected position key (node_words_of words).subtrie) (omega (arith, count))

  -- the chosen node's affected part
  pub part_at : (s : PathNode) → slice_get way top ≡ Some s → (words : List ℕ) → HasLocked k s.number words → IsLeafOrForkSubtrie (subtrie_affected position key (node_words_of words).subtrie)
  part_at s at words h = elim (chosen_is way plan.level plan.low plan.high plan.chosen plan.is_level.within plan.is_chosen) [
    | inl (several, u, there, is) ↦
        let here : slice_get way plan.level ≡ Some s = ap (slice_get way) (sym (ap (λ (c : Choice). c.level) is)) ∙ at in
        let count = size_affected key position plan.low plan.high (node_words_of words).subtrie (affected_at s here words h) in
        part_of_two (subtrie_affected position key (node_words_of words).subtrie) (omega (arith, count))
    | inr o ↦ elim o [
      | inl (few, u, there, is) ↦
          let here : slice_get way (plan.level + 1) ≡ Some s = ap (slice_get way) (sym (ap (λ (c : Choice). c.level) is)) ∙ at in
          let of_step = step_at layout k m key way found span possible own w locked checked (plan.level + 1) s here words h in
          let high = plan.is_level.rest (plan.level + 1) s (omega arith) here in
          whole_part key position (node_words_of words).subtrie (forked layout k m key way found span possible own w locked checked s.number words h) (omega (arith, high, of_step.first))
      | inr (few, past, u, there, is) ↦
          let level_is : top ≡ plan.level = ap (λ (c : Choice). c.level) is in
          let here : slice_get way plan.level ≡ Some s = ap (slice_get way) (sym level_is) ∙ at in
          let tip = tip_at few s here words h in
          let on : subtrie_affected position key (node_words_of words).subtrie ≡ Place (seek key (node_words_of words).subtrie) = tip_seek position key (node_words_of words).subtrie tip in
          let named_is = checked.entries plan.level s (let u = plan.chain.upto in omega (arith, level_is)) (omega (arith, level_is, top_below)) here words h in
          let leaf : seek key (node_words_of words).subtrie ≡ LeafEntry plan.number = some_injective (sym named_is ∙ (named_end way found (plan.level + 1) past ∙ ap end_of plan.found_is)) in
          subst IsLeafOrForkSubtrie (sym (on ∙ ap (λ e. let z : Subtrie = Place e in z) leaf)) tt
    ]
  ]

  -- where the key's search leads in the chosen node, as it did before
  pub leads_at : (s : PathNode) → slice_get way top ≡ Some s → (words : List ℕ) → HasLocked k s.number words → spot key (node_words_of words).subtrie ≡ s.slot
  leads_at s at words h = let (e, is, node) = w.nodes top s at in (way_node_locked layout k m key s e words possible w.since node h).at

  -- above the chosen node the insertion affects no more than the place on the way
  last_path : (i : ℕ) (s u : PathNode) (ws wu : List ℕ) → i + 1 ≡ top → slice_get way i ≡ Some s → slice_get way (i + 1) ≡ Some u → HasLocked k s.number ws → HasLocked k u.number wu →
      FirstForkIsBefore position (node_words_of wu).subtrie ⊎ IsTipSubtrie (subtrie_affected position key (node_words_of ws).subtrie)
  last_path i s u ws wu next at below hs hu = elim (chosen_is way plan.level plan.low plan.high plan.chosen plan.is_level.within plan.is_chosen) [
    | inl (several, v, there, is) ↦ inl (under (ap (λ (c : Choice). c.level) is))
    | inr o ↦ elim o [
      | inl (few, v, there, is) ↦
          let level_is : top ≡ plan.level + 1 = ap (λ (c : Choice). c.level) is in
          let same : i ≡ plan.level = omega (arith, level_is) in
          inr (tip_at few s (ap (slice_get way) (sym same) ∙ at) ws hs)
      | inr (few, past, v, there, is) ↦ inl (under (ap (λ (c : Choice). c.level) is))
    ]
  ]
    where
      under : top ≡ plan.level → FirstForkIsBefore position (node_words_of wu).subtrie
      under level_is =
          let same : i + 1 ≡ plan.level = omega (arith, level_is) in
          let here : slice_get way plan.level ≡ Some u = ap (slice_get way) (sym same) ∙ below in
          let low : u.first_position < position = plan.is_level.low (omega (arith, same)) u here in
          let of_step = step_at layout k m key way found span possible own w locked checked plan.level u here wu hu in
          below_first position (node_words_of wu).subtrie (forked layout k m key way found span possible own w locked checked u.number wu hu) (omega (arith, low, of_step.first))

  path : (d i : ℕ) (s u : PathNode) (ws wu : List ℕ) → i + 1 + d ≡ top → span.end ≤ i + 1 → slice_get way i ≡ Some s → slice_get way (i + 1) ≡ Some u → HasLocked k s.number ws → HasLocked k u.number wu →
      FirstForkIsBefore position (node_words_of wu).subtrie ⊎ IsTipSubtrie (subtrie_affected position key (node_words_of ws).subtrie)
  unfolding over
  path zero i s u ws wu far low at below hs hu = last_path i s u ws wu (omega arith) at below hs hu
  path (suc d) i s u ws wu far low at below hs hu =
      let (v, next) = some_at way (i + 1 + 1) (omega (arith, top_within)) in
      let (wv, hv) = held_at layout k m key way found span possible own w locked checked (i + 1 + 1) v (omega arith) (omega (arith, top_below)) next in
      let above = over layout k m key way found span possible own w locked checked position (i + 1) u v wu wv (omega arith) (omega (arith, top_below)) below next hu hv (path d (i + 1) u v wu wv (omega arith) (omega arith) below next hu hv) in
      let (c, stage) = stage_of_held layout k [] possible (own, tt) tt in
      inl (above_goes_on layout k k.locks [] c stage key position u.number v.number above)

  pub over_at : (i : ℕ) (s u : PathNode) (ws wu : List ℕ) → span.end ≤ i + 1 → i < top → slice_get way i ≡ Some s → slice_get way (i + 1) ≡ Some u → HasLocked k s.number ws → HasLocked k u.number wu → IsLockedAbove k.locks key position s.number u.number
  over_at i s u ws wu low high at below hs hu =
      over layout k m key way found span possible own w locked checked position i s u ws wu low (omega (arith, top_below)) at below hs hu (path (top - (i + 1)) i s u ws wu (omega arith) low at below hs hu)

  -- a full node, where its step says so
  full_at : (i : ℕ) (s : PathNode) → slice_get way i ≡ Some s → s.count ≡ 32 → (words : List ℕ) → HasLocked k s.number words → size (node_words_of words).subtrie ≡ 32
  full_at i s at full words h = (step_at layout k m key way found span possible own w locked checked i s at words h).count ∙ full

  pub pulled_full : (i : ℕ) (s : PathNode) → span.end < i → i ≤ top → slice_get way i ≡ Some s → (words : List ℕ) → HasLocked k s.number words → size (node_words_of words).subtrie ≡ 32
  pulled_full i s low high at words h =
      let next : i - 1 + 1 ≡ i = omega arith in
      let (u, above) = some_at way (i - 1) (omega (arith, top_within)) in
      full_at i s at (plan.chain.pulls (i - 1) s u (omega arith) (omega arith) (ap (slice_get way) next ∙ at) above).0 words h

  pub chain_at : IsLockedSpan layout.nodes k.locks way key position span.end top
  unfolding over_at held_at over
  chain_at = record {
    there = λ i s low at. (w.nodes i s at).2.range;
    above = λ i s u low high at below.
        let (ws, hs) = held_at layout k m key way found span possible own w locked checked i s (omega arith) (omega (arith, top_below)) at in
        let (wu, hu) = held_at layout k m key way found span possible own w locked checked (i + 1) u (omega arith) (omega (arith, top_below)) below in
        (over_at i s u ws wu (omega arith) high at below hs hu, falls layout k m key way found span possible own w locked checked i s u ws wu at below hs hu);
    full = λ i s low high at words h. pulled_full i s low (omega arith) at words h;
  }

  -- ---- the spot above the topmost node
  -- an entry that fits above may stand there
  pub spot_of : (u : PathNode) (wu : List ℕ) (e : Entry) → slice_get way span.end ≡ Some u → HasLocked k u.number wu → FitsAbove wu e → (spot : Spot) → IsSpotAbove way span.end spot → IsSpotOf k k.locks key position u.number e spot
  unfolding over_at held_at over
  spot_of u wu e below hu fits spot is =
      let h = holds_above layout k m key way found span possible w locked checked (omega (arith, top_below, plan.chain.upto)) (Node u.number u.height) (named_at way found span.end u below) k k.locks refl refl spot is in
      let lower = step_at layout k m key way found span possible own w locked checked span.end u below wu hu in
      record {
        height = u.height;
        holds = h.holds;
        alone = h.alone position (λ s above. let over_u = over_at (span.end - 1) s u above.words wu (omega arith) (let b = above.low in omega (arith, plan.chain.upto)) above.at
            (let next : span.end ≡ span.end - 1 + 1 = (let b = above.low in omega arith) in subst (λ i. slice_get way i ≡ Some u) next below) above.has hu in
            ((node_words_of wu).subtrie, (wu, hu, refl), over_u.path));
        fits = h.fits e (λ s above. ⊎_elim
            (λ room. let l = fits.1 room in let b = above.node.below in omega (arith, l, b, lower.height))
            (λ full. let count : u.count ≡ 32 = let r = lower.room in let c = lower.count in omega (arith, r, c, full) in
            let apart = plan.chain.stops (span.end - 1) u s (let b = above.low in omega arith) below above.at count in
            strictly (height_of e) u.height s.height (let l = fits.0 in omega (arith, l, lower.height)) above.node.below apart)
            (cases_lt (size (node_words_of wu).subtrie) 32));
      }
    where
      strictly : (e l h : ℕ) → e ≤ l + 1 → l < h → (h ≡ l + 1 → ⊥) → e < h
      strictly e l h fits low apart = ⊎_elim (λ o. omega arith) (λ o. absurd (apart (omega arith))) (cases_lt (l + 1) h)

-- ---- below the chosen node
pub found_below : (layout : Layout) (k : Known) (m : ℕ) (key : Key) (way : List PathNode) (number value p : ℕ) (span : Span) → IsWayOf layout k m key way (Leaf number value (Some p)) → IsChecked k key way (Leaf number value (Some p)) span →
    (x : ℕ) (given : ℕ) → HasLeafWords (key, given) → (i : ℕ) (s : PathNode) (words : List ℕ) → span.end ≤ i + 1 → i < span.len → slice_get way i ≡ Some s → HasLocked k s.number words →
    (l : Key) × HasFoundBelow k k.locks (record { since = m; item = item x key given; mismatch = p; like = l }) s.number words
found_below layout k m key way number value p span w checked x given spelled i s words low high at h =
    let (l, read, apart) = w.found_at in
    let named_is = checked.entries i s low high at words h in
    let from = way_from layout k m key number value p w.since l read way w.nodes (i + 1) (seek key (node_words_of words).subtrie) named_is in
    (l, descent_finds k k.locks (record { since = m; item = item x key given; mismatch = p; like = l }) s.number words spelled w.since h from apart.0 apart.1)
