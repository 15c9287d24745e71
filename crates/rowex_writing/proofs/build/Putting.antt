-- A new leaf in the place of what stands there, or in a node with it: what the plan says, and that the store may be made.
use Rattle.rowex_writing.proofs.Common.{◌≡◌, inl, inr, ⊎_elim, ℕ, ◌+◌, ◌-◌, ◌*◌, ◌<◌, ◌≤◌, List, [], ◌∷◌, ◌++◌, length, get_or, Bool, true, false, nat_lt, Option, Some, None, refl, sym, ap, subst, ◌∙◌, arith, le_trans, ◌^◌, ◌⊎◌, slice_get, cases_lt, ltb-true, slice_get-get_or, NodeView, piece, greatest_height, Entry, LeafEntry, NodeEntry, Case, LeafPushdown, NormalInsert, Overflow, Choice, PathNode, IsLevel, IsChosen, case_of, key_part, Place, Fork, size, places, size_pos, entry_word, subtrie_affected, subtrie_forked, IsTipSubtrie, Item, item, Key, bit, shape, seek, Subtrie, leaf, trie_within, Rec, IsOneOf, IsRead, added_change, replaced_change, Spot, Root, Slot, Value, Known, Locked, node_words_of, recalls, Made, IsLater, Publishes, TableView, SeatView, Sure, read_stable, seen_within, since_later, stands_in, led_in_table, made_of_leaf, made_of_node, IsBuiltAnew, IsSide, one, anew, IsLeafThere, IsSure, SpellsLeaf, HasLoaded, first_made, pair, later_transitive, later_if_same, leaf_stays, store_value, seen_is_sure, sure_stays, IsFoundAt, IsMismatch, IsWayNode, IsWayOf, end_of, named, named_end, Found, Nothing, Leaf}
use Rattle.std.specs.Prelude.{if◌then◌else◌}
use Rattle.key_bits.specs.Key.{IsKey}
use Rattle.publish_laws.specs.Cases.{IsWord}
use Rattle.rowex_writing.specs.build.Building.{HasLeafMade, IsBuilding}
use Rattle.rowex_writing.specs.build.Changes.{IsPutChange, MayPublishOnceReady}
use Rattle.rowex_writing.specs.locks.Checks.{HasTakenSpan}
use Rattle.rowex_writing.specs.plan.Planned.{AreAffected, IsPlanned}
use Rattle.rowex_writing.specs.locks.Going.{HasLocked}
use Rattle.rowex_writing.proofs.plan.Plans.{takes_too}
use Rattle.rowex_writing.specs.plan.Plans.{change, IsCase, IsNewLeafPlan, IsPlan}
use Rattle.rowex_writing.specs.build.Putting.{IsSpotAbove}
use Rattle.rowex_writing.specs.declared.plan.Aim.{Aim}
use Rattle.rowex_writing.specs.declared.plan.Aim.TheVariants.{Insert, Upsert, Remove}
use Rattle.rowex_writing.specs.declared.plan.Deed.{Deed}
use Rattle.rowex_writing.specs.declared.plan.Deed.TheVariants.{Put, PushDown}
use Rattle.rowex_writing.specs.declared.plan.Plan.{Plan}
use Rattle.rowex_writing.specs.declared.plan.Plan.TheVariants.{Answer, Change as ChangePlan}
use Rattle.rowex_writing.specs.declared.plan.Span.{Span}
use Rattle.rowex_writing.proofs.build.Above.{holds_above}
use Rattle.rowex_writing.proofs.locks.Shapes.{locked_shape}
use Rattle.rowex_writing.proofs.build.Changes.{made_record}
use Rattle.rowex_writing.specs.build.Taking.{no_step}

-- ---- plans
abbrev span_of : Plan → Span
span_of (Answer reply) = record { len = 0; end = 0 }
span_of (ChangePlan span deed) = span

abbrev position_in : Deed → ℕ
position_in (PushDown p) = p
position_in deed = 0

abbrev position_of : Plan → ℕ
position_of (Answer reply) = 0
position_of (ChangePlan span deed) = position_in deed

same_span : (len end l e : ℕ) (d f : Deed) → change len end d ≡ change l e f → (len ≡ l) × (end ≡ e)
same_span len end l e d f is = (ap (λ (z : Plan). (span_of z).len) is, ap (λ (z : Plan). (span_of z).end) is)

-- ---- where a leaf is put
abbrev pub IsPutAt : List PathNode → Found → (len end : ℕ) → Type 0
IsPutAt way Nothing len end = (len ≡ 0) × (end ≡ 0)
IsPutAt way (Leaf number value mismatch) len end = ⊥

no_put_case : (way : List PathNode) (p : ℕ) (chosen : Choice) (case : Case) (len end : ℕ) → IsCase way p chosen case (change len end Put) → ⊥
no_put_case way p chosen LeafPushdown len end e = cc
no_put_case way p chosen NormalInsert len end e = cc
no_put_case way p chosen Overflow len end (top, chain, e) = cc

no_put : (way : List PathNode) (p first last len end : ℕ) → IsNewLeafPlan way p first last (change len end Put) → ⊥
no_put [] p first last len end e = cc
no_put (s ∷ way) p first last len end (level, at, (chosen, is, case)) = no_put_case (s ∷ way) p chosen chosen.case len end case

pub put_at : (way : List PathNode) (first last : ℕ) (aim : Aim) (found : Found) (len end : ℕ) → IsPlan way first last aim found (change len end Put) → IsPutAt way found len end
put_at way first last Insert Nothing len end e = same_span len end 0 0 Put Put e
put_at way first last Upsert Nothing len end e = same_span len end 0 0 Put Put e
put_at way first last Remove Nothing len end e = absurd cc
put_at way first last Insert (Leaf number value (Some p)) len end e = no_put way p first last len end e
put_at way first last Upsert (Leaf number value (Some p)) len end e = no_put way p first last len end e
put_at way first last Remove (Leaf number value (Some p)) len end e = cc
put_at way first last Insert (Leaf number value None) len end e = absurd cc
put_at way first last Upsert (Leaf number value None) len end e = cc
put_at way first last Remove (Leaf number value None) len end e = absurd (takes_too way e)

pub put_stored : (q number : ℕ) (key : Key) (value : ℕ) (way : List PathNode) (found : Found) (len end : ℕ) → IsPutAt way found len end →
    IsPutChange q key value found (added_change q (item number key value)) None
put_stored q number key value way Nothing len end at = (refl, refl)
put_stored q number key value way (Leaf n held mismatch) len end at = absurd at

-- the node above is the last one of the way, if there is one
pub put_spans : (way : List PathNode) (found : Found) (len end : ℕ) → IsPutAt way found len end → (len ≡ end) × (end ≤ length way)
put_spans way Nothing len end (a, b) = (a ∙ sym b, omega arith)
put_spans way (Leaf number value mismatch) len end h = absurd h

-- ---- where a pair is put
-- the last node of the way is the one of the level; the position affects one entry there, and it is higher than 1
pub record IsLastLevel (way : List PathNode) (p first last : ℕ) : Type 0 where
  pub level : ℕ
  pub is_last : level + 1 ≡ length way
  pub is_level : IsLevel way p level
  pub single : last ≤ first
  pub high : (s : PathNode) → slice_get way level ≡ Some s → 1 < s.height

abbrev pub IsPairAt : List PathNode → (p first last len end q : ℕ) → Type 0
IsPairAt [] p first last len end q = (len ≡ 0) × (end ≡ 0) × (q ≡ p)
IsPairAt (s ∷ way) p first last len end q = (len ≡ length (s ∷ way)) × (end ≡ length (s ∷ way)) × (q ≡ p) × IsLastLevel (s ∷ way) p first last

no_pushdown : (b : Bool) → (if b then NormalInsert else Overflow) ≡ LeafPushdown → ⊥
no_pushdown true e = cc
no_pushdown false e = cc

pushed_high : (height count : ℕ) → case_of height count true ≡ LeafPushdown → 1 < height
pushed_high height count e = go (nat_lt 1 height) refl e
  where
    go : (b : Bool) → nat_lt 1 height ≡ b → (if b then LeafPushdown else (if nat_lt count 32 then NormalInsert else Overflow)) ≡ LeafPushdown → 1 < height
    go true is e = ltb-true 1 height is
    go false is e = absurd (no_pushdown (nat_lt count 32) e)

last_level : (way : List PathNode) (p level first last : ℕ) (c : Choice) → IsLevel way p level → IsChosen way level first last c → c.case ≡ LeafPushdown → (c.level ≡ level) × (level + 1 ≡ length way) × IsLastLevel way p first last
last_level way p level first last c is chosen down = ⊎_elim (λ several. absurd (by_several several)) (λ single. ⊎_elim (λ more. absurd (by_next single more)) (λ none. by_leaf single none) (cases_lt (level + 1) (length way))) (cases_lt first last)
  where
    d : PathNode
    d = record { number = 0; height = 0; first_position = 0; count = 0; slot = 0 }

    by_several : first < last → ⊥
    by_several h =
        let s = get_or way level d in
        no_pushdown (nat_lt s.count 32) (sym (ap (λ (z : Choice). z.case) (chosen.several h s (slice_get-get_or way level d is.within))) ∙ down)

    by_next : last ≤ first → level + 1 < length way → ⊥
    by_next h more =
        let s = get_or way (level + 1) d in
        no_pushdown (nat_lt s.count 32) (sym (ap (λ (z : Choice). z.case) (chosen.next h s (slice_get-get_or way (level + 1) d more))) ∙ down)

    by_leaf : last ≤ first → length way ≤ level + 1 → (c.level ≡ level) × (level + 1 ≡ length way) × IsLastLevel way p first last
    by_leaf h none =
        let here = chosen.leaf h none (get_or way level d) (slice_get-get_or way level d is.within) in
        let low = is.within in
        let end : level + 1 ≡ length way = omega arith in (
          ap (λ (z : Choice). z.level) here,
          end,
          record {
            level = level;
            is_last = end;
            is_level = is;
            single = h;
            high = λ s at. pushed_high s.height s.count (sym (ap (λ (z : Choice). z.case) (chosen.leaf h none s at)) ∙ down);
          },
        )

pair_case : (way : List PathNode) (p : ℕ) (chosen : Choice) (case : Case) (len end q : ℕ) → IsCase way p chosen case (change len end (PushDown q)) →
    (case ≡ LeafPushdown) × (len ≡ chosen.level + 1) × (end ≡ chosen.level + 1) × (q ≡ p)
pair_case way p chosen LeafPushdown len end q e = let (a, b) = same_span len end (chosen.level + 1) (chosen.level + 1) (PushDown q) (PushDown p) e in (refl, a, b, ap position_of e)
pair_case way p chosen NormalInsert len end q e = absurd cc
pair_case way p chosen Overflow len end q (top, chain, e) = absurd cc

pair_new : (way : List PathNode) (p first last len end q : ℕ) → IsNewLeafPlan way p first last (change len end (PushDown q)) → IsPairAt way p first last len end q
pair_new [] p first last len end q e = let (a, b) = same_span len end 0 0 (PushDown q) (PushDown p) e in (a, b, ap position_of e)
pair_new (s ∷ way) p first last len end q (level, at, (chosen, is, case)) =
    let (down, a, b, same) = pair_case (s ∷ way) p chosen chosen.case len end q case in
    let (here, end_is, lowest) = last_level (s ∷ way) p level first last chosen at is down in
    let top : chosen.level + 1 ≡ length (s ∷ way) = ap (λ n. n + 1) here ∙ end_is in
    (a ∙ top, b ∙ top, same, lowest)

abbrev pub IsPairOf : List PathNode → Found → (first last len end q : ℕ) → Type 0
IsPairOf way (Leaf number value (Some p)) first last len end q = IsPairAt way p first last len end q
IsPairOf way found first last len end q = ⊥

pub pair_at : (way : List PathNode) (first last : ℕ) (aim : Aim) (found : Found) (len end q : ℕ) → IsPlan way first last aim found (change len end (PushDown q)) → IsPairOf way found first last len end q
pair_at way first last Insert Nothing len end q e = cc
pair_at way first last Upsert Nothing len end q e = cc
pair_at way first last Remove Nothing len end q e = cc
pair_at way first last Insert (Leaf number value (Some p)) len end q e = pair_new way p first last len end q e
pair_at way first last Upsert (Leaf number value (Some p)) len end q e = pair_new way p first last len end q e
pair_at way first last Remove (Leaf number value (Some p)) len end q e = absurd cc
pair_at way first last Insert (Leaf number value None) len end q e = cc
pair_at way first last Upsert (Leaf number value None) len end q e = cc
pair_at way first last Remove (Leaf number value None) len end q e = absurd (takes_too way e)

pair_spans_at : (way : List PathNode) (p first last len end q : ℕ) → IsPairAt way p first last len end q → (len ≡ end) × (end ≡ length way)
pair_spans_at [] p first last len end q (a, b, c) = (a ∙ sym b, b)
pair_spans_at (s ∷ way) p first last len end q (a, b, c, d) = (a ∙ sym b, b)

-- ---- what a way names at its end
none_named : (way : List PathNode) (Is : (i : ℕ) → PathNode → Entry → Type 0) →
    ((i : ℕ) (s : PathNode) → slice_get way i ≡ Some s → (e : Entry) × (named way Nothing (i + 1) ≡ Some e) × Is i s e) → named way Nothing 0 ≡ None
none_named [] Is each = refl
none_named (s ∷ way) Is each =
    let last : length way + 1 ≡ length (s ∷ way) = omega arith in
    let (e, is, more) = each (length way) (get_or (s ∷ way) (length way) s) (slice_get-get_or (s ∷ way) (length way) s (omega arith)) in
    let none : named (s ∷ way) Nothing (length way + 1) ≡ None = named_end (s ∷ way) Nothing (length way + 1) (omega (arith, last)) in
    absurd (let z : None ≡ Some e = sym none ∙ is in cc)

-- ---- one entry that is affected
-- it is the one to which the key's search leads
pub alone : (p : ℕ) (k : Key) (x : Subtrie) → size (subtrie_affected p k (shape x)) ≤ 1 → subtrie_affected p k x ≡ Place (seek k x)
alone p k (Place e) h = refl
alone p k (Fork q x y) h = go (nat_lt q p) (bit k q) (alone p k x) (alone p k y) h
  where
    go : (t u : Bool) → (size (subtrie_affected p k (shape x)) ≤ 1 → subtrie_affected p k x ≡ Place (seek k x)) → (size (subtrie_affected p k (shape y)) ≤ 1 → subtrie_affected p k y ≡ Place (seek k y)) →
        size (if t then (if u then subtrie_affected p k (shape y) else subtrie_affected p k (shape x)) else Fork q (shape x) (shape y)) ≤ 1 →
        (if t then (if u then subtrie_affected p k y else subtrie_affected p k x) else Fork q x y) ≡ Place (if u then seek k y else seek k x)
    go true true f g h = g h
    go true false f g h = f h
    go false u f g h = absurd (omega (arith, h, size_pos (shape x), size_pos (shape y)))

-- ---- entry words
two_high : (u : Bool) (p a b : ℕ) → greatest_height (places (subtrie_forked u p (LeafEntry a) (Place (LeafEntry b)))) ≡ 0
two_high true p a b = refl
two_high false p a b = refl

pub pair_height : (u : Bool) (p a b : ℕ) (view : NodeView) → IsBuiltAnew view → piece view ≡ subtrie_forked u p (LeafEntry a) (Place (LeafEntry b)) → view.height ≡ 1
pair_height u p a b view (has, is) shows =
    let entries : greatest_height view.entries ≡ 0 = ap greatest_height has.lawful.shows.entries_are ∙ (ap (λ y. greatest_height (places y)) shows ∙ two_high u p a b) in
    omega arith

no_single : (u : Bool) (p : ℕ) (a : Entry) (y : Subtrie) (e : Entry) → subtrie_forked u p a y ≡ Place e → ⊥
no_single true p a y e is = cc
no_single false p a y e is = cc

module _ (table : TableView) (a : SeatView) (made : List Rec) (news : List Made) (b : IsBuilding table a made news) where
  pub leaf_word : (x : Item) (fresh : List ℕ) → IsOneOf (made_of_leaf x fresh) news → IsWord (LeafEntry x.number) (4 * x.number + 1)
  leaf_word x fresh h =
      let low : x.number < table.layout.leaves = made_record table a made news b (made_of_leaf x fresh) h in
      let few : table.layout.leaves < 4294967296 = table.layout.leaves_in_range.1 in
      (omega arith, refl)

  pub node_word : (m : ℕ) (view : NodeView) → IsOneOf (made_of_node m view) news → IsBuiltAnew view → IsWord (NodeEntry m view.height) (entry_word (Some (NodeEntry m view.height)))
  node_word m view h (has, is) =
      let low : m < table.layout.nodes = made_record table a made news b (made_of_node m view) h in
      let few : table.layout.nodes < 4294967296 = table.layout.nodes_in_range.1 in
      let bound = has.lawful.bound in
      ((omega arith, omega arith, omega arith), refl)

-- ---- a plan of a pair
pair_last : (way : List PathNode) (p first last len end q : ℕ) → IsPairAt way p first last len end q → 0 < end → IsLastLevel way p first last
pair_last [] p first last len end q (a, b, c) low = absurd (omega arith)
pair_last (s ∷ way) p first last len end q (a, b, c, d) low = d

pair_position : (way : List PathNode) (p first last len end q : ℕ) → IsPairAt way p first last len end q → q ≡ p
pair_position [] p first last len end q (a, b, c) = c
pair_position (s ∷ way) p first last len end q (a, b, c, d) = c

-- the leaf that was found, from which the key differs first at q, and what the position affects
pub record IsPairHere (k : Known) (m : ℕ) (key : Key) (way : List PathNode) (found : Found) (span : Span) (n q : ℕ) : Type 0 where
  pub value : ℕ
  pub first : ℕ
  pub last : ℕ
  pub is_found : found ≡ Leaf n value (Some q)
  pub at : IsPairAt way q first last span.len span.end q
  pub affected : AreAffected k m key way found first last
  pub len : span.len ≡ span.end
  pub upto : span.end ≡ length way

pub pair_here : (k : Known) (m : ℕ) (key : Key) (way : List PathNode) (aim : Aim) (found : Found) (span : Span) (q : ℕ) → IsPlanned k m key way aim found (change span.len span.end (PushDown q)) → (n v : ℕ) (mismatch : Option ℕ) →
    found ≡ Leaf n v mismatch → IsPairHere k m key way found span n q
pair_here k m key way aim found span q (first, last, plan, affected) n v None is = absurd (pair_at way first last aim (Leaf n v None) span.len span.end q (subst (λ f. IsPlan way first last aim f (change span.len span.end (PushDown q))) is plan))
pair_here k m key way aim found span q (first, last, plan, affected) n v (Some p) is =
    let at : IsPairAt way p first last span.len span.end q = pair_at way first last aim (Leaf n v (Some p)) span.len span.end q (subst (λ f. IsPlan way first last aim f (change span.len span.end (PushDown q))) is plan) in
    let same = pair_position way p first last span.len span.end q at in
    let spans = pair_spans_at way p first last span.len span.end q at in
    record {
      value = v;
      first = first;
      last = last;
      is_found = is ∙ ap (λ z. Leaf n v (Some z)) (sym same);
      at = subst (λ z. IsPairAt way z first last span.len span.end q) (sym same) at;
      affected = affected;
      len = spans.0;
      upto = spans.1;
    }

pub put_len : (k : Known) (m : ℕ) (key : Key) (way : List PathNode) (aim : Aim) (found : Found) (span : Span) → IsPlanned k m key way aim found (change span.len span.end Put) →
    IsPutAt way found span.len span.end × (span.len ≡ span.end) × (span.end ≤ length way)
put_len k m key way aim found span (first, last, plan, affected) =
    let at = put_at way first last aim found span.len span.end plan in
    let (a, b) = put_spans way found span.len span.end at in (at, a, b)

-- there is a spot above the nodes from one on
pub some_spot : (way : List PathNode) (end : ℕ) → end ≤ length way → (spot : Spot) × IsSpotAbove way end spot
some_spot way end low = go (cases_lt 0 end)
  where
    go : (0 < end) ⊎ (end ≤ 0) → (spot : Spot) × IsSpotAbove way end spot
    go (inr none) = (Root, omega (arith, none))
    go (inl some) = let s = get_or way (end - 1) no_step in (Slot s.number s.slot, (s, some, slice_get-get_or way (end - 1) no_step (omega (arith, some, low)), refl, refl))

-- ---- under the locks of the span
module _ (table : TableView) (a : SeatView) (m : ℕ) (key : Key) (way : List PathNode) (found : Found) (span : Span) (t : HasTakenSpan table a m key way found span) where
  -- ---- what was found
  module _ (n v : ℕ) (mismatch : Option ℕ) (is_found : found ≡ Leaf n v mismatch) where
    pub leaf_at : (l : Key) × Sure a.known (λ past. IsRead past m n l v) × IsMismatch key l mismatch
    leaf_at = subst (IsFoundAt a.known m key) is_found t.way_of.found_at

    found_sure : IsSure a.known (λ past. IsRead past m n leaf_at.0 v)
    found_sure = seen_is_sure a.known (λ past. IsRead past m n leaf_at.0 v) (read_stable m n leaf_at.0 v) leaf_at.1

    -- it is there still
    pub there_still : (j : Known) (held : List Locked) (news : List Made) → IsLater a.known j → IsLeafThere table.layout j held news n leaf_at.0
    there_still j held news later =
        leaf_stays table.layout j held news m n leaf_at.0 v (since_later later t.way_of.since) (sure_stays a.known j (λ past. IsRead past m n leaf_at.0 v) later found_sure)

    -- it is the table's
    pub found_there : n < table.layout.leaves
    found_there = led_in_table table.layout a.known m (LeafEntry n) t.possible (t.way_of.since, λ c law known. (let (i, lo, hi, st) = leaf_at.1 c law known in (i, leaf n leaf_at.0 v, lo, hi, st, refl)))

    -- its key is one
    pub found_is_key : IsKey leaf_at.0
    found_is_key =
        let c = t.possible.core in
        let recall = recalls c a.known t.possible.knows in
        let (i, lo, hi, st) = leaf_at.1 c t.possible.lawful recall in
        let stands = stands_in c a.known st in
        trie_within stands.within (t.possible.lawful.core.state.trees i stands.tree (le_trans hi (seen_within t.possible.lawful recall)) stands.is_version).0

  -- the leaf is named above
  pub end_named : (n v : ℕ) (mismatch : Option ℕ) → found ≡ Leaf n v mismatch → span.end ≡ length way → named way found span.end ≡ Some (LeafEntry n)
  end_named n v mismatch is last = named_end way found span.end (omega (arith, last)) ∙ ap end_of is

  -- ---- another value of the leaf
  -- it may be stored where the leaf has the key, and the pass has loaded the value that it has
  pub value_may : (n v : ℕ) → found ≡ Leaf n v None → span.end ≡ length way → (value : ℕ) → value < 2 ^ 64 → HasLoaded a.known n v →
      Publishes table.layout a.known (Value n) value (replaced_change a.known.pass (item n key value)) (Some v) []
  value_may n v is last value small loaded =
      let (spot, over) = some_spot way span.end (omega (arith, last)) in
      let h = holds_above table.layout a.known m key way found span t.possible t.way_of t.locked t.checked t.within.0 (LeafEntry n) (end_named n v None is last) a.known a.known.locks refl refl spot over in
      let there : IsLeafThere table.layout a.known a.known.locks [] n key =
      subst (λ z. IsLeafThere table.layout a.known a.known.locks [] n z) (sym (leaf_at n v None is).2) (there_still n v None is a.known a.known.locks [] (later_if_same a.known a.known refl)) in
      store_value table.layout a.known a.known.locks key n value v spot (record { locks = refl; own = t.own }) h.holds there loaded small

  -- ---- the store, once the records are made
  module _ (b : SeatView) (made : List Rec) (number value : ℕ) (later : IsLater a.known b.known) (locks : b.known.locks ≡ a.known.locks) (anchor : b.known.anchor ≡ a.known.anchor) where
    -- a new leaf alone
    pub put_may : HasLeafMade table b made (item number key value) → IsPutAt way found span.len span.end → (spot : Spot) → IsSpotAbove way span.end spot →
        MayPublishOnceReady table b made spot (4 * number + 1) (added_change a.known.pass (item number key value)) None []
    put_may new at spot over = go found refl at spot over
      where
        news : List Made
        news = made_of_leaf (item number key value) new.fresh ∷ []

        word : IsWord (LeafEntry number) (4 * number + 1)
        word = leaf_word table b made (made_of_leaf (item number key value) new.fresh ∷ []) new.building (item number key value) new.fresh (inl refl)

        go : (f : Found) → found ≡ f → IsPutAt way f span.len span.end → (spot : Spot) → IsSpotAbove way span.end spot →
            MayPublishOnceReady table b made spot (4 * number + 1) (added_change a.known.pass (item number key value)) None []
        go Nothing is (l, e) Root over = record {
          news = news;
          building = new.building;
          publishes = λ j on ready same_anchor told.
              subst (λ q. Publishes table.layout j Root (4 * number + 1) (added_change q (item number key value)) None []) (on.pass ∙ later.pass)
              (first_made table.layout j b.known.locks (item number key value) new.fresh (4 * number + 1) ready new.spelled word
              (same_anchor ∙ (anchor ∙ (t.checked.root e ∙ ap (λ (o : Option Entry). Some o) (ap (λ (f : Found). named way f 0) is ∙
              none_named way (λ i s d. IsWayNode table.layout a.known m key s d) (subst (λ f. IsWayOf table.layout a.known m key way f) is t.way_of).nodes)))));
        }
        go Nothing is (l, e) (Value l2) over = absurd over
        go Nothing is (l, e) (Slot n i) (s, low, at_s, number_is, place) = absurd (omega arith)
        go (Leaf n v mismatch) is at spot over = absurd at

    -- a new node of the found leaf and the new one
    pub pair_may : (p n : ℕ) (here : IsPairHere a.known m key way found span n p) (e : Entry) (more : List Made) → IsSide (subtrie_forked (bit key p) p (LeafEntry number) (Place (LeafEntry n))) e more →
        (fresh : List ℕ) → SpellsLeaf (item number key value) fresh → IsBuilding table b made (more ++ made_of_leaf (item number key value) fresh ∷ []) → (spot : Spot) → IsSpotAbove way span.end spot → MayPublishOnceReady table b made spot (entry_word (Some e)) (added_change a.known.pass (item number key value)) None []
    pair_may p n here e more (one f is) fresh spelled building spot over = absurd (no_single (bit key p) p (LeafEntry number) (Place (LeafEntry n)) f is)
    pair_may p n here e more (anew o view built shows) fresh spelled building spot over = record {
      news = news;
      building = building;
      publishes = λ j on ready same_anchor told.
          let h = holds_above table.layout a.known m key way found span t.possible t.way_of t.locked t.checked t.within.0 (LeafEntry n) (end_named n here.value (Some p) here.is_found here.upto) j b.known.locks locks
          (same_anchor ∙ anchor) spot over in
          subst (λ q. Publishes table.layout j spot (entry_word (Some e)) (added_change q (item number key value)) None []) (on.pass ∙ later.pass)
          (pair table.layout j b.known.locks (item number key value) fresh p n o (entry_word (Some e)) leaf.0 view spot ready spelled h.holds
          (h.alone p (λ s above. (Place (LeafEntry n), refl, inr (alone_at s above.words above.low above.at above.has))))
          (h.fits e (λ s above. let high = (lowest above.low).high s (level_at s above.low above.at) in omega (arith, one_high, high)))
          (there_still n here.value (Some p) here.is_found j b.known.locks news (later_transitive a.known b.known j later on)) leaf.2.0 leaf.2.1 built shows word);
    }
      where
        news : List Made
        news = made_of_node o view ∷ made_of_leaf (item number key value) fresh ∷ []

        word : IsWord (NodeEntry o view.height) (entry_word (Some (NodeEntry o view.height)))
        word = node_word table b made (made_of_node o view ∷ made_of_leaf (item number key value) fresh ∷ []) building o view (inl refl) built

        leaf : (l : Key) × Sure a.known (λ past. IsRead past m n l here.value) × IsMismatch key l (Some p)
        leaf = leaf_at n here.value (Some p) here.is_found

        one_high : view.height ≡ 1
        one_high = pair_height (bit key p) p number n view built shows

        lowest : 0 < span.end → IsLastLevel way p here.first here.last
        lowest low = pair_last way p here.first here.last span.len span.end p here.at low

        level_at : (s : PathNode) (low : 0 < span.end) → slice_get way (span.end - 1) ≡ Some s → slice_get way (lowest low).level ≡ Some s
        level_at s low at = (let e : span.end - 1 ≡ (lowest low).level = (let is = (lowest low).is_last in omega (arith, is, here.upto)) in subst (λ z. slice_get way z ≡ Some s) e at)

        alone_at : (s : PathNode) (words : List ℕ) (low : 0 < span.end) → slice_get way (span.end - 1) ≡ Some s → HasLocked a.known s.number words → IsTipSubtrie (subtrie_affected p key (node_words_of words).subtrie)
        alone_at s words low at has =
            let (forks, shaped, just) = (subst (λ f. AreAffected a.known m key way f here.first here.last) here.is_found here.affected) (lowest low).level s (lowest low).is_level (level_at s low at) in
            let node = (t.way_of.nodes (span.end - 1) s at).2 in
            let shape_is = (locked_shape table.layout a.known m s.number s.height forks words t.possible t.way_of.since node.seen shaped has).0 in
            let few : size (subtrie_affected p key forks) ≤ 1 = (let single = (lowest low).single in omega (arith, just.upto, single, (key_part key p forks).count, just.from)) in
            subst IsTipSubtrie (sym (alone p key (node_words_of words).subtrie (subst (λ z. size (subtrie_affected p key z) ≤ 1) (sym shape_is) few))) tt
