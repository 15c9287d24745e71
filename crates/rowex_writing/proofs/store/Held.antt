-- A leaf that is named under the pass's locks, and whose value it loads: the key has this value after all changes that it has seen.
use Rattle.rowex_writing.proofs.Common.{◌≡◌, ◌⊎◌, inl, inr, ℕ, ◌+◌, ◌-◌, ◌<◌, ◌≤◌, List, length, Some, None, refl, sym, ap, ◌∙◌, arith, get_or, [], ap₂, subst, slice_get, cases_lt, slice_get-get_or, LeafEntry, PathNode, some_injective, Key, spot, Spot, Root, Slot, Value, node_words_of, leaf_of, SeatView, TableView, end_of, named, Found, Leaf, named_end, HoldsAt, at_root, in_node, a_leaf, VALUE_OFFSET, Core, bare, record_word, Change, value_at, Layout, Within, leaf, LeafWords, LoadRef, Known, IsEvent, silent, HasReady, IsLeafThere, spot_in, stage_of, later_if_same}
use Rattle.rowex_writing.specs.locks.Checks.{HasTakenSpan, HasTakenPlan}
use Rattle.rowex_writing.specs.build.Taking.{no_step}
use Rattle.rowex_writing.specs.declared.plan.Span.{Span}
use Rattle.rowex_writing.proofs.build.Above.{locked_at}
use Rattle.finite_map.specs.Fronts.{map_of}
use Rattle.version_laws.proofs.Spots.{newest_tree_if_spot_held, leaf_at}
use Rattle.publish_laws.proofs.Cases.Publishing.{leaf_held}
use Rattle.rowex_writing.specs.store.Values.{HoldsFound}
use Rattle.rowex_writing.specs.declared.plan.job.Job.{Job}
use Rattle.rowex_writing.specs.declared.plan.Deed.{Deed}
use Rattle.rowex_writing.proofs.plan.Plans.{plan_reaches}
use Rattle.rowex_writing.proofs.build.Putting.{leaf_at as read_at, there_still}

-- the spot that names the found leaf is one of those that are locked for a span to the end of the way
named_below : (table : TableView) (a : SeatView) (m : ℕ) (key : Key) (way : List PathNode) (found : Found) (span : Span) → HasTakenSpan table a m key way found span → span.len ≡ length way →
    (n v : ℕ) → found ≡ Leaf n v None → (at : Spot) × HoldsAt a.known a.known.locks key (LeafEntry n) at
named_below table a m key way found span t last n v is = go (cases_lt 0 (length way))
  where
    names : (i : ℕ) → length way ≤ i → named way found i ≡ Some (LeafEntry n)
    names i past = named_end way found i past ∙ ap end_of is

    go : (0 < length way) ⊎ (length way ≤ 0) → (at : Spot) × HoldsAt a.known a.known.locks key (LeafEntry n) at
    go (inr none) = (Root, at_root (t.checked.root (let w = t.within.0 in omega (arith, none, last, w)) ∙ ap Some (names 0 none)))
    go (inl some) =
        let i : ℕ = length way - 1 in
        let s : PathNode = get_or way i no_step in
        let at : slice_get way i ≡ Some s = slice_get-get_or way i no_step (omega (arith, some)) in
        let low : span.end ≤ i + 1 = (let w = t.within.0 in omega (arith, some, last, w)) in
        let (words, has) = locked_at a.known way span t.locked i s low (omega (arith, some, last)) at in
        let entry = some_injective (sym (t.checked.entries i s low (omega (arith, some, last)) at words has) ∙ names (i + 1) (omega (arith, some))) in
        (Slot s.number (spot key (node_words_of words).subtrie), in_node s.number (spot key (node_words_of words).subtrie) words has entry refl)

value_is : (c : Core) (n w : ℕ) → w ≡ record_word c (a_leaf n) VALUE_OFFSET → (leaf_of (c.words (a_leaf n))).value ≡ w
unfolding leaf_of
value_is c n w is = sym is

held_then : (layout : Layout) (k j : Known) (key : Key) (n w : ℕ) (at : Spot) → k.own ≡ [] → HoldsAt k k.locks key (LeafEntry n) at → IsLeafThere layout k k.locks [] n key →
    IsEvent layout (LoadRef (Value n) w) silent k j → value_at (map_of j.front) key ≡ Some w
held_then layout k j key n w at own holds there e =
    let c = e.core in
    let has : HasReady k k.locks [] = record { locks = refl; own = own } in
    let stage = stage_of layout k k.locks [] has c e.lawful e.layout_is e.knows in
    let spot = spot_in layout k k.locks [] c stage e.knows key (LeafEntry n) at holds in
    let (t, now) = newest_tree_if_spot_held (bare c) k.pass e.lawful.core.state spot in
    let is_leaf : leaf_of (c.words (a_leaf n)) ≡ record { key = key; value = w } = ap₂ (λ a b. let z : LeafWords = record { key = a; value = b } in z) (there c stage) (value_is c n w e.legal.1.1) in
    let stands : Within (leaf n key w) t = subst (λ (z : LeafWords). Within (leaf n z.key z.value) t) is_leaf (leaf_at (bare c) k.pass e.lawful.core.state t now key n spot).place in
    subst (λ (z : List Change). value_at (map_of z) key ≡ Some w) (sym (ap (λ (z : Known). z.front) e.learned_is)) (leaf_held c e.lawful t now n key w stands)

pub held_loaded : (table : TableView) (a : SeatView) (j : Known) (job : Job) (deed : Deed) (n v w : ℕ) → HasTakenPlan table a job deed → job.found ≡ Leaf n v None →
    IsEvent table.layout (LoadRef (Value n) w) silent a.known j → HoldsFound j job.key.now (Leaf n w None)
held_loaded table a j job deed n v w (m, aim, t, planned) is e number value same =
    let key = job.key.now in
    let way = job.way.now in
    let last = plan_reaches a.known m key way aim job.found job.span deed planned n v is in
    let (at, holds) = named_below table a m key way job.found job.span t last n v is in
    let leaf_key = read_at table a m key way job.found job.span t n v None is in
    let there : IsLeafThere table.layout a.known a.known.locks [] n key =
    subst (λ z. IsLeafThere table.layout a.known a.known.locks [] n z) (sym leaf_key.2) (there_still table a m key way job.found job.span t n v None is a.known a.known.locks [] (later_if_same a.known a.known refl)) in
    let held = held_then table.layout a.known j key n w at t.own holds there e in
    let value_same : w ≡ value = cc in
    held ∙ ap Some value_same
