-- What rose is put in the child's place.
use Rattle.plain_trie_records.proofs.Common.{◌≡◌, ◌≢◌, inr, suc, ◌+◌, ◌<◌, List, refl, ap, ◌∙◌, sym, subst, arith, Some, slice_get, slice_set, false≢true, slice_get_within, grafted, IsAbovePath, Place, Fork, size, NodeView, piece, IsBuiltFrom, IsLawfulNode, GrownShows, is_whole, subtrie_of, Whole, some_injective, size-piece}
use Rattle.plain_trie_records.proofs.Cases.{takes_fork}
use Rattle.plain_trie_records.proofs.rising.Rising.{old_at, old_high, at_within, above_path, pair_here, stands_here, lift, between}
use Rattle.plain_trie_records.proofs.Heights.{heights_new, heights_over}
use Rattle.plain_trie_records.proofs.Store.Searching.{read_at}
use Rattle.plain_trie_records.proofs.rising.Steady.{pull_steady, size-grafted}
use Rattle.plain_trie_records.proofs.Risen.{push_old}
use Rattle.plain_trie_records.proofs.rising.lift_risen.Goals as goal

-- ---- one entry
pub replace_entry-requires : goal.replace_entry-requires
replace_entry-requires c =
    let i = c.requires.place.6 in
    (i.shown.0.view, old_at i, at_within i, stands_here i c.in-Whole.entry (ap subtrie_of c.in-Whole.is))

pub returns-in-Whole-clause-raised : goal.returns-in-Whole-clause-raised
returns-in-Whole-clause-raised c = λ ns leaves x p y b i.
    lift i c.replace_entry.new.nodes.items (Whole c.replace_entry.result) c.replace_entry.ensures.others
    (λ old at. rw c.in-Whole.is (c.replace_entry.ensures.shows old at))

pub returns-in-Whole-clause-takes : goal.returns-in-Whole-clause-takes
returns-in-Whole-clause-takes c = λ old at. rw c.in-Whole.is (_, c.replace_entry.ensures.fields old at, (inr (c.args.slot, c.in-Whole.entry, refl), refl))

-- ---- a fork that goes into the node
pub index-node-requires : goal.index-node-requires
index-node-requires c =
    let i = c.requires.place.6 in omega (arith, slice_get_within c.args.nodes.now.items c.args.number i.shown.0.view (old_at i), c.args.nodes.now.ok.0)

pub prove-unreachable-requires : goal.prove-unreachable-requires
prove-unreachable-requires c =
    let i = c.requires.place.6 in
    let v = c.index-node.result.now in
    let same : v ≡ i.shown.0.view = read_at c.args.nodes.now.items c.args.number i.shown.0.view v (old_at i) c.index-node.ensures in
    omega (arith, at_within i, ap (λ (w : NodeView). size (piece w)) same, size-piece v c.count.ensures.lawful, c.count.ensures.count)

pub pull_up-grown-requires-clause-path : goal.pull_up-grown-requires-clause-path
pull_up-grown-requires-clause-path c =
    let i = c.requires.place.6 in
    let same : c.index-node.result.now ≡ i.shown.0.view = read_at c.args.nodes.now.items c.args.number i.shown.0.view c.index-node.result.now (old_at i) c.index-node.ensures in
    subst (λ (w : NodeView). IsAbovePath c.in-Split.position c.args.slot (piece w)) (sym same) (above_path i c.in-Split.position c.in-Split.zero c.in-Split.one (ap subtrie_of c.in-Split.is))

pub pull_up-grown-requires-clause-position : goal.pull_up-grown-requires-clause-position
pull_up-grown-requires-clause-position c =
    let p = pair_here c.requires.place.6 c.in-Split.position c.in-Split.zero c.in-Split.one (ap subtrie_of c.in-Split.is) in omega (arith, p.position)

pub pull_up-grown-requires-clause-zero : goal.pull_up-grown-requires-clause-zero
pull_up-grown-requires-clause-zero c = (pair_here c.requires.place.6 c.in-Split.position c.in-Split.zero c.in-Split.one (ap subtrie_of c.in-Split.is)).zero

pub pull_up-grown-requires-clause-one : goal.pull_up-grown-requires-clause-one
pull_up-grown-requires-clause-one c = (pair_here c.requires.place.6 c.in-Split.position c.in-Split.zero c.in-Split.one (ap subtrie_of c.in-Split.is)).one

pub store_grown-requires-clause-number : goal.store_grown-requires-clause-number
store_grown-requires-clause-number c =
    let i = c.requires.place.6 in omega (arith, slice_get_within c.args.nodes.now.items c.args.number i.shown.0.view (old_at i), c.args.nodes.now.ok.0)

pub returns-then-is_pull_up-clause-raised : goal.returns-then-is_pull_up-clause-raised
returns-then-is_pull_up-clause-raised c = λ ns leaves x p y b i.
    lift i c.store_grown.new.nodes.items c.store_grown.result c.store_grown.ensures.others
    (λ old at.
    let same : c.index-node.result.now ≡ old = read_at c.args.nodes.now.items c.args.number old c.index-node.result.now at c.index-node.ensures in
    let high : old.height ≡ c.args.height = ap (λ (w : NodeView). w.height) (some_injective (sym at ∙ old_at i)) ∙ old_high i in
    rw c.in-Split.is (c.store_grown.ensures.shows old _ at high (subst IsLawfulNode same c.count.ensures.lawful) (rw same at c.pull_up-grown.ensures.shows)))

pub returns-then-is_pull_up-clause-heights : goal.returns-then-is_pull_up-clause-heights
returns-then-is_pull_up-clause-heights c =
    let i = c.requires.place.6 in
    let old = i.shown.0.view in
    let q = c.in-Split.position in
    let z = c.in-Split.zero in
    let o = c.in-Split.one in
    let same : c.index-node.result.now ≡ old = read_at c.args.nodes.now.items c.args.number old c.index-node.result.now (old_at i) c.index-node.ensures in
    let shows : GrownShows old c.pull_up-grown.result (grafted c.args.slot (Fork q (Place z) (Place o)) (piece old)) = rw same at c.pull_up-grown.ensures.shows in
    c.store_grown.ensures.heights old _ (old_at i) shows
    (pull_steady old (subst IsLawfulNode same c.count.ensures.lawful) q c.args.slot z o (above_path i q z o (ap subtrie_of c.in-Split.is)) c.pull_up-grown.result shows)

pub returns-then-is_pull_up-clause-takes : goal.returns-then-is_pull_up-clause-takes
returns-then-is_pull_up-clause-takes c = λ old at.
    let i = c.requires.place.6 in
    let g = c.pull_up-grown.result in
    let q = c.in-Split.position in
    let z = c.in-Split.zero in
    let o = c.in-Split.one in
    let P = grafted c.args.slot (Fork q (Place z) (Place o)) (piece old) in
    let same : c.index-node.result.now ≡ old = read_at c.args.nodes.now.items c.args.number old c.index-node.result.now at c.index-node.ensures in
    let lawful = subst IsLawfulNode same c.count.ensures.lawful in
    let high : old.height ≡ c.args.height = ap (λ (w : NodeView). w.height) (some_injective (sym at ∙ old_at i)) ∙ old_high i in
    let big : 2 < size P = omega (arith, size-grafted q z o c.args.slot (piece old), size-piece old lawful, lawful.several) in
    let s = c.store_grown.ensures.does old P at (rw same at c.pull_up-grown.ensures.shows) big in
    let f = takes_fork old s.0 q z o c.args.slot (is_whole g) _ (rw same at c.pull_up-grown.ensures.whole) c.store_grown.ensures.up s.2 in
    rw c.in-Split.is (s.0, s.1, (λ e. f, λ ne. absurd (ne (high ∙ c.if-is_pull_up.ensures.0 refl))))

-- ---- or into a new one between
pub push_pair-entry-requires : goal.push_pair-entry-requires
push_pair-entry-requires c =
    let p = pair_here c.requires.place.6 c.in-Split.position c.in-Split.zero c.in-Split.one (ap subtrie_of c.in-Split.is) in
    record { room = c.requires.room; small = c.requires.small; position = omega (arith, p.position); zero = p.zero; one = p.one }

pub replace_entry-requires-in-Split : goal.replace_entry-requires-in-Split
replace_entry-requires-in-Split c =
    let i = c.requires.place.6 in
    let ne : c.args.height ≢ c.args.low + 1 = λ e. false≢true (c.if-is_pull_up.ensures.1 e) in
    let far : suc c.args.low < c.args.height = omega (arith, i.lower) in
    let o = between i c.push_pair-entry.new.nodes.items c.in-Split.position c.in-Split.zero c.in-Split.one c.push_pair-entry.result (ap subtrie_of c.in-Split.is) c.push_pair-entry.ensures.new far in
    (o.shown.0.view, old_at o, at_within o, stands_here o c.push_pair-entry.result refl)

pub returns-else-is_pull_up-clause-raised : goal.returns-else-is_pull_up-clause-raised
returns-else-is_pull_up-clause-raised c = λ ns leaves x p y b i.
    let ne : c.args.height ≢ c.args.low + 1 = λ e. false≢true (c.if-is_pull_up.ensures.1 e) in
    let far : suc c.args.low < c.args.height = omega (arith, i.lower) in
    lift (between i c.push_pair-entry.new.nodes.items c.in-Split.position c.in-Split.zero c.in-Split.one c.push_pair-entry.result (ap subtrie_of c.in-Split.is) c.push_pair-entry.ensures.new far)
    c.replace_entry-in-Split.new.nodes.items (Whole c.replace_entry-in-Split.result) c.replace_entry-in-Split.ensures.others c.replace_entry-in-Split.ensures.shows

pub returns-else-is_pull_up-clause-heights : goal.returns-else-is_pull_up-clause-heights
returns-else-is_pull_up-clause-heights c =
    let i = c.requires.place.6 in
    let ms = c.args.nodes.now.items in
    let us = c.push_pair-entry.new.nodes.items in
    let new = c.push_pair-entry.ensures.new in
    let still : slice_get us c.args.number ≡ Some i.shown.0.view = ap (λ (vs : List NodeView). slice_get vs c.args.number) new.added ∙ push_old ms _ c.args.number i.shown.0.view (old_at i) in
    heights_over ms us c.replace_entry-in-Split.new.nodes.items (heights_new ms us c.push_pair-entry.result _ new) c.replace_entry-in-Split.ensures.heights c.args.number i.shown.0.view (old_at i) still
    c.replace_entry-in-Split.ensures.others

pub returns-else-is_pull_up-clause-others : goal.returns-else-is_pull_up-clause-others
returns-else-is_pull_up-clause-others c = λ m v ne at.
    c.replace_entry-in-Split.ensures.others m v ne (ap (λ (vs : List NodeView). slice_get vs m) c.push_pair-entry.ensures.new.added ∙ push_old c.args.nodes.now.items _ m v at)

pub returns-in-Whole-clause-between : goal.returns-in-Whole-clause-between
returns-in-Whole-clause-between c = λ old p zero one at is far. absurd (let e : subtrie_of (Whole c.in-Whole.entry) ≡ subtrie_of c.args.risen = ap subtrie_of (sym c.in-Whole.is) in cc)

pub returns-else-is_pull_up-clause-between : goal.returns-else-is_pull_up-clause-between
returns-else-is_pull_up-clause-between c = λ old p zero one at is far.
    let ms = c.args.nodes.now.items in
    let us = c.push_pair-entry.new.nodes.items in
    let new = c.push_pair-entry.ensures.new in
    let still : slice_get us c.args.number ≡ Some old = ap (λ (vs : List NodeView). slice_get vs c.args.number) new.added ∙ push_old ms _ c.args.number old at in
    let shown : Fork c.in-Split.position (Place c.in-Split.zero) (Place c.in-Split.one) ≡ Fork p (Place zero) (Place one) = sym (ap subtrie_of c.in-Split.is) ∙ is in
    record {
      view = new.view;
      built = subst (IsBuiltFrom new.view) shown new.built;
      after = c.replace_entry-in-Split.ensures.fields old still ∙
          ap (λ e. Some (let w : NodeView = record old { entries = slice_set old.entries c.args.slot e } in w)) new.is;
    }

pub returns-else-is_pull_up-clause-takes : goal.returns-else-is_pull_up-clause-takes
returns-else-is_pull_up-clause-takes c = λ old at.
    let i = c.requires.place.6 in
    let ms = c.args.nodes.now.items in
    let us = c.push_pair-entry.new.nodes.items in
    let high : old.height ≡ c.args.height = ap (λ (v : NodeView). v.height) (some_injective (sym at ∙ old_at i)) ∙ old_high i in
    let still : slice_get us c.args.number ≡ Some old = ap (λ (vs : List NodeView). slice_get vs c.args.number) c.push_pair-entry.ensures.new.added ∙ push_old ms _ c.args.number old at in
    rw c.in-Split.is (_, c.replace_entry-in-Split.ensures.fields old still, (λ e. absurd (false≢true (c.if-is_pull_up.ensures.1 (sym high ∙ e))), λ f. ((_, _, ap (λ e. let w : NodeView = record old { entries = slice_set old.entries c.args.slot e } in w) c.push_pair-entry.ensures.new.is), refl)))
