-- In a table with one pass a refused call has seen no change, so it has made none, and no record is retired after it. A count finds that.
use Rattle.hot_index_calls.proofs.Common.{◌≡◌, ℕ, suc, ◌+◌, ◌-◌, ◌<◌, ◌≤◌, List, [], ◌∷◌, ◌++◌, Bool, true, false, if◌then◌else◌, Option, Some, None, Result, Ok, Err, length, refl, sym, ap, subst, ◌∙◌, arith, length-append, All, IfErr, count_by, false≢true, All-cons, All-nil, Call, Change, Note, Reply, LegalCalls, changes_of, own_changes, state_word, Layout, Rec, a_node, a_leaf, Tag, FreeTag, HeldTag, Live, Locked, Obsolete, Fate, Free, Held, Ready, InTree, Unlinked, Marked, IsOneOf, Act, ClearPin, Load, LoadState, Publish, Event, HeldBy, ReadyBy, Known, knows_all, Core, HasRecord, IsLawful, holder_of, next_change, IsEvent, Knows, fate_of, lock_of, tag_of, Runs, Steps, StepsWith, silent, SeatView, TableView, act_leaves, act_front, runs_split, one_of, TryFault, Busy, FullNodes, FullLeaves, LeavesTree, eq-eqb, nat_eq, Ends}
use Rattle.finite_map.proofs.Calls.Alone.{own_changes-all}
use Rattle.std.proofs.lemmas.List.Elements.{filter-append}
use Rattle.rowex_core.proofs.Frames.{next_change_pass}
use Rattle.rowex_core.specs.declared.event.Spot.{Spot}
use Rattle.rowex_core.specs.declared.known.Holding.{Holding}
use Rattle.hot_index_calls.specs.Answers.{IsRefusedFor, IsUnnoted}
use Rattle.hot_index_calls.specs.Census.{FoundTags, counts_in, counts_of, is_held, is_obsolete, loads_in, loads_of}
use Rattle.hot_index_calls.proofs.Counted.{count_first}
use Rattle.hot_index_calls.specs.Passes.{AreByPasses, IsSettled, PassView, pass_of}
use Rattle.hot_index_calls.specs.Refusals.{AreAllAtRest, AreAtRest}
use Rattle.hot_index_calls.specs.Rooms.{HasNoneRetired, IsUnretired}
use Rattle.hot_index_calls.specs.Traces.{HasEnded, is_full}
use Rattle.hot_index_calls.proofs.Noting.{All-part, longer}
use Rattle.hot_index_calls.proofs.Rooms.{runs_still, step_here, step_still}

-- ---- what a refused call has seen
-- with one pass each change is its own
all_own : (layout : Layout) (q : ℕ) (front : List Change) → layout.passes ≡ 1 → q < layout.passes → AreByPasses layout front → own_changes q front ≡ front
all_own layout q front one mine by = own_changes-all q front (λ i d low. (let its = by i d low in omega (arith, its, one, mine)))

-- a call that adds no note has made no change
pub own_same : (layout : Layout) (k j : PassView) → LegalCalls k.front k.number k.notes → IsUnnoted layout k j → own_changes k.number j.front ≡ own_changes k.number k.front
own_same layout k j legal unnoted =
    ap (λ q. own_changes q j.front) (sym unnoted.number) ∙ unnoted.legal.own ∙ ap (changes_of j.number) unnoted.notes ∙ ap (λ q. changes_of q k.notes) unnoted.number ∙ sym legal.own

-- so with one pass it has seen none
pub none_seen : (layout : Layout) (k j : PassView) → layout.passes ≡ 1 → j.number < layout.passes → LegalCalls k.front k.number k.notes → IsUnnoted layout k j → j.front ≡ k.front
none_seen layout k j one mine legal unnoted =
    let low : k.number < layout.passes = subst (λ q. q < layout.passes) unnoted.number mine in
    let (more, grown) = unnoted.front in
    let by : AreByPasses layout k.front = All-part (λ (x : Change). x.pass < layout.passes) k.front more (subst (AreByPasses layout) grown unnoted.makers) in
    sym (all_own layout k.number j.front one low unnoted.makers) ∙ own_same layout k j legal unnoted ∙ all_own layout k.number k.front one low by

-- a call that was refused as full adds no note
pub full_unnoted : (layout : Layout) (call : Call) (k j : PassView) (r : Result Reply TryFault) → is_full r ≡ true → IfErr r (IsRefusedFor layout call k j) → IsUnnoted layout k j
full_unnoted layout call k j (Ok reply) full h = absurd (false≢true full)
full_unnoted layout call k j (Err Busy) full h = absurd (false≢true full)
full_unnoted layout call k j (Err FullNodes) full h = h.refused.unnoted
full_unnoted layout call k j (Err FullLeaves) full h = h.refused.unnoted

-- ---- steps that make no change
-- how many changes of a front are the pass's
abbrev pub own_in : ℕ → List Change → ℕ
own_in q front = length (own_changes q front)

own_more : (q : ℕ) (xs ys : List Change) → own_in q (xs ++ ys) ≡ own_in q xs + own_in q ys
own_more q xs ys = ap (λ (l : List Change). length l) (filter-append (λ (x : Change). nat_eq x.pass q) xs ys) ∙ length-append (own_changes q xs) (own_changes q ys)

-- a publish adds one
published_more : (layout : Layout) (k j : Known) (spot : Spot) (w : ℕ) (said : Known → List Note) → IsEvent layout (Publish spot w) said k j → own_in k.pass k.front < own_in k.pass j.front
published_more layout k j spot w said e =
    let q = k.pass in
    let f = e.knows.seen.front in
    let x = next_change e.core q spot w in
    let now : own_in q j.front ≡ own_in q (e.core.changes ++ x ∷ []) = ap (λ (z : Known). own_in q z.front) e.learned_is in
    let was : own_in q e.core.changes ≡ own_in q (k.front ++ f.0) = ap (own_in q) f.1 in
    let one : own_in q (x ∷ []) ≡ 1 = ap (λ (t : Bool). length (if t then x ∷ [] else [])) (eq-eqb x.pass q (next_change_pass e.core q spot w)) in
    omega (arith, now, was, one, own_more q e.core.changes (x ∷ []), own_more q k.front f.0)

module _ {G : Type 0} (table : TableView) (becomes : G → Event → G → Type 0) where
  step_grows : (q : ℕ) (act : Act) (a b : SeatView × G) → StepsWith table becomes act silent a b → own_in q a.0.known.front ≤ own_in q b.0.known.front
  step_grows q act a b step =
      let (more, is) = act_front table.layout a.0.known b.0.known act step.event in
      let now : own_in q b.0.known.front ≡ own_in q (a.0.known.front ++ more) = ap (own_in q) is in omega (arith, now, own_more q a.0.known.front more)

  runs_grow : (q : ℕ) (acts : List Act) (a b : SeatView × G) → Runs table becomes acts a b → own_in q a.0.known.front ≤ own_in q b.0.known.front
  runs_grow q [] a b run = let same = ap (λ (z : SeatView × G). own_in q z.0.known.front) run in omega (arith, same)
  runs_grow q (act ∷ acts) a b (m, step, rest) = let first = step_grows q act a m step in let later = runs_grow q acts m b rest in omega (arith, first, later)

  is_plain : (act : Act) (a b : SeatView × G) → StepsWith table becomes act silent a b → own_in a.0.known.pass b.0.known.front ≤ own_in a.0.known.pass a.0.known.front → LeavesTree act
  is_plain (Publish spot w) a b step few = absurd (let more = published_more table.layout a.0.known b.0.known spot w silent step.event in omega (arith, few, more))
  is_plain (Load words) a b step few = absurd step.atomic
  is_plain _ a b step few = tt

  -- steps after which the pass has made no more changes than before publish nothing
  pub are_plain : (acts : List Act) (a b : SeatView × G) → Runs table becomes acts a b → own_in a.0.known.pass b.0.known.front ≤ own_in a.0.known.pass a.0.known.front → All LeavesTree acts
  are_plain [] a b run few = All-nil LeavesTree
  are_plain (act ∷ acts) a b (m, step, rest) few =
      let q = a.0.known.pass in
      let first = step_grows q act a m step in
      let later = runs_grow q acts m b rest in
      let less : own_in q b.0.known.front ≤ own_in q m.0.known.front = omega (arith, few, first) in
      All-cons LeavesTree act acts (is_plain act a m step (omega (arith, few, later))) (are_plain acts m b rest (subst (λ p. own_in p b.0.known.front ≤ own_in p m.0.known.front) (sym step.seat.2) less))

  -- so do those of a refused call
  pub refused_plain : {said : Known → List Note} (acts : List Act) (a b : SeatView × G) → LegalCalls a.0.known.front a.0.known.pass a.0.known.notes → Ends table becomes acts ClearPin said a b → IsUnnoted table.layout (pass_of a.0) (pass_of b.0) → All LeavesTree acts
  refused_plain acts a b legal (m, run, last) unnoted =
      let cleared : b.0.known.front ≡ m.0.known.front = ap (λ (z : Known). z.front) last.event.learned_is in
      let few = ap (λ (z : List Change). length z) (ap (own_changes a.0.known.pass) (sym cleared) ∙ own_same table.layout (pass_of a.0) (pass_of b.0) legal unnoted) in
      are_plain acts a m run (omega (arith, few))

  -- so none is retired after a refused one, if none was before it
  pub refused_still : {Are : List Act → Type 0} {said : Known → List Note} (a b : SeatView × G) → IsSettled a.0.known → HasEnded table becomes Are said a b → IsUnnoted table.layout (pass_of a.0) (pass_of b.0) →
      HasNoneRetired table.layout a.0 → HasNoneRetired table.layout b.0
  refused_still {said = said} a b settled (acts, are, (m, run, last)) unnoted none x has =
      step_still table becomes x ClearPin said m b tt last (runs_still table becomes x acts a m (refused_plain acts a b settled.legal (m, run, last) unnoted) run (none x has))

-- ---- a count
none_first : (is : Tag → Bool) (tag : Tag) (tags : List Tag) → is tag ≡ false → count_by is tags ≡ 0 → count_by is (tag ∷ tags) ≡ 0
none_first is tag tags not none = count_first is tag tags ∙ (ap (λ (t : Bool). (if t then 1 else 0) + count_by is tags) not ∙ omega (arith, none))

-- the tag that stands for a fate, of a record that is neither claimed nor retired
tag_at_rest : (tag : Tag) (lock : Option ℕ) (f : Fate) → IsUnretired f → holder_of f ≡ None → state_word tag ≡ state_word (tag_of lock f) → (is_held tag ≡ false) × (is_obsolete tag ≡ false)
tag_at_rest FreeTag lock f still none same = (refl, refl)
tag_at_rest Live lock f still none same = (refl, refl)
tag_at_rest Locked lock f still none same = (refl, refl)
tag_at_rest HeldTag lock Free still none same = absurd (omega (arith, same))
tag_at_rest HeldTag None (InTree since) still none same = absurd (omega (arith, same))
tag_at_rest HeldTag (Some q) (InTree since) still none same = absurd (omega (arith, same))
tag_at_rest HeldTag lock (Held q) still none same = absurd cc
tag_at_rest HeldTag lock (Ready q) still none same = absurd cc
tag_at_rest HeldTag lock (Unlinked since last q) still none same = absurd still
tag_at_rest HeldTag lock (Marked since last epoch) still none same = absurd still
tag_at_rest (Obsolete e) lock Free still none same = absurd (omega (arith, same))
tag_at_rest (Obsolete e) None (InTree since) still none same = absurd (omega (arith, same))
tag_at_rest (Obsolete e) (Some q) (InTree since) still none same = absurd (omega (arith, same))
tag_at_rest (Obsolete e) lock (Held q) still none same = absurd cc
tag_at_rest (Obsolete e) lock (Ready q) still none same = absurd cc
tag_at_rest (Obsolete e) lock (Unlinked since last q) still none same = absurd still
tag_at_rest (Obsolete e) lock (Marked since last epoch) still none same = absurd still

-- a record of a pass that is alone and has none is no pass's
nobodys : (c : Core) (k : Known) (r : Rec) → IsLawful c → Knows c k → c.layout.passes ≡ 1 → k.own ≡ [] → IsUnretired (c.fate r) → holder_of (c.fate r) ≡ None
nobodys c k r lawful knows one own still = of (c.fate r) refl still
  where
    alone : (p : ℕ) → holder_of (c.fate r) ≡ Some p → p ≡ k.pass
    alone p is = let low = lawful.records.holders r p is in let mine = knows.pass in omega (arith, low, mine, one)

    none : (h : Holding) → c.fate r ≡ fate_of k.pass h → ⊥
    none h is = subst (IsOneOf (record { rec = r; holding = h; words = c.words r })) own (one_of k.own _ ((knows_all c k knows).all_own r h is))

    of : (f : Fate) → c.fate r ≡ f → IsUnretired f → holder_of (c.fate r) ≡ None
    of Free is h = ap holder_of is
    of (Held p) is h = absurd (none HeldBy (is ∙ ap Held (alone p (ap holder_of is))))
    of (Ready p) is h = absurd (none ReadyBy (is ∙ ap Ready (alone p (ap holder_of is))))
    of (InTree since) is h = ap holder_of is
    of (Unlinked since last p) is h = absurd h
    of (Marked since last epoch) is h = absurd h

module _ {G : Type 0} (table : TableView) (becomes : G → Event → G → Type 0) (one : table.layout.passes ≡ 1) where
  -- the pass has no record, and none is retired: so after loads too
  record IsAtRest (s : SeatView) : Type 0 where
    pub own : s.known.own ≡ []
    pub none : HasNoneRetired table.layout s

  load_rests : (r : Rec) (word : ℕ) (a b : SeatView × G) → Steps table becomes (LoadState r word) a b → IsAtRest a.0 → IsAtRest b.0
  load_rests r word a b step rest = record {
    own = (act_leaves table.layout a.0.known b.0.known (LoadState r word) step.event).own tt ∙ rest.own;
    none = λ x has. step_still table becomes x (LoadState r word) silent a b tt step (rest.none x has);
  }

  -- loads of some records find none claimed, and none retired
  loads_rest : (kind : ℕ → Rec) (first : ℕ) (left : ℕ) (tags : List Tag) (a b : SeatView × G) → Runs table becomes (loads_of kind first tags) a b → IsAtRest a.0 → AreAtRest (counts_of left tags) × IsAtRest b.0
  loads_rest kind first left [] a b run rest = (record { held = refl; obsolete = refl }, subst (λ (z : SeatView × G). IsAtRest z.0) (sym run) rest)
  loads_rest kind first left (tag ∷ tags) a b (m, step, more) rest =
      let c = step.event.core in
      let r = kind first in
      let lone = step_here table becomes one (LoadState r (state_word tag)) a m step in
      let still = rest.none r (subst (λ (l : Layout). HasRecord l r) step.event.layout_is step.event.legal.1.0) c lone in
      let nobody = nobodys c a.0.known r step.event.lawful step.event.knows (ap (λ (l : Layout). l.passes) step.event.layout_is ∙ one) rest.own still in
      let (held, obsolete) = tag_at_rest tag (lock_of c r) (c.fate r) still nobody step.event.legal.1.1 in
      let (others, after) = loads_rest kind (suc first) left tags m b more (load_rests r (state_word tag) a m step rest) in
      (record { held = none_first is_held tag tags held others.held; obsolete = none_first is_obsolete tag tags obsolete others.obsolete }, after)

  -- so a count of all finds none
  pub counts_rest : (tags : FoundTags) (a b : SeatView × G) → Runs table becomes (loads_in table.layout tags) a b → a.0.known.own ≡ [] → HasNoneRetired table.layout a.0 → AreAllAtRest (counts_in table.layout tags)
  counts_rest tags a b run own none =
      let l = table.layout in
      let (s5, run5, of_long) = runs_split table becomes (loads_of a_node 0 tags.nodes ++ loads_of a_leaf 0 tags.short ++ loads_of a_leaf l.medium_from tags.medium ++ loads_of a_leaf l.large_from tags.large ++ loads_of a_leaf l.wide_from tags.wide) (loads_of a_leaf l.long_from tags.long) a b run in
      let (s4, run4, of_wide) = runs_split table becomes (loads_of a_node 0 tags.nodes ++ loads_of a_leaf 0 tags.short ++ loads_of a_leaf l.medium_from tags.medium ++ loads_of a_leaf l.large_from tags.large) (loads_of a_leaf l.wide_from tags.wide) a s5 run5 in
      let (s3, run3, of_large) = runs_split table becomes (loads_of a_node 0 tags.nodes ++ loads_of a_leaf 0 tags.short ++ loads_of a_leaf l.medium_from tags.medium) (loads_of a_leaf l.large_from tags.large) a s4 run4 in
      let (s2, run2, of_medium) = runs_split table becomes (loads_of a_node 0 tags.nodes ++ loads_of a_leaf 0 tags.short) (loads_of a_leaf l.medium_from tags.medium) a s3 run3 in
      let (s1, of_nodes, of_short) = runs_split table becomes (loads_of a_node 0 tags.nodes) (loads_of a_leaf 0 tags.short) a s2 run2 in
      let (nodes, r1) = loads_rest a_node 0 (l.nodes - length tags.nodes) tags.nodes a s1 of_nodes (record { own = own; none = none }) in
      let (short, r2) = loads_rest a_leaf 0 (l.medium_from - length tags.short) tags.short s1 s2 of_short r1 in
      let (medium, r3) = loads_rest a_leaf l.medium_from (l.large_from - l.medium_from - length tags.medium) tags.medium s2 s3 of_medium r2 in
      let (large, r4) = loads_rest a_leaf l.large_from (l.wide_from - l.large_from - length tags.large) tags.large s3 s4 of_large r3 in
      let (wide, r5) = loads_rest a_leaf l.wide_from (l.long_from - l.wide_from - length tags.wide) tags.wide s4 s5 of_wide r4 in
      let (long, r6) = loads_rest a_leaf l.long_from (l.leaves - l.long_from - length tags.long) tags.long s5 b of_long r5 in
      record { nodes = nodes; short = short; medium = medium; large = large; wide = wide; long = long }
