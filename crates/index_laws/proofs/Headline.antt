-- The promises of the headline, one by one.
use Rattle.index_laws.proofs.Common.{a_node, ◌≡◌, ◌≢◌, inl, inr, ⊎_elim, ℕ, Bool, true, false, cond, length, ◌+◌, ◌*◌, ◌<◌, ◌≤◌, List, [], ◌∷◌, ◌++◌, Option, map, suc, refl, sym, ap, subst, ◌∙◌, arith, append-nil, le_refl, le_trans, All, Result, All-head, All-nil, sum_by-cons, Call, Reply, Add, Exchange, Insert, Remove, RemoveIf, Change, Note, Inserted, LegalCalls, StandsIn, changes_of, own_changes, LegalHistory, answered, calls_of, weave, weave-legal, woven-in_order_two, Act, Known, loaded_tree, entries_in_reach, in_reach, Layout, TableView, Item, Tree, pin_version, IsReach, a_leaf, added_notes, items_of, IsCause, MayRefuse, PassView, HasMadeChangeSteps, untold, counts_add_up, Happening, IsWholeRun, Configuration}
use Rattle.key_bits.specs.declared.TheConstants.{MAX_BYTES}
use Rattle.finite_map.specs.declared.Scan.{Scan}
use Rattle.finite_map.specs.Maps.{Map}
use Rattle.finite_map.specs.Reverse.{IsDownToLast, IsLawfulReverseScan}
use Rattle.finite_map.specs.Scans.{IsLawfulScan, IsUpToLast}
use Rattle.finite_map.specs.Weaves.{Event}
use Rattle.plain_index.proofs.Orders.InOrder.{weave-in_order}
use Rattle.rowex_core.proofs.Cores.Loading.{LastOf, last, value_fact, view}
use Rattle.rowex_reading.specs.Reads.{entries_in, loads_entry}
use Rattle.rowex_reading.proofs.Counting.{runs_count}
use Rattle.rowex_writing.specs.declared.attempts.TryFault.{TryFault}
use Rattle.rowex_writing.specs.declared.attempts.TryFault.TheVariants.{Busy, FullLeaves, FullNodes}
use Rattle.version_laws.specs.Directions.{ScanLaw}
use Rattle.versions.proofs.State.{reach_later}
use Rattle.versions.proofs.Told.{content_in_order}
use Rattle.record_words.specs.Layout.{uncommitted_in}
use Rattle.epochs.proofs.Rounds.{committed_few}
use Rattle.hot_index_calls.specs.Counts.{try_steps}
use Rattle.hot_index.proofs.Statements.Alone.{one_pass_full_means_taken, one_pass_is_never_busy}
use Rattle.hot_index.proofs.Statements.Held.{absent_is_never_full, held_is_never_full, one_pass_refuses_only_new_keys}
use Rattle.hot_index.proofs.Stamps.{returned_before_begun}
use Rattle.linearizability.specs.Scanning.{IsScanInTime}
use Rattle.linearizability.proofs.Statements.Replies.{behind, effect, replies_in_time}
use Rattle.linearizability.proofs.Scanning.{scans_in_time}
use Rattle.index_laws.specs.Headline.{BoundedSteps, BoundedTouches, Freshness, FreshnessOfMany, Headline, History, LoadedHistory, FaultsByCall, OneHistory, Refusals, ScansShow, ValuesInReach}
use Rattle.index_laws.proofs.Joined.{one_run_is_an_execution}
use Rattle.index_laws.proofs.Lives.{one_history_of_all}
use Rattle.index_laws.proofs.Executions.Loaded.{loader_legal}
use Rattle.index_laws.proofs.Traced.{ended_before_loaded, traced_are_executions}
use Rattle.index_laws.proofs.Executions.{executions_are_linearizable, legal_now, noted_placed, responses, returned_responds}

calls-append : (ns : List Note) (n : Note) → calls_of (ns ++ n ∷ []) ≡ calls_of ns ++ answered n.call n.reply ∷ []
calls-append [] n = refl
calls-append (m ∷ ns) n = ap (λ (es : List Event). answered m.call m.reply ∷ es) (calls-append ns n)

legal_alone : (front : List Change) (q : ℕ) (ns : List Note) → LegalCalls front q ns → LegalHistory (weave front ns)
legal_alone front q ns legal =
    subst (λ l. LegalHistory (weave front l)) (append-nil ns) (weave-legal front ((q, ns) ∷ []) (legal, All-nil (λ (other : ℕ × List Note). other.0 ≢ q), tt))

history : History
history layout k j call reply noted = (
  legal_alone j.front j.number j.notes noted.legal,
  weave-in_order j.front j.number j.notes noted.legal,
  ap calls_of noted.notes ∙ calls-append k.notes (record { place = noted.place; call = call; reply = reply }),
)

one_history : OneHistory
one_history layout j k j' k' met = (
  met.history,
  woven-in_order_two j'.front j'.number k'.number j'.notes k'.notes met.first.legal (subst (λ f. LegalCalls f k'.number k'.notes) (sym met.fronts) met.second.legal),
)

answered_insertions : (n : ℕ) (xs : List Item) → calls_of (added_notes n xs) ≡ map (λ (x : Item). answered (Insert x.key x.value) Inserted) xs
answered_insertions n [] = refl
answered_insertions n (x ∷ xs) = ap (λ (es : List Event). answered (Insert x.key x.value) Inserted ∷ es) (answered_insertions (suc n) xs)

loaded_history : LoadedHistory
loaded_history table words s load is =
    let t : Option Tree = loaded_tree table.layout words in
    let k : Known = s.known in
    let legal : LegalCalls k.front k.pass k.notes =
    subst (λ (z : Known). LegalCalls z.front z.pass z.notes) (sym is.1) (loader_legal table.layout words load) in (
      legal_alone k.front k.pass k.notes legal,
      weave-in_order k.front k.pass k.notes legal ∙ (ap (λ (z : Known). calls_of z.notes) is.1 ∙ answered_insertions 0 (items_of t)),
      content_in_order t (λ u e. (load.tree u e).0),
    )

freshness : Freshness
freshness layout last at happens run q t below within call s e ends asked reply noted =
    let n : Note = record { place = noted.place; call = asked; reply = reply } in
    let legal = legal_now q ((at t).known q) e.known ends.now ends.pass noted.legal in
    let listed : ((at t).known q).notes ≡ s.known.notes ++ n ∷ [] = ap (λ (z : Known). z.notes) (sym ends.now) ∙ noted.notes in
    let stands : All (StandsIn ((at t).known q).front q) (n ∷ []) =
    behind (StandsIn ((at t).known q).front q) s.known.notes (n ∷ []) (subst (All (StandsIn ((at t).known q).front q)) listed legal.each) in
    effect layout last at happens run q t below within call.since n (noted_placed layout at q t call s e ends asked reply noted) (All-head (StandsIn ((at t).known q).front q) n [] stands)

loaded_in : (k l : Known) (i j : Known) → i ≡ k → j ≡ l → i.steps ≤ j.fresh.step → k.steps ≤ l.fresh.step
loaded_in k l i j before now h = subst (λ (z : Known). z.steps ≤ l.fresh.step) before (subst (λ (z : Known). i.steps ≤ z.fresh.step) now h)

freshness_of_many : FreshnessOfMany
freshness_of_many layout last at happens run q t below within call s e ends notes x =
    replies_in_time layout last at happens run q t call notes below within (returned_responds layout last at happens run q t below within call notes (s, e, ends, inr (inl x)))

-- what is lawful by one of the two laws shows the maps of the run
module _ (IsLawful : ScanLaw) (IsReached : Map → List ℕ → Type 0)
    (shows : (layout : Layout) (last : ℕ) (at : ℕ → Configuration) (happens : ℕ → Happening) → IsWholeRun layout last at happens → (q since until : ℕ) → q < layout.passes → since ≤ until →
    until ≤ last → ((at since).known q).steps ≤ ((at until).known q).fresh.step → (from upto : List ℕ) (limit : ℕ) (scan : Scan) →
    IsLawful ((at until).known q).fresh.front ((at until).known q).front from upto limit scan → IsScanInTime IsReached at since until from upto scan) where
  scans_show : ScansShow IsLawful IsReached
  scans_show layout last at happens run q t below within call s e ends from upto limit scan x = ⊎_elim (λ y. shown y.on.now.0 y.lawful) (λ y. shown y.on.now.0 (y.lawful scan refl refl)) x
    where
      shown : s.known.steps ≤ e.known.fresh.step → IsLawful e.known.fresh.front e.known.front from upto limit scan →
          IsLawful e.known.fresh.front e.known.front from upto limit scan × IsScanInTime IsReached at call.since t from upto scan
      shown h lawful = (
        lawful,
        shows layout last at happens run q call.since t below ends.later within (loaded_in ((at call.since).known q) ((at t).known q) s.known e.known ends.before ends.now h) from upto limit scan
            (subst (λ (z : Known). IsLawful z.fresh.front z.front from upto limit scan) ends.now lawful),
      )

scans : ScansShow IsLawfulScan IsUpToLast
scans = scans_show IsLawfulScan IsUpToLast
    (λ layout last at happens run q since until pass order within loaded from upto limit scan. (scans_in_time layout last at happens run q since until pass order within loaded from upto limit scan).0)

reverse_scans : ScansShow IsLawfulReverseScan IsDownToLast
reverse_scans = scans_show IsLawfulReverseScan IsDownToLast
    (λ layout last at happens run q since until pass order within loaded from upto limit scan. (scans_in_time layout last at happens run q since until pass order within loaded from upto limit scan).1)

exchanged : (key : List ℕ) (expected value : ℕ) (fault : TryFault) → fault ≢ Busy → MayRefuse (Exchange key expected value) fault → ⊥
exchanged key expected value Busy full may = full refl
exchanged key expected value FullNodes full may = may
exchanged key expected value FullLeaves full may = may

added : (key : List ℕ) (delta : ℕ) (fault : TryFault) → fault ≢ Busy → MayRefuse (Add key delta) fault → ⊥
added key delta Busy full may = full refl
added key delta FullNodes full may = may
added key delta FullLeaves full may = may

never_refused : FaultsByCall
never_refused call fault may key = (
  λ e. subst (λ c. MayRefuse c fault) e may,
  λ full e. subst (MayRefuse (Remove key)) full (subst (λ c. MayRefuse c fault) e may),
  λ full expected e. subst (MayRefuse (RemoveIf key expected)) full (subst (λ c. MayRefuse c fault) e may),
  λ full expected value e. exchanged key expected value fault full (subst (λ c. MayRefuse c fault) e may),
  λ full delta e. added key delta fault full (subst (λ c. MayRefuse c fault) e may),
)

refusals : Refusals
refusals layout call k j fault refused legal =
    let own : own_changes j.number j.front ≡ own_changes k.number k.front =
    refused.refused.unnoted.legal.own ∙ ap (changes_of j.number) refused.refused.unnoted.notes ∙ ap (λ q. changes_of q k.notes) refused.refused.unnoted.number ∙ sym legal.own in (
      refused.refused.unnoted.notes,
      own,
      refused.cause,
      λ alone busy. one_pass_is_never_busy layout call k j alone (subst (IsCause layout call k j) busy refused.cause),
    )

few_entries : (j k count entries most : ℕ) → j ≤ k + 4 + 32 * count + 26 * entries → entries ≤ most → j ≤ k + 4 + 32 * count + 26 * most
few_entries j k count entries most few depth = omega (arith, few, depth)

steps : BoundedSteps
steps = record {
  get = λ index k j h. (let depth = h.depth in let few = h.few in omega (arith, depth, few));
  get_many = λ index count k j h. few_entries j.steps k.steps count _ (count * (9 * MAX_BYTES)) h.few h.depth;
  change = λ index call result k j h. h.few;
  scan = λ index limit k j h. (let most = h.most in let few = h.few in omega (arith, most, few));
  collect = λ index nodes leaves k j h.
      (let few = h.few in
      let nodes_few = committed_few index.layout (uncommitted_in j.seat.bounds) a_node index.layout.nodes in
      let leaves_few = committed_few index.layout (uncommitted_in j.seat.bounds) a_leaf index.layout.leaves in omega (arith, few, nodes_few, leaves_few));
  collect_committed = λ index nodes leaves k j h. h.few;
  count = λ index counts k j h. (let many = h.many in omega (arith, many));
}

few_touches : (before now entries most : ℕ) → now ≤ before + 11 * entries → entries ≤ most → now ≤ before + 11 * most
few_touches before now entries most few depth = omega (arith, few, depth)

bit_most : (b : Bool) → cond b 1 0 ≤ 1
bit_most true = omega arith
bit_most false = omega arith

-- no more steps load entries than there are
entries_most : (acts : List Act) → entries_in acts ≤ length acts
entries_most [] = omega arith
entries_most (act ∷ acts) =
    let all = sum_by-cons (λ (a : Act). cond (loads_entry a) 1 0) act acts in let rest = entries_most acts in let one = bit_most (loads_entry act) in omega (arith, all, rest, one)

-- nor than a try makes
made_most : (index : TableView) (call : Call) (result : Result Reply TryFault) (k j : PassView) (h : HasMadeChangeSteps index untold call result (k, tt) (j, tt)) → entries_in h.acts ≤ try_steps call index.layout
made_most index call result k j h =
    let (m, runs, last) = h.steps in
    let ran = runs_count index untold h.acts (k.seat, tt) m runs in
    let ended : j.seat.known.steps ≡ m.0.known.steps + 1 = ap (λ (z : Known). z.steps) last.event.learned_is in
    let before : k.steps ≡ k.seat.known.steps = ap (λ (z : PassView). z.steps) h.begins in let after : j.steps ≡ j.seat.known.steps = ap (λ (z : PassView). z.steps) h.ends in
    let most = entries_most h.acts in let few = h.few in omega (arith, ran, ended, before, after, most, few)

touches : BoundedTouches
touches = record {
  get = λ index k j h. (let depth = h.depth in let few = h.touched in omega (arith, depth, few));
  get_many = λ index count k j h. few_touches k.touches j.touches _ (count * (9 * MAX_BYTES)) h.touched h.depth;
  change = λ index call result k j h. few_touches k.touches j.touches _ (try_steps call index.layout) h.touched (made_most index call result k j h);
  scan = λ index limit k j h. (let most = h.most in let few = h.touched in omega (arith, most, few));
}

values_in_reach : ValuesInReach
values_in_reach c law q p e m l u lo hi st =
    let x : LastOf c m (a_leaf l) = last c law m reach (a_leaf l) (m, u, le_refl m, hi, st) in
    let f = (value_fact c law m reach l).1 x.at x.low (x.at, x.tree, le_refl x.at, x.high, x.stands) in (
      f.0,
      f.1,
      le_trans x.low f.2,
      record {
        past = f.3;
        stands = f.4;
        later = λ o v late past s. let from = f.2 in let ends = x.ends o v (let low = x.low in omega arith) past s in omega arith;
      },
      f.5,
    )
  where
    reach : IsReach (view c) m
    reach = reach_later (view c) p.version m lo (law.core.state.reach q p.version (ap pin_version e))

pub headline : Headline
headline = record {
  history = history;
  one_history = one_history;
  one_history_of_all = one_history_of_all;
  loaded_history = loaded_history;
  traced = traced_are_executions;
  one_run = one_run_is_an_execution;
  linearizable = executions_are_linearizable;
  responses = responses;
  freshness = freshness;
  freshness_of_many = freshness_of_many;
  order_in_time = returned_before_begun;
  order_of_steps = ended_before_loaded;
  scans = scans;
  reverse_scans = reverse_scans;
  refusals = refusals;
  full_alone = one_pass_full_means_taken;
  never_refused = never_refused;
  never_full = record { held = held_is_never_full; absent = absent_is_never_full; alone = one_pass_refuses_only_new_keys };
  number_of_keys = counts_add_up;
  steps = steps;
  touches = touches;
  out_of_reach = in_reach;
  entries_in_reach = entries_in_reach;
  values_in_reach = values_in_reach;
}
