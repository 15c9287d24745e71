-- A change that is alone is answered where enough records are free. A record that was free when it began is its own wherever it finds it taken.
use Rattle.hot_index.proofs.Common.{◌≡◌, ◌≢◌, ◌⊎◌, inl, inr, ⊎_elim, ℕ, zero, suc, ◌+◌, ◌*◌, ◌<◌, ◌≤◌, List, [], ◌∷◌, ◌++◌, length, Option, Some, Result, Ok, Err, IsOk, refl, sym, ap, subst, ◌∙◌, arith, append_assoc, length-append, All, Contains, append_cancel_left, All-head, All-tail, cases_lt, Call, Add, Exchange, Get, Insert, Remove, RemoveIf, Upsert, Reply, LegalCalls, key_of, Layout, leaf_size, Rec, a_node, a_leaf, ClearPin, Event, Known, Core, IsLawful, holder_of, after, opening, EventsLead, SeatView, TableView, lead_layout, LeavesTree, TryFault, Busy, FullLeaves, FullNodes, runs_begin, IsTried, IsUnnoted, PassView, pass_of, All-part}
use Rattle.std.proofs.lemmas.Bool.{cases_eq}
use Rattle.std.specs.Result.{IsErr}
use Rattle.finite_map.specs.declared.Note.{Note}
use Rattle.record_words.specs.Leaf.{words_for}
use Rattle.versions.specs.Core.{Fate, Free, Held, Ready, InTree, Unlinked, Marked}
use Rattle.versions.specs.Trades.{AreApart, IsOneOf}
use Rattle.versions.proofs.Trades.{all_of, map_of}
use Rattle.rowex_core.specs.Events.{Legal}
use Rattle.rowex_core.specs.declared.event.Act.{Act}
use Rattle.rowex_core.specs.declared.known.Failed.{Failed}
use Rattle.rowex_table.specs.Runs.{Ends, Runs}
use Rattle.rowex_table.specs.Traces.{IsNextStep, RunBeginsWith}
use Rattle.rowex_table.proofs.Onward.{begins_itself, begins_on, led_more, next_begins, others_none}
use Rattle.rowex_table.proofs.Runs.{runs_same}
use Rattle.rowex_records.specs.Claims.{HasMissedSince, IsAnothers}
use Rattle.publish_laws.specs.Lone.{IsUnused}
use Rattle.publish_laws.proofs.Lone.{lead_same}
use Rattle.publish_laws.proofs.Lone.Fates.{fate_kept, unused_closed, unused_marks}
use Rattle.rowex_writing.specs.attempts.Attempts.{LacksNoLeaf}
use Rattle.record_words.specs.Layout.{uncommitted_in}
use Rattle.rowex_table.specs.Committed.{IsCommitted}
use Rattle.rowex_records.specs.Claims.{AreCommittedUpTo}
use Rattle.rowex_writing.specs.build.Changes.{LacksNodes}
use Rattle.hot_index_calls.specs.Alone.{HoldsNone, RunsAlone}
use Rattle.hot_index_calls.proofs.Lacked.{without_one}
use Rattle.hot_index_calls.proofs.Passes.Settled.{refused_plain}
use Rattle.hot_index_calls.proofs.Used.{IsTaken, IsTakenIn, runs_missed}
use Rattle.hot_index.specs.Alone.{AloneChangesEnd, HasEnoughFree, HasFreeNodes}
use Rattle.hot_index.specs.Statements.{IsNoRemoval}
use Rattle.hot_index_calls.proofs.Removing.{call_lacks}
use Rattle.hot_index.proofs.Unhindered.{GoneOn, never_busy, none_there, once_unless, still_none, try_alone}

-- ---- steps of one pass alone, in a run that others began
-- What follows the others' steps is the pass's own.
own_first : (q : ℕ) (theirs others own more : List Event) (x : Event) → All (λ y. y.pass ≢ q) theirs → All (λ y. y.pass ≢ q) others → All (λ y. y.pass ≡ q) own →
    x.pass ≡ q → others ++ own ≡ theirs ++ x ∷ more →
    (others ≡ theirs) × (own ≡ x ∷ more)
own_first q [] [] own more x none not mine its e = (refl, e)
own_first q (y ∷ theirs) [] own more x none not mine its e = absurd
    (All-head (λ z. z.pass ≢ q) y theirs none (All-head (λ z. z.pass ≡ q) y (theirs ++ x ∷ more) (subst (All (λ z. z.pass ≡ q)) e mine)))
own_first q [] (y ∷ others) own more x none not mine its e = let head : y ≡ x = cc in absurd
    (All-head (λ z. z.pass ≢ q) y others not (ap (λ (z : Event). z.pass) head ∙ its))
own_first q (y ∷ theirs) (z ∷ others) own more x none not mine its e =
    let head : z ≡ y = cc in
    let rest : others ++ own ≡ theirs ++ x ∷ more = cc in
    let (same, on) = own_first q theirs others own more x (All-tail (λ w. w.pass ≢ q) y theirs none) (All-tail (λ w. w.pass ≢ q) z others not) mine its rest in
    (λ i. head i ∷ same i, on)

module _ (layout : Layout) (q : ℕ) (t : SeatView) where
  -- A step of a call that is alone is made in the core of its beginning. The rest of the call is alone from there.
  alone_on : (act : Act) (c : Core) (s m : SeatView) (alone : RunsAlone layout q s t) → IsNextStep layout q act c s.trace m.trace → IsLawful c → Legal c q act →
      RunBeginsWith t.trace m.trace →
      (c ≡ alone.core) × ((next : RunsAlone layout q m t) × (next.core ≡ after c q act))
  alone_on act c s m alone next law legal (more, until) =
      let x : Event = record { pass = q; act = act } in
      let (theirs, before_is, none) = next.others in
      let (others, alone_is, not) = alone.others in
      let one : t.trace ≡ s.trace ++ (others ++ alone.own) = alone.until ∙ (ap (λ l. l ++ alone.own) alone_is ∙ append_assoc s.trace others alone.own) in
      let two : t.trace ≡ s.trace ++ (theirs ++ x ∷ more) =
      until ∙ (ap (λ l. l ++ more) next.next_is ∙ (append_assoc next.before (x ∷ []) more ∙
      (ap (λ l. l ++ x ∷ more) before_is ∙ append_assoc s.trace theirs (x ∷ more)))) in
      let (same, own_is) = own_first q theirs others alone.own more x none not alone.each refl
      (append_cancel_left s.trace (others ++ alone.own) (theirs ++ x ∷ more) (sym one ∙ two)) in
      let run : next.before ≡ alone.before = before_is ∙ (ap (λ l. s.trace ++ l) (sym same) ∙ sym alone_is) in
      let here : c ≡ alone.core = lead_same (opening layout) alone.before alone.core c alone.led (subst (λ l. EventsLead (opening layout) l c) run next.led) in (
        here,
        (
          record {
            before = m.trace;
            others = others_none q m.trace;
            core = after c q act;
            led = subst (λ l. EventsLead (opening layout) l (after c q act)) (sym next.next_is) (led_more (opening layout) next.before c q act next.led legal);
            none = λ p low another. still_none c p q act law legal
                (let lay = ap (λ (l : Layout). l.passes) (lead_layout (opening layout) next.before c next.led) in omega (arith, low, lay)) another
                (subst (λ z. HoldsNone z p) (sym here) (alone.none p low another));
            own = more;
            until = until;
            each = All-tail (λ y. y.pass ≡ q) x more (subst (All (λ y. y.pass ≡ q)) own_is alone.each);
          },
          refl,
        ),
      )

-- ---- what such a call finds
module _ {G : Type 0} (table : TableView) (becomes : G → Event → G → Type 0) (q : ℕ) (t : SeatView) (r : Rec) where
  -- what is unused stays so while nothing is published
  runs_alone : (acts : List Act) (a b : SeatView × G) → All LeavesTree acts → Runs table becomes acts a b → a.0.known.pass ≡ q → RunBeginsWith t.trace b.0.trace →
      (alone : RunsAlone table.layout q a.0 t) → IsUnused (alone.core.fate r) →
      (next : RunsAlone table.layout q b.0 t) × IsUnused (next.core.fate r)
  runs_alone [] a b plain run mine until alone unused = subst (λ (z : SeatView × G). (next : RunsAlone table.layout q z.0 t) × IsUnused (next.core.fate r)) (sym run)
      (alone, unused)
  runs_alone (act ∷ acts) a b plain (m, step, rest) mine until alone unused =
      let event = step.event in
      let c = event.core in
      let within = begins_on m.0.trace b.0.trace t.trace (runs_begin table becomes acts m b rest) until in
      let (here, (next, is)) = alone_on table.layout q t act c a.0 m.0 alone (subst (λ p. IsNextStep table.layout p act c a.0.trace m.0.trace) mine step.next)
      event.lawful (subst (λ p. Legal c p act) mine event.legal) within in
      let was : IsUnused (c.fate r) = subst (λ (z : Core). IsUnused (z.fate r)) (sym here) unused in
      let kept = fate_kept IsUnused unused_closed c q act (All-head LeavesTree act acts plain) (unused_marks act) r was in
      runs_alone acts m b (All-tail LeavesTree act acts plain) rest (step.seat.2 ∙ mine) until next (subst (λ (z : Core). IsUnused (z.fate r)) (sym is) kept)

  -- Where a record that was free isn't, the pass has it.
  taken_own : (Whose : Rec → Option ℕ → Type 0) (c : Core) → IsLawful c → ((p : ℕ) → p < c.layout.passes → p ≢ q → HoldsNone c p) → IsUnused (c.fate r) →
      IsTakenIn Whose r c → Whose r (Some q)
  taken_own Whose c law none unused taken = of (c.fate r) refl unused taken
    where
      mine : (p : ℕ) → holder_of (c.fate r) ≡ Some p → Whose r (Some p) → Whose r (Some q)
      mine p is whose = ⊎_elim (λ (same : p ≡ q). subst (λ z. Whose r (Some z)) same whose)
          (λ (another : p ≢ q). absurd ((none p (law.records.holders r p is) another).own r is)) (cases_eq p q)

      of : (f : Fate) → c.fate r ≡ f → IsUnused f → IsTaken f × Whose r (holder_of f) → Whose r (Some q)
      of Free is unused taken = absurd taken.0
      of (Held p) is unused taken = mine p (ap holder_of is) taken.1
      of (Ready p) is unused taken = mine p (ap holder_of is) taken.1
      of (InTree since) is unused taken = absurd unused
      of (Unlinked since last p) is unused taken = absurd unused
      of (Marked since last epoch) is unused taken = absurd unused

  -- So a call that publishes nothing finds it not free only once the pass has it.
  missed_own : {said : Known → List Note} (Whose : Rec → Option ℕ → Type 0) (acts : List Act) (a b : SeatView × G) → All LeavesTree acts →
      Ends table becomes acts ClearPin said a b → a.0.known.pass ≡ q → RunBeginsWith t.trace b.0.trace →
      (alone : RunsAlone table.layout q a.0 t) → IsUnused (alone.core.fate r) → HasMissedSince Whose b.0.known.failed r a.0.known.steps → Whose r (Some q)
  missed_own Whose acts a b plain (m, run, last) mine until alone unused missed =
      let cleared : b.0.known.failed ≡ m.0.known.failed = ap (λ (z : Known). z.failed) last.event.learned_is in
      let at = runs_missed table becomes Whose r acts a m run last.event.knows.counted.failed (subst (λ l. HasMissedSince Whose l r a.0.known.steps) cleared missed) in
      let event = at.step.event in
      let c = event.core in
      let pass : at.middle.0.known.pass ≡ q = (runs_same table becomes at.before a at.middle at.first).2 ∙ mine in
      let first = All-part LeavesTree at.before (at.act ∷ at.rest) (subst (All LeavesTree) at.acts_are plain) in
      let end : RunBeginsWith t.trace m.0.trace = begins_on m.0.trace b.0.trace t.trace (next_begins last.next) until in
      let next = begins_on at.next.0.trace m.0.trace t.trace (runs_begin table becomes at.rest at.next m at.last) end in
      let here = begins_on at.middle.0.trace at.next.0.trace t.trace (next_begins at.step.next) next in
      let (there, still) = runs_alone at.before a at.middle first at.first mine here alone unused in
      let (same, on) = alone_on table.layout q t at.act c at.middle.0 at.next.0 there
      (subst (λ p. IsNextStep table.layout p at.act c at.middle.0.trace at.next.0.trace) pass at.step.next) event.lawful
      (subst (λ p. Legal c p at.act) pass event.legal) next in
      let none : (p : ℕ) → p < c.layout.passes → p ≢ q → HoldsNone c p = λ p low another.
      (let lay = ap (λ (l : Layout). l.passes) event.layout_is in subst (λ z. HoldsNone z p) (sym same) (there.none p (omega (arith, low, lay)) another)) in
      taken_own Whose c event.lawful none (subst (λ (z : Core). IsUnused (z.fate r)) (sym same) still) at.taken

-- ---- how many records there are
-- As many records as this list has fit into one that has each.
pub fits_in : (nodes : List ℕ) (own : List Rec) → AreApart nodes → ((n : ℕ) → IsOneOf n nodes → Contains own (a_node n)) → length nodes ≤ length own
fits_in [] own apart each = omega arith
fits_in (n ∷ nodes) own (new, apart) each =
    let (rest, size, keep) = without_one own (a_node n) (each n (inl refl)) in
    let few = fits_in nodes rest apart (λ m there. keep (a_node m) (λ e. let same : m ≡ n = cc in new (subst (λ z. IsOneOf z nodes) same there)) (each m (inr there)))
    in
    omega (arith, few, size)

-- the first n node records
abbrev pub first_nodes : ℕ → List Rec
first_nodes zero = []
first_nodes (suc n) = a_node n ∷ first_nodes n

pub first_size : (n : ℕ) → length (first_nodes n) ≡ n
first_size zero = refl
first_size (suc n) = ap suc (first_size n)

pub first_has : (n m : ℕ) → m < n → Contains (first_nodes n) (a_node m)
first_has zero m low = absurd (omega (arith, low))
first_has (suc n) m low = ⊎_elim
    (λ (older : m < n). let (i, within, is) = first_has n m older in (suc i, omega (arith, within), is))
    (λ (newest : n ≤ m). (0, omega arith, ap a_node (let same : n ≡ m = omega (arith, low, newest) in same)))
    (cases_lt m n)

-- what stands in either of two lists
one_of_both : (xs ys : List ℕ) (n : ℕ) → IsOneOf n (xs ++ ys) → IsOneOf n xs ⊎ IsOneOf n ys
one_of_both [] ys n there = inr there
one_of_both (x ∷ xs) ys n (inl is) = inl (inl is)
one_of_both (x ∷ xs) ys n (inr there) = elim (one_of_both xs ys n there) [
  | inl left ↦ inl (inr left)
  | inr right ↦ inr right
]

-- Two lists with nothing in common have each element once.
apart_both : (xs ys : List ℕ) → AreApart xs → AreApart ys → ((n : ℕ) → IsOneOf n xs → IsOneOf n ys → ⊥) → AreApart (xs ++ ys)
apart_both [] ys first second none = second
apart_both (x ∷ xs) ys (new, first) second none = (
  λ there. elim (one_of_both xs ys x there) [
    | inl left ↦ new left
    | inr right ↦ none x (inl refl) right
  ],
  apart_both xs ys first second (λ n left right. none n (inr left) right),
)

-- A call that lacks nodes has no more of its own than were free.
no_lack : (layout : Layout) (bounds : List ℕ) (q since : ℕ) (failed : List Failed) (own : List Rec) (c : Core) → c.layout ≡ layout →
    (free : HasFreeNodes bounds c) (lacks : LacksNodes layout bounds q failed since own) →
    ((n : ℕ) → n < layout.nodes → IsCommitted layout (uncommitted_in bounds) (a_node n) → c.fate (a_node n) ≡ Free → IsAnothers layout q own lacks.locked (a_node n) (Some q)) → ⊥
no_lack layout bounds q since failed own c lay free lacks its =
    let few = lacks.few in
    let most = lacks.most in
    let all = length-append free.nodes lacks.locked in
    let each : (n : ℕ) → IsOneOf n free.nodes → IsAnothers layout q own lacks.locked (a_node n) (Some q) =
    λ n there. (let (low, is, committed) = free.free n there in
    its n (subst (λ (l : Layout). n < l.nodes) lay low) (subst (λ (l : Layout). IsCommitted l (uncommitted_in bounds) (a_node n)) lay committed) is) in
    let mine = fits_in free.nodes own free.apart (λ n there. (each n there).1 refl) in
    let apart = apart_both free.nodes lacks.locked free.apart lacks.apart (λ n there held. (each n there).2 (map_of a_node n lacks.locked held)) in
    let within = fits_in (free.nodes ++ lacks.locked) (first_nodes layout.nodes) apart
    (λ n there. first_has layout.nodes n (elim (one_of_both free.nodes lacks.locked n there) [
      | inl left ↦ subst (λ (l : Layout). n < l.nodes) lay (free.free n left).0
      | inr right ↦ all_of (λ m. m < layout.nodes) n lacks.locked lacks.low right
    ])) in
    let size = first_size layout.nodes in
    let nodes = ap (λ (l : Layout). l.nodes) lay in
    ⊎_elim (λ (many : 4322 ≤ length free.nodes). omega (arith, many, mine, few, most))
    (λ (many : 2 * c.layout.nodes + 1 < 3 * length free.nodes). omega (arith, many, mine, few, within, all, size, nodes)) free.enough

-- ---- the call
no_removal : (call : Call) (r : Result Reply TryFault) → r ≡ Err FullLeaves → LacksNoLeaf FullLeaves call r → IsNoRemoval call
no_removal (Remove key) r is none = none is
no_removal (RemoveIf key expected) r is none = none is
no_removal (Insert key value) r is none = tt
no_removal (Upsert key value) r is none = tt
no_removal (Exchange key expected value) r is none = tt
no_removal (Add key delta) r is none = tt
no_removal (Get key) r is none = tt

module _ {G : Type 0} (index : TableView) (becomes : G → Event → G → Type 0) (call : Call) (a b : PassView × G) (legal : LegalCalls a.0.front a.0.number a.0.notes)
    (alone : RunsAlone index.layout a.0.number a.0.seat b.0.seat) (enough : HasEnoughFree call a.0.seat.bounds alone.core) where
  -- a record that was free is the pass's own, where a refused call has found it not free
  free_is_own : (fault : TryFault) → IsTried call (Err fault) index becomes a b → (Whose : Rec → Option ℕ → Type 0) (r : Rec) → alone.core.fate r ≡ Free →
      HasMissedSince Whose b.0.failed r a.0.steps → Whose r (Some a.0.number)
  free_is_own fault tried Whose r free missed =
      let made = tried.made in
      let number : a.0.seat.known.pass ≡ a.0.number = sym (ap (λ (z : PassView). z.number) made.begins) in
      let unnoted : IsUnnoted index.layout (pass_of a.0.seat) (pass_of b.0.seat) = subst (λ (z : PassView). IsUnnoted index.layout z (pass_of b.0.seat)) made.begins
      (subst (IsUnnoted index.layout a.0) made.ends tried.call.unnoted) in
      let calls = subst (λ (z : PassView). LegalCalls z.front z.number z.notes) made.begins legal in
      let plain = refused_plain index becomes made.acts (a.0.seat, a.1) (b.0.seat, b.1) calls made.steps unnoted in
      missed_own index becomes a.0.number b.0.seat r Whose made.acts (a.0.seat, a.1) (b.0.seat, b.1) plain made.steps number (begins_itself b.0.seat.trace) alone
      (subst IsUnused (sym free) tt)
      (subst (λ (z : PassView). HasMissedSince Whose z.failed r a.0.seat.known.steps) made.ends
      (subst (λ (z : PassView). HasMissedSince Whose b.0.failed r z.steps) made.begins missed))

  lay : alone.core.layout ≡ index.layout
  lay = lead_layout (opening index.layout) alone.before alone.core alone.led

  answered : (r : Result Reply TryFault) → IsTried call r index becomes a b → IsOk r
  answered (Ok reply) tried = refl
  answered (Err Busy) tried = absurd (never_busy index.layout call a.0 b.0
      (subst (λ q. RunsAlone index.layout q a.0.seat b.0.seat) (sym tried.call.unnoted.number) alone) tried.cause)
  answered (Err FullNodes) tried =
      let (own, all) = tried.cause in
      let lacks = call_lacks index.layout call a.0.seat.bounds b.0.number b.0.failed a.0.steps own all in
      let same = tried.call.unnoted.number in
      absurd (no_lack index.layout a.0.seat.bounds b.0.number a.0.steps b.0.failed own alone.core lay enough.nodes lacks
      (λ n low committed free. subst (λ q. IsAnothers index.layout b.0.number own lacks.locked (a_node n) (Some q)) (sym same)
      (free_is_own FullNodes tried (IsAnothers index.layout b.0.number own lacks.locked) (a_node n) free (lacks.missed n low committed))))
  answered (Err FullLeaves) tried =
      let leaf = enough.leaf (no_removal call (Err FullLeaves) refl tried.leafless) in
      let low = subst (λ (l : Layout). leaf.number < l.leaves) lay leaf.low in
      let room = subst (λ (l : Layout). words_for (length (key_of call)) ≤ leaf_size l leaf.number) lay leaf.room in
      let upto = subst (λ (l : Layout). AreCommittedUpTo l a.0.seat.bounds (words_for (length (key_of call))) leaf.number) lay leaf.committed in
      let its = free_is_own FullLeaves tried (IsAnothers index.layout b.0.number [] []) (a_leaf leaf.number) leaf.free (tried.cause leaf.number low room upto) in
      let has : Contains [] (a_leaf leaf.number) = its.1 (sym tried.call.unnoted.number) in
      absurd (none_there [] (a_leaf leaf.number) refl has)

pub alone_changes_end : {G : Type 0} (becomes : G → Event → G → Type 0) → AloneChangesEnd becomes
alone_changes_end {G = G} becomes = record {
  reply = λ index call r a b tried legal alone enough. answered index becomes call a b legal alone enough r tried;
  once = λ index call result a b tries legal alone enough. once_unless index becomes call a b (never index call a b legal alone enough) result tries;
}
  where
    err_not_ok : (fault : TryFault) → IsOk (let r : Result Reply TryFault = Err fault in r) → ⊥
    err_not_ok fault is = absurd cc

    never : (index : TableView) (call : Call) (a b : PassView × G) → LegalCalls a.0.front a.0.number a.0.notes →
        (alone : RunsAlone index.layout a.0.number a.0.seat b.0.seat) → HasEnoughFree call a.0.seat.bounds alone.core →
        (r : Result Reply TryFault) (m : PassView × G) → IsErr r → GoneOn index becomes m b → IsTried call r index becomes a m → ⊥
    never index call a b legal alone enough (Ok reply) m bad more tried = absurd cc
    never index call a b legal alone enough (Err fault) m bad more tried =
        let (first, same) = try_alone index becomes call (Err fault) a m b alone more tried in
        err_not_ok fault (answered index becomes call a m legal first (subst (HasEnoughFree call a.0.seat.bounds) (sym same) enough) (Err fault) tried)
