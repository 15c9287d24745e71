-- A walk goes on behind its end: each next record is committed, and then tried.
use Rattle.rowex_writing.proofs.Common.{◌≡◌, ◌⊎◌, inl, inr, ⊎_elim, ℕ, ◌+◌, ◌-◌, ◌*◌, ◌<◌, ◌≤◌, List, [], ◌∷◌, ◌++◌, refl, sym, ap, subst, ◌∙◌, arith, cases_lt, le_trans, Option, Contains, Contains-append_left, Contains-push, Rec, a_node, Event, Known, TableView, SeatView, ClaimsOne, MissesNumber, MissesOne, HasMissedSince, IsAnothersBut, IsAnothersTo, missed_among, missed_earlier, more_since, records_had}
use Rattle.record_words.specs.Layout.{uncommitted_in}
use Rattle.rowex_table.specs.Committed.{IsCommitted}
use Rattle.rowex_table.specs.Seats.{HasFoundBounds}
use Rattle.rowex_records.specs.Claims.{HoldsOneMore}
use Rattle.publish_laws.specs.Lone.{IsFreeAt}
use Rattle.rowex_writing.specs.declared.build.kept.NodeWalk.{NodeWalk}
use Rattle.rowex_writing.specs.locks.Going.{WorksOn}
use Rattle.rowex_writing.specs.build.Walks.{HasNoOther, IsClaimWalk, IsCommittedWalk, left_below}
use Rattle.rowex_writing.proofs.locks.Going.{goes_bounds, goes_found, goes_more, goes_none}
use Rattle.rowex_writing.proofs.build.Building.{miss_on, one_on, one_steps}
use Rattle.rowex_writing.proofs.build.Counts.{miss_count, one_rises}
use Rattle.rowex_writing.proofs.build.Spare.{found_free, goes_free, miss_none_free}
use Rattle.rowex_writing.proofs.build.Walks.{alone_still, missed_as, walk_on, walk_past}

-- the walk that has one record less left, and ends one later
abbrev pub walk_behind : NodeWalk → NodeWalk
walk_behind walk = record { left = walk.left - 1; end = walk.end + 1; commits = walk.commits }

-- a record before the end is one of the kind
pub missed_one : {G : Type 0} (table : TableView) (becomes : G → Event → G → Type 0) (n : ℕ) (a b : SeatView × G) → MissesNumber table becomes a_node (n + 1) n a b → MissesOne table becomes (a_node n) a b
missed_one table becomes n a b missed = elim missed [ inl (out, same) ↦ absurd (omega (arith, out)) | inr (low, one) ↦ one ]

module _ {G : Type 0} (table : TableView) (becomes : G → Event → G → Type 0) where
  -- a walk with none left, after a try of the record at its end
  ends_behind : (first : SeatView) (a b : SeatView × G) (made more : List Rec) (next from : ℕ) (walk : NodeWalk) → WorksOn table becomes a b → ((r : Rec) → Contains made r → Contains more r) →
      (HasMissedSince (IsAnothersBut table.layout b.0.known more) b.0.known.failed (a_node walk.end) first.known.steps ⊎ Contains more (a_node walk.end)) →
      uncommitted_in b.0.bounds 0 + (walk.end + 1) ≤ table.layout.nodes → 0 < walk.left → left_below table.layout.nodes walk ≡ 0 → IsCommittedWalk table.layout first a.0 made next walk →
      (left_below table.layout.nodes (walk_behind walk) ≡ 0) × IsCommittedWalk table.layout first b.0 more from (walk_behind walk)
  ends_behind first a b made more next from walk goes kept last committed some none w =
      let rest = w.rest in
      let whole = w.whole in
      let out : left_below table.layout.nodes (walk_behind walk) ≡ 0 = omega (arith, none, some, committed) in (
        out,
        record {
          claims = subst (IsClaimWalk table.layout (walk.end + 1) first.known.steps b.0.known more from) (sym out)
              (walk_past table.layout walk.end first.known.steps b.0.known more next (left_below table.layout.nodes walk) from none
              (walk_on table becomes first.known.steps a b made more next (left_below table.layout.nodes walk) goes kept w.claims) last);
          within = omega (arith, committed);
          rest = omega (arith, rest, some);
          falls = le_trans (goes_bounds table becomes a b goes 0) w.falls;
          whole = omega (arith, whole);
          begun = inr committed;
        },
      )

  -- From `old` on, a walk with none left has gone on over the records from its end on, and found none free.
  module _ (next : ℕ) (old : NodeWalk) (a : SeatView × G) where
    pub record HasPassed (walk : NodeWalk) (b : SeatView × G) : Type 0 where
      pub goes : WorksOn table becomes a b
      pub own : b.0.known.own ≡ a.0.known.own
      pub walked : (first : SeatView) (made : List Rec) → HasNoOther a.0.known made → left_below table.layout.nodes old ≡ 0 → IsCommittedWalk table.layout first a.0 made next old →
          (left_below table.layout.nodes walk ≡ 0) × IsCommittedWalk table.layout first b.0 made next walk
      pub few : b.0.known.steps + 2 * walk.left ≤ a.0.known.steps + 2 * old.left
      pub commits : walk.commits ≡ old.commits
      pub whole : table.layout.nodes ≤ old.left + old.end → table.layout.nodes ≤ walk.left + walk.end
      pub taken : table.layout.passes ≡ 1 → a.0.known.own ≡ [] → (n : ℕ) → old.end ≤ n → n < walk.end → ¬ (IsFreeAt table.layout a.0 n)

    pub passed_none : HasPassed old a
    passed_none = record { goes = goes_none table becomes a; own = refl; walked = λ first made alone none w. (none, w); few = omega arith; commits = refl; whole = λ h. h; taken = λ one none n from low. absurd (omega arith) }

    -- the next one is committed, and then tried
    module _ (walk : NodeWalk) (s t : SeatView) (gate : G) (c : SeatView × G) (passed : HasPassed walk (s, gate)) (found : HasFoundBounds s t) (last : IsCommitted table.layout (uncommitted_in t.bounds) (a_node walk.end)) (some : 0 < walk.left) where
      known : t.known ≡ s.known
      known = ap (λ (z : SeatView). z.known) found.1

      own : t.known.own ≡ a.0.known.own
      own = ap (λ (z : Known). z.own) known ∙ passed.own

      fits : uncommitted_in t.bounds 0 < table.layout.nodes - walk.end
      fits = last

      committed : WorksOn table becomes (t, gate) c → uncommitted_in c.0.bounds 0 + (walk.end + 1) ≤ table.layout.nodes
      committed goes = let fell = goes_bounds table becomes (t, gate) c goes 0 in let few = fits in omega (arith, fell, few)

      pub passed_more : MissesOne table becomes (a_node walk.end) (t, gate) c → HasPassed (walk_behind walk) c
      passed_more missed = record {
        goes = goes_more table becomes a (s, gate) c passed.goes goes;
        own = missed.own ∙ own;
        walked = λ first made alone none w.
            (let (left, here) = passed.walked first made alone none w in
            ends_behind first (s, gate) c made made next next walk goes (λ r has. has) (inl (tells first made alone here)) (committed there) some left here);
        few = (let few = passed.few in let more = count.1 in let same = ap (λ (z : Known). z.steps) known in omega (arith, few, more, same, some));
        commits = passed.commits;
        whole = λ all. (let still = passed.whole all in omega (arith, still, some));
        taken = λ one none n from low free. ⊎_elim (λ (before : n < walk.end). passed.taken one none n from before free)
            (λ (past : walk.end ≤ n). (let here : n ≡ walk.end = omega arith in
            miss_none_free table becomes walk.end (t, gate) c one missed
            (found_free table.layout s t walk.end found (goes_free table becomes walk.end a (s, gate) passed.goes (passed.own ∙ none) (subst (IsFreeAt table.layout a.0) here free)))))
            (cases_lt n walk.end);
      }
        where
          count : (t.known.steps < c.0.known.steps) × (c.0.known.steps ≤ t.known.steps + 2)
          count = miss_count table becomes (a_node walk.end) (t, gate) c missed

          there : WorksOn table becomes (t, gate) c
          there = miss_on table becomes (a_node walk.end) (t, gate) c missed

          goes : WorksOn table becomes (s, gate) c
          goes = goes_found table becomes s t gate c found there count.0

          tells : (first : SeatView) (made : List Rec) → HasNoOther a.0.known made → IsCommittedWalk table.layout first s made next walk →
              HasMissedSince (IsAnothersBut table.layout c.0.known made) c.0.known.failed (a_node walk.end) first.known.steps
          tells first made alone w =
              let r : Rec = a_node walk.end in
              let Theirs : Rec → Option ℕ → Type 0 = IsAnothersTo table.layout t.known in
              let early : first.known.steps ≤ t.known.steps = subst (λ (z : Known). first.known.steps ≤ z.steps) (sym known) w.claims.early in
              missed_as table.layout t.known c.0.known (records_had t.known) made c.0.known.failed r first.known.steps there.stays.0.pass there.stays.1 (alone_still a.0.known t.known made own alone r)
              (subst (λ l. HasMissedSince Theirs l r first.known.steps) (sym missed.failed_is)
              (missed_among Theirs (missed.failed ∷ []) t.known.failed r first.known.steps (missed_earlier Theirs (missed.failed ∷ []) r first.known.steps t.known.steps early missed.tells)))

      -- it is claimed
      module _ (one : ClaimsOne table becomes (a_node walk.end) (t, gate) c) where
        there : WorksOn table becomes (t, gate) c
        there = one_on table becomes (a_node walk.end) (t, gate) c one

        goes : WorksOn table becomes (s, gate) c
        goes = goes_found table becomes s t gate c found there (one_rises table becomes (a_node walk.end) (t, gate) c one)

        pub claimed_goes : WorksOn table becomes a c
        claimed_goes = goes_more table becomes a (s, gate) c passed.goes goes

        pub claimed_holds : HoldsOneMore (a_node walk.end) a.0.known c.0.known
        claimed_holds = more_since (a_node walk.end) a.0.known t.known c.0.known own one.holds

        pub claimed_few : c.0.known.steps + 2 * (walk.left - 1) ≤ a.0.known.steps + 2 * old.left
        claimed_few = let few = passed.few in let more = one_steps table becomes (a_node walk.end) (t, gate) c one in let same = ap (λ (z : Known). z.steps) known in omega (arith, few, more, same, some)

        pub claimed_walk : (first : SeatView) (made : List Rec) (from : ℕ) → HasNoOther a.0.known made → left_below table.layout.nodes old ≡ 0 → IsCommittedWalk table.layout first a.0 made next old →
            IsCommittedWalk table.layout first c.0 (made ++ a_node walk.end ∷ []) from (walk_behind walk)
        claimed_walk first made from alone none w =
            let (left, here) = passed.walked first made alone none w in
            (ends_behind first (s, gate) c made (made ++ a_node walk.end ∷ []) next from walk goes (λ r has. Contains-append_left made (a_node walk.end ∷ []) r has) (inr (Contains-push made (a_node walk.end))) (committed there) some left here).1
