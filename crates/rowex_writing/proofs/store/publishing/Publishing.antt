-- The records that a pass has made, made ready one after the other; the publish, and what it leaves with its end.
use Rattle.rowex_writing.proofs.Common.{◌≡◌, ℕ, zero, suc, ◌+◌, ◌-◌, ◌<◌, ◌≤◌, List, [], ◌∷◌, ◌++◌, length, get_or, take, drop, map, reverse, refl, sym, ap, subst, ◌∙◌, arith, inl, Contains, append-nil, drop_all, drop_more, get_or-map, get_or-reverse, length-map, length-reverse, take_all, take_more, All-cons, Contains-append_right, Layout, Rec, IsOneOf, all_of, of_right, Ready, Event, Held, IsReady, Known, FitsIn, HasRecord, IsEvent, IsPacked, IsOwned, owned_used, knows_all, Made, held_as, recs_of, HasReadied, silent, TableView, SeatView, IsFilled, Readies, HasReady, ready_next, IsPossible}
use Rattle.rowex_writing.specs.build.Building.{AreMadePacked, IsBuilding}
use Rattle.rowex_writing.specs.locks.Going.{WorksOn, IsStepUnderLocks}
use Rattle.rowex_writing.proofs.locks.Going.{goes_more}
use Rattle.rowex_writing.proofs.build.Building.{goes_possible, owns_on}

-- ---- the records that are left
packed_drop : (layout : Layout) (i : ℕ) (news : List Made) → AreMadePacked layout news → AreMadePacked layout (drop i news)
packed_drop layout zero news p = p
packed_drop layout (suc i) [] p = tt
packed_drop layout (suc i) (m ∷ news) p = packed_drop layout i news p.1

-- of the records in the order in which they were made, the last of those that are left is the next of the new ones
record IsNextMade (made : List Rec) (news : List Made) (left : ℕ) (r : Rec) : Type 0 where
  m : Made
  is : r ≡ m.rec
  rest : drop (length made - left) news ≡ m ∷ drop (length made - (left - 1)) news
  done : take (length made - (left - 1)) news ≡ take (length made - left) news ++ m ∷ []

next_made : (made : List Rec) (news : List Made) (left : ℕ) (d : Rec) → made ≡ reverse (recs_of news) → 0 < left → left ≤ length made → IsNextMade made news left (get_or made (left - 1) d)
next_made made news left d listed some upto =
    let count : length (recs_of news) ≡ length news = length-map news (λ (m : Made). m.rec) in
    let long : length made ≡ length news = ap length listed ∙ (length-reverse (recs_of news) ∙ count) in
    let i : ℕ = length made - left in
    let none : Made = record { rec = d; words = [] } in
    let low : i < length news = omega (arith, long, some, upto) in
    let at : length (recs_of news) - 1 - (left - 1) ≡ i = omega (arith, long, count, some, upto) in
    let next : i + 1 ≡ length made - (left - 1) = omega (arith, some, upto) in
    record {
      m = get_or news i none;
      is = ap (λ z. get_or z (left - 1) d) listed ∙
          (get_or-reverse (recs_of news) (left - 1) d (omega (arith, long, count, some, upto)) ∙ (ap (λ z. get_or (recs_of news) z d) at ∙ get_or-map (λ (m : Made). m.rec) news i none d low));
      rest = drop_more news i none low ∙ ap (λ z. get_or news i none ∷ drop z news) next;
      done = ap (λ z. take z news) (sym next) ∙ take_more news i none low;
    }

-- ---- one of them
module _ (layout : Layout) (k : Known) (done todo : List Made) (m : Made) (has : HasReadied k done (m ∷ todo)) where
  held_filled : IsPacked m.rec m.words → IsFilled k m.rec m.words
  held_filled packed =
      (subst (λ z. Contains z (held_as Held m)) (sym has.0) (Contains-append_right (map (held_as IsReady) done) (held_as Held m ∷ map (held_as Held) todo) (held_as Held m) (0, omega arith, refl)), packed)

  held_record : IsPossible layout k → HasRecord layout m.rec
  held_record possible =
      let here : IsOneOf (held_as Held m) k.own = subst (IsOneOf (held_as Held m)) (sym has.0) (of_right (held_as Held m) (map (held_as IsReady) done) (held_as Held m ∷ map (held_as Held) todo) (inl refl)) in
      let owned = all_of (IsOwned k.pass possible.core) (held_as Held m) k.own (knows_all possible.core k possible.knows).own here in
      subst (λ z. HasRecord z m.rec) possible.layout_is (owned_used possible.core possible.lawful k.pass (held_as Held m) owned)

module _ {G : Type 0} (table : TableView) (becomes : G → Event → G → Type 0) where
  -- what is left in the middle of the loop
  abbrev pub AreReadied : SeatView → SeatView → List Rec → ℕ → Type 0
  AreReadied a b made left = (news : List Made) → IsBuilding table a made news → HasReadied b.known (take (length made - left) news) (drop (length made - left) news)

  pub none_readied : (a : SeatView) (made : List Rec) → AreReadied a a made (length made)
  none_readied a made news b =
      let i : 0 ≡ length made - length made = omega arith in
      subst (λ z. HasReadied a.known (take z news) (drop z news)) i b.holds

  module _ (a b : SeatView × G) (made : List Rec) (left : ℕ) (d : Rec) (some : 0 < left) (upto : left ≤ length made) (goes : WorksOn table becomes a b) (ready : AreReadied a.0 b.0 made left) where
    -- the next one has its words, and is one of the table's
    pub next_rights : (news : List Made) → IsBuilding table a.0 made news → HasRecord table.layout (get_or made (left - 1) d) × ((words : List ℕ) × IsFilled b.0.known (get_or made (left - 1) d) words × FitsIn table.layout (get_or made (left - 1) d) words)
    next_rights news i =
        let next = next_made made news left d i.listed some upto in
        let has = subst (HasReadied b.0.known (take (length made - left) news)) next.rest (ready news i) in
        let packed : AreMadePacked table.layout (next.m ∷ drop (length made - (left - 1)) news) = subst (AreMadePacked table.layout) next.rest (packed_drop table.layout (length made - left) news i.packed) in
        subst (λ r. HasRecord table.layout r × ((words : List ℕ) × IsFilled b.0.known r words × FitsIn table.layout r words)) (sym next.is) (
          held_record table.layout b.0.known (take (length made - left) news) (drop (length made - (left - 1)) news) next.m has (goes_possible table becomes a b goes i.possible),
          (next.m.words, held_filled table.layout b.0.known (take (length made - left) news) (drop (length made - (left - 1)) news) next.m has packed.0.0, packed.0.1),
        )

    -- it is made ready
    module _ (e : SeatView × G) (made_ready : Readies table becomes (get_or made (left - 1) d) b e) where
      pub readied_goes : WorksOn table becomes a e
      readied_goes = goes_more table becomes a b e goes (owns_on table becomes (Ready (get_or made (left - 1) d) ∷ []) b e (All-cons IsStepUnderLocks (Ready (get_or made (left - 1) d)) [] tt (λ i d low. absurd (omega arith))) made_ready.does)

      pub readied_more : AreReadied a.0 e.0 made (left - 1)
      readied_more news i =
          let next = next_made made news left d i.listed some upto in
          let has = subst (HasReadied b.0.known (take (length made - left) news)) next.rest (ready news i) in
          let (n, s, end) = made_ready.does.steps in
          let event : IsEvent table.layout (Ready next.m.rec) silent b.0.known e.0.known =
          subst (λ r. IsEvent table.layout (Ready r) silent b.0.known e.0.known) next.is (subst (λ (z : SeatView × G). IsEvent table.layout (Ready (get_or made (left - 1) d)) silent b.0.known z.0.known) (sym end) s.event) in
          subst (λ z. HasReadied e.0.known z (drop (length made - (left - 1)) news)) (sym next.done)
          (ready_next table.layout (take (length made - left) news) next.m (drop (length made - (left - 1)) news) b.0.known e.0.known has event)

  -- all are ready
  pub all_readied : (a b : SeatView × G) (made : List Rec) (left : ℕ) → left ≤ 0 → WorksOn table becomes a b → AreReadied a.0 b.0 made left →
      (news : List Made) → IsBuilding table a.0 made news → HasReady b.0.known a.0.known.locks news
  all_readied a b made left none goes ready news i =
      let long : length made ≡ length news = ap length i.listed ∙ (length-reverse (recs_of news) ∙ length-map news (λ (m : Made). m.rec)) in
      let n : ℕ = length made - left in
      let past : length news ≤ n = omega (arith, long, none) in
      let own = (ready news i).0 in
      record {
        locks = goes.stays.1;
        own = own ∙
            (ap (λ z. map (held_as IsReady) z ++ map (held_as Held) (drop n news)) (take_all n news past) ∙
            (ap (λ z. map (held_as IsReady) news ++ map (held_as Held) z) (drop_all n news past) ∙ append-nil (map (held_as IsReady) news)));
      }
