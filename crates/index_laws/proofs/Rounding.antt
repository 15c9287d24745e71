-- A round of collection in a core in which no pass is at work: what its steps leave retired.
use Rattle.index_laws.proofs.Common.{◌≡◌, ◌≢◌, ⊎_elim, ℕ, zero, suc, ◌+◌, ◌*◌, ◌<◌, ◌≤◌, List, [], ◌∷◌, ◌++◌, Bool, true, false, if◌then◌else◌, nat_eq, None, refl, sym, ap, subst, ◌∙◌, arith, All, cases_lt, eq-eqb, lt-ltb, All-append, All-cons, All-head, All-nil, All-tail, state_word, EPOCHS, Rec, a_node, a_leaf, Obsolete, Fate, Shared, Free, Held, Ready, InTree, Unlinked, Marked, lowered, same_rec, with_epoch, with_fate, Round, same_rec_refl, Core, HasRecord, IsLawful, holder_of, Legal, after, given_back, lock_of, state_at, tag_of, Act, Advance, GiveBack, LoadEpoch, LoadPin, LoadState, stays_lawful, InTurn, LoadsPin, Visits, advance_steps, IsMarkedBy}
use Rattle.record_words.specs.declared.layout.Layout.{Layout}
use Rattle.rowex_table.specs.Committed.{IsCommitted, count_from, record_kind}
use Rattle.epochs.specs.Rounds.{IsUncommitted, VisitsCommitted}
use Rattle.epochs.proofs.Rounds.{visit_committed, visit_or_none}
use Rattle.index_laws.specs.Rest.{HasNoneAtWork}

-- ---- steps of one pass, one after the other
abbrev pub ActsLead : ℕ → Core → List Act → Core → Type 0
ActsLead q c [] d = d ≡ c
ActsLead q c (act ∷ acts) d = Legal c q act × ActsLead q (after c q act) acts d

pub acts_split : (q : ℕ) (c : Core) (xs ys : List Act) (e : Core) → ActsLead q c (xs ++ ys) e → (d : Core) × ActsLead q c xs d × ActsLead q d ys e
acts_split q c [] ys e all = (c, refl, all)
acts_split q c (x ∷ xs) ys e all = let (d, first, second) = acts_split q (after c q x) xs ys e all.1 in (d, (all.0, first), second)

pub acts_lawful : (q : ℕ) (c : Core) (acts : List Act) (d : Core) → IsLawful c → ActsLead q c acts d → IsLawful d
acts_lawful q c [] d law is = subst IsLawful (sym is) law
acts_lawful q c (act ∷ acts) d law (legal, rest) = acts_lawful q (after c q act) acts d (stays_lawful c q act law legal) rest

-- a step of a round, or of a count
abbrev pub IsOfRound : Act → Type 0
IsOfRound (LoadEpoch w) = Unit {0}
IsOfRound (Advance expected found) = Unit {0}
IsOfRound (LoadPin o w) = Unit {0}
IsOfRound (LoadState r w) = Unit {0}
IsOfRound (GiveBack r epoch found) = Unit {0}
IsOfRound act = ⊥

-- Such a step frees a record, or leaves it as it was.
module _ (P : Fate → Type 0) (free : P Free) where
  give_kept : (s : Shared) (r : Rec) (epoch : ℕ) (f : Fate) (i : Rec) → P (s.fate i) → P ((given_back s r epoch f).fate i)
  give_kept s r epoch (Marked since last m) i was = either (nat_eq m epoch)
    where
      freed : (b : Bool) → P (if b then Free else s.fate i)
      freed true = free
      freed false = was

      either : (b : Bool) → P ((if b then with_fate s r Free else s).fate i)
      either true = freed (same_rec i r)
      either false = was
  give_kept s r epoch _ i was = was

  step_kept : (c : Core) (q : ℕ) (act : Act) → IsOfRound act → (i : Rec) → P (c.fate i) → P ((after c q act).fate i)
  step_kept c q (LoadEpoch w) plain i was = was
  step_kept c q (Advance expected found) plain i was = either (nat_eq c.epoch expected)
    where
      either : (b : Bool) → P ((if b then with_epoch c.shared (suc c.epoch) else c.shared).fate i)
      either true = was
      either false = was
  step_kept c q (LoadPin o w) plain i was = was
  step_kept c q (LoadState r w) plain i was = was
  step_kept c q (GiveBack r epoch found) plain i was = give_kept c.shared r epoch (c.fate r) i was
  step_kept c q _ plain i was = absurd plain

  pub acts_kept : (q : ℕ) (c : Core) (acts : List Act) (d : Core) → All IsOfRound acts → ActsLead q c acts d → (i : Rec) → P (c.fate i) → P (d.fate i)
  acts_kept q c [] d plain is i was = subst (λ (z : Core). P (z.fate i)) (sym is) was
  acts_kept q c (act ∷ acts) d plain (legal, rest) i was =
      acts_kept q (after c q act) acts d (All-tail IsOfRound act acts plain) rest i (step_kept c q act (All-head IsOfRound act acts plain) i was)

-- ---- what a record is
-- free, or in the tree
abbrev pub IsPlaced : Fate → Type 0
IsPlaced Free = Unit {0}
IsPlaced (InTree since) = Unit {0}
IsPlaced f = ⊥

-- or retired, in this epoch or before it
abbrev pub IsPlacedOrBy : ℕ → Fate → Type 0
IsPlacedOrBy e Free = Unit {0}
IsPlacedOrBy e (InTree since) = Unit {0}
IsPlacedOrBy e (Marked since last epoch) = epoch ≤ e
IsPlacedOrBy e f = ⊥

-- so it is with one that no pass has
pub unowned_is : (e : ℕ) (f : Fate) → holder_of f ≡ None → IsMarkedBy e f → IsPlacedOrBy e f
unowned_is e Free none by = tt
unowned_is e (Held q) none by = absurd cc
unowned_is e (Ready q) none by = absurd cc
unowned_is e (InTree since) none by = tt
unowned_is e (Unlinked since last q) none by = absurd cc
unowned_is e (Marked since last epoch) none by = by

-- ---- visits
visit_plain : (bound : ℕ) (r : Rec) (acts : List Act) → Visits bound r acts → All IsOfRound acts
visit_plain bound r _ (Visits.passes word not) = All-cons IsOfRound (LoadState r word) [] tt (All-nil IsOfRound)
visit_plain bound r _ (Visits.tries epoch found low below) =
    All-cons IsOfRound (LoadState r (state_word (Obsolete epoch))) (GiveBack r epoch found ∷ []) tt
    (All-cons IsOfRound (GiveBack r epoch found) [] tt (All-nil IsOfRound))

committed_plain : (layout : Layout) (uncommitted : ℕ → ℕ) (bound : ℕ) (r : Rec) (acts : List Act) → VisitsCommitted layout uncommitted bound r acts → All IsOfRound acts
committed_plain layout uncommitted bound r acts = visit_or_none (All IsOfRound) layout uncommitted bound r acts (All-nil IsOfRound) (visit_plain bound r acts)

visits_plain : (layout : Layout) (uncommitted : ℕ → ℕ) (bound : ℕ) (kind : ℕ → Rec) (n : ℕ) (acts : List Act) →
    InTurn (λ m. VisitsCommitted layout uncommitted bound (kind m)) n acts → All IsOfRound acts
visits_plain layout uncommitted bound kind zero acts none = subst (All IsOfRound) (sym none) (All-nil IsOfRound)
visits_plain layout uncommitted bound kind (suc n) acts (before, last, first, visit, all) =
    subst (All IsOfRound) (sym all) (All-append IsOfRound before last (visits_plain layout uncommitted bound kind n before first)
    (committed_plain layout uncommitted bound (kind n) last visit))

-- where the state was loaded that is not obsolete below the bound
passed : (c : Core) (r : Rec) (e bound word : ℕ) (f : Fate) → IsLawful c → c.fate r ≡ f → e < bound → word ≡ state_at c r →
    ((epoch : ℕ) → 1 ≤ epoch → epoch < bound → word ≢ state_word (Obsolete epoch)) → IsPlacedOrBy e f → IsPlaced f
passed c r e bound word Free law is low found not by = tt
passed c r e bound word (InTree since) law is low found not by = tt
passed c r e bound word (Marked since last m) law is low found not by =
    absurd (not m (law.epochs.marked r since last m is).0 (omega (arith, by, low)) (found ∙ ap (λ z. state_word (tag_of (lock_of c r) z)) is))
passed c r e bound word (Held q) law is low found not by = absurd by
passed c r e bound word (Ready q) law is low found not by = absurd by
passed c r e bound word (Unlinked since last q) law is low found not by = absurd by

-- where the state was that of the epoch that the exchange expects
gives : (c : Core) (r : Rec) (e epoch : ℕ) (f : Fate) → c.fate r ≡ f → state_word (Obsolete epoch) ≡ state_at c r → IsPlacedOrBy e f →
    IsPlaced ((given_back c.shared r epoch f).fate r)
gives c r e epoch (Marked since last m) is found by =
    let word : 8 * epoch + 4 ≡ 8 * m + 4 = found ∙ ap (λ z. state_word (tag_of (lock_of c r) z)) is in
    let same : m ≡ epoch = omega (arith, word) in
    rw (eq-eqb m epoch same) (rw (same_rec_refl r) tt)
gives c r e epoch Free is found by = subst IsPlaced (sym is) tt
gives c r e epoch (InTree since) is found by = subst IsPlaced (sym is) tt
gives c r e epoch (Held p) is found by = absurd by
gives c r e epoch (Ready p) is found by = absurd by
gives c r e epoch (Unlinked since last p) is found by = absurd by

module _ (e bound : ℕ) (low : e < bound) (q : ℕ) where
  visit_places : (r : Rec) (acts : List Act) (c d : Core) → IsLawful c → Visits bound r acts → ActsLead q c acts d → IsPlacedOrBy e (c.fate r) →
      IsPlaced (d.fate r)
  visit_places r _ c d law (Visits.passes word not) (legal, is) by =
      subst (λ (z : Core). IsPlaced (z.fate r)) (sym is) (passed c r e bound word (c.fate r) law refl low legal.1.1 not by)
  visit_places r _ c d law (Visits.tries epoch found some below) (look, (give, is)) by =
      subst (λ (z : Core). IsPlaced (z.fate r)) (sym is) (gives c r e epoch (c.fate r) refl look.1.1 by)

  -- each of them that is committed was visited
  pub visits_place : (layout : Layout) (uncommitted : ℕ → ℕ) (kind : ℕ → Rec) (n : ℕ) (acts : List Act) (c d : Core) → IsLawful c →
      InTurn (λ m. VisitsCommitted layout uncommitted bound (kind m)) n acts → ActsLead q c acts d →
      (i : ℕ) → i < n → IsCommitted layout uncommitted (kind i) → IsPlacedOrBy e (c.fate (kind i)) → IsPlaced (d.fate (kind i))
  visits_place layout uncommitted kind zero acts c d law visits lead i few committed by = absurd (omega (arith, few))
  visits_place layout uncommitted kind (suc n) acts c d law (before, last, first, visit, all) lead i few committed by =
      let (m, one, two) = acts_split q c before last d (subst (λ l. ActsLead q c l d) all lead) in
      ⊎_elim
      (λ (older : i < n). acts_kept IsPlaced tt q m last d (committed_plain layout uncommitted bound (kind n) last visit) two (kind i)
      (visits_place layout uncommitted kind n before c m law first one i older committed by))
      (λ (newest : n ≤ i).
      let same : i ≡ n = omega (arith, few, newest) in
      let waits : IsPlacedOrBy e (m.fate (kind i)) =
      acts_kept (IsPlacedOrBy e) tt q c before m (visits_plain layout uncommitted bound kind n before first) one (kind i) by in
      let visited = visit_committed layout uncommitted bound (kind n) last (subst (λ z. IsCommitted layout uncommitted (kind z)) same committed) visit in
      subst (λ z. IsPlaced (d.fate (kind z))) (sym same)
      (visit_places (kind n) last m d (acts_lawful q c before m law one) visited two (subst (λ z. IsPlacedOrBy e (m.fate (kind z))) same waits)))
      (cases_lt i n)

-- ---- how a round begins
-- steps that neither load the epoch nor a pin leave the rounds
abbrev IsOfVisit : Act → Type 0
IsOfVisit (LoadState r w) = Unit {0}
IsOfVisit (GiveBack r epoch found) = Unit {0}
IsOfVisit act = ⊥

give_rounds : (s : Shared) (r : Rec) (epoch : ℕ) (f : Fate) → (given_back s r epoch f).rounds ≡ s.rounds
give_rounds s r epoch (Marked since last m) = either (nat_eq m epoch)
  where
    either : (b : Bool) → (if b then with_fate s r Free else s).rounds ≡ s.rounds
    either true = refl
    either false = refl
give_rounds s r epoch _ = refl

visit_rounds : (c : Core) (q : ℕ) (act : Act) → IsOfVisit act → (after c q act).rounds ≡ c.rounds
visit_rounds c q (LoadState r w) plain = refl
visit_rounds c q (GiveBack r epoch found) plain = give_rounds c.shared r epoch (c.fate r)
visit_rounds c q _ plain = absurd plain

acts_rounds : (q : ℕ) (c : Core) (acts : List Act) (d : Core) → All IsOfVisit acts → ActsLead q c acts d → d.rounds ≡ c.rounds
acts_rounds q c [] d plain is = ap (λ (z : Core). z.rounds) is
acts_rounds q c (act ∷ acts) d plain (legal, rest) =
    acts_rounds q (after c q act) acts d (All-tail IsOfVisit act acts plain) rest ∙ visit_rounds c q act (All-head IsOfVisit act acts plain)

visit_visits : (bound : ℕ) (r : Rec) (acts : List Act) → Visits bound r acts → All IsOfVisit acts
visit_visits bound r _ (Visits.passes word not) = All-cons IsOfVisit (LoadState r word) [] tt (All-nil IsOfVisit)
visit_visits bound r _ (Visits.tries epoch found low below) =
    All-cons IsOfVisit (LoadState r (state_word (Obsolete epoch))) (GiveBack r epoch found ∷ []) tt
    (All-cons IsOfVisit (GiveBack r epoch found) [] tt (All-nil IsOfVisit))

visits_visit : (layout : Layout) (uncommitted : ℕ → ℕ) (bound : ℕ) (kind : ℕ → Rec) (n : ℕ) (acts : List Act) →
    InTurn (λ m. VisitsCommitted layout uncommitted bound (kind m)) n acts → All IsOfVisit acts
visits_visit layout uncommitted bound kind zero acts none = subst (All IsOfVisit) (sym none) (All-nil IsOfVisit)
visits_visit layout uncommitted bound kind (suc n) acts (before, last, first, visit, all) =
    subst (All IsOfVisit) (sym all) (All-append IsOfVisit before last (visits_visit layout uncommitted bound kind n before first)
    (visit_or_none (All IsOfVisit) layout uncommitted bound (kind n) last (All-nil IsOfVisit) (visit_visits bound (kind n) last) visit))

own_round : (b : Bool) (o s : Round) → b ≡ true → (if b then o else s) ≡ o
own_round true o s is = refl
own_round false o s is = absurd cc

-- the bound of a pass's round
abbrev bound_of : Core → ℕ → ℕ
bound_of c q = (c.rounds q).bound

-- a load of a pin that isn't set leaves the bound
pin_bound : (c : Core) (q o w : ℕ) → c.pins o ≡ None → bound_of (after c q (LoadPin o w)) q ≡ bound_of c q
pin_bound c q o w none =
    ap (λ (z : Round). z.bound) (own_round (nat_eq q q) _ (c.rounds q) (eq-eqb q q refl)) ∙ ap (lowered (bound_of c q)) none

pins_bound : (q n : ℕ) (acts : List Act) (c d : Core) → InTurn LoadsPin n acts → ActsLead q c acts d → ((o : ℕ) → c.pins o ≡ None) →
    (bound_of d q ≡ bound_of c q) × ((o : ℕ) → d.pins o ≡ None) × (All IsOfRound acts) × (d.epoch ≡ c.epoch)
pins_bound q zero acts c d none lead free =
    let is : d ≡ c = subst (λ l. ActsLead q c l d) none lead in (
      ap (λ (z : Core). bound_of z q) is,
      subst (λ (z : Core). (o : ℕ) → z.pins o ≡ None) (sym is) free,
      subst (All IsOfRound) (sym none) (All-nil IsOfRound),
      ap (λ (z : Core). z.epoch) is,
    )
pins_bound q (suc n) acts c d (before, last, first, (w, is), all) lead free =
    let (m, one, two) = acts_split q c before last d (subst (λ l. ActsLead q c l d) all lead) in
    let (bound, none, plain, epoch) = pins_bound q n before c m first one free in
    let now : d ≡ after m q (LoadPin n w) = (subst (λ l. ActsLead q m l d) is two).1 in (
      ap (λ (z : Core). bound_of z q) now ∙ (pin_bound m q n w (none n) ∙ bound),
      subst (λ (z : Core). (o : ℕ) → z.pins o ≡ None) (sym now) none,
      subst (All IsOfRound) (sym all) (All-append IsOfRound before last plain
          (subst (All IsOfRound) (sym is) (All-cons IsOfRound (LoadPin n w) [] tt (All-nil IsOfRound)))),
      ap (λ (z : Core). z.epoch) now ∙ epoch,
    )

begun_bound : (c : Core) (q w : ℕ) → bound_of (after c q (LoadEpoch w)) q ≡ c.epoch
begun_bound c q w = ap (λ (z : Round). z.bound) (own_round (nat_eq q q) _ (c.rounds q) (eq-eqb q q refl))

advanced_is : (c : Core) (q expected found : ℕ) → expected ≡ c.epoch → ((o : ℕ) → c.pins o ≡ None) →
    ((after c q (Advance expected found)).epoch ≡ suc c.epoch) × ((o : ℕ) → (after c q (Advance expected found)).pins o ≡ None)
advanced_is c q expected found is free = either (nat_eq c.epoch expected) (eq-eqb c.epoch expected (sym is))
  where
    either : (b : Bool) → b ≡ true → (let s : Shared = if b then with_epoch c.shared (suc c.epoch) else c.shared in (s.epoch ≡ suc c.epoch) × ((o : ℕ) →
        s.pins o ≡ None))
    either true e = (refl, free)
    either false e = absurd cc

advances : (epoch found : ℕ) → epoch + 1 < EPOCHS → advance_steps epoch found ≡ Advance epoch found ∷ []
advances epoch found low = ap (λ b. if b then Advance epoch found ∷ [] else []) (lt-ltb (epoch + 1) EPOCHS low)

-- its steps before the visits
abbrev pub beginning : (epoch found next : ℕ) → List Act → List Act
beginning epoch found next pins = (LoadEpoch epoch ∷ advance_steps epoch found) ++ LoadEpoch next ∷ pins

begins : (q epoch found next n : ℕ) (pins : List Act) (c d : Core) → c.epoch + 1 < EPOCHS → ((o : ℕ) → c.pins o ≡ None) → InTurn LoadsPin n pins →
    ActsLead q c (beginning epoch found next pins) d → (bound_of d q ≡ suc c.epoch) × All IsOfRound (beginning epoch found next pins)
begins q epoch found next n pins c d early free loads (legal, lead) =
    let c1 : Core = after c q (LoadEpoch epoch) in
    let is : epoch ≡ c.epoch = legal.1 in
    let one : advance_steps epoch found ≡ Advance epoch found ∷ [] = advances epoch found (omega (arith, early, is)) in
    let lead2 : ActsLead q c1 (Advance epoch found ∷ LoadEpoch next ∷ pins) d = subst (λ l. ActsLead q c1 (l ++ LoadEpoch next ∷ pins) d) one lead in
    let c2 : Core = after c1 q (Advance epoch found) in
    let c3 : Core = after c2 q (LoadEpoch next) in
    let (now, unpinned) = advanced_is c1 q epoch found is free in
    let (bound, none, plain, same) = pins_bound q n pins c3 d loads lead2.1.1 unpinned in (
      bound ∙ (begun_bound c2 q next ∙ now),
      subst (λ l. All IsOfRound ((LoadEpoch epoch ∷ l) ++ LoadEpoch next ∷ pins)) (sym one)
          (All-cons IsOfRound (LoadEpoch epoch) (Advance epoch found ∷ LoadEpoch next ∷ pins) tt
          (All-cons IsOfRound (Advance epoch found) (LoadEpoch next ∷ pins) tt (All-cons IsOfRound (LoadEpoch next) pins tt plain))),
    )

-- ---- the round
-- It leaves each record free, or in the tree, if those that it doesn't visit are free.
pub round_places : (q epoch found next bound : ℕ) (uncommitted : ℕ → ℕ) (pins nodes leaves : List Act) (c d : Core) → IsLawful c → HasNoneAtWork c →
    ((r : Rec) → IsMarkedBy c.epoch (c.fate r)) → c.epoch + 1 < EPOCHS → ((r : Rec) → IsUncommitted c.layout uncommitted r → c.fate r ≡ Free) →
    (passes : ℕ) → InTurn LoadsPin passes pins →
    InTurn (λ n. VisitsCommitted c.layout uncommitted bound (a_node n)) c.layout.nodes nodes →
    InTurn (λ n. VisitsCommitted c.layout uncommitted bound (a_leaf n)) c.layout.leaves leaves → bound ≡ bound_of d q →
    ActsLead q c ((beginning epoch found next pins ++ nodes) ++ leaves) d →
    (r : Rec) → HasRecord c.layout r → IsPlaced (d.fate r)
round_places q epoch found next bound uncommitted pins nodes leaves c d law idle marked early rest passes loads visits_nodes visits_leaves bound_is lead = of_record
  where
    e : ℕ
    e = c.epoch

    begin : List Act
    begin = beginning epoch found next pins

    last : (m : Core) × ActsLead q c (begin ++ nodes) m × ActsLead q m leaves d
    last = acts_split q c (begin ++ nodes) leaves d lead

    first : (m : Core) × ActsLead q c begin m × ActsLead q m nodes last.0
    first = acts_split q c begin nodes last.0 last.1

    begun : (bound_of first.0 q ≡ suc e) × All IsOfRound begin
    begun = begins q epoch found next passes pins c first.0 early idle.unpinned loads first.1

    low : e < bound
    low =
        let same : d.rounds ≡ first.0.rounds =
        acts_rounds q last.0 leaves d (visits_visit c.layout uncommitted bound a_leaf c.layout.leaves leaves visits_leaves) last.2 ∙
        acts_rounds q first.0 nodes last.0 (visits_visit c.layout uncommitted bound a_node c.layout.nodes nodes visits_nodes) first.2 in
        let is = ap (λ (o : ℕ → Round). (o q).bound) same in
        omega (arith, bound_is, is, begun.0)

    lawful : IsLawful first.0
    lawful = acts_lawful q c begin first.0 law first.1

    waits : (r : Rec) → IsPlacedOrBy e (first.0.fate r)
    waits r = acts_kept (IsPlacedOrBy e) tt q c begin first.0 begun.1 first.1 r (unowned_is e (c.fate r) (idle.unowned r) (marked r))

    nodes_plain : All IsOfRound nodes
    nodes_plain = visits_plain c.layout uncommitted bound a_node c.layout.nodes nodes visits_nodes

    leaves_plain : All IsOfRound leaves
    leaves_plain = visits_plain c.layout uncommitted bound a_leaf c.layout.leaves leaves visits_leaves

    of_committed : (r : Rec) → HasRecord c.layout r → IsCommitted c.layout uncommitted r → IsPlaced (d.fate r)
    of_committed (a_node n) has committed =
        acts_kept IsPlaced tt q last.0 leaves d leaves_plain last.2 (a_node n)
        (visits_place e bound low q c.layout uncommitted a_node c.layout.nodes nodes first.0 last.0 lawful visits_nodes first.2 n has committed (waits (a_node n)))
    of_committed (a_leaf n) has committed =
        visits_place e bound low q c.layout uncommitted a_leaf c.layout.leaves leaves last.0 d (acts_lawful q first.0 nodes last.0 lawful first.2) visits_leaves
        last.2 n has committed (acts_kept (IsPlacedOrBy e) tt q first.0 nodes last.0 nodes_plain first.2 (a_leaf n) (waits (a_leaf n)))

    of_record : (r : Rec) → HasRecord c.layout r → IsPlaced (d.fate r)
    of_record r has = ⊎_elim
        (λ (committed : IsCommitted c.layout uncommitted r). of_committed r has committed)
        (λ (beyond : IsUncommitted c.layout uncommitted r). acts_kept IsPlaced tt q c ((begin ++ nodes) ++ leaves) d
        (All-append IsOfRound (begin ++ nodes) leaves (All-append IsOfRound begin nodes begun.1 nodes_plain) leaves_plain) lead r
        (subst IsPlaced (sym (rest r beyond)) tt))
        (cases_lt (uncommitted (record_kind c.layout r)) (count_from c.layout r))
