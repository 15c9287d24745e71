-- Scans show the maps of a run.
use Rattle.linearizability.proofs.Common.{◌≡◌, ◌≢◌, ℕ, zero, suc, ◌+◌, ◌<◌, ◌≤◌, List, [], ◌∷◌, ◌++◌, length, drop, fold, map, take, true, false, Some, None, inl, inr, ◌⊎◌, refl, sym, ap, subst, ◌∙◌, arith, ⊎_elim, le_refl, append-nil, append_assoc, length-append, All, IsSome, drop-append_seam, take-append_seam, cases_Bool, cases_eq, cases_lt, take-append-drop, take-append-le, All-cons, All-head, All-nil, All-tail, All-weaker, false≢true, Change, Kind, Added, Replaced, Removed, BeginsWith, FitsKind, LegalFrom, LegalFront, changed, changed_by, map_of, IsRising, Map, value_at, without, changed_by-other, map_of-push, map_of-rising, value_at-without_same, Layout, Act, Publish, Load, Core, IsAtomic, Legal, next_core, loaded_tree, Appends, seen_by}
use Rattle.std.proofs.lemmas.Option.{none-some}
use Rattle.finite_map.specs.declared.Scan.{Scan}
use Rattle.finite_map.specs.Reverse.{falling_scan}
use Rattle.finite_map.specs.Scans.{IsHeldBetween, IsLawfulScanWith, ScanOrder, rising_scan}
use Rattle.tries.specs.Content.{Item}
use Rattle.versions.specs.Told.{added_change, items_of}
use Rattle.rowex_core.proofs.Events.Appending.{only_publish_appends}
use Rattle.linearizability.specs.Configurations.{Continues, Happening, IsWholeRun, Configuration, invokes, refuses, responds, shows, steps}
use Rattle.linearizability.specs.Scanning.{IsScanInTime, WasHeld, WasThere}
use Rattle.linearizability.specs.Statements.{ScansInTime}
use Rattle.linearizability.proofs.Configurations.{grown, loaded_since, longer, runs_stay_sound}

-- A time makes one change at most; or pairs are loaded at it, before any change

-- at this time pairs are loaded: no change was made before, and it makes only additions
pub record IsLoading (a b : Core) : Type 0 where
  pub none : a.changes ≡ []
  pub adds : All (λ c. c.kind ≡ Added) b.changes

added_all : (q : ℕ) (xs : List Item) → All (λ c. c.kind ≡ Added) (map (added_change q) xs)
added_all q [] = All-nil (λ c. c.kind ≡ Added)
added_all q (x ∷ xs) = All-cons (λ c. c.kind ≡ Added) (added_change q x) (map (added_change q) xs) refl (added_all q xs)

one_at_most : (act : Act) (c d : Core) → IsAtomic act → Appends act c d → length d.changes ≤ length c.changes + 1
one_at_most (Publish spot w) c d plain h = let e : length d.changes ≡ length c.changes + 1 = ap length h.1 ∙ length-append c.changes (h.0 ∷ []) in omega (arith, e)
one_at_most (Load words) c d plain h = absurd plain
one_at_most act c d plain h = let e : length d.changes ≡ length c.changes = ap length h.0 in omega (arith, e)

either : (c : Core) (q : ℕ) (act : Act) → Legal c q act → (length (next_core c q act).changes ≤ length c.changes + 1) ⊎ IsLoading c (next_core c q act)
either c q (Load words) (low, (new, load)) =
    let none : c.changes ≡ [] = ap (λ (z : Core). z.changes) new in
    inr (record {
      none = none;
      adds = subst (λ (l : List Change). All (λ c. c.kind ≡ Added) (l ++ map (added_change q) (items_of (loaded_tree c.layout words.now)))) (sym none) (added_all q (items_of (loaded_tree c.layout words.now)));
    })
either c q (Publish spot w) legal = inl (one_at_most (Publish spot w) c (next_core c q (Publish spot w)) tt (only_publish_appends c q (Publish spot w)))
either c q act legal = inl (one_at_most act c (next_core c q act) tt (only_publish_appends c q act))

same_at_most : (c d : Core) → d ≡ c → length d.changes ≤ length c.changes + 1
same_at_most c d e = let same : length d.changes ≡ length c.changes = ap (λ (z : Core). length z.changes) e in omega (arith, same)

next_at_most : (layout : Layout) (at : ℕ → Configuration) (t : ℕ) (h : Happening) → Continues layout at t h →
    (length (at (suc t)).core.changes ≤ length (at t).core.changes + 1) ⊎ IsLoading (at t).core (at (suc t)).core
next_at_most layout at t (steps q act notes) x =
    subst (λ (z : Core). (length z.changes ≤ length (at t).core.changes + 1) ⊎ IsLoading (at t).core z) (sym x.core) (either (at t).core q act x.legal)
next_at_most layout at t (shows q front) x = inl (same_at_most (at t).core (at (suc t)).core x.core)
next_at_most layout at t (invokes q calls) x = inl (same_at_most (at t).core (at (suc t)).core x.1.core)
next_at_most layout at t (responds q notes) x = inl (same_at_most (at t).core (at (suc t)).core x.2.core)
next_at_most layout at t (refuses q) x = inl (same_at_most (at t).core (at (suc t)).core x.2.core)

-- Additions take nothing away

held_on : (front cs : List Change) (key : List ℕ) (value : ℕ) → LegalFrom (map_of front) cs → All (λ c. c.kind ≡ Added) cs → value_at (map_of front) key ≡ Some value →
    value_at (map_of (front ++ cs)) key ≡ Some value
held_on front [] key value legal adds held = subst (λ (l : List Change). value_at (map_of l) key ≡ Some value) (sym (append-nil front)) held
held_on front (c ∷ cs) key value legal adds held =
    let push : map_of (front ++ c ∷ []) ≡ changed (map_of front) c = map_of-push front c in
    subst (λ (l : List Change). value_at (map_of l) key ≡ Some value) (append_assoc front (c ∷ []) cs)
    (held_on (front ++ c ∷ []) cs key value (subst (λ (m : Map). LegalFrom m cs) (sym push) legal.1) (All-tail (λ c. c.kind ≡ Added) c cs adds)
    (ap (λ (m : Map). value_at m key) push ∙ (changed_by-other c.kind (map_of front) c.key c.value key (map_of-rising front) (other (All-head (λ c. c.kind ≡ Added) c cs adds)) ∙ held)))
  where
    other : c.kind ≡ Added → key ≢ c.key
    other is same = none-some value (sym (subst (λ k. FitsKind k (value_at (map_of front) c.key) c.value) is legal.0) ∙ (ap (value_at (map_of front)) (sym same) ∙ held))

legal_rest : (m : Map) (xs ys : List Change) → LegalFrom m (xs ++ ys) → LegalFrom (fold changed m xs) ys
legal_rest m [] ys h = h
legal_rest m (x ∷ xs) ys h = legal_rest (changed m x) xs ys h.1

all_rest : (P : Change → Type 0) (xs ys : List Change) → All P (xs ++ ys) → All P ys
all_rest P [] ys h = h
all_rest P (x ∷ xs) ys h = all_rest P xs ys (All-tail P x (xs ++ ys) h)

-- what the first of legal additions lead to, all of them do
pub held_by_all : (n : ℕ) (cs : List Change) (key : List ℕ) (value : ℕ) → LegalFront cs → All (λ c. c.kind ≡ Added) cs → value_at (map_of (take n cs)) key ≡ Some value → value_at (map_of cs) key ≡ Some value
held_by_all n cs key value legal adds held =
    let whole : take n cs ++ drop n cs ≡ cs = take-append-drop n cs in
    subst (λ (l : List Change). value_at (map_of l) key ≡ Some value) whole
    (held_on (take n cs) (drop n cs) key value
    (legal_rest [] (take n cs) (drop n cs) (subst LegalFront (sym whole) legal)) (all_rest (λ c. c.kind ≡ Added) (take n cs) (drop n cs) (subst (All (λ c. c.kind ≡ Added)) (sym whole) adds)) held)

-- Kept keys

-- a change after which the key is there doesn't remove it
not_removed : (kind : Kind) (m : Map) (at key : List ℕ) (value : ℕ) → IsRising m → IsSome (value_at (changed_by kind m at value) key) → kind ≡ Removed → at ≢ key
not_removed Added m at key value rising there e = cc
not_removed Replaced m at key value rising there e = cc
not_removed Removed m at key value rising there e = λ same.
    (let none : value_at (without m at) key ≡ None = ap (value_at (without m at)) (sym same) ∙ value_at-without_same at m rising in let no : false ≡ true = subst IsSome none there in cc)

-- a key that is there after each of further changes is removed by none of them
never_removed : (front more : List Change) (key : List ℕ) → ((n : ℕ) → length front ≤ n → n ≤ length (front ++ more) → IsSome (value_at (map_of (take n (front ++ more))) key)) →
    All (λ c. c.kind ≡ Removed → c.key ≢ key) more
never_removed front [] key there = All-nil (λ c. c.kind ≡ Removed → c.key ≢ key)
never_removed front (c ∷ more) key there =
    let long : length (front ++ c ∷ []) ≡ length front + 1 = length-append front (c ∷ []) in
    let split : (front ++ c ∷ []) ++ more ≡ front ++ c ∷ more = append_assoc front (c ∷ []) more in
    let on : (n : ℕ) → length (front ++ c ∷ []) ≤ n → n ≤ length ((front ++ c ∷ []) ++ more) → IsSome (value_at (map_of (take n ((front ++ c ∷ []) ++ more))) key) =
    λ n low high. subst (λ l. IsSome (value_at (map_of (take n l)) key)) (sym split) (there n (omega (arith, long, low)) (subst (λ l. n ≤ length l) split high)) in
    let now = subst (λ l. IsSome (value_at (map_of l) key)) (take-append_seam (front ++ c ∷ []) more)
    (on (length (front ++ c ∷ [])) (le_refl (length (front ++ c ∷ []))) (let e = length-append (front ++ c ∷ []) more in omega (arith, e))) in
    All-cons (λ c. c.kind ≡ Removed → c.key ≢ key) c more
    (not_removed c.kind (map_of front) c.key key c.value (map_of-rising front) (subst (λ m. IsSome (value_at m key)) (map_of-push front c) now))
    (never_removed (front ++ c ∷ []) more key on)

module _ (layout : Layout) (last : ℕ) (at : ℕ → Configuration) (happens : ℕ → Happening) (run : IsWholeRun layout last at happens) where
  abbrev count : ℕ → ℕ
  count t = length (at t).core.changes

  -- so many changes have been made at the time; or a load, at it, makes more
  abbrev HasMade : ℕ → ℕ → ℕ → Type 0
  HasMade n t m = (count m ≡ n) ⊎ ((m < t) × IsLoading (at m).core (at (suc m)).core × (n < count (suc m)))

  -- each number of changes between those of two times is that of a time between them, or a load passes it
  pub goes_through : (s n t : ℕ) → s ≤ t → t ≤ last → count s ≤ n → n ≤ count t → (m : ℕ) × (s ≤ m) × (m ≤ t) × HasMade n t m
  goes_through s n zero low high from upto = (zero, low, le_refl 0, inl (let e : s ≡ 0 = omega arith in let f : count 0 ≤ n = subst (λ k. count k ≤ n) e from in omega (arith, f, upto)))
  goes_through s n (suc t) low high from upto = ⊎_elim
      (λ e. (suc t, low, le_refl (suc t), inl (let f : count (suc t) ≤ n = subst (λ k. count k ≤ n) e from in omega (arith, f, upto))))
      (λ ne. ⊎_elim
      (λ above. ⊎_elim
      (λ whole. (suc t, low, le_refl (suc t), inl (omega (arith, whole, upto))))
      (λ part. ⊎_elim
      (λ step. (suc t, low, le_refl (suc t), inl (omega (arith, above, step, upto))))
      (λ loads. (t, omega (arith, low, ne), omega arith, inr (omega arith, loads, part)))
      (next_at_most layout at t (happens t) (run.next t high)))
      (cases_le (count (suc t)) n))
      (λ within. widen (goes_through s n t (omega arith) (omega arith) from within))
      (cases_lt (count t) n)) (cases_eq s (suc t))
    where
      cases_le : (a b : ℕ) → (a ≤ b) ⊎ (b < a)
      cases_le a b = ⊎_elim (λ h. inr h) (λ h. inl h) (cases_lt b a)

      widen : (m : ℕ) × (s ≤ m) × (m ≤ t) × HasMade n t m → (m : ℕ) × (s ≤ m) × (m ≤ suc t) × HasMade n (suc t) m
      widen (m, a, b, inl e) = (m, a, omega arith, inl e)
      widen (m, a, b, inr (e, f, g)) = (m, a, omega arith, inr (omega arith, f, g))

  module _ (q since until : ℕ) (pass : q < layout.passes) (order : since ≤ until) (within : until ≤ last) (loaded : ((at since).known q).steps ≤ ((at until).known q).fresh.step) where
    abbrev before : List Change
    before = ((at until).known q).fresh.front

    abbrev after : List Change
    after = ((at until).known q).front

    seen : BeginsWith (at until).core.changes after
    seen = seen_by (at until).core ((at until).known q) ((runs_stay_sound layout last at happens run until within).knows q pass)

    least : count since ≤ length before
    least = longer before (at since).core.changes (loaded_since layout last at happens run since q pass until order within loaded)

    -- the first n changes that the pass has seen were all there were at some time of the scan; or a load, at it, made more
    abbrev WasAll : ℕ → ℕ → Type 0
    WasAll n t = (take n after ≡ (at t).core.changes) ⊎
        ((t < until) × IsLoading (at t).core (at (suc t)).core × ((m : ℕ) × (take n after ≡ take m (at (suc t)).core.changes)))

    configuration_of : (n : ℕ) → length before ≤ n → n ≤ length after → (t : ℕ) × (since ≤ t) × (t ≤ until) × WasAll n t
    configuration_of n low high =
        let most = longer (at until).core.changes after seen in
        let found = goes_through since n until order within (omega (arith, low, least)) (omega (arith, high, most)) in
        let t : ℕ = found.0 in
        let front : take n (at until).core.changes ≡ take n after = ap (take n) seen.1 ∙ take-append-le n after seen.0 high in (
          t,
          found.1,
          found.2,
          ⊎_elim
              (λ is. inl (sym front ∙ whole n t found.2 is))
              (λ more. inr (more.0, more.1, (n, sym front ∙ part n t more.0 more.2)))
              found.3,
        )
      where
        whole : (n t : ℕ) → t ≤ until → count t ≡ n → take n (at until).core.changes ≡ (at t).core.changes
        whole n t low is =
            let more = grown layout last at happens run t until low within in
            ap (λ k. take k (at until).core.changes) (sym is) ∙ (ap (take (count t)) more.1 ∙ take-append_seam (at t).core.changes more.0)

        part : (n t : ℕ) → t < until → n < count (suc t) → take n (at until).core.changes ≡ take n (at (suc t)).core.changes
        part n t low few =
            let more = grown layout last at happens run (suc t) until (omega arith) within in
            ap (take n) more.1 ∙ take-append-le n (at (suc t)).core.changes more.0 (omega arith)

    -- what was held by the first n changes was held at a time
    was_held : (n : ℕ) (key : List ℕ) (value : ℕ) → length before ≤ n → n ≤ length after → value_at (map_of (take n after)) key ≡ Some value → WasHeld at since until key value
    was_held n key value low high held =
        let m = configuration_of n low high in
        ⊎_elim
        (λ is. (m.0, m.1, m.2, subst (λ l. value_at (map_of l) key ≡ Some value) is held))
        (λ more. (
          suc m.0,
          (let a = m.1 in omega (arith, a)),
          more.0,
          held_by_all more.2.0 (at (suc m.0)).core.changes key value
              (runs_stay_sound layout last at happens run (suc m.0) (let a = more.0 in omega (arith, a, within))).lawful.core.told.legal more.1.adds
              (subst (λ l. value_at (map_of l) key ≡ Some value) more.2.1 held),
        ))
        m.3

    -- and what is there at each time is there after each of them
    was_there : (n : ℕ) (key : List ℕ) → length before ≤ n → n ≤ length after → WasThere at since until key → IsSome (value_at (map_of (take n after)) key)
    was_there n key low high there =
        let m = configuration_of n low high in
        ⊎_elim
        (λ is. subst (λ l. IsSome (value_at (map_of l) key)) (sym is) (there m.0 m.1 m.2))
        (λ more. absurd (no_key (subst (λ (l : List Change). IsSome (value_at (map_of l) key)) more.1.none (there m.0 m.1 m.2))))
        m.3
      where
        no_key : IsSome {T = ℕ} None → ⊥
        no_key h = false≢true h

    scanned : (order : ScanOrder) (from upto : List ℕ) (limit : ℕ) (scan : Scan) →
        IsLawfulScanWith order before after from upto limit scan → IsScanInTime order.reached at since until from upto scan
    scanned order from upto limit scan h = record {
      held = All-weaker (λ e. IsHeldBetween before after e.0 e.1) (λ e. WasHeld at since until e.0 e.1)
          (λ e held. was_held held.0 e.0 e.1 held.1 held.2 held.3) scan.pairs.items h.held;
      whole = λ key inside reached there.
          (let stays : (n : ℕ) → length before ≤ n → n ≤ length after → IsSome (value_at (map_of (take n after)) key) =
          λ n low high. was_there n key low high there in
          let first : take (length before) after ≡ before = ap (take (length before)) h.begins.1 ∙ take-append_seam before h.begins.0 in
          let held : IsSome (value_at (map_of before) key) = subst (λ l. IsSome (value_at (map_of l) key)) first (stays (length before) (le_refl (length before)) (longer after before h.begins)) in
          let rest : drop (length before) after ≡ h.begins.0 = ap (drop (length before)) h.begins.1 ∙ drop-append_seam before h.begins.0 in
          let kept : All (λ c. c.kind ≡ Removed → c.key ≢ key) (drop (length before) after) =
          subst (All (λ c. c.kind ≡ Removed → c.key ≢ key)) (sym rest) (never_removed before h.begins.0 key
          (λ n low high. subst (λ l. IsSome (value_at (map_of (take n l)) key)) h.begins.1 (stays n low (subst (λ l. n ≤ length l) (sym h.begins.1) high)))) in
          ⊎_elim (λ more. h.part more key inside (held, kept) (reached more)) (λ more. h.whole more key inside (held, kept)) (cases_Bool scan.more));
    }

pub scans_in_time : ScansInTime
scans_in_time layout last at happens run q since until pass order within loaded from upto limit scan = (
  scanned layout last at happens run q since until pass order within loaded rising_scan from upto limit scan,
  scanned layout last at happens run q since until pass order within loaded falling_scan from upto limit scan,
)
