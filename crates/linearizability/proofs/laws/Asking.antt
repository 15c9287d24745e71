-- A call that responds has changed the map as it asks, at each time before.
use Rattle.linearizability.proofs.Common.{◌≡◌, ◌≢◌, ◌⊎◌, inl, inr, ℕ, zero, suc, ◌<◌, ◌≤◌, List, [], ◌∷◌, ◌++◌, length, take, map, cond, eqb, Option, Some, None, refl, sym, ap, subst, ◌∙◌, arith, ⊎_elim, append-nil, append_assoc, slice_get, cons_option, take-append_seam, cases_eq, eq-eqb, ne_eqb, All-permutation, length_permutation, All-append, All-cons, All-head, All-nil, All-tail, filter-append, filter_map-append, Call, Change, Note, Reply, LegalCalls, StandsIn, change_of, changes_of, own_changes, BeginsWith, OthersGoOn, map_of, reply_of, legal_longer, pass-change_of, same_value, nothing_before, Layout}
use Rattle.std.specs.List.{All}
use Rattle.std.specs.List.Sorted.{IsPermutation}
use Rattle.linearizability.specs.Histories.{ChangesAsAsked, HasChangedOnce, replied}
use Rattle.linearizability.specs.Configurations.{Happening, IsNotedBetween, IsRefusal, IsResponse, IsSoundConfiguration, IsWholeRun, Configuration, Pending}
use Rattle.linearizability.specs.Statements.{RefusedChangeNothing, RespondersChangeAsAsked}
use Rattle.linearizability.proofs.Histories.Calling.{LegalUpTo, calls_legal}
use Rattle.linearizability.proofs.Configurations.{all_behind, cancelled, grown, loaded_since, longer, runs_stay_sound}

-- another order of one thing is that thing alone
one_alone : {X : Type 0} (x : X) (ys : List X) → IsPermutation (x ∷ []) ys → ys ≡ x ∷ []
one_alone x [] h = absurd (let e = length_permutation (x ∷ []) [] h in omega (arith, e))
one_alone x (y ∷ z ∷ zs) h = absurd (let e = length_permutation (x ∷ []) (y ∷ z ∷ zs) h in omega (arith, e))
one_alone {X} x (y ∷ []) h =
    let same : (λ (z : X). z ≡ x) y = All-head (λ (z : X). z ≡ x) y [] (All-permutation (λ (z : X). z ≡ x) (x ∷ []) (y ∷ []) h (All-cons (λ (z : X). z ≡ x) x [] refl (All-nil (λ (z : X). z ≡ x)))) in
    ap (λ z. z ∷ []) same

-- A pass's own changes

abbrev Others : ℕ → List Change → Type 0
Others q cs = All (λ c. c.pass ≢ q) cs

own_skips : (q : ℕ) (c : Change) (cs : List Change) → c.pass ≢ q → own_changes q (c ∷ cs) ≡ own_changes q cs
own_skips q c cs ne = ap (λ b. cond b (c ∷ own_changes q cs) (own_changes q cs)) (ne_eqb c.pass q ne)

own_takes : (q : ℕ) (c : Change) (cs : List Change) → c.pass ≡ q → own_changes q (c ∷ cs) ≡ c ∷ own_changes q cs
own_takes q c cs e = ap (λ b. cond b (c ∷ own_changes q cs) (own_changes q cs)) (eq-eqb c.pass q e)

not_none : (c : Change) (cs : List Change) (P : Type 0) → c ∷ cs ≡ [] → P
not_none c cs P e = cc

head_is : {X : Type 0} (c d : X) (cs ds : List X) → c ∷ cs ≡ d ∷ ds → c ≡ d
head_is c d cs ds e = cc

tail_is : {X : Type 0} (c d : X) (cs ds : List X) → c ∷ cs ≡ d ∷ ds → cs ≡ ds
tail_is c d cs ds e = cc

-- where none is its own, all are others'
none_own : (q : ℕ) (cs : List Change) → own_changes q cs ≡ [] → Others q cs
none_own q [] e = All-nil (λ c. c.pass ≢ q)
none_own q (c ∷ cs) e = ⊎_elim
    (λ is. not_none c (own_changes q cs) (Others q (c ∷ cs)) (sym (own_takes q c cs is) ∙ e))
    (λ ne. All-cons (λ c. c.pass ≢ q) c cs ne (none_own q cs (sym (own_skips q c cs ne) ∙ e))) (cases_eq c.pass q)

-- where one is, it stands between others'
record Between (q : ℕ) (c : Change) (cs : List Change) : Type 0 where
  pub first : List Change
  pub last : List Change
  pub is : cs ≡ first ++ c ∷ last
  pub before : Others q first
  pub after : Others q last

one_own : (q : ℕ) (c : Change) (cs : List Change) → own_changes q cs ≡ c ∷ [] → Between q c cs
one_own q c [] e = not_none c [] (Between q c []) (sym e)
one_own q c (x ∷ cs) e = ⊎_elim here (λ ne. there ne (one_own q c cs (sym (own_skips q x cs ne) ∙ e))) (cases_eq x.pass q)
  where
    here : x.pass ≡ q → Between q c (x ∷ cs)
    here is =
        let all : x ∷ own_changes q cs ≡ c ∷ [] = sym (own_takes q x cs is) ∙ e in record {
          first = [];
          last = cs;
          is = ap (λ z. z ∷ cs) (head_is x c (own_changes q cs) [] all);
          before = All-nil (λ c. c.pass ≢ q);
          after = none_own q cs (tail_is x c (own_changes q cs) [] all);
        }

    there : x.pass ≢ q → Between q c cs → Between q c (x ∷ cs)
    there ne h = record { first = x ∷ h.first; last = h.last; is = ap (λ z. x ∷ z) h.is; before = All-cons (λ c. c.pass ≢ q) x h.first ne h.before; after = h.after }

-- it is the only one of the pass behind this front
no_other : (q : ℕ) (c : Change) (cs : List Change) (i : ℕ) (P : Type 0) → Others q cs → slice_get cs i ≡ Some c → c.pass ≡ q → P
no_other q c [] i P h e is = cc
no_other q c (x ∷ cs) zero P h e is = absurd (All-head (λ c. c.pass ≢ q) x cs h (ap (λ (z : Change). z.pass) (same_value x c e) ∙ is))
no_other q c (x ∷ cs) (suc i) P h e is = no_other q c cs i P (All-tail (λ c. c.pass ≢ q) x cs h) e is

stands_between : (q : ℕ) (c : Change) (first last : List Change) (i : ℕ) → Others q first → Others q last → slice_get (first ++ c ∷ last) i ≡ Some c → c.pass ≡ q → i ≡ length first
stands_between q c [] last zero before after e is = refl
stands_between q c [] last (suc i) before after e is = no_other q c last i (suc i ≡ 0) after e is
stands_between q c (x ∷ first) last zero before after e is =
    absurd (All-head (λ c. c.pass ≢ q) x first before (ap (λ (z : Change). z.pass) (same_value x c e) ∙ is))
stands_between q c (x ∷ first) last (suc i) before after e is = ap suc (stands_between q c first last i (All-tail (λ c. c.pass ≢ q) x first before) after e is)

stands_behind : (q : ℕ) (c : Change) (front first last : List Change) (i : ℕ) → length front ≤ i → Others q first → Others q last →
    slice_get (front ++ (first ++ c ∷ last)) i ≡ Some c → c.pass ≡ q → i ≡ length (front ++ first)
stands_behind q c [] first last i low before after e is = stands_between q c first last i before after e is
stands_behind q c (x ∷ front) first last zero low before after e is = absurd (omega arith)
stands_behind q c (x ∷ front) first last (suc i) low before after e is = ap suc (stands_behind q c front first last i (omega arith) before after e is)

parts_one : (c : Change) (xs ys : List Change) → xs ++ ys ≡ c ∷ [] → (xs ≡ []) ⊎ ((xs ≡ c ∷ []) × (ys ≡ []))
parts_one c [] ys e = inl refl
parts_one c (x ∷ xs) ys e = inr (one (nothing_before xs ys (tail_is x c (xs ++ ys) [] e)) (tail_is x c (xs ++ ys) [] e))
  where
    one : xs ≡ [] → xs ++ ys ≡ [] → (x ∷ xs ≡ c ∷ []) × (ys ≡ [])
    one none all = (ap (λ z. z ∷ xs) (head_is x c (xs ++ ys) [] e) ∙ ap (λ z. c ∷ z) none, ap (λ z. z ++ ys) (sym none) ∙ all)

-- One call of one pass, whose notes are these by the last of three lists of changes

module _ (q : ℕ) (front now later : List Change) (ns notes : List Note) (more : BeginsWith now front) (on : BeginsWith later now)
    (first : LegalCalls front q ns) (last : LegalCalls later q (ns ++ notes)) where
  abbrev r : List Change
  r = more.0 ++ on.0

  later_is : later ≡ front ++ r
  later_is = on.1 ∙ ap (λ l. l ++ on.0) more.1 ∙ append_assoc front more.0 on.0

  -- its own changes since are those of its notes
  own_since : own_changes q more.0 ++ own_changes q on.0 ≡ changes_of q notes
  own_since = sym (filter-append (λ x. eqb x.pass q) more.0 on.0) ∙ cancelled (own_changes q front) (own_changes q r) (changes_of q notes)
      (sym (filter-append (λ x. eqb x.pass q) front r) ∙ ap (own_changes q) (sym later_is) ∙ last.own ∙ filter_map-append (change_of q) ns notes
      ∙ ap (λ l. l ++ changes_of q notes) (sym first.own))

  nothing_made : changes_of q notes ≡ [] → OthersGoOn q front now
  nothing_made none = (more.0, more.1, none_own q more.0 (nothing_before (own_changes q more.0) (own_changes q on.0) (own_since ∙ none)))

  changed_once : (n : Note) → length front ≤ n.place → StandsIn later q n → (c : Change) → change_of q n ≡ Some c → changes_of q notes ≡ c ∷ [] → (asked : Call) → n.call ≡ asked →
      OthersGoOn q front now ⊎ HasChangedOnce q asked front now
  changed_once n low stands c made one asked is = ⊎_elim (λ none. inl (more.0, more.1, none_own q more.0 none)) (λ own. inr (there (one_own q c more.0 own.0) (none_own q on.0 own.1)))
      (parts_one c (own_changes q more.0) (own_changes q on.0) (own_since ∙ one))
    where
      there : Between q c more.0 → Others q on.0 → HasChangedOnce q asked front now
      there b others =
          let rest : List Change = b.last ++ on.0 in
          let whole : later ≡ front ++ (b.first ++ c ∷ rest) = later_is ∙ ap (λ l. front ++ (l ++ on.0)) b.is ∙ ap (λ l. front ++ l) (append_assoc b.first (c ∷ b.last) on.0) in
          let place : n.place ≡ length (front ++ b.first) = stands_behind q c front b.first rest n.place low b.before (All-append (λ x. x.pass ≢ q) b.last on.0 b.after others)
          (subst (λ l. slice_get l n.place ≡ Some c) whole (stands.change c made)) (pass-change_of q n c made) in
          let seam : take n.place later ≡ front ++ b.first =
          ap (λ l. take n.place l) (whole ∙ sym (append_assoc front b.first (c ∷ rest))) ∙ ap (λ k. take k ((front ++ b.first) ++ c ∷ rest)) place ∙ take-append_seam (front ++ b.first) (c ∷ rest) in
          let reply : n.reply ≡ reply_of (map_of (front ++ b.first)) n.call = stands.reply ∙ ap (λ (l : List Change). reply_of (map_of l) n.call) seam in
          record {
            meanwhile = front ++ b.first;
            change = c;
            until = (b.first, refl, b.before);
            made = subst (λ (a : Call). change_of q (replied (front ++ b.first) a) ≡ Some c) is
                (subst (λ (y : Reply). change_of q (record { place = length (front ++ b.first); call = n.call; reply = y }) ≡ Some c) reply made);
            since = (
              b.last,
              more.1 ∙ ap (λ l. front ++ l) b.is ∙ sym (append_assoc front b.first (c ∷ b.last)) ∙ sym (append_assoc (front ++ b.first) (c ∷ []) b.last),
              b.after,
            );
          }

module _ (layout : Layout) (last : ℕ) (at : ℕ → Configuration) (happens : ℕ → Happening) (run : IsWholeRun layout last at happens) (q t : ℕ) (call : Pending) (below : q < layout.passes) (within : t ≤ last) where
  sound_at : (k : ℕ) → k ≤ last → IsSoundConfiguration layout (at k)
  sound_at = runs_stay_sound layout last at happens run

  legal_at : (k : ℕ) → k ≤ last → LegalCalls ((at k).known q).front q ((at k).known q).notes → LegalCalls (at k).core.changes q ((at k).known q).notes
  legal_at k low h = let s = sound_at k low in
      legal_longer ((at k).known q).front (at k).core.changes q ((at k).known q).notes h
      (subst (λ z. OthersGoOn z ((at k).known q).front (at k).core.changes) (s.named q below) (s.knows q below).seen.front) s.lawful.core.told.legal

  abbrev s : ℕ
  s = call.since

  begun : (at t).pending q ≡ Some call → LegalUpTo at q t (Some call)
  begun called = subst (LegalUpTo at q t) called (calls_legal layout last at happens run t within q below)

  module _ (m : ℕ) (from : s ≤ m) (upto : m ≤ t) where
    more : BeginsWith (at m).core.changes (at s).core.changes
    more = grown layout last at happens run s m from (omega (arith, upto, within))

    on : BeginsWith (at t).core.changes (at m).core.changes
    on = grown layout last at happens run m t upto within

    pub refused : IsRefusal at t q call → OthersGoOn q (at s).core.changes (at m).core.changes
    refused x =
        let first = legal_at s (omega (arith, from, upto, within)) (begun x.called).1 in
        let second = subst (LegalCalls (at t).core.changes q) (x.noted ∙ sym (append-nil ((at s).known q).notes)) (legal_at t within x.legal) in
        nothing_made q (at s).core.changes (at m).core.changes (at t).core.changes ((at s).known q).notes [] more on first second refl

    module _ (notes : List Note) (x : IsResponse at t q call notes) where
      first : LegalCalls (at s).core.changes q ((at s).known q).notes
      first = legal_at s (omega (arith, from, upto, within)) (begun x.called).1

      second : LegalCalls (at t).core.changes q (((at s).known q).notes ++ notes)
      second = subst (LegalCalls (at t).core.changes q) x.noted (legal_at t within x.legal)

      looked_up : changes_of q notes ≡ [] → OthersGoOn q (at s).core.changes (at m).core.changes
      looked_up none = nothing_made q (at s).core.changes (at m).core.changes (at t).core.changes ((at s).known q).notes notes more on first second none

      one_asked : (asked : Call) → call.calls ≡ asked ∷ [] → (ms : List Note) → notes ≡ ms → map (λ n. n.call) ms ≡ asked ∷ [] → ChangesAsAsked q call.calls (at s).core.changes (at m).core.changes
      one_asked asked is [] e same = cc
      one_asked asked is (n ∷ k ∷ ms) e same = cc
      one_asked asked is (n ∷ []) e same = by (change_of q n) refl
        where
          stands : StandsIn (at t).core.changes q n
          stands = All-head (StandsIn (at t).core.changes q) n [] (subst (All (StandsIn (at t).core.changes q)) e (all_behind (StandsIn (at t).core.changes q) ((at s).known q).notes notes second.each))

          placed : IsNotedBetween at q s t n
          placed = All-head (IsNotedBetween at q s t) n [] (subst (All (IsNotedBetween at q s t)) e x.placed)

          low : length (at s).core.changes ≤ n.place
          low =
              let upto = placed.upto in
              let shown = longer ((at placed.shown).known q).fresh.front (at s).core.changes (loaded_since layout last at happens run s q below placed.shown placed.from (omega (arith, upto, within)) placed.loaded) in
              let place = placed.low in omega (arith, shown, place)

          asked_is : n.call ≡ asked
          asked_is = cc

          by : (o : Option Change) → change_of q n ≡ o → ChangesAsAsked q call.calls (at s).core.changes (at m).core.changes
          by None none = inl (looked_up (ap (changes_of q) e ∙ ap (λ o. cons_option o []) none))
          by (Some c) made = ⊎_elim (λ others. inl others) (λ once. inr (asked, is, once))
              (changed_once q (at s).core.changes (at m).core.changes (at t).core.changes ((at s).known q).notes notes more on first second n low stands c made
              (ap (changes_of q) e ∙ ap (λ o. cons_option o []) made) asked asked_is)

      pub responds : ((asked : Call) × (call.calls ≡ asked ∷ [])) ⊎ (changes_of q notes ≡ []) → ChangesAsAsked q call.calls (at s).core.changes (at m).core.changes
      responds (inl (asked, is)) = one_asked asked is notes refl (one_alone asked (map (λ n. n.call) notes) (subst (λ z. IsPermutation z (map (λ n. n.call) notes)) is x.calls))
      responds (inr none) = inl (looked_up none)

pub answered_calls_change_as_asked : RespondersChangeAsAsked
answered_calls_change_as_asked layout last at happens run q t call notes below within x single m from upto = responds layout last at happens run q t call below within m from upto notes x single

pub refused_change_nothing : RefusedChangeNothing
refused_change_nothing layout last at happens run q t call below within x m from upto = refused layout last at happens run q t call below within m from upto x
