-- What each change under the locks of a span needs: failed steps that are remembered, records that are given up, nodes that are unlocked.
use Rattle.rowex_writing.proofs.Common.{◌≡◌, inl, inr, ℕ, suc, List, [], ◌∷◌, ◌++◌, length, get_or, Bool, true, false, nat_eq, Option, Some, None, refl, sym, ap, subst, ◌∙◌, arith, All, Contains, reverse_onto, All-cons, All-head, All-nil, All-push, All-tail, Contains-push, Contains-append_left, slice_get-get_or, Change, OthersGoOn, PathNode, Layout, Key, Rec, a_node, a_leaf, Fate, Free, IsOneOf, AreApart, all_of, map_of, of_map, of_append, apart_push, Act, Claim, Lock, LoadState, Event, Anchor, NodeTarget, Failed, a_lock, a_load, Held, Known, Owned, Core, HasRecord, holder_of, target_word, word_of, IsEvent, failed_with, claim_learned, anchor_learned, node_learned, state_learned, blocking_pass_at, IsOwned, owned_used, knows_all, Made, held_as, recs_of, IsLater, IsClaimed, Runs, silent, TableView, SeatView, act_leaves, AllMissedFrom, HasMissedSince, IsAnothers, among_held, HoldsJust, IsWayOf, Found, others_on}
use Rattle.std.specs.Prelude.{if◌then◌else◌, reverse}
use Rattle.record_words.specs.Layout.{uncommitted_in}
use Rattle.rowex_table.specs.Committed.{AtMost}
use Rattle.rowex_table.proofs.Committed.{committed_falls}
use Rattle.rowex_writing.specs.build.Walks.{HasNoOther, IsOwnOf}
use Rattle.rowex_writing.specs.build.Building.{IsBuilding}
use Rattle.rowex_writing.specs.build.Changes.{HasChanged, LacksNodes}
use Rattle.rowex_writing.specs.locks.Locks.{AreNodes, HasRun}
use Rattle.rowex_writing.specs.build.Putting.{AreInTable}

-- ---- steps that failed are remembered
one_more : {X : Type 0} (xs : List X) (y x : X) → Contains xs x → Contains (y ∷ xs) x
one_more xs y x (i, low, is) = (suc i, omega arith, is)

module _ (c : Core) (k : Known) (x : Failed) (h : Contains k.failed x) where
  claim_failed : (r : Rec) (found : ℕ) (f : Fate) → Contains (claim_learned c r found f k).failed x
  claim_failed r found Free = h
  claim_failed r found f = one_more k.failed _ x h

  anchor_failed : (found : ℕ) (lock : Option ℕ) → Contains (anchor_learned c found lock k).failed x
  anchor_failed found None = h
  anchor_failed found (Some q) = one_more k.failed _ x h

  node_failed : (n found : ℕ) → Contains (node_learned c n found k).failed x
  node_failed n found = go (nat_eq found 2)
    where
      go : (b : Bool) → Contains (if b then record k { locks = record { node = n; words = c.words (a_node n) } ∷ k.locks; values = [] } else failed_with k (a_lock (blocking_pass_at c (NodeTarget n))) (target_word (NodeTarget n)) found).failed x
      go true = h
      go false = one_more k.failed _ x h

  state_failed : (r : Rec) (w : ℕ) → Contains (state_learned c r w k).failed x
  state_failed r w = go (nat_eq w 0)
    where
      go : (b : Bool) → Contains (if b then k else failed_with k (a_load (holder_of (c.fate r))) (word_of r 0) w).failed x
      go true = h
      go false = one_more k.failed _ x h

failed_on : (layout : Layout) (k j : Known) (act : Act) (x : Failed) → IsEvent layout act silent k j → Contains k.failed x → Contains j.failed x
failed_on layout k j (Claim r found) x e h = subst (λ (z : Known). Contains z.failed x) (sym e.learned_is) (claim_failed e.core k x h r found (e.core.fate r))
failed_on layout k j (Lock Anchor found) x e h = subst (λ (z : Known). Contains z.failed x) (sym e.learned_is) (anchor_failed e.core k x h found e.core.anchor)
failed_on layout k j (Lock (NodeTarget n) found) x e h = subst (λ (z : Known). Contains z.failed x) (sym e.learned_is) (node_failed e.core k x h n found)
failed_on layout k j (LoadState r w) x e h = subst (λ (z : Known). Contains z.failed x) (sym e.learned_is) (state_failed e.core k x h r w)
failed_on layout k j act x e h = subst (λ z. Contains z x) (sym ((act_leaves layout k j act e).failed tt)) h

module _ {G : Type 0} (table : TableView) (becomes : G → Event → G → Type 0) where
  -- a failed step stays one
  pub run_failed : (acts : List Act) (a b : SeatView × G) → Runs table becomes acts a b → (x : Failed) → Contains a.0.known.failed x → Contains b.0.known.failed x
  run_failed [] a b is x h = subst (λ (z : SeatView × G). Contains z.0.known.failed x) (sym is) h
  run_failed (act ∷ acts) a b (m, s, rest) x h = run_failed acts m b rest x (failed_on table.layout a.0.known m.0.known act x s.event h)

  -- none was free still
  pub missed_there : (Whose : Rec → Option ℕ → Type 0) (r : Rec) (since : ℕ) (a b : SeatView × G) → HasRun table becomes a b → HasMissedSince Whose a.0.known.failed r since → HasMissedSince Whose b.0.known.failed r since
  missed_there Whose r since a b run (step, late, (act, word, tells, one, has)) = (step, late, (act, word, tells, one, run_failed run.acts a b run.steps _ has))

  pub missed_from_on : (Whose : Rec → Option ℕ → Type 0) (bounds : List ℕ) (words since : ℕ) (a b : SeatView × G) → HasRun table becomes a b → AllMissedFrom Whose table.layout bounds words a.0.known.failed since
      → AllMissedFrom Whose table.layout bounds words b.0.known.failed since
  missed_from_on Whose bounds words since a b run missed = λ q low room upto. missed_there Whose (a_leaf q) since a b run (missed q low room upto)

-- what these failed steps tell of the lack of a node record, others may, and of fewer committed ones
pub lacks_so : (layout : Layout) (few many : List ℕ) (q : ℕ) (tried more : List Failed) (since earlier : ℕ) (own : List Rec) → AtMost (uncommitted_in few) (uncommitted_in many) → LacksNodes layout few q tried since own →
    ((Whose : Rec → Option ℕ → Type 0) (r : Rec) → HasMissedSince Whose tried r since → HasMissedSince Whose more r earlier) → LacksNodes layout many q more earlier own
lacks_so layout few many q tried more since earlier own falls l so = record {
  locked = l.locked;
  few = l.few;
  most = l.most;
  apart = l.apart;
  low = l.low;
  missed = λ n below committed. so (IsAnothers layout q own l.locked) (a_node n) (l.missed n below (committed_falls layout (uncommitted_in few) (uncommitted_in many) (a_node n) falls committed));
  own_is = λ i d below. so (IsOwnOf q) (get_or own i d) (l.own_is i d below);
  once = l.once;
}

-- ---- records that are given up
reverse_more : {X : Type 0} (x : X) (xs : List X) → reverse (x ∷ xs) ≡ reverse xs ++ x ∷ []
reverse_more x xs = reverse_onto xs x []

all_reversed : {X : Type 0} (P : X → Type 0) (xs : List X) → All P xs → All P (reverse xs)
all_reversed P [] all = All-nil P
all_reversed P (x ∷ xs) all = subst (All P) (sym (reverse_more x xs)) (All-push P (reverse xs) x (all_reversed P xs (All-tail P x xs all)) (All-head P x xs all))

pub reversed_has : {X : Type 0} (x : X) (xs : List X) → IsOneOf x xs → Contains (reverse xs) x
reversed_has x (y ∷ xs) (inl e) = subst (λ z. Contains z x) (sym (reverse_more y xs)) (subst (λ z. Contains (reverse xs ++ z ∷ []) x) e (Contains-push (reverse xs) x))
reversed_has x (y ∷ xs) (inr h) = subst (λ z. Contains z x) (sym (reverse_more y xs)) (Contains-append_left (reverse xs) (y ∷ []) x (reversed_has x xs h))
reversed_has x [] h = absurd h

all_ofs : {X : Type 0} (P : X → Type 0) (xs : List X) → ((x : X) → IsOneOf x xs → P x) → All P xs
all_ofs P [] f = All-nil P
all_ofs P (x ∷ xs) f = All-cons P x xs (f x (inl refl)) (all_ofs P xs (λ y h. f y (inr h)))

of_reversed : {X : Type 0} (x : X) (xs : List X) → IsOneOf x (reverse xs) → IsOneOf x xs
of_reversed x [] h = h
of_reversed x (y ∷ xs) h =
    elim (of_append x (reverse xs) (y ∷ []) (subst (IsOneOf x) (reverse_more y xs) h)) [ inl i ↦ inr (of_reversed x xs i) | inr i ↦ elim i [ inl e ↦ inl e | inr j ↦ absurd j ] ]

apart_reversed : {X : Type 0} (xs : List X) → AreApart xs → AreApart (reverse xs)
apart_reversed [] apart = tt
apart_reversed (x ∷ xs) apart = subst AreApart (sym (reverse_more x xs)) (apart_push (reverse xs) x (apart_reversed xs apart.1) (λ h. apart.0 (of_reversed x xs h)))

module _ (table : TableView) (a : SeatView) (made : List Rec) (news : List Made) (b : IsBuilding table a made news) where
  owned : (m : Made) → IsOneOf m news → IsOneOf (held_as Held m) a.known.own
  owned m h = subst (IsOneOf (held_as Held m)) (sym b.holds.0) (map_of (held_as Held) m news h)

  is_owned : (m : Made) → IsOneOf m news → IsOwned a.known.pass b.possible.core (held_as Held m)
  is_owned m h = all_of (IsOwned a.known.pass b.possible.core) (held_as Held m) a.known.own (knows_all b.possible.core a.known b.possible.knows).own (owned m h)

  -- each is the table's
  pub made_record : (m : Made) → IsOneOf m news → HasRecord table.layout m.rec
  made_record m h = subst (λ z. HasRecord z m.rec) b.possible.layout_is (owned_used b.possible.core b.possible.lawful a.known.pass (held_as Held m) (is_owned m h))

  contains : (o : Owned) → IsOneOf o a.known.own → Contains a.known.own o
  contains o h = all_of (Contains a.known.own) o a.known.own (all_ofs (Contains a.known.own) a.known.own (λ y i. has_it y a.known.own i)) h
    where
      has_it : (y : Owned) (ys : List Owned) → IsOneOf y ys → Contains ys y
      has_it y [] i = absurd i
      has_it y (z ∷ ys) (inl e) = (0, omega arith, sym e)
      has_it y (z ∷ ys) (inr i) = one_more ys z y (has_it y ys i)

  pub claimed : (r : Rec) → IsOneOf r (recs_of news) → IsClaimed a.known r
  claimed r h =
      let (m, at, is) = of_map (λ (m : Made). m.rec) r news h in
      let o = is_owned m at in
      subst (IsClaimed a.known) (sym is) (m.words, ap length (sym o.1) ∙ (b.possible.lawful.records.sized m.rec).0, contains (held_as Held m) (owned m at))

  pub made_held : HoldsJust a.known made
  made_held = subst (HoldsJust a.known) (sym b.listed) (record {
    only = all_ofs (λ o. (o.holding ≡ Held) × Contains (reverse (recs_of news)) o.rec) a.known.own
        (λ o h. (let (m, at, is) = of_map (held_as Held) o news (subst (IsOneOf o) b.holds.0 h) in
        (ap (λ (z : Owned). z.holding) is, subst (Contains (reverse (recs_of news))) (sym (ap (λ (z : Owned). z.rec) is)) (reversed_has m.rec (recs_of news) (map_of (λ (m : Made). m.rec) m news at)))));
    each = all_reversed (IsClaimed a.known) (recs_of news) (all_ofs (IsClaimed a.known) (recs_of news) claimed);
    apart = apart_reversed (recs_of news) b.holds.1;
  })

  -- the pass has no others
  pub made_alone : HasNoOther a.known made
  made_alone r has = among_held made a.known.own made_held.only r has

  pub made_records : AreInTable table.layout made
  made_records =
      subst (AreInTable table.layout) (sym b.listed) (all_reversed (HasRecord table.layout) (recs_of news) (all_ofs (HasRecord table.layout) (recs_of news)
      (λ r h. (let (m, at, is) = of_map (λ (m : Made). m.rec) r news h in subst (HasRecord table.layout) (sym is) (made_record m at)))))

-- ---- what is locked
pub step_nodes : (layout : Layout) (k : Known) (m : ℕ) (key : Key) (way : List PathNode) (found : Found) → IsWayOf layout k m key way found → AreNodes layout way
step_nodes layout k m key way found w = λ n d low. (w.nodes n (get_or way n d) (slice_get-get_or way n d low)).2.range

-- ---- what is seen since an earlier version
pub changed_since : (a b c : Known) (x : Change) (was : Option ℕ) → IsLater a b → HasChanged b c x was → HasChanged a c x was
changed_since a b c x was later changed = record {
  rest = changed.rest;
  before = changed.before;
  others = others_on a.pass a.front b.front changed.before later.front (subst (λ q. OthersGoOn q b.front changed.before) later.pass changed.others);
  front = changed.front;
  fresh = changed.fresh;
  fits = changed.fits;
  was_held = changed.was_held;
}
