-- What claims of records come to.
pub mod Making
use Rattle.rowex_records.proofs.Common.{a_leaf, ◌≡◌, ◌≢◌, ℕ, zero, suc, ◌+◌, ◌-◌, ◌<◌, ◌≤◌, min, inl, inr, List, [], ◌∷◌, ◌++◌, length, Option, Bool, true, false, nat_lt, nat_eq, if◌then◌else◌, refl, sym, ap, subst, ◌∙◌, arith, add-zero, length-append, All, Contains, IfNone, IfSome, MatchOption, Some, None, eqb-true, eqb-false, ltb-true, ltb-false, lt-ltb, le-ltb, All-contains, All-head, All-tail, All-weaker, Layout, Rec, a_node, IsOneOf, Fate, Free, HeldBy, ReadyBy, InTree, Unlinked, Marked, Act, Claim, LoadState, Event, a_claim, a_lock, a_load, Holding, Held, IsReady, IsUnlinked, Known, Owned, Core, HasRecord, IsLawful, holder_of, word_of, IsLocked, IsOwned, fate_of, Knows, claim_learned, failed_with, knows_all, OwnsAs, IsClaimed, Steps, Does, TableView, SeatView, in_turn_more, does_count}
use Rattle.std.specs.Prelude.{map}
use Rattle.record_words.specs.Layout.{leaf_size, leaf_start, uncommitted_in}
use Rattle.rowex_table.specs.Committed.{AtMost}
use Rattle.rowex_table.proofs.Committed.{committed_falls}
use Rattle.record_words.specs.State.{state_word}
use Rattle.versions.proofs.Trades.{all_of, map_of, of_map}
use Rattle.rowex_core.specs.declared.known.Failed.{Failed}
use Rattle.rowex_core.specs.declared.known.FailedAct.{FailedAct}
use Rattle.rowex_core.specs.declared.known.Locked.{Locked}
use Rattle.rowex_core.specs.Words.{lock_of, tag_of}
use Rattle.rowex_table.specs.Made.{nodes_of}
use Rattle.rowex_table.specs.Rule.{IsStartOf}
use Rattle.rowex_core.proofs.Words.{free_tag}
use Rattle.rowex_records.specs.declared.claiming.RecordKind.{RecordKind}
use Rattle.rowex_records.specs.declared.claiming.RecordKind.TheVariants.{Node, Leaf}
use Rattle.rowex_records.specs.Claims.{AreCommittedUpTo, claiming, begin_of, count_of, record_of, wrapped, HasIndex, IsKindOf, Misses, IsAnothers, IsAnothersTo, TellsState, HasMissedSince, records_had, MissesOne, HoldsOneMore, ClaimsOne, FindsNone, Claims, AllMissed, GoesOnBehind, GoesOnTrying, TriesSome}
use Rattle.rowex_records.specs.Starts.{IsSpan, first_word}
use Rattle.rowex_records.proofs.Claims.Making.{counted, claims_nothing, claims_one, looks_one, claims_append}

-- Numbers in turn

pub turned_low : (n from m : ℕ) → from < n → m < n → wrapped n from m < n
turned_low n from m low below = go (nat_lt (from + m) n) refl
  where
    go : (b : Bool) → nat_lt (from + m) n ≡ b → (if b then from + m else from + m - n) < n
    go true is = ltb-true (from + m) n is
    go false is = let high = ltb-false (from + m) n is in omega arith

pub begins_low : (n from : ℕ) → 0 < n → begin_of n from < n
begins_low n from some = go (nat_lt from n) refl
  where
    go : (t : Bool) → nat_lt from n ≡ t → begin_of n from < n
    go true e = rw e (ltb-true from n e)
    go false e = rw e some

-- the first turn has the number that is begun at
pub first_turn : (n from : ℕ) → from < n → from ≡ wrapped n from 0
first_turn n from low = grind arith

-- the number to begin at is the one of the first turn
pub begin_turn : (n from : ℕ) → begin_of n from ≡ wrapped n (begin_of n from) 0
begin_turn zero from = grind arith
begin_turn (suc n) from = first_turn (suc n) (begin_of (suc n) from) (begins_low (suc n) from (omega arith))

pub begins_turned : (n from m number : ℕ) → m < n → number ≡ wrapped n (begin_of n from) m → number < n
begins_turned n from m number low is = rw is (turned_low n (begin_of n from) m (begins_low n from (omega arith)) low)

-- the numbers behind that of a turn, up to the last, are those of the turns behind
pub turned_by : (n from m i : ℕ) → from < n → m + i < n → wrapped n from m + i < n → wrapped n from m + i ≡ wrapped n from (m + i)
turned_by n from m i low below few = grind arith

-- and the number to begin at behind them is the one of the turn behind them
pub turned_over : (n from m i : ℕ) → from < n → m < n → m + i ≤ n → wrapped n from m + i ≤ n → begin_of n (wrapped n from m + i) ≡ wrapped n from (m + i)
turned_over n from m i low some below few = grind arith

-- and so is the number to begin at behind the first
pub next_turn : (n from : ℕ) → from < n → begin_of n (from + 1) ≡ wrapped n from 1
next_turn n from low = grind arith

-- each number is the one of some turn
pub turned_to : (n from q : ℕ) → from < n → q < n → (m : ℕ) × (m < n) × (wrapped n from m ≡ q)
turned_to n from q low below = go (nat_lt q from) refl
  where
    go : (b : Bool) → nat_lt q from ≡ b → (m : ℕ) × (m < n) × (wrapped n from m ≡ q)
    go true is =
        let before = ltb-true q from is in
        let past : nat_lt (from + (q + n - from)) n ≡ false = le-ltb (from + (q + n - from)) n (omega arith) in
        (q + n - from, omega arith, rw past (omega arith))
    go false is =
        let after = ltb-false q from is in
        let here : nat_lt (from + (q - from)) n ≡ true = lt-ltb (from + (q - from)) n (omega arith) in
        (q - from, omega arith, rw here (omega arith))

-- a record of the kind that has the number, and where it begins
pub has_index : (kind : RecordKind) (layout : Layout) (i : ℕ) → i < count_of kind layout → HasIndex kind i
has_index (Node end) layout i low = tt
has_index (Leaf first end) layout i low = omega arith

pub has_record : (kind : RecordKind) (layout : Layout) (i : ℕ) → IsKindOf kind layout → i < count_of kind layout → HasRecord layout (record_of kind i)
has_record (Node end) layout i is low = omega arith
has_record (Leaf first end) layout i is low = omega arith

pub starts_at : (kind : RecordKind) (layout : Layout) (i : ℕ) → IsKindOf kind layout → i < count_of kind layout → IsStartOf layout (record_of kind i) (first_word kind layout i)
starts_at (Node end) layout i is low = (omega arith, omega arith)
starts_at (Leaf first end) layout i is low = (omega arith, omega arith)

-- and those behind it, where each begins
leaf_next : (layout : Layout) (n size : ℕ) → leaf_size layout n ≡ size → leaf_start layout (n + 1) ≡ leaf_start layout n + size
leaf_next layout n size is = grind arith

pub spaced_leaves : (layout : Layout) (first end number upto size : ℕ) → ((q : ℕ) → first + number ≤ q → q < upto → leaf_size layout q ≡ size) → IsSpan (Leaf first end) layout number (upto - first - number) size
spaced_leaves layout first end number upto size same i low =
    let here : leaf_size layout (first + (number + i)) ≡ size = same (first + (number + i)) (omega arith) (omega arith) in
    let next : first + (number + (i + 1)) ≡ first + (number + i) + 1 = omega arith in
    rw next (leaf_next layout (first + (number + i)) size here)

-- One try

-- what a step teaches that finds the record not free
abbrev pub Learns : FailedAct → Rec → ℕ → Known → Known → Type 0
Learns act r found k l = (l.own ≡ k.own) × (l.failed ≡ record { act = act; location = word_of r 0; word = found; step = k.steps } ∷ k.failed)

learns_of : (c : Core) (r : Rec) (found : ℕ) (lock : Option ℕ) (f : Fate) (k : Known) → found ≡ state_word (tag_of lock f) → 1 ≤ found → Learns (a_claim (holder_of f)) r found k (claim_learned c r found f k)
learns_of c r found lock Free k e low = absurd (omega arith)
learns_of c r found lock (HeldBy q) k e low = (refl, refl)
learns_of c r found lock (ReadyBy q) k e low = (refl, refl)
learns_of c r found lock (InTree s) k e low = (refl, refl)
learns_of c r found lock (Unlinked s l q) k e low = (refl, refl)
learns_of c r found lock (Marked s l epoch) k e low = (refl, refl)

-- no record that a pass has is free
free_apart : (c : Core) (k : Known) (r : Rec) → Knows c k → c.fate r ≡ Free → All (λ o. o.rec ≢ r) k.own
free_apart c k r known free = All-weaker (IsOwned k.pass c) (λ o. o.rec ≢ r) (λ o is e. owned o.holding (sym free ∙ (ap c.fate (sym e) ∙ is.0))) k.own (knows_all c k known).own
  where
    owned : (h : Holding) → Free ≡ fate_of k.pass h → ⊥
    owned Held e = cc
    owned IsReady e = cc
    owned (IsUnlinked since last) e = cc

-- a record that a pass has is among its records
record_had : (own : List Owned) (o : Owned) → Contains own o → Contains (map (λ (o : Owned). o.rec) own) o.rec
record_had [] o (i, low, is) = absurd (omega arith)
record_had (p ∷ own) o (zero, low, is) = (0, omega arith, ap (λ (z : Owned). z.rec) is)
record_had (p ∷ own) o (suc i, low, is) = let rest = record_had own o (i, omega arith, is) in let below = rest.1 in (suc rest.0, omega arith, rest.2)

-- and where each that it has is one of these, so is each of its records
pub among_held : (made : List Rec) (own : List Owned) → All (λ o. (o.holding ≡ Held) × Contains made o.rec) own → (r : Rec) → Contains (map (λ (o : Owned). o.rec) own) r → Contains made r
among_held made [] only r (i, low, is) = absurd (omega arith)
among_held made (o ∷ own) only r (zero, low, is) = subst (Contains made) is (All-head (λ (p : Owned). (p.holding ≡ Held) × Contains made p.rec) o own only).1
among_held made (o ∷ own) only r (suc i, low, is) = among_held made own (All-tail (λ (p : Owned). (p.holding ≡ Held) × Contains made p.rec) o own only) r (i, omega arith, is)

-- whose a record is in a lawful core: its own if it knows that it has it, and nobody's if it has locked its node
module _ (c : Core) (k : Known) (r : Rec) (law : IsLawful c) (known : Knows c k) where
  has_it : (h : Holding) → c.fate r ≡ fate_of k.pass h → Contains (records_had k) r
  has_it h e = record_had k.own (record { rec = r; holding = h; words = c.words r }) ((knows_all c k known).all_own r h e)

  locked_in_tree : IsOneOf r (map a_node (nodes_of k.locks)) → (since : ℕ) × (c.fate r ≡ InTree since)
  locked_in_tree there =
      let (n, among, is) = of_map a_node r (nodes_of k.locks) there in
      let (l, at, node) = of_map (λ (z : Locked). z.node) n k.locks among in
      let (since, fate) = (all_of (IsLocked k.pass c) l k.locks (knows_all c k known).locks at).1 in
      (since, ap c.fate (is ∙ ap a_node node) ∙ fate)

  not_locked : (q : ℕ) → holder_of (c.fate r) ≡ Some q → ¬ (IsOneOf r (map a_node (nodes_of k.locks)))
  not_locked q e there =
      let (since, fate) = locked_in_tree there in
      let none : None ≡ Some q = sym (ap holder_of fate) ∙ e in cc

  is_anothers : (f : Fate) → c.fate r ≡ f → IsAnothersTo c.layout k r (holder_of f)
  is_anothers Free e = tt
  is_anothers (HeldBy q) e = (law.records.holders r q (ap holder_of e), λ mine. has_it Held (e ∙ ap HeldBy mine), not_locked q (ap holder_of e))
  is_anothers (ReadyBy q) e = (law.records.holders r q (ap holder_of e), λ mine. has_it IsReady (e ∙ ap ReadyBy mine), not_locked q (ap holder_of e))
  is_anothers (InTree s) e = tt
  is_anothers (Unlinked s l q) e = (law.records.holders r q (ap holder_of e), λ mine. has_it (IsUnlinked s l) (e ∙ ap (λ z. Unlinked s l z) mine), not_locked q (ap holder_of e))
  is_anothers (Marked s l epoch) e = tt

-- so it is to the pass that had the same records and locks before
pub anothers_before : (layout : Layout) (k j : Known) (r : Rec) (by : Option ℕ) → j.pass ≡ k.pass → j.own ≡ k.own → j.locks ≡ k.locks → IsAnothersTo layout j r by → IsAnothersTo layout k r by
anothers_before layout k j r by pass own locks h =
    subst (λ (z : List Locked). IsAnothers layout k.pass (records_had k) (nodes_of z) r by) locks
    (subst (λ z. IsAnothers layout k.pass (map (λ (o : Owned). o.rec) z) (nodes_of j.locks) r by) own (subst (λ q. IsAnothers layout q (records_had j) (nodes_of j.locks) r by) pass h))

node_among : (nodes more : List ℕ) (r : Rec) → ((n : ℕ) → IsOneOf n nodes → IsOneOf n more) → IsOneOf r (map a_node nodes) → IsOneOf r (map a_node more)
node_among nodes more r within there =
    let (n, among, is) = of_map a_node r nodes there in subst (λ z. IsOneOf z (map a_node more)) (sym is) (map_of a_node n more (within n among))

-- and to one that has more records, of fewer locks
pub anothers_among : (layout : Layout) (q : ℕ) (own more : List Rec) (locked fewer : List ℕ) (r : Rec) (by : Option ℕ) → (Contains own r → Contains more r) → ((n : ℕ) → IsOneOf n fewer → IsOneOf n locked) →
    IsAnothers layout q own locked r by → IsAnothers layout q more fewer r by
anothers_among layout q own more locked fewer r None among within h = tt
anothers_among layout q own more locked fewer r (Some by) among within h = (h.0, λ mine. among (h.1 mine), λ there. h.2 (node_among fewer locked r within there))

tells_so : (Whose Their : Option ℕ → Type 0) (act : FailedAct) → ((by : Option ℕ) → Whose by → Their by) → TellsState Whose act → TellsState Their act
tells_so Whose Their (a_claim by) so tells = so by tells
tells_so Whose Their (a_load by) so tells = so by tells
tells_so Whose Their (a_lock by) so tells = absurd tells

-- what is said of whose it was may be put otherwise
pub missed_so : (Whose Their : Rec → Option ℕ → Type 0) (missed : List Failed) (r : Rec) (since : ℕ) → ((by : Option ℕ) → Whose r by → Their r by) → HasMissedSince Whose missed r since → HasMissedSince Their missed r since
missed_so Whose Their missed r since so (step, late, (act, word, tells, one, has)) = (step, late, (act, word, tells_so (Whose r) (Their r) act so tells, one, has))

pub missed_before : (layout : Layout) (k j : Known) (missed : List Failed) (r : Rec) (since : ℕ) → j.pass ≡ k.pass → j.own ≡ k.own → j.locks ≡ k.locks →
    HasMissedSince (IsAnothersTo layout j) missed r since → HasMissedSince (IsAnothersTo layout k) missed r since
missed_before layout k j missed r since pass own locks h = missed_so (IsAnothersTo layout j) (IsAnothersTo layout k) missed r since (λ by. anothers_before layout k j r by pass own locks) h

further : (Whose : Rec → Option ℕ → Type 0) (missed : List Failed) (x : Failed) (r : Rec) (since : ℕ) → HasMissedSince Whose missed r since → HasMissedSince Whose (x ∷ missed) r since
further Whose missed x r since (step, late, (act, word, tells, one, (at, low, is))) = (step, late, (act, word, tells, one, (suc at, omega arith, is)))

at_front : (missed failed : List Failed) (x : Failed) → Contains missed x → Contains (missed ++ failed) x
at_front [] failed x (i, low, is) = absurd (omega arith)
at_front (y ∷ missed) failed x (zero, low, is) = (0, omega arith, is)
at_front (y ∷ missed) failed x (suc i, low, is) = let rest = at_front missed failed x (i, omega arith, is) in let below = rest.1 in (suc rest.0, omega arith, rest.2)

pub missed_among : (Whose : Rec → Option ℕ → Type 0) (missed failed : List Failed) (r : Rec) (since : ℕ) → HasMissedSince Whose missed r since → HasMissedSince Whose (missed ++ failed) r since
missed_among Whose missed failed r since (step, late, (act, word, tells, one, has)) = (step, late, (act, word, tells, one, at_front missed failed _ has))

pub missed_earlier : (Whose : Rec → Option ℕ → Type 0) (missed : List Failed) (r : Rec) (since later : ℕ) → since ≤ later → HasMissedSince Whose missed r later → HasMissedSince Whose missed r since
missed_earlier Whose missed r since later low (step, late, has) = (step, omega arith, has)

-- where each was found not free since a later step, it was since an earlier one
pub all_earlier : (Whose : Rec → Option ℕ → Type 0) (kind : ℕ → Rec) (n : ℕ) (failed : List Failed) (since later : ℕ) → since ≤ later → AllMissed Whose kind n failed later → AllMissed Whose kind n failed since
all_earlier Whose kind n failed since later low all q below = missed_earlier Whose failed (kind q) since later low (all q below)

-- what is committed up to a record by some bounds is so by no greater ones
pub upto_falls : (layout : Layout) (few many : List ℕ) (words number : ℕ) → AtMost (uncommitted_in few) (uncommitted_in many) → AreCommittedUpTo layout many words number → AreCommittedUpTo layout few words number
upto_falls layout few many words number falls upto = λ other low room. committed_falls layout (uncommitted_in few) (uncommitted_in many) (a_leaf other) falls (upto other low room)

-- a record that is claimed is held,
pub more_is_claimed : (r : Rec) (k j : Known) → HoldsOneMore r k j → IsClaimed j r
more_is_claimed r k j holds = (holds.words, holds.sized, subst (λ l. Contains l (record { rec = r; holding = Held; words = holds.words })) (sym holds.own) (0, omega arith, refl))

-- and it is one more than the pass had before, where it had the same then
pub more_since : (r : Rec) (k i j : Known) → i.own ≡ k.own → HoldsOneMore r i j → HoldsOneMore r k j
more_since r k i j same holds = record {
  words = holds.words;
  sized = holds.sized;
  own = holds.own ∙ ap (λ l. record { rec = r; holding = Held; words = holds.words } ∷ l) same;
  apart = subst (λ l. All (λ o. o.rec ≢ r) l) same holds.apart;
}

module _ {G : Type 0} (table : TableView) (becomes : G → Event → G → Type 0) where
  -- whose the record was that a step found not free
  abbrev by_of : (r : Rec) (act : Act) (a b : SeatView × G) → Steps table becomes act a b → Option ℕ
  by_of r act a b step = holder_of (step.event.core.fate r)

  step_tells : (r : Rec) (act : Act) (a b : SeatView × G) (step : Steps table becomes act a b) → IsAnothersTo table.layout a.0.known r (by_of r act a b step)
  step_tells r act a b step = let e = step.event in subst (λ (l : Layout). IsAnothersTo l a.0.known r (holder_of (e.core.fate r))) e.layout_is (is_anothers e.core a.0.known r e.lawful e.knows (e.core.fate r) refl)

  load_misses : (r : Rec) (word : ℕ) (a b : SeatView × G) → 1 ≤ word → (step : Steps table becomes (LoadState r word) a b) →
      Learns (a_load (by_of r (LoadState r word) a b step)) r word a.0.known b.0.known
  load_misses r word a b low step = go (nat_eq word 0) refl step.event.learned_is
    where
      by : Option ℕ
      by = by_of r (LoadState r word) a b step

      go : (free : Bool) → nat_eq word 0 ≡ free → b.0.known ≡ counted a.0.known (if free then a.0.known else failed_with a.0.known (a_load by) (word_of r 0) word) → Learns (a_load by) r word a.0.known b.0.known
      go true e is = absurd (let zero_word = eqb-true word 0 e in omega arith)
      go false e is = (ap (λ (z : Known). z.own) is, ap (λ (z : Known). z.failed) is)

  claim_misses : (r : Rec) (found : ℕ) (a b : SeatView × G) → 1 ≤ found → (step : Steps table becomes (Claim r found) a b) →
      Learns (a_claim (by_of r (Claim r found) a b step)) r found a.0.known b.0.known
  claim_misses r found a b low step =
      let e = step.event in
      let learns = learns_of e.core r found (lock_of e.core r) (e.core.fate r) a.0.known e.legal.1.1 low in
      (ap (λ (z : Known). z.own) e.learned_is ∙ learns.0, ap (λ (z : Known). z.failed) e.learned_is ∙ learns.1)

  -- the load found the record not free,
  pub missed_by_load : (r : Rec) (word : ℕ) (a b : SeatView × G) → 1 ≤ word → Steps table becomes (LoadState r word) a b → MissesOne table becomes r a b
  missed_by_load r word a b low step = record {
    acts = LoadState r word ∷ [];
    misses = (word, low, inl refl);
    does = looks_one table becomes r word a b step;
    own = (load_misses r word a b low step).0;
    failed = record { act = a_load (by_of r (LoadState r word) a b step); location = word_of r 0; word = word; step = a.0.known.steps };
    failed_is = (load_misses r word a b low step).1;
    tells = (a.0.known.steps, omega arith, (a_load (by_of r (LoadState r word) a b step), word, step_tells r (LoadState r word) a b step, low, (0, omega arith, refl)));
  }

  -- or found it free, and teaches nothing,
  looked : (r : Rec) (a b : SeatView × G) → Steps table becomes (LoadState r 0) a b → (b.0.known.own ≡ a.0.known.own) × (b.0.known.failed ≡ a.0.known.failed) × (b.0.known.steps ≡ a.0.known.steps + 1)
  looked r a b step = let is = step.event.learned_is in (ap (λ (z : Known). z.own) is, ap (λ (z : Known). z.failed) is, ap (λ (z : Known). z.steps) is)

  tries_two : (r : Rec) (found : ℕ) (a i b : SeatView × G) → Steps table becomes (LoadState r 0) a i → Steps table becomes (Claim r found) i b → Does table becomes claiming (LoadState r 0 ∷ Claim r found ∷ []) a b
  tries_two r found a i b load claim = claims_append table becomes (LoadState r 0 ∷ []) (Claim r found ∷ []) a i b (looks_one table becomes r 0 a i load) (claims_one table becomes r found i b claim)

  -- and the claim found it taken meanwhile,
  pub missed_by_claim : (r : Rec) (found : ℕ) (a i b : SeatView × G) → 1 ≤ found → Steps table becomes (LoadState r 0) a i → Steps table becomes (Claim r found) i b → MissesOne table becomes r a b
  missed_by_claim r found a i b low load claim =
      let first = looked r a i load in
      let act : FailedAct = a_claim (by_of r (Claim r found) i b claim) in
      let tells = anothers_before table.layout a.0.known i.0.known r (by_of r (Claim r found) i b claim) (ap (λ (z : Known). z.pass) load.event.learned_is) first.0 (ap (λ (z : Known). z.locks) load.event.learned_is) (step_tells r (Claim r found) i b claim) in
      let learns = claim_misses r found i b low claim in record {
        acts = LoadState r 0 ∷ Claim r found ∷ [];
        misses = (found, low, inr refl);
        does = tries_two r found a i b load claim;
        own = learns.0 ∙ first.0;
        failed = record { act = act; location = word_of r 0; word = found; step = i.0.known.steps };
        failed_is = learns.1 ∙ ap (λ l. record { act = act; location = word_of r 0; word = found; step = i.0.known.steps } ∷ l) first.1;
        tells = (i.0.known.steps, let next = first.2 in omega arith, (act, found, tells, low, (0, omega arith, refl)));
      }

  -- or took it
  pub claimed_free : (r : Rec) (found : ℕ) (a i b : SeatView × G) → found ≡ 0 → Steps table becomes (LoadState r 0) a i → Steps table becomes (Claim r found) i b → ClaimsOne table becomes r a b
  claimed_free r found a i b free_word load claim =
      let first = looked r a i load in
      let event = subst (λ w. Steps table becomes (Claim r w) i b) free_word claim in
      let e = event.event in
      let c : Core = e.core in
      let free : c.fate r ≡ Free = free_tag (lock_of c r) (c.fate r) (sym e.legal.1.1) in
      record {
        does = tries_two r 0 a i b load event;
        failed = ap (λ (z : Known). z.failed) e.learned_is ∙ (ap (λ f. (claim_learned c r 0 f i.0.known).failed) free ∙ first.1);
        holds = record {
          words = c.words r;
          sized = (e.lawful.records.sized r).0;
          own = ap (λ (z : Known). z.own) e.learned_is ∙ (ap (λ f. (claim_learned c r 0 f i.0.known).own) free ∙ ap (λ l. record { rec = r; holding = Held; words = c.words r } ∷ l) first.0);
          apart = subst (λ l. All (λ o. o.rec ≢ r) l) first.0 (free_apart c i.0.known r e.knows free);
        };
      }

  -- what the pass holds is not free
  pub held_misses : (r : Rec) (words : List ℕ) (word : ℕ) (a b : SeatView × G) → OwnsAs a.0.known r Held words → Steps table becomes (LoadState r word) a b → MissesOne table becomes r a b
  held_misses r words word a b has step = missed_by_load r word a b (taken (nat_eq word 0) refl) step
    where
      taken : (free : Bool) → nat_eq word 0 ≡ free → 1 ≤ word
      taken true is =
          let e = step.event in
          let none : e.core.fate r ≡ Free = free_tag (lock_of e.core r) (e.core.fate r) (sym e.legal.1.1 ∙ eqb-true word 0 is) in
          absurd (All-contains (λ o. o.rec ≢ r) a.0.known.own (record { rec = r; holding = Held; words = words }) (free_apart e.core a.0.known r e.knows none) has refl)
      taken false is = let some = eqb-false word 0 is in omega arith

  -- Tries in turn

  pub finds_none : (kind : ℕ → Rec) (n from : ℕ) (a : SeatView × G) → FindsNone table becomes kind n from 0 a a
  finds_none kind n from a = record {
    tries = [];
    in_turn = refl;
    few = omega arith;
    does = claims_nothing table becomes a;
    own = refl;
    missed = [];
    failed = refl;
    size = refl;
    each = λ i low. absurd (omega arith);
  }

  misses_few : (r : Rec) (acts : List Act) → Misses r acts → length acts ≤ 2
  misses_few r acts (word, low, inl is) = let n = ap length is in omega arith
  misses_few r acts (word, low, inr is) = let n = ap length is in omega arith

  -- one more record, which was not free either
  pub finds_more : (kind : ℕ → Rec) (n from m number : ℕ) (a i b : SeatView × G) → number ≡ wrapped n from m → FindsNone table becomes kind n from m a i
      → MissesOne table becomes (kind number) i b → FindsNone table becomes kind n from (m + 1) a b
  finds_more kind n from m number a i b is none one = record {
    tries = none.tries ++ one.acts;
    in_turn = in_turn_more (λ z. Misses (kind (wrapped n from z))) m none.tries one.acts none.in_turn (subst (λ z. Misses (kind z) one.acts) is one.misses);
    few = let few = none.few in let two = misses_few (kind number) one.acts one.misses in omega (arith, length-append none.tries one.acts);
    does = claims_append table becomes none.tries one.acts a i b none.does one.does;
    own = one.own ∙ none.own;
    missed = one.failed ∷ none.missed;
    failed = one.failed_is ∙ ap (λ l. one.failed ∷ l) none.failed;
    size = let size = none.size in omega arith;
    each = each;
  }
    where
      at : a.0.known.steps ≤ i.0.known.steps
      at = let steps = does_count table becomes claiming none.tries a i none.does in omega arith

      Whose : Rec → Option ℕ → Type 0
      Whose = IsAnothersTo table.layout a.0.known

      tells : HasMissedSince Whose (one.failed ∷ []) (kind number) i.0.known.steps
      tells = missed_before table.layout a.0.known i.0.known (one.failed ∷ []) (kind number) i.0.known.steps (ap (λ (z : Known). z.pass) none.does.rest) none.own (ap (λ (z : Known). z.locks) none.does.rest) one.tells

      each : (z : ℕ) → z < m + 1 → HasMissedSince Whose (one.failed ∷ none.missed) (kind (wrapped n from z)) a.0.known.steps
      each z below = go (nat_lt z m) refl
        where
          go : (t : Bool) → nat_lt z m ≡ t → HasMissedSince Whose (one.failed ∷ none.missed) (kind (wrapped n from z)) a.0.known.steps
          go true e = further Whose none.missed one.failed (kind (wrapped n from z)) a.0.known.steps (none.each z (ltb-true z m e))
          go false e =
              let high = ltb-false z m e in
              let same : m ≡ z = omega arith in
              subst (λ y. HasMissedSince Whose (one.failed ∷ none.missed) (kind (wrapped n from y)) a.0.known.steps) same
              (subst (λ y. HasMissedSince Whose (one.failed ∷ none.missed) (kind y) a.0.known.steps) is
              (missed_among Whose (one.failed ∷ []) none.missed (kind number) a.0.known.steps (missed_earlier Whose (one.failed ∷ []) (kind number) a.0.known.steps i.0.known.steps at tells)))

  -- where all have been tried, each was found not free since the first
  pub all_missed : (kind : ℕ → Rec) (n from : ℕ) (a b : SeatView × G) → from < n → FindsNone table becomes kind n from n a b → AllMissed (IsAnothersTo table.layout a.0.known) kind n b.0.known.failed a.0.known.steps
  all_missed kind n from a b low none q below =
      let turn = turned_to n from q low below in
      let Whose : Rec → Option ℕ → Type 0 = IsAnothersTo table.layout a.0.known in
      subst (λ l. HasMissedSince Whose l (kind q) a.0.known.steps) (sym none.failed) (missed_among Whose none.missed a.0.known.failed (kind q) a.0.known.steps
      (subst (λ z. HasMissedSince Whose none.missed (kind z) a.0.known.steps) turn.2 (none.each turn.0 turn.1)))

  pub claims_holds : (kind : ℕ → Rec) (n from number : ℕ) (a b : SeatView × G) → Claims table becomes kind n from number a b → HoldsOneMore (kind number) a.0.known b.0.known
  claims_holds kind n from number a b claims = more_since (kind number) a.0.known claims.before.0.known b.0.known claims.none.own claims.one.holds

  pub claims_gives : (kind : ℕ → Rec) (n from number : ℕ) (a b : SeatView × G) → Claims table becomes kind n from number a b → IsClaimed b.0.known (kind number)
  claims_gives kind n from number a b claims = more_is_claimed (kind number) claims.before.0.known b.0.known claims.one.holds

  span_from : (n from m number index count : ℕ) → number ≡ wrapped n from m → from < n → m + count ≤ n → index < count → number + count ≤ n → number + index ≡ wrapped n from (m + index)
  span_from n from m number index count is low fits below few = ap (λ z. z + index) is ∙ turned_by n from m index low (omega arith) (rw (← is) (omega arith))

  module _ (kind : RecordKind) where
    abbrev n : ℕ
    n = count_of kind table.layout

    abbrev rec : ℕ → Rec
    rec = record_of kind

    -- A span of records: none yet, one more, and one that was free

    pub span_none : (number : ℕ) (b : SeatView × G) → GoesOnTrying table becomes kind number 0 None b b
    span_none number b a from m low fits is none = subst (λ z. FindsNone table becomes rec n from z a b) (sym (add-zero m)) none

    pub span_more : (number index : ℕ) (a i b : SeatView × G) → number + (index + 1) ≤ n → GoesOnTrying table becomes kind number index None a i
        → MissesOne table becomes (rec (number + index)) i b → GoesOnTrying table becomes kind number (index + 1) None a b
    span_more number index a i b few tries one c from m low fits is none =
        let next : m + index + 1 ≡ m + (index + 1) = omega arith in
        subst (λ z. FindsNone table becomes rec n from z c b) next
        (finds_more rec n from (m + index) (number + index) c i b (span_from n from m number index (index + 1) is low fits (omega arith) few) (tries c from m low (omega arith) is none) one)

    pub span_claims : (number index count : ℕ) (a i b : SeatView × G) → index < count → number + count ≤ n → GoesOnTrying table becomes kind number index None a i
        → ClaimsOne table becomes (rec (number + index)) i b → GoesOnTrying table becomes kind number count (Some index) a b
    span_claims number index count a i b below few tries one c from m low fits is none = (
      below,
      record { tried = m + index; low = omega arith; number_is = span_from n from m number index count is low fits below few; before = i; none = tries c from m low (omega arith) is none; one = one },
      refl,
    )

    -- Tries of so many at most: there are none, the first is free, and it is not

    pub tries_none : (begin most : ℕ) (a : SeatView × G) → most ≡ 0 → TriesSome table becomes kind begin most (None, 0) a a
    tries_none begin most a is = (sym is, subst (λ z. FindsNone table becomes rec n begin z a a) (sym is) (finds_none rec n begin a))

    module _ (from number most : ℕ) (low : number < n) (is : number ≡ begin_of n from) where
      pub tries_first : (a b : SeatView × G) → ClaimsOne table becomes (rec number) a b → TriesSome table becomes kind (begin_of n from) most (Some number, 1) a b
      tries_first a b one = subst (λ z. TriesSome table becomes kind z most (Some number, 1) a b) is
          (record { tried = 0; low = omega (arith, low); number_is = first_turn n number low; before = a; none = finds_none rec n number a; one = one }, refl)

      pub tries_behind : (a i b : SeatView × G) (answer : Option ℕ × ℕ) → MissesOne table becomes (rec number) a i →
          GoesOnBehind table becomes kind number most answer i b → TriesSome table becomes kind (begin_of n from) most answer a b
      tries_behind a i b answer one behind = subst (λ z. TriesSome table becomes kind z most answer a b) is
          (behind a (finds_more rec n number 0 number a a i (first_turn n number low) (finds_none rec n number a) one))

    -- Spans behind the first record: none yet, one more, and one that has a free record

    pub behind_none : (begin : ℕ) (b : SeatView × G) → GoesOnBehind table becomes kind begin 1 (None, 1) b b
    behind_none begin b a none = (refl, none)

    module _ (begin tried number count : ℕ) (b i c : SeatView × G) (low : begin < n) (fits : tried + count ≤ n)
        (is : number ≡ wrapped n begin tried) (behind : GoesOnBehind table becomes kind begin tried (None, tried) b i) where
      pub behind_span : GoesOnTrying table becomes kind number count None i c → GoesOnBehind table becomes kind begin (tried + count) (None, tried + count) b c
      behind_span span a none = (refl, span a begin tried low fits is (behind a none).1)

      pub behind_claims : (index most : ℕ) → GoesOnTrying table becomes kind number count (Some index) i c →
          GoesOnBehind table becomes kind begin most (Some (number + index), tried + index + 1) b c
      behind_claims index most span a none =
          let (below, claims, at) = span a begin tried low fits is (behind a none).1 in (claims, ap (λ z. z + 1) at)

    -- what is left then, and where as many may be tried as there are, all are tried
    module _ (from left less : ℕ) (a b : SeatView × G) where
      abbrev HasTried : Option ℕ → Type 0
      HasTried answer = MatchOption answer ((less + min n left ≡ left) × FindsNone table becomes rec n (begin_of n from) (min n left) a b)
          (λ number. (claims : Claims table becomes rec n (begin_of n from) number a b) × (less + claims.tried + 1 ≡ left))

      pub has_tried : (answer : Option ℕ) (most tried : ℕ) → most ≡ min n left → less + tried ≡ left → TriesSome table becomes kind (begin_of n from) most (answer, tried) a b → HasTried answer
      has_tried None most tried is sum (at, none) = (omega (arith, is, sum, at), subst (λ z. FindsNone table becomes rec n (begin_of n from) z a b) is none)
      has_tried (Some number) most tried is sum (claims, at) = (claims, omega (arith, sum, at))

      pub claims_whole : (answer : Option ℕ) → left ≡ n → HasTried answer →
          MatchOption answer (FindsNone table becomes rec n (begin_of n from) n a b) (λ number. Claims table becomes rec n (begin_of n from) number a b)
      claims_whole None all tried = let same : min n left ≡ n = omega arith in subst (λ z. FindsNone table becomes rec n (begin_of n from) z a b) same tried.1
      claims_whole (Some number) all tried = tried.0

      pub none_whole : (answer : Option ℕ) → left ≡ n → HasTried answer → IfNone answer (AllMissed (IsAnothersTo table.layout a.0.known) rec n b.0.known.failed a.0.known.steps)
      none_whole None all tried = λ q low. all_missed rec n (begin_of n from) a b (begins_low n from (omega arith)) (claims_whole None all tried) q low
      none_whole (Some number) all tried = tt

    pub tries_held : (from most : ℕ) (answer : Option ℕ) (tried : ℕ) (a b : SeatView × G) → TriesSome table becomes kind (begin_of n from) most (answer, tried) a b →
        IfSome answer (λ number. (number < n) × IsClaimed b.0.known (rec number))
    tries_held from most None tried a b tries = tt
    tries_held from most (Some number) tried a b (claims, at) =
        let some : 0 < n = let low = claims.low in omega arith in
        (rw claims.number_is (turned_low n (begin_of n from) claims.tried (begins_low n from some) claims.low), claims_gives rec n (begin_of n from) number a b claims)
