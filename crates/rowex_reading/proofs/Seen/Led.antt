-- Loads one after the other, and what a pass was led to by them.
use Rattle.rowex_reading.proofs.Common.{◌≡◌, ℕ, cond, ap₂, ◌+◌, ◌<◌, ◌≤◌, List, [], ◌∷◌, ◌++◌, length, IsSome, refl, sym, ap, ◌∙◌, subst, arith, le_refl, length-append, All, append-nil, sum_by-append, All-append, All-cons, All-head, All-nil, All-tail, Entry, Node, Change, Note, BeginsWith, size, Layout, Subtrie, Rec, Act, LoadRef, LoadFixed, Event, Root, Slot, Value, Fact, Fresh, Loaded, Known, IsEvent, IsPinnedSince, version_of, Runs, Steps, silent, TableView, SeatView, MakesNoAside, IsSeatOf, EntryStoodSince, IsPlaced, HadShapeSince, placed_seen, rooted_seen, IsLater}
use Rattle.rowex_table.proofs.Runs.{runs_append, runs_one, runs_same, same_more}
use Rattle.rowex_reading.specs.Possible.{IsPossible}
use Rattle.rowex_reading.specs.Reads.{IsBelowRoot, IsReader, Reads, ReadsRoot, Looks, entries_in, loads_entry}
use Rattle.rowex_reading.specs.Seen.{seen, Sure, since, IsAtRoot, IsLedTo, HasPlace}
use Rattle.rowex_reading.proofs.Seen.Later.{event_later, event_possible}
use Rattle.rowex_reading.proofs.Seen.Loading.{pinned_by}
use Rattle.rowex_reading.proofs.Possible.Rooting.{root_since}
use Rattle.rowex_reading.proofs.Seen.{later_reflexive, later_trans, since_later, sure_later, seen_stable}

-- it was led to the node, and has read its forks
abbrev pub HasShape : Known → ℕ → ℕ → ℕ → Subtrie → Type 0
HasShape k m n h x = IsLedTo k m (Node n h) × Sure k (λ s. HadShapeSince s m n x)

-- One load

-- a load changes of what the pass knows the front, its last load of the root, its facts and the values that it has loaded alone
abbrev pub OnlySees : ℕ → Known → Known → Type 0
OnlySees n k j = j ≡ record k { front = j.front; fresh = j.fresh; facts = j.facts; values = j.values; steps = k.steps + n }

sees : (k j : Known) (front : List Change) (fresh : Fresh) (facts : List Fact) (values : List Loaded) →
    j ≡ record k { front = front; fresh = fresh; facts = facts; values = values; steps = k.steps + 1; notes = k.notes ++ [] } → OnlySees 1 k j
sees k j front fresh facts values is =
    is ∙ (ap (λ (notes : List Note). let z : Known = record k { front = front; fresh = fresh; facts = facts; values = values; steps = k.steps + 1; notes = notes } in z) (append-nil k.notes) ∙
    ap (λ (z : Known). let y : Known = record k { front = z.front; fresh = z.fresh; facts = z.facts; values = z.values; steps = k.steps + 1 } in y) (sym is))

pub root_sees : (layout : Layout) (k j : Known) (w : ℕ) → IsEvent layout (LoadRef Root w) silent k j → OnlySees 1 k j
root_sees layout k j w e = sees k j _ _ _ _ e.learned_is

-- of loads below the root
module _ {layout : Layout} {k j : Known} where
  pub below_sees : (act : Act) → IsBelowRoot act → IsEvent layout act silent k j → OnlySees 1 k j
  below_sees (LoadRef Root w) below e = absurd below
  below_sees (LoadRef (Slot n i) w) below e = sees k j _ _ _ _ e.learned_is
  below_sees (LoadRef (Value l) w) below e = sees k j _ _ _ _ e.learned_is
  below_sees (LoadFixed r offset w) below e = sees k j _ _ _ _ e.learned_is
  below_sees _ below e = absurd below

  pub below_fresh : (act : Act) → IsBelowRoot act → IsEvent layout act silent k j → j.fresh ≡ k.fresh
  below_fresh (LoadRef Root w) below e = absurd below
  below_fresh (LoadRef (Slot n i) w) below e = ap (λ (z : Known). z.fresh) e.learned_is
  below_fresh (LoadRef (Value l) w) below e = ap (λ (z : Known). z.fresh) e.learned_is
  below_fresh (LoadFixed r offset w) below e = ap (λ (z : Known). z.fresh) e.learned_is
  below_fresh _ below e = absurd below

  pub below_later : (act : Act) → IsBelowRoot act → IsEvent layout act silent k j → IsLater k j
  below_later (LoadRef Root w) below e = absurd below
  below_later (LoadRef (Slot n i) w) below e = event_later e tt
  below_later (LoadRef (Value l) w) below e = event_later e tt
  below_later (LoadFixed r offset w) below e = event_later e tt
  below_later _ below e = absurd below

-- a load of a record's word, where the record is known by another name
pub of_kind : {G : Type 0} {table : TableView} {becomes : G → Event → G → Type 0} {r q : Rec} {offset w : ℕ} {a b : SeatView × G} → r ≡ q →
    Steps table becomes (LoadFixed r offset w) a b → Steps table becomes (LoadFixed q offset w) a b
of_kind {table = table} {becomes = becomes} {offset = offset} {w = w} {a = a} {b = b} is steps = subst (λ z. Steps table becomes (LoadFixed z offset w) a b) is steps

-- Loads below the root

sees_none : (k : Known) → OnlySees 0 k k
sees_none k = ap (λ (s : ℕ). let z : Known = record k { steps = s } in z) (let e : k.steps ≡ k.steps + 0 = omega arith in e)

pub sees_more : (n m : ℕ) (k i j : Known) → OnlySees n k i → OnlySees m i j → OnlySees (n + m) k j
sees_more n m k i j x y = y ∙ (ap (λ (z : Known). let w : Known = record z { front = j.front; fresh = j.fresh; facts = j.facts; values = j.values; steps = z.steps + m } in w) x ∙
    ap (λ (s : ℕ). let w : Known = record k { front = j.front; fresh = j.fresh; facts = j.facts; values = j.values; steps = s } in w) (let e : k.steps + n + m ≡ k.steps + (n + m) = omega arith in e))

-- what loads below the root leave to a pass
record Leaves (layout : Layout) (n : ℕ) (k j : Known) : Type 0 where
  sees : OnlySees n k j
  fresh : j.fresh ≡ k.fresh
  later : IsLater k j
  possible : IsPossible layout k → IsPossible layout j

-- What a look leaves to the pass: the root, and so many loads below it.
pub record HasLookedAt (n : ℕ) (k j : Known) : Type 0 where
  pub sees : j ≡ record k { front = j.front; fresh = j.fresh; facts = j.facts; values = j.values; steps = k.steps + (1 + n) }
  pub later : IsLater k j
  pub fresh : BeginsWith j.fresh.front k.front
  pub now : k.steps ≤ j.fresh.step

module _ {G : Type 0} (table : TableView) (becomes : G → Event → G → Type 0) where
  runs_leave : (acts : List Act) (a b : SeatView × G) → All IsBelowRoot acts → Runs table becomes acts a b → Leaves table.layout (length acts) a.0.known b.0.known
  runs_leave [] a b below run = subst (λ (z : SeatView × G). Leaves table.layout 0 a.0.known z.0.known) (sym run)
      (record { sees = sees_none a.0.known; fresh = refl; later = later_reflexive a.0.known; possible = λ h. h })
  runs_leave (act ∷ acts) a b below run =
      let first = All-head IsBelowRoot act acts below in let e = run.1.event in
      let rest = runs_leave acts run.0 b (All-tail IsBelowRoot act acts below) run.2 in
      record {
        sees = subst (λ n. OnlySees n a.0.known b.0.known) (let q : 1 + length acts ≡ length (act ∷ acts) = omega arith in q)
            (sees_more 1 (length acts) a.0.known run.0.0.known b.0.known (below_sees act first e) rest.sees);
        fresh = rest.fresh ∙ below_fresh act first e;
        later = later_trans (below_later act first e) rest.later;
        possible = λ h. rest.possible (event_possible e);
      }

module _ {G : Type 0} {table : TableView} {becomes : G → Event → G → Type 0} where
  left : {e n : ℕ} {a b : SeatView × G} → Reads table becomes e n a b → Leaves table.layout n a.0.known b.0.known
  left {e} {n} {a} {b} x = subst (λ m. Leaves table.layout m a.0.known b.0.known) x.count (runs_leave table becomes x.acts a b x.below x.steps)

  pub reads_none : (a : SeatView × G) → Reads table becomes 0 0 a a
  reads_none a = record { acts = []; below = All-nil IsBelowRoot; count = refl; entries_are = refl; steps = refl }

  pub reads_one : {a b : SeatView × G} (act : Act) → IsBelowRoot act → Steps table becomes act a b → Reads table becomes (entries_in (act ∷ [])) 1 a b
  reads_one {a} {b} act below step = record { acts = act ∷ []; below = All-cons IsBelowRoot act [] below (All-nil IsBelowRoot); count = refl; entries_are = refl; steps = runs_one table becomes act a b step }

  pub reads_trans : {e f n m : ℕ} {a b c : SeatView × G} → Reads table becomes e n a b → Reads table becomes f m b c → Reads table becomes (e + f) (n + m) a c
  reads_trans {e} {f} {n} {m} {a} {b} {c} x y = record {
    acts = x.acts ++ y.acts;
    below = All-append IsBelowRoot x.acts y.acts x.below y.below;
    count = length-append x.acts y.acts ∙ (let p = x.count in let q = y.count in omega arith);
    entries_are = sum_by-append (λ act. cond (loads_entry act) 1 0) x.acts y.acts ∙ ap₂ (λ i j. i + j) x.entries_are y.entries_are;
    steps = runs_append table becomes x.acts y.acts a b c x.steps y.steps;
  }

  pub reads_same : {e n : ℕ} {a b : SeatView × G} → Reads table becomes e n a b → MakesNoAside a.0 b.0
  reads_same {a = a} {b = b} x = runs_same table becomes x.acts a b x.steps

  pub reads_later : {e n : ℕ} {a b : SeatView × G} → Reads table becomes e n a b → IsLater a.0.known b.0.known
  reads_later x = (left x).later

  -- of what the pass knows nothing else changes
  pub reads_sees : {e n : ℕ} {a b : SeatView × G} → Reads table becomes e n a b → OnlySees n a.0.known b.0.known
  reads_sees x = (left x).sees

  pub same_since : {e n : ℕ} {a b : SeatView × G} → Reads table becomes e n a b → since b.0.known ≡ since a.0.known
  same_since x = ap (λ (z : Fresh). length z.front) (left x).fresh

  -- the pass may read on
  pub reader_then : {e n : ℕ} {a b : SeatView × G} → IsReader table a.0 → Reads table becomes e n a b → IsReader table b.0
  reader_then reader x = ((reads_same x).0 ∙ reader.0, (left x).possible reader.1)

  -- What the pass was led to it is led to still.
  pub led_on : {f n : ℕ} {a b : SeatView × G} (m : ℕ) (e : Entry) → Reads table becomes f n a b → IsLedTo a.0.known m e → IsLedTo b.0.known m e
  led_on m e x (pinned, sure) = (since_later (reads_later x) pinned, sure_later {P = λ s. EntryStoodSince s m e} (seen_stable m e) (reads_later x) sure)

  -- a node that it was led to, with the forks that it has read
  pub led_shape : {e n : ℕ} {a b : SeatView × G} (m c h : ℕ) (x : Subtrie) → Reads table becomes e n a b → IsLedTo a.0.known m (Node c h) → Sure b.0.known (λ s. HadShapeSince s m c x) →
      HasShape b.0.known m c h x
  led_shape m c h x r led shaped = (led_on m (Node c h) r led, shaped)

  -- The root, and then loads below it

  -- the pass may read below the root
  pub root_reader : {a b : SeatView × G} → IsSeatOf table a.0 → ReadsRoot table becomes a b → IsReader table b.0
  root_reader own x = (x.1.seat.0 ∙ own, event_possible x.1.event)

  -- and is pinned since the load
  pub root_pinned : {a b : SeatView × G} → IsSome a.0.known.pin → ReadsRoot table becomes a b → IsPinnedSince b.0.known (since b.0.known)
  root_pinned {a} {b} is x = let p = pinned_by a.0.known.pin is in root_since table.layout a.0.known b.0.known p.0 p.1 x.0 x.1.event

  pub looks_first : {a b : SeatView × G} → ReadsRoot table becomes a b → Looks table becomes 0 0 a b
  looks_first {b = b} x = record { at = b; root = x; rest = reads_none b }

  pub looks_on : {e f n m : ℕ} {a b c : SeatView × G} → Looks table becomes e n a b → Reads table becomes f m b c → Looks table becomes (e + f) (n + m) a c
  looks_on x y = record { at = x.at; root = x.root; rest = reads_trans x.rest y }

  pub looks_same : {e n : ℕ} {a b : SeatView × G} → Looks table becomes e n a b → MakesNoAside a.0 b.0
  looks_same {a = a} {b = b} x = same_more a.0 x.at.0 b.0 x.root.1.seat (reads_same x.rest)

  pub looked_at : {ents n : ℕ} {a b : SeatView × G} → Looks table becomes ents n a b → HasLookedAt n a.0.known b.0.known
  looked_at {ents} {n} {a} {b} x =
      let e = x.root.1.event in let rest = left x.rest in let root = event_later e tt in
      let fresh : b.0.known.fresh ≡ record { front = e.core.changes; step = a.0.known.steps; pinned = version_of a.0.known.pin } = rest.fresh ∙ ap (λ (z : Known). z.fresh) e.learned_is in
      record {
        sees = sees_more 1 n a.0.known x.at.0.known b.0.known (root_sees table.layout a.0.known x.at.0.known x.root.0 e) rest.sees;
        later = later_trans root rest.later;
        fresh = subst (λ (z : Fresh). BeginsWith z.front a.0.known.front) (sym fresh) (e.knows.seen.front.0, e.knows.seen.front.1);
        now = subst (λ (z : Fresh). a.0.known.steps ≤ z.step) (sym fresh) (le_refl a.0.known.steps);
      }

-- What it was led to

pub rooted_led : {k : Known} (e : Entry) → IsAtRoot k e → IsLedTo k (since k) e
rooted_led {k} e (pinned, root) = (pinned, λ c lawful known. rooted_seen (seen c k) (since k) e (root c lawful known))

pub placed_led : {k : Known} {m : ℕ} (r j : ℕ) (e : Entry) → IsPinnedSince k m → Sure k (λ s. IsPlaced s m r j e) → IsLedTo k m e
placed_led {k} {m} r j e pinned at = (pinned, λ c lawful known. placed_seen (seen c k) m r j e (at c lawful known))

-- Places of a node

pub shape_place : {k : Known} {m n h i : ℕ} {x : Subtrie} → HasShape k m n h x → i < size x → HasPlace k m n h i
shape_place {x = x} (led, shaped) low = (led, λ c lawful known. (x, shaped c lawful known, low))
