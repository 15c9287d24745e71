-- Loads under a lock, and steps one after the other.
use Rattle.rowex_writing.proofs.Common.{◌≡◌, ℕ, ◌+◌, ◌-◌, ◌^◌, ◌<◌, ◌≤◌, List, [], ◌∷◌, ◌++◌, length, get_or, set, replicate, refl, sym, ap, subst, ◌∙◌, arith, add-one, inl, inr, ◌⊎◌, ⊎_elim, cases_lt, All-append, All-cons, ext_get_or, get_or-set_same, get_or-set_other, length-replicate, length-set, Layout, NodeView, head_of, head_size, kind_in, kind_of, head_words, node_is, length-node_words, a_node, Act, LoadRef, LoadFixed, Event, Slot, Known, IsPastFilling, IsEvent, IsPacked, node_words_of, IsLocked, knows_all, Steps, silent, TableView, SeatView, IsSeatOf, runs_one, runs_append, runs_same, IsOneOf, entry_of_locked, fixed_of_locked, still_locked, stays_on, locked_same, all_of, IsPossible}
use Rattle.record_words.proofs.HeadParts.{past_kind, told}
use Rattle.record_words.proofs.Unused.{zero_in}
use Rattle.record_words.proofs.Written.{no_entry_word}
use Rattle.record_words.specs.Layout.{uncommitted_in}
use Rattle.rowex_table.specs.Runs.{Runs}
use Rattle.rowex_table.specs.Seats.{HasFoundBounds}
use Rattle.rowex_table.specs.Committed.{AtMost}
use Rattle.rowex_table.proofs.Committed.{committed_falls}
use Rattle.rowex_table.proofs.Committed.Chains.{bounds_then_runs}
use Rattle.rowex_records.specs.Claims.{AreCommitted, record_of}
use Rattle.rowex_records.specs.declared.claiming.RecordKind.{RecordKind}
use Rattle.publish_laws.specs.Loops.{StaysLocked}
use Rattle.rowex_writing.specs.locks.Going.{WorksOn, WorksOnKeepingRecords, HasLocked, IsNodeOf, IsStepUnderLocks}
use Rattle.rowex_writing.specs.locks.Loads.{AreRead, AreThose}
use Rattle.rowex_writing.proofs.locks.Loads.{head_word}

-- ---- one after the other
module _ {G : Type 0} (table : TableView) (becomes : G → Event → G → Type 0) where
  pub goes_none : (a : SeatView × G) → WorksOn table becomes a a
  goes_none a = record { acts = []; plain = λ i d low. absurd (omega arith); steps = refl; stays = locked_same a.0.known a.0.known refl }

  pub goes_more : (a m b : SeatView × G) → WorksOn table becomes a m → WorksOn table becomes m b → WorksOn table becomes a b
  goes_more a m b first second = record {
    acts = first.acts ++ second.acts;
    plain = All-append IsStepUnderLocks first.acts second.acts first.plain second.plain;
    steps = runs_append table becomes first.acts second.acts a m b first.steps second.steps;
    stays = stays_on a.0.known m.0.known b.0.known first.stays second.stays;
  }

  -- what was found uncommitted before a step stands before it, unseen
  pub goes_found : (s t : SeatView) (gate : G) (b : SeatView × G) → HasFoundBounds s t → WorksOn table becomes (t, gate) b → t.known.steps < b.0.known.steps → WorksOn table becomes (s, gate) b
  goes_found s t gate b found goes some = record {
    acts = goes.acts;
    plain = goes.plain;
    steps = from goes.acts goes.steps;
    stays = subst (λ (z : SeatView). StaysLocked z.known b.0.known) found.1 goes.stays;
  }
    where
      from : (acts : List Act) → Runs table becomes acts (t, gate) b → Runs table becomes acts (s, gate) b
      from [] run = absurd (let same = ap (λ (z : SeatView × G). z.0.known.steps) run in omega (arith, same, some))
      from (act ∷ acts) run = bounds_then_runs table becomes act acts s t gate b found run

  -- no more is uncommitted than before
  pub goes_bounds : (a b : SeatView × G) → WorksOn table becomes a b → AtMost (uncommitted_in b.0.bounds) (uncommitted_in a.0.bounds)
  goes_bounds a b goes = (runs_same table becomes goes.acts a b goes.steps).4

  -- what is committed stays so
  pub goes_committed : (kind : RecordKind) (a b : SeatView × G) → WorksOn table becomes a b → AreCommitted table.layout a.0.bounds kind → AreCommitted table.layout b.0.bounds kind
  goes_committed kind a b goes committed = λ index low.
      committed_falls table.layout (uncommitted_in b.0.bounds) (uncommitted_in a.0.bounds) (record_of kind index) (goes_bounds a b goes) (committed index low)

  -- the seat is one of the table still
  pub seat_of : (a b : SeatView × G) → WorksOn table becomes a b → IsSeatOf table a.0 → IsSeatOf table b.0
  seat_of a b goes is = (runs_same table becomes goes.acts a b goes.steps).0 ∙ is

  pub reads_none : (a : SeatView × G) → WorksOnKeepingRecords table becomes a a
  reads_none a = record { goes = goes_none a; own = refl }

  pub reads_more : (a m b : SeatView × G) → WorksOnKeepingRecords table becomes a m → WorksOnKeepingRecords table becomes m b → WorksOnKeepingRecords table becomes a b
  reads_more a m b first second = record { goes = goes_more a m b first.goes second.goes; own = second.own ∙ first.own }

  -- ---- loads of a locked node
  pub reads_fixed : (n offset w : ℕ) (a b : SeatView × G) → Steps table becomes (LoadFixed (a_node n) offset w) a b → WorksOnKeepingRecords table becomes a b
  reads_fixed n offset w a b s = record {
    goes = record {
      acts = LoadFixed (a_node n) offset w ∷ [];
      plain = All-cons IsStepUnderLocks (LoadFixed (a_node n) offset w) [] tt (λ i d low. absurd (omega arith));
      steps = runs_one table becomes (LoadFixed (a_node n) offset w) a b s;
      stays = still_locked table.layout a.0.known b.0.known (LoadFixed (a_node n) offset w) tt tt tt tt s.event;
    };
    own = ap (λ (z : Known). z.own) s.event.learned_is;
  }

  pub reads_entry : (n i w : ℕ) (a b : SeatView × G) → Steps table becomes (LoadRef (Slot n i) w) a b → WorksOnKeepingRecords table becomes a b
  reads_entry n i w a b s = record {
    goes = record {
      acts = LoadRef (Slot n i) w ∷ [];
      plain = All-cons IsStepUnderLocks (LoadRef (Slot n i) w) [] tt (λ i d low. absurd (omega arith));
      steps = runs_one table becomes (LoadRef (Slot n i) w) a b s;
      stays = still_locked table.layout a.0.known b.0.known (LoadRef (Slot n i) w) tt tt tt tt s.event;
    };
    own = ap (λ (z : Known). z.own) s.event.learned_is;
  }

-- the words of a locked node spell one
module _ {layout : Layout} {act : Act} {k j : Known} (e : IsEvent layout act silent k j) where
  pub locked_spells : (n : ℕ) (words : List ℕ) → HasLocked k n words → (view : NodeView) × IsNodeOf words view
  unfolding IsPacked
  locked_spells n words h =
      let (lock, tree, same) = all_of (IsLocked k.pass e.core) (record { node = n; words = words }) k.locks (knows_all e.core k e.knows).locks h in
      let (view, has, spells) = e.lawful.records.packed (a_node n) (subst IsPastFilling (sym tree.1) tt) in
      let shows = node_is view (e.core.words (a_node n)) (e.lawful.records.sized (a_node n)).1 has spells in
      (view, record { has = has; spells = spells ∙ same; shows = ap node_words_of (sym same) ∙ shows })

-- and a load gives one of them
module _ {layout : Layout} {k j : Known} (n i w : ℕ) (words : List ℕ) (h : HasLocked k n words) where
  pub fixed_word : IsEvent layout (LoadFixed (a_node n) (i + 1) w) silent k j → w ≡ get_or words i 0
  fixed_word e = (fixed_of_locked layout silent k j n i w words (subst (λ z. IsEvent layout (LoadFixed (a_node n) z w) silent k j) (add-one i) e) h).0

  pub entry_word_of : 25 ≤ i → IsEvent layout (LoadRef (Slot n (i - 25)) w) silent k j → w ≡ get_or words i 0
  entry_word_of l e = let at : 25 + (i - 25) ≡ i = omega arith in (entry_of_locked layout silent k j n (i - 25) w words e h).0 ∙ ap (λ z. get_or words z 0) at

pub none_those : (loaded words : List ℕ) → AreThose loaded words 0
none_those loaded words = record { each = λ o l. absurd (omega arith); spelled = λ l. absurd (omega arith) }

pub more_those : (loaded words : List ℕ) (n w : ℕ) → n < length loaded → AreThose loaded words n → w ≡ get_or words n 0 → (view : NodeView) × IsNodeOf words view → AreThose (set loaded n w) words (n + 1)
more_those loaded words n w long those is spelled = record { each = λ o l. at o l (cases_lt o n); spelled = λ l. spelled }
  where
    at : (o : ℕ) → o < n + 1 → (o < n) ⊎ (n ≤ o) → get_or (set loaded n w) o 0 ≡ get_or words o 0
    at o l (inl older) = get_or-set_other loaded n o w 0 (λ e. omega arith) ∙ those.each o older
    at o l (inr newest) = let e : n ≡ o = omega arith in subst (λ z. get_or (set loaded n w) z 0 ≡ get_or words z 0) e (get_or-set_same loaded n w 0 long ∙ is)

-- what was locked is
pub locked_on : (k j : Known) (n : ℕ) (words : List ℕ) → j.locks ≡ k.locks → HasLocked k n words → HasLocked j n words
locked_on k j n words same h = subst (λ locks. IsOneOf (record { node = n; words = words }) locks) (sym same) h

-- what was loaded is the node that the lock's words spell
pub words_shown : (k : Known) (n : ℕ) {loaded : List ℕ} → ((words : List ℕ) → HasLocked k n words → loaded ≡ words) → (view : NodeView) → IsNodeOf loaded view → (words : List ℕ) → HasLocked k n words → IsNodeOf words view
words_shown k n same view is words h = subst (λ ws. IsNodeOf ws view) (same words h) is

module _ {G : Type 0} (table : TableView) (becomes : G → Event → G → Type 0) (a : SeatView × G) where
  pub none_read : (number : ℕ) → IsSeatOf table a.0 → AreRead table becomes a a number (replicate 57 0) 0
  none_read number own = record {
    own = own;
    reads = reads_none table becomes a;
    long = length-replicate {A = ℕ} 57 0;
    rest = λ o past. zero_in 57 o;
    those = λ words h. none_those (replicate 57 0) words;
    few = omega arith;
  }

  pub one_read : (b c : SeatView × G) (number : ℕ) (loaded : List ℕ) (n w : ℕ) → AreRead table becomes a b number loaded n → n < 57 → WorksOnKeepingRecords table becomes b c →
      ((words : List ℕ) → HasLocked b.0.known number words → w ≡ get_or words n 0) → ((words : List ℕ) → HasLocked b.0.known number words → (view : NodeView) × IsNodeOf words view) →
      c.0.known.steps ≤ b.0.known.steps + 1 → AreRead table becomes a c number (set loaded n w) (n + 1)
  one_read b c number loaded n w i low reads word spelled few = record {
    own = seat_of table becomes b c reads.goes i.own;
    reads = reads_more table becomes a b c i.reads reads;
    long = length-set loaded n w ∙ i.long;
    rest = λ o past. get_or-set_other loaded n o w 0 (omega arith) ∙ i.rest o (omega (arith, past));
    those = λ words h. (let there = locked_on a.0.known b.0.known number words i.reads.goes.stays.1 h in
        more_those loaded words n w (omega (arith, i.long, low)) (i.those words h) (word words there) (spelled words there));
    few = let before = i.few in omega (arith, before, few);
  }

  -- a word of a head behind those that say something is all ones
  pub unused_read : (b c : SeatView × G) (number : ℕ) (old loaded : List ℕ) (n : ℕ) → AreRead table becomes a b number old 1 → AreRead table becomes a c number loaded n → 0 < n → n < 25 →
      head_size (kind_in (get_or old 0 0)) ≤ n → AreRead table becomes a c number (set loaded n (2 ^ 64 - 1)) (n + 1)
  unused_read b c number old loaded n first i some low past =
      let then : (words : List ℕ) → HasLocked c.0.known number words → HasLocked a.0.known number words = λ words h. locked_on c.0.known a.0.known number words (sym i.reads.goes.stays.1) h in
      one_read c c number loaded n (2 ^ 64 - 1) i (omega (arith, low)) (reads_none table becomes c)
      (λ words h.
      let (view, is) = (i.those words (then words h)).spelled some in
      let kind : kind_of view.columns ≡ kind_in (get_or old 0 0) =
      sym (told view is.has.lawful (head_words (head_of view)) refl).kind_told ∙ ap kind_in (head_word view words is 0 (omega arith) ∙ sym ((first.those words (then words h)).each 0 (omega arith))) in
      sym (past_kind view is.has.lawful (head_words (head_of view)) refl n (subst (λ k. head_size k ≤ n) (sym kind) past) low) ∙ head_word view words is n low)
      (λ words h. (i.those words (then words h)).spelled some)
      (omega arith)

  -- all of them, where those of its entries have been loaded
  pub all_read : (b : SeatView × G) (number : ℕ) (loaded : List ℕ) (n : ℕ) → AreRead table becomes a b number loaded n →
      (words : List ℕ) (view : NodeView) → HasLocked a.0.known number words → IsNodeOf words view → 25 + length view.entries ≤ n → loaded ≡ words
  all_read b number loaded n i words view h is upto =
      let long : length words ≡ 57 = ap (λ (ws : List ℕ). length ws) (sym is.spells) ∙ length-node_words view in
      ext_get_or 0 loaded words (i.long ∙ sym long)
      (λ o l. ⊎_elim (λ (low : o < n). (i.those words h).each o low)
      (λ (past : n ≤ o).
      i.rest o past ∙ sym (ap (λ ws. get_or ws o 0) (sym is.spells) ∙ no_entry_word view (length view.entries) o (omega arith) (omega (arith, past, upto)) (omega (arith, l, i.long))))
      (cases_lt o n))

-- the words of a locked node are those of one
pub locked_node : (layout : Layout) (k : Known) (n : ℕ) (words : List ℕ) → IsPossible layout k → HasLocked k n words → (view : NodeView) × IsNodeOf words view
unfolding IsPacked
locked_node layout k n words possible h =
    let c = possible.core in
    let (lock, tree, same) = all_of (IsLocked k.pass c) (record { node = n; words = words }) k.locks (knows_all c k possible.knows).locks h in
    let (view, has, spells) = possible.lawful.records.packed (a_node n) (subst IsPastFilling (sym tree.1) tt) in
    let shows = node_is view (c.words (a_node n)) (possible.lawful.records.sized (a_node n)).1 has spells in
    (view, record { has = has; spells = spells ∙ same; shows = ap node_words_of (sym same) ∙ shows })
