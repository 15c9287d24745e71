-- What a load of an entry of a node tells.
use Rattle.rowex_reading.proofs.Common.{◌≡◌, ℕ, ◌+◌, ◌<◌, ◌≤◌, length, if◌then◌else◌, Option, Some, None, IsSome, refl, ap, sym, ◌∙◌, subst, arith, lt-ltb, Entry, Node, height_of, Place, size, Layout, HasEntryWord, entry_word, IsSpelling, Tree, node, subtrie, Subtrie, IsBuilt, entry_at, shape, shape_tips, built_within, Pin, a_node, Past, Stands, KeepsFixedWordsSince, LoadRef, Slot, Placed, Known, Core, IsLawful, Recalls, IsEvent, StoodAs, recalls, entry_of, entry_in, record_word, entry_of_word, HasSpot, silent, Stood, IsPlaced, subtrie_at, record_node, shaped, IsLater}
use Rattle.tries.specs.Tree.{Fixed}
use Rattle.version_laws.proofs.Scan.Ends.{placed_falls}
use Rattle.rowex_reading.specs.Possible.{IsPossible}
use Rattle.rowex_reading.specs.Seen.{seen, Sure, HasMorePlaces, HasPlace, IsLedTo}
use Rattle.rowex_reading.proofs.Seen.{recalls_before, seen_steady, room_stable, seen_stable, sure_later, since_later}
use Rattle.rowex_reading.proofs.Seen.Later.{event_knows, event_recalls}
use Rattle.rowex_reading.proofs.Seen.Loading.{IsTaught, slot_taught, taught_now, found_seen}
use Rattle.rowex_reading.proofs.Seen.Standing.{led_in_table, is_packed, entry_spelled}

-- a node has at most 32 places
few_places : (layout : Layout) (k : Known) (m n h i : ℕ) → IsPossible layout k → HasPlace k m n h i → i < 32
few_places layout k m n h i possible (led, room) =
    let known = recalls possible.core k possible.knows in
    let r = room possible.core possible.lawful known in
    let s = r.1 in
    let steady : KeepsFixedWordsSince (seen possible.core k) m = seen_steady possible.lawful known led.0 in
    let st = s.1.stands in
    let built : IsBuilt (node n s.1.fixed s.0) = built_within st.within (steady.trees s.1.at st.tree s.1.until st.is_version).1 in
    let most : size r.0 ≤ 32 = subst (λ z. z ≤ 32) (sym (shape_tips (subtrie s.0)) ∙ ap size s.2) built.3.room in
    let low = r.2 in
    omega arith

pub is_entry : (layout : Layout) (k : Known) (m n h i : ℕ) → IsPossible layout k → HasPlace k m n h i → HasSpot layout (Slot n i)
is_entry layout k m n h i possible has = (led_in_table layout k m (Node n h) possible has.0, few_places layout k m n h i possible has)

pub stood_if_stands : (s : Past) (m r at : ℕ) (u : Tree) (x : Fixed) (b : Tree) → u ≡ node r x b → m ≤ at → at ≤ s.now → Stands s at (a_node r) u → Stood s m r b
stood_if_stands s m r at u x b is low high st = record { at = at; since = low; until = high; fixed = x; stands = subst (λ z. Stands s at (a_node r) z) is st }

place_below : (i : ℕ) (p x : Subtrie) → shape p ≡ x → i < size x → i < size p
place_below i p x same low = subst (λ z. i < z) (ap size (sym same) ∙ shape_tips p) low

entry_of_node : (n : ℕ) (x : Fixed) (b u : Tree) (i : ℕ) (o : Option Entry) → u ≡ node n x b → i < size (subtrie b) → entry_in u i ≡ o → Some (entry_at (subtrie b) i) ≡ o
entry_of_node n x b u i o is inside e = sym (ap (λ t. if t then Some (entry_at (subtrie b) i) else None) (lt-ltb i (size (subtrie b)) inside)) ∙ (sym (ap (λ (z : Tree). entry_in z i) is) ∙ e)

-- the word of some entry spells it
pub some_spelled : {w : ℕ} (o : Option Entry) → IsSome o → HasEntryWord o → entry_word o ≡ w → IsSpelling (λ (e : Entry). HasEntryWord (Some e)) (λ (e : Entry). entry_word (Some e)) w
some_spelled None some word spells = absurd cc
some_spelled (Some entry) some word spells = (entry, word, spells)

module _ (layout : Layout) (k j : Known) (n i w : ℕ) (event : IsEvent layout (LoadRef (Slot n i) w) silent k j) where
  abbrev core : Core
  core = event.core

  -- the word is that of an entry, or of none
  pub slot_spelled : (m h : ℕ) → IsLedTo k m (Node n h) → (x : Option Entry) × HasEntryWord x × (entry_word x ≡ w)
  slot_spelled m h led =
      let x = entry_spelled core n i (is_packed core k event.lawful (event_recalls event) m led.0 (Node n h) (led.1 core event.lawful (event_recalls event))) event.legal.1.1 in
      (x.0, x.1, x.2 ∙ sym event.legal.1.2)

  module _ (m h : ℕ) (has : HasPlace k m n h i) where
    abbrev pin : Pin
    pin = has.0.0.0

    is : IsTaught core (Placed pin.version core.past.now n i (entry_of (record_word core (a_node n) (26 + i)))) k j
    is = slot_taught layout k j pin has.0.0.1 n i w event

    pub slot_later : IsLater k j
    slot_later = is.later

    module _ (o : Option Entry) (word : HasEntryWord o) (spells : entry_word o ≡ w) where
      word_is : entry_of (record_word core (a_node n) (26 + i)) ≡ o
      word_is = ap entry_of (sym event.legal.1.2 ∙ sym spells) ∙ entry_of_word o word

      -- in each core of which j is true, the node stood with the entry
      record There (c : Core) : Type 0 where
        body : Tree
        stood : Stood (seen c j) m n body
        low_there : i < size (subtrie body)
        entry_there : Some (entry_at (subtrie body) i) ≡ o

      there : (c : Core) → IsLawful c → Recalls c j → There c
      there c lawful known =
          let before : Recalls c k = recalls_before slot_later known in
          let found : StoodAs (seen c j) m (length j.front) (a_node n) (λ u. entry_in u i ≡ o) =
          found_seen core c k j pin.version m (a_node n) (λ u. entry_in u i ≡ o) (taught_now event.lawful is) slot_later has.0.0.2
          (let s = has.0.1 c lawful before in (s.0, s.1, s.2, s.3, s.4))
          (λ a lo st. let f = (is.fact c known).1 a lo st in (f.0, f.1, f.2, f.3, f.4, f.5 ∙ word_is)) in
          let v = record_node n found.1 found.4.is_record in
          let st : Stood (seen c j) m n v.1 = stood_if_stands (seen c j) m n found.0 found.1 v.0 v.1 v.2 found.2 found.3 found.4 in
          let room : HasMorePlaces (seen c j) m n i = sure_later {P = λ s. HasMorePlaces s m n i} (room_stable m n i) slot_later has.1 c lawful known in
          let same : shape (subtrie v.1) ≡ room.0 = shaped (seen c j) m (seen_steady lawful known (since_later slot_later has.0.0)) n room.0 v.1 room.1 st in
          let inside : i < size (subtrie v.1) = place_below i (subtrie v.1) room.0 same room.2 in
          record {
            body = v.1;
            stood = st;
            low_there = inside;
            entry_there = entry_of_node n v.0 v.1 found.1 i o v.2 inside found.5;
          }

      -- what is recalled after the load is true of the core of the load
      now : Recalls core j
      now = recalls core j (event_knows event)

      pub slot_some : IsSome o
      slot_some = subst IsSome (there core event.lawful now).entry_there refl

      pub slot_placed : (e : Entry) → o ≡ Some e → Sure j (λ s. IsPlaced s m n i e)
      slot_placed e some c lawful known =
          let t = there c lawful known in
          let same : entry_at (subtrie t.body) i ≡ e = some_same (t.entry_there ∙ some) in
          (t.body, t.stood, t.low_there, subtrie_at t.body i t.low_there ∙ ap Place same)
        where
          some_same : {a b : Entry} → ◌≡◌ {A = Option Entry} (Some a) (Some b) → a ≡ b
          some_same q = cc

      pub slot_lower : (e : Entry) → o ≡ Some e → height_of e < h
      slot_lower e some = placed_falls (seen core j) m (seen_steady event.lawful now (since_later slot_later has.0.0)) n h i e
          (sure_later (seen_stable m (Node n h)) slot_later has.0.1 core event.lawful now) (slot_placed e some core event.lawful now)
