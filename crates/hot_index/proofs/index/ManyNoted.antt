-- How the gets of one call get their notes, as the pass clears its pin: each its own, and all in the order of their places.
use Rattle.hot_index.proofs.Common.{◌≡◌, ℕ, suc, zero-le, ◌+◌, ◌<◌, ◌≤◌, List, [], ◌∷◌, ◌++◌, length, map, take, Bool, true, false, if◌then◌else◌, Option, None, Some, refl, sym, ap, subst, ◌∙◌, arith, le_refl, le_trans, append-nil, All, nat_le, cons_option, IsPermutation, nat_tests, All-append, All-cons, All-head, All-nil, All-tail, All-weaker, filter_map-append, slice_get_within, Call, Get, Change, Note, Reply, LegalCalls, RisesFrom, StandsIn, change_of, changes_of, is_change, place_after, LegalFront, OthersGoOn, change_of-quiet, legal_longer, place_after-within, recalls, Core, IsLawful, Recalls, ClearPin, Event, Known, StepsWith, SeatView, TableView, Pins, since, Key, got, AreNoted, gets, place_of, IsSettled, pass_of, HasLooked, IsRightPlace, WasRight, found_right, get_changes_nothing, goes_on, legal_front, looked, longer, right_place, settles}
use Rattle.std.specs.Prelude.{slice_get}
use Rattle.std.proofs.lemmas.List.Sorted.{All-permutation, IsPermutation-cons, IsPermutation-map, IsPermutation-middle, IsPermutation-refl, IsPermutation-trans}
use Rattle.hot_index.specs.declared.key_counts.KeyCount.{KeyCount}
use Rattle.rowex_reading.specs.Lookups.{HasFound, HaveFound, HaveSearched}
use Rattle.hot_index.specs.Passes.{IsSettledWith}
use Rattle.hot_index.proofs.KeyCounts.Counted.{count_goes, count_stays}

-- The notes

-- of a call that changed nothing: its place is the first right one since the pass's last load of the root
abbrev note_of_call : Known → Call × Reply → Note
note_of_call k x = record { place = place_of k.front (since k) x.0 x.1; call = x.0; reply = x.1 }

-- a note more among notes in the order of their places
abbrev put_note : Note → List Note → List Note
put_note n [] = n ∷ []
put_note n (m ∷ ms) = if nat_le n.place m.place then n ∷ m ∷ ms else m ∷ put_note n ms

abbrev in_order : List Note → List Note
in_order [] = []
in_order (n ∷ ns) = put_note n (in_order ns)

-- of these gets, where the pass knows k
abbrev pub gets_said : List Key → List (Option ℕ) → Known → List Note
gets_said keys found k = in_order (map (note_of_call k) (gets keys found))

-- The order

put_shuffles : (n : Note) (ms : List Note) → IsPermutation (n ∷ ms) (put_note n ms)
put_shuffles n [] = IsPermutation-refl (n ∷ [])
put_shuffles n (m ∷ ms) = go (put_shuffles n ms) (nat_le n.place m.place)
  where
    go : IsPermutation (n ∷ ms) (put_note n ms) → (b : Bool) → IsPermutation (n ∷ m ∷ ms) (if b then n ∷ m ∷ ms else m ∷ put_note n ms)
    go rest true = IsPermutation-refl (n ∷ m ∷ ms)
    go rest false = IsPermutation-trans (n ∷ m ∷ ms) (m ∷ n ∷ ms) (m ∷ put_note n ms) (IsPermutation-middle (n ∷ []) m ms) (IsPermutation-cons m (n ∷ ms) (put_note n ms) rest)

order_shuffles : (ns : List Note) → IsPermutation ns (in_order ns)
order_shuffles [] = IsPermutation-refl []
order_shuffles (n ∷ ns) = IsPermutation-trans (n ∷ ns) (n ∷ in_order ns) (put_note n (in_order ns)) (IsPermutation-cons n ns (in_order ns) (order_shuffles ns)) (put_shuffles n (in_order ns))

-- The call changed nothing, and the map answers it so at its place, which is one of the front from `low` on.
record IsQuietIn (front : List Change) (low : ℕ) (n : Note) : Type 0 where
  quiet : is_change n ≡ false
  at : IsRightPlace front low n.call n.reply n.place

quiet_place : (n : Note) → is_change n ≡ false → place_after n ≡ n.place
quiet_place n quiet = ap (λ b. if b then n.place + 1 else n.place) quiet

module _ (front : List Change) (low : ℕ) where
  put_rises : (n : Note) (ms : List Note) (p : ℕ) → is_change n ≡ false → All (IsQuietIn front low) ms → p ≤ n.place → RisesFrom p ms → RisesFrom p (put_note n ms)
  put_rises n [] p quiet all le rises = (le, tt)
  put_rises n (m ∷ ms) p quiet all le rises =
      go (λ more. put_rises n ms (place_after m) quiet (All-tail (IsQuietIn front low) m ms all) more rises.1) (nat_le n.place m.place) refl
    where
      head : IsQuietIn front low m
      head = All-head (IsQuietIn front low) m ms all

      go : (place_after m ≤ n.place → RisesFrom (place_after m) (put_note n ms)) → (b : Bool) → nat_le n.place m.place ≡ b → RisesFrom p (if b then n ∷ m ∷ ms else m ∷ put_note n ms)
      go rest true is = (le, (subst (λ o. o ≤ m.place) (sym (quiet_place n quiet)) (grind (arith, nat_tests)), rises.1))
      go rest false is = (
        rises.0,
        rest (subst (λ o. o ≤ n.place) (sym (quiet_place m head.quiet)) (let more : m.place < n.place = grind (arith, nat_tests) in omega (arith, more))),
      )

  all_in_order : (ns : List Note) → All (IsQuietIn front low) ns → All (IsQuietIn front low) (in_order ns)
  all_in_order ns all = All-permutation (IsQuietIn front low) ns (in_order ns) (order_shuffles ns) all

  order_rises : (ns : List Note) → All (IsQuietIn front low) ns → RisesFrom low (in_order ns)
  order_rises [] all = tt
  order_rises (n ∷ ns) all =
      let rest = All-tail (IsQuietIn front low) n ns all in let head = All-head (IsQuietIn front low) n ns all in
      put_rises n (in_order ns) low head.quiet (all_in_order ns rest) head.at.least (order_rises ns rest)

  quiet_changes : (q : ℕ) (ns : List Note) → All (IsQuietIn front low) ns → changes_of q ns ≡ []
  quiet_changes q [] all = refl
  quiet_changes q (n ∷ ns) all =
      let head = All-head (IsQuietIn front low) n ns all in
      ap (λ o. cons_option o (changes_of q ns)) (change_of-quiet q n head.quiet) ∙ quiet_changes q ns (All-tail (IsQuietIn front low) n ns all)

  quiet_stands : (q : ℕ) (n : Note) → IsQuietIn front low n → StandsIn front q n
  quiet_stands q n h = record {
    place = h.at.most;
    reply = h.at.right;
    change = λ c says. let no : None ≡ Some c = sym (change_of-quiet q n h.quiet) ∙ says in cc;
  }

-- Each get is so

gets_right : (k : Known) (c : Core) → IsLawful c → Recalls c k → (keys : List Key) (found : List (Option ℕ)) → ((i : ℕ) (key : Key) (o : Option ℕ) → slice_get keys i ≡ Some key → slice_get found i ≡ Some o → HasFound k key o) →
    All (IsQuietIn k.front (since k)) (map (note_of_call k) (gets keys found))
gets_right k c lawful known [] found has = All-nil (IsQuietIn k.front (since k))
gets_right k c lawful known (key ∷ keys) [] has = All-nil (IsQuietIn k.front (since k))
gets_right k c lawful known (key ∷ keys) (o ∷ found) has =
    All-cons (IsQuietIn k.front (since k)) (note_of_call k (Get key, got o)) (map (note_of_call k) (gets keys found))
    (record {
      quiet = get_changes_nothing key o (place_of k.front (since k) (Get key) (got o));
      at = right_place k (Get key) (got o) (found_right k key o (has 0 key o refl refl) c lawful known);
    })
    (gets_right k c lawful known keys found (λ i other p is at. has (suc i) other p is at))

-- the calls of the notes are the gets
calls_same : (k : Known) (xs : List (Call × Reply)) → map (λ (n : Note). (n.call, n.reply)) (map (note_of_call k) xs) ≡ xs
calls_same k [] = refl
calls_same k (x ∷ xs) = ap (λ (z : List (Call × Reply)). x ∷ z) (calls_same k xs)

-- And the pass's calls are legal with them

rises_then : (front : List Change) (q low end : ℕ) (ns ms : List Note) → RisesFrom low ns → All (StandsIn front q) ns → low ≤ end → length front ≤ end → RisesFrom end ms → RisesFrom low (ns ++ ms)
rises_then front q low end [] [] r each l h s = tt
rises_then front q low end [] (m ∷ ms) r each l h s = (le_trans l s.0, s.1)
rises_then front q low end (n ∷ ns) ms r each l h s =
    (r.0, rises_then front q (place_after n) end ns ms r.1 (All-tail (StandsIn front q) n ns each) (le_trans (place_after-within front q n (All-head (StandsIn front q) n ns each)) h) h s)

legal_with : (front later : List Change) (q low : ℕ) (ns added : List Note) → LegalCalls front q ns → OthersGoOn q front later → LegalFront later →
    length front ≤ low → All (IsQuietIn later low) added → RisesFrom low added → LegalCalls later q (ns ++ added)
legal_with front later q low ns added h g l start quiet rises = record {
  legal = l;
  each = All-append (StandsIn later q) ns added all.each (All-weaker (IsQuietIn later low) (StandsIn later q) (quiet_stands later low q) added quiet);
  rising = rises_then front q 0 low ns added h.rising h.each zero-le start rises;
  own = all.own ∙ sym (filter_map-append (change_of q) ns added ∙ (ap (λ z. changes_of q ns ++ z) (quiet_changes later low q added quiet) ∙ append-nil (changes_of q ns)));
}
  where
    all : LegalCalls later q ns
    all = legal_longer front later q ns h g l

-- The whole call

module _ {G : Type 0} {table : TableView} {becomes : G → Event → G → Type 0} {a b c d : SeatView × G} (keys : List Key) (found : List (Option ℕ)) (pins : Pins table becomes a b)
    (search : HaveSearched table becomes (length keys) b c) (has : HaveFound c.0.known (length keys) keys found) (end : StepsWith table becomes ClearPin (gets_said keys found) c d) where
  abbrev k : Known
  k = c.0.known

  abbrev added : List Note
  added = in_order (map (note_of_call k) (gets keys found))

  quiet : All (IsQuietIn k.front (since k)) (map (note_of_call k) (gets keys found))
  quiet = gets_right k end.event.core end.event.lawful (recalls end.event.core k end.event.knows) keys found
      (λ i key o is at. has i key o (slice_get_within keys i key is) is at)

  all_quiet : All (IsQuietIn k.front (since k)) added
  all_quiet = all_in_order k.front (since k) (map (note_of_call k) (gets keys found)) quiet

  rises : RisesFrom (since k) added
  rises = order_rises k.front (since k) (map (note_of_call k) (gets keys found)) quiet

  notes_are : IsSettled a.0.known → d.0.known.notes ≡ a.0.known.notes ++ added
  notes_are settled =
      let looks = looked settled pins search.looks in
      ap (λ (z : Known). z.notes) end.event.learned_is ∙ ap (λ (z : List Note). z ++ added) looks.on.notes

  -- they are noted, and the pass has settled again
  pub gets_noted : IsSettled a.0.known → AreNoted table.layout (pass_of a.0) (pass_of d.0) (gets keys found) × IsSettled d.0.known
  gets_noted settled = (
    record {
      on = goes_on a.0 d.0 looks.on end.event;
      added = added;
      notes = notes_are settled;
      calls_are = subst (λ (z : List (Call × Reply)). IsPermutation z (map (λ (n : Note). (n.call, n.reply)) added)) (calls_same k (gets keys found))
          (IsPermutation-map (λ (n : Note). (n.call, n.reply)) _ added (order_shuffles (map (note_of_call k) (gets keys found))));
      low = subst (λ (z : Known). All (λ n. length z.fresh.front ≤ n.place) added) (sym end.event.learned_is)
          (All-weaker (IsQuietIn k.front (since k)) (λ n. since k ≤ n.place) (λ n h. h.at.least) added all_quiet);
      legal = subst (λ (z : Known). LegalCalls z.front z.pass z.notes) (sym end.event.learned_is) legal;
    },
    settles a.0 d.0 looks.on end.event legal,
  )
    where
      looks : HasLooked a.0.known k
      looks = looked settled pins search.looks

      legal : LegalCalls k.front k.pass (k.notes ++ added)
      legal = subst (λ (z : ℕ × List Note). LegalCalls k.front z.0 (z.1 ++ added)) (λ x. (sym looks.on.pass x, sym looks.on.notes x))
          (legal_with a.0.known.front k.front a.0.known.pass (since k) a.0.known.notes added settled.legal looks.others (legal_front a.0 d.0 looks.on end.event)
          (longer k.fresh.front a.0.known.front looks.on.fresh) all_quiet rises)

  -- and its count is as it was
  pub gets_counted : (count : KeyCount) → IsSettledWith a.0.known count → IsSettledWith d.0.known count
  gets_counted count was =
      let told = gets_noted was.settled in
      record {
        settled = told.1;
        counts = count_goes a.0.known.pass d.0.known.pass (a.0.known.notes ++ added) d.0.known.notes count told.0.on.number (notes_are was.settled)
            (count_stays a.0.known.pass a.0.known.notes added count (quiet_changes k.front (since k) a.0.known.pass added all_quiet) was.counts);
      }
