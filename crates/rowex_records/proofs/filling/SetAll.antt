-- A record's words stored one by one.
use Rattle.rowex_records.proofs.Common.{◌≡◌, ℕ, zero, suc, ◌+◌, ◌-◌, ◌<◌, ◌≤◌, List, [], ◌∷◌, ◌++◌, length, map, set, get_or, refl, sym, ap, subst, ◌∙◌, arith, length-append, Contains, length-set, Rec, a_node, a_leaf, same_rec_refl, Act, Fill, Event, Held, Owned, Known, HasLeafWords, key_word, leaf_words, words_for, leaf_words_parts, word_count_of, IsPacked, with_filled_word, OwnsAs, IsClaimed, silent, Steps, Runs, InTurn, TableView, SeatView, mapped, in_turn_more}
use Rattle.rowex_table.proofs.Made.ActsBefore.{later_trans, recalls_on, same_later}
use Rattle.rowex_table.proofs.Runs as running
use Rattle.rowex_records.specs.Records.{owning, fill_with, stored, stored_in, IsFilledLeaf, SetsAll, SetsMore, SetsSome, StoresWord}
use Rattle.rowex_records.proofs.Records.{AreSized, each_mapped, filled_with, leaf_stored, own_sized, stored_more, stored_nothing, twice}
use Rattle.rowex_records.proofs.Claims.Making.{owns_append, owns_none, owns_one}

-- as many steps as words
stores_long : (r : Rec) (words : List ℕ) (i : ℕ) (acts : List Act) → InTurn (λ i. StoresWord r (i + 1) (get_or words i 0)) i acts → length acts ≡ i
stores_long r words zero acts is = ap length is
stores_long r words (suc i) acts (before, last, turn, one, is) =
    let long = stores_long r words i before turn in
    omega (arith, ap length is, length-append before last, long, ap length one)

-- the length of a leaf's key comes behind its value, and then the words of the key
pub length_next : (leaf : List ℕ × ℕ) (size : ℕ) → size ≡ length leaf.0 → size ≡ get_or (leaf_words leaf) 1 0
length_next leaf size is = is ∙ sym (leaf_words_parts leaf (leaf_words leaf) refl).size

pub key_next : (leaf : List ℕ × ℕ) (i word : ℕ) → i < 30 → word ≡ key_word leaf.0 i → word ≡ get_or (leaf_words leaf) (i + 1 + 1) 0
key_next leaf i word low is =
    let at : 2 + i ≡ i + 1 + 1 = omega arith in
    is ∙ (sym ((leaf_words_parts leaf (leaf_words leaf) refl).bytes i low) ∙ ap (λ i. get_or (leaf_words leaf) i 0) at)

module _ {G : Type 0} (table : TableView) (becomes : G → Event → G → Type 0) where
  -- the record stays claimed where a word of it is stored
  pub store_claimed : (r : Rec) (offset word : ℕ) (a b : SeatView × G) → Steps table becomes (Fill r offset word) a b → IsClaimed a.0.known r → IsClaimed b.0.known r
  store_claimed r offset word a b step (words, size, has) =
      let o : Owned = record { rec = r; holding = Held; words = set words (offset - 1) word } in
      let with : with_filled_word r offset word (record { rec = r; holding = Held; words = words }) ≡ o = rw (same_rec_refl r) refl in
      let own : b.0.known.own ≡ map (with_filled_word r offset word) a.0.known.own = ap (λ (z : Known). z.own) step.event.learned_is in (
        set words (offset - 1) word,
        length-set words (offset - 1) word ∙ size,
        subst (λ l. Contains l o) (sym own) (subst (Contains (map (with_filled_word r offset word) a.0.known.own)) with (mapped (with_filled_word r offset word) a.0.known.own (record { rec = r; holding = Held; words = words }) has)),
      )

  -- ---- word by word
  pub sets_none : (r : Rec) (words : List ℕ) (a : SeatView × G) → IsClaimed a.0.known r → SetsSome table becomes r words 0 a a
  sets_none r words a held = record {
    acts = [];
    in_turn = refl;
    does = owns_none table becomes a;
    later = same_later a.0.known a.0.known refl refl refl refl;
    held = held;
    own = sym (stored_nothing r words a.0.known.own);
  }

  pub sets_more : (r : Rec) (words : List ℕ) (i word : ℕ) (a m b : SeatView × G) → SetsSome table becomes r words i a m → word ≡ get_or words i 0 → Steps table becomes (Fill r (i + 1) word) m b →
      SetsSome table becomes r words (i + 1) a b
  sets_more r words i word a m b some is step =
      let own : b.0.known.own ≡ map (with_filled_word r (i + 1) word) m.0.known.own = ap (λ (z : Known). z.own) step.event.learned_is in
      record {
        acts = some.acts ++ Fill r (i + 1) word ∷ [];
        in_turn = in_turn_more (λ i. StoresWord r (i + 1) (get_or words i 0)) i some.acts (Fill r (i + 1) word ∷ []) some.in_turn (ap (λ w. Fill r (i + 1) w ∷ []) is);
        does = owns_append table becomes some.acts (Fill r (i + 1) word ∷ []) a m b some.does (owns_one table becomes (Fill r (i + 1) word) m b tt step);
        later = later_trans some.later (recalls_on table.layout silent m.0.known b.0.known (Fill r (i + 1) word) tt step.event);
        held = store_claimed r (i + 1) word m b step some.held;
        own = own ∙ (ap (map (with_filled_word r (i + 1) word)) some.own ∙
            (ap (λ w. map (with_filled_word r (i + 1) w) (map (stored_in r words i) a.0.known.own)) is ∙ twice (with_filled_word r (i + 1) (get_or words i 0)) (stored_in r words i) (stored_in r words (i + 1)) (stored_more r words i) a.0.known.own));
      }

  -- one more of those that come behind the first ones
  pub more_sets : (r : Rec) (words : List ℕ) (i count word : ℕ) (a m b : SeatView × G) → SetsMore table becomes r words i count a m → word ≡ get_or words (i + count) 0 → Steps table becomes (Fill r (i + count + 1) word) m b →
      SetsMore table becomes r words i (count + 1) a b
  more_sets r words i count word a m b (own, held, more) is step =
      let next : i + count + 1 ≡ i + (count + 1) = omega arith in (
        step.seat.0 ∙ own,
        store_claimed r (i + count + 1) word m b step held,
        λ c some. subst (λ z. SetsSome table becomes r words z c b) next (sets_more r words (i + count) word c m b (more c some) is step),
      )

  -- seven times eight, and the last word
  pub sets_eights : (r : Rec) (words : List ℕ) (word : ℕ) (a b₁ b₂ b₃ b₄ b₅ b₆ b₇ b : SeatView × G) → IsClaimed a.0.known r → SetsMore table becomes r words 0 8 a b₁ → SetsMore table becomes r words 8 8 b₁ b₂ →
      SetsMore table becomes r words 16 8 b₂ b₃ → SetsMore table becomes r words 24 8 b₃ b₄ → SetsMore table becomes r words 32 8 b₄ b₅ → SetsMore table becomes r words 40 8 b₅ b₆ → SetsMore table becomes r words 48 8 b₆ b₇ →
      word ≡ get_or words 56 0 → Steps table becomes (Fill r 57 word) b₇ b → SetsSome table becomes r words 57 a b
  sets_eights r words word a b₁ b₂ b₃ b₄ b₅ b₆ b₇ b held one two three four five six seven is step =
      sets_more r words 56 word a b₇ b (seven.2 a (six.2 a (five.2 a (four.2 a (three.2 a (two.2 a (one.2 a (sets_none r words a held)))))))) is step

  -- a pass that makes a step knows of each of its records as many words as it has
  runs_sized : (acts : List Act) (a b : SeatView × G) → 1 ≤ length acts → Runs table becomes acts a b → AreSized a.0.known.own
  runs_sized [] a b some run = absurd (omega arith)
  runs_sized (act ∷ acts) a b some run = own_sized run.1.event.core a.0.known run.1.event.lawful run.1.event.knows

  -- all words of a node
  pub sets_node : (n : ℕ) (words : List ℕ) (i : ℕ) (a b : SeatView × G) → length words ≡ word_count_of (a_node n) → i ≡ length words → SetsSome table becomes (a_node n) words i a b → SetsAll table becomes (a_node n) words a b
  sets_node n words i a b size all some = record {
    sized = size;
    acts = some.acts;
    in_turn = subst (λ m. InTurn (λ i. StoresWord (a_node n) (i + 1) (get_or words i 0)) m some.acts) (all ∙ size) some.in_turn;
    does = some.does;
    later = some.later;
    own = some.own ∙ (ap (λ m. map (stored_in (a_node n) words m) a.0.known.own) all ∙
        each_mapped (λ o. length o.words ≡ word_count_of o.rec) (stored_in (a_node n) words (length words)) (fill_with (a_node n) words) (filled_with (a_node n) words size) a.0.known.own
        (runs_sized some.acts a b (omega (arith, stores_long (a_node n) words i some.acts some.in_turn, all, size)) some.does.steps));
  }

  -- in a step for each
  pub sets_count : (r : Rec) (words : List ℕ) (i : ℕ) (a b : SeatView × G) → SetsSome table becomes r words i a b → b.0.known.steps ≡ a.0.known.steps + i
  sets_count r words i a b some = omega (arith, stores_long r words i some.acts some.in_turn, running.does_count table becomes owning some.acts a b some.does)

  -- and the record has these words then
  pub sets_give : (r : Rec) (words : List ℕ) (a b : SeatView × G) → SetsAll table becomes r words a b → IsClaimed a.0.known r → OwnsAs b.0.known r Held words
  sets_give r words a b sets (old, size, has) =
      let o : Owned = record { rec = r; holding = Held; words = words } in
      let with : fill_with r words (record { rec = r; holding = Held; words = old }) ≡ o = rw (same_rec_refl r) refl in
      subst (λ l. Contains l o) (sym sets.own) (subst (Contains (map (fill_with r words) a.0.known.own)) with (mapped (fill_with r words) a.0.known.own (record { rec = r; holding = Held; words = old }) has))

  -- the value of a leaf,
  pub sets_leaf_value : (n : ℕ) (leaf : List ℕ × ℕ) (a b : SeatView × G) → IsClaimed a.0.known (a_leaf n) → Steps table becomes (Fill (a_leaf n) 1 leaf.1) a b → SetsSome table becomes (a_leaf n) (leaf_words leaf) 1 a b
  sets_leaf_value n leaf a b held step =
      sets_more (a_leaf n) (leaf_words leaf) 0 leaf.1 a a b (sets_none (a_leaf n) (leaf_words leaf) a held) (sym (leaf_words_parts leaf (leaf_words leaf) refl).value) step

  -- and the word that comes next
  pub sets_leaf_next : (n i offset word : ℕ) (leaf : List ℕ × ℕ) (a m b : SeatView × G) → SetsSome table becomes (a_leaf n) (leaf_words leaf) (i + 1) a m → offset ≡ i + 2 → word ≡ get_or (leaf_words leaf) (i + 1) 0 →
      Steps table becomes (Fill (a_leaf n) offset word) m b → SetsSome table becomes (a_leaf n) (leaf_words leaf) (i + 1 + 1) a b
  sets_leaf_next n i offset word leaf a m b some at is step =
      let next : offset ≡ i + 1 + 1 = omega (arith, at) in
      sets_more (a_leaf n) (leaf_words leaf) (i + 1) word a m b some is (subst (λ o. Steps table becomes (Fill (a_leaf n) o word) m b) next step)

  -- a leaf has its words up to the end of its key
  pub sets_leaf : (n : ℕ) (leaf : List ℕ × ℕ) (a b : SeatView × G) → HasLeafWords leaf → SetsSome table becomes (a_leaf n) (leaf_words leaf) (words_for (length leaf.0) - 1) a b → IsClaimed a.0.known (a_leaf n) → IsFilledLeaf b.0.known n leaf
  unfolding IsPacked
  sets_leaf n leaf a b has sets (old, size, held) =
      let i : ℕ = words_for (length leaf.0) - 1 in
      let words = stored (leaf_words leaf) i old in
      let spells = leaf_stored leaf old has size in
      let o : Owned = record { rec = a_leaf n; holding = Held; words = words } in
      let with : stored_in (a_leaf n) (leaf_words leaf) i (record { rec = a_leaf n; holding = Held; words = old }) ≡ o = rw (same_rec_refl (a_leaf n)) refl in (
        words,
        (
          subst (λ l. Contains l o) (sym sets.own) (subst (Contains (map (stored_in (a_leaf n) (leaf_words leaf) i) a.0.known.own)) with
              (mapped (stored_in (a_leaf n) (leaf_words leaf) i) a.0.known.own (record { rec = a_leaf n; holding = Held; words = old }) held)),
          (leaf, has, spells),
        ),
        spells,
      )
