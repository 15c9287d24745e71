-- What a lawful core says of a record to which a pass was led.
use Rattle.rowex_reading.proofs.Common.{◌≡◌, ◌≢◌, inl, inr, ◌⊎◌, ℕ, suc, ◌+◌, ◌-◌, ◌<◌, ◌≤◌, ◌++◌, get_or, Option, refl, ap, sym, ◌∙◌, subst, arith, le_trans, slice_get, get_or-append-add, Entry, head_of, Layout, HasEntryWord, entry_word, head_words, entry_words, length-head_words, Tree, Rec, a_node, Stands, IsReach, rec_of, Fate, Free, Held, InTree, Unlinked, Marked, pin_version, reach_later, Known, Core, IsLawful, IsPastFilling, HasRecord, FitsIn, IsFixedOffset, Recalls, IsPinnedSince, recalls, IsPacked, HasWordAt, record_word, EntryStoodSince, view}
use Rattle.record_words.proofs.Entries.{entry_words_at}
use Rattle.versions.specs.Core.{Ready}
use Rattle.rowex_core.proofs.Statements.Promises.{in_reach}
use Rattle.rowex_reading.specs.Possible.{IsPossible}
use Rattle.rowex_reading.specs.Seen.{seen, IsLedTo}
use Rattle.rowex_reading.proofs.Seen.{seen_within, stands_in}

whole : (f : Fate) → f ≢ Free → ((o : ℕ) → f ≢ Held o) → IsPastFilling f
whole Free a b = absurd (a refl)
whole (Held q) a b = absurd (b q refl)
whole (Ready q) a b = tt
whole (InTree s) a b = tt
whole (Unlinked s l q) a b = tt
whole (Marked s l e) a b = tt

module _ (c : Core) (k : Known) (lawful : IsLawful c) (known : Recalls c k) (m : ℕ) (pinned : IsPinnedSince k m) where
  -- the pass's reach
  pub reach : IsReach (view c) m
  reach = reach_later (view c) pinned.0.version m pinned.2 (lawful.core.state.reach k.pass pinned.0.version (ap pin_version (known.pin ∙ pinned.1)))

  -- a record that stood had the words that it has now, but for those that say nothing
  pub word_stays : (n : ℕ) (r : Rec) (u : Tree) → m ≤ n → n ≤ c.past.now → Stands c.past n r u → (offset : ℕ) → IsFixedOffset r offset → HasWordAt u offset (record_word c r offset)
  word_stays n r u lo hi st = (in_reach c lawful k.pass pinned.0 (known.pin ∙ pinned.1) n r u (le_trans pinned.2 lo) hi st).2

  module _ (e : Entry) (led : EntryStoodSince (seen c k) m e) where
    fate_is : (c.fate (rec_of e) ≢ Free) × ((o : ℕ) → c.fate (rec_of e) ≢ Held o)
    fate_is =
        let h = in_reach c lawful k.pass pinned.0 (known.pin ∙ pinned.1) led.0 (rec_of e) led.1 (le_trans pinned.2 led.2) (le_trans led.3 (seen_within lawful known)) (stands_in c k led.4) in
        (h.0, h.1)

    -- it is one of the table
    pub in_table : HasRecord c.layout (rec_of e)
    in_table = go (lawful.records.used (rec_of e))
      where
        go : (c.fate (rec_of e) ≡ Free) ⊎ HasRecord c.layout (rec_of e) → HasRecord c.layout (rec_of e)
        go (inl h) = absurd (fate_is.0 h)
        go (inr h) = h

    -- and its words spell a value
    pub is_packed : IsPacked (rec_of e) (c.words (rec_of e))
    is_packed = lawful.records.packed (rec_of e) (whole (c.fate (rec_of e)) fate_is.0 fate_is.1)

    -- and its key has room there
    pub fits_in : FitsIn c.layout (rec_of e) (c.words (rec_of e))
    fits_in = lawful.records.fits (rec_of e) (whole (c.fate (rec_of e)) fate_is.0 fate_is.1)

pub led_in_table : (layout : Layout) (k : Known) (m : ℕ) (e : Entry) → IsPossible layout k → IsLedTo k m e → HasRecord layout (rec_of e)
led_in_table layout k m e x led = subst (λ (z : Layout). HasRecord z (rec_of e)) x.layout_is (let h = recalls x.core k x.knows in in_table x.core k x.lawful h m led.0 e (led.1 x.core x.lawful h))

-- a word other than the state
pub later_word : (c : Core) (r : Rec) (offset : ℕ) → record_word c r (offset + 1) ≡ get_or (c.words r) offset 0
later_word c r offset = let e : offset + 1 ≡ suc offset = omega arith in ap (record_word c r) e

-- an entry word of a node is that of an entry, or of none
pub entry_spelled : (c : Core) (n i : ℕ) → IsPacked (a_node n) (c.words (a_node n)) → i < 32 → (x : Option Entry) × HasEntryWord x × (entry_word x ≡ record_word c (a_node n) (26 + i))
unfolding IsPacked
entry_spelled c n i (v, has, same) small = (
  slice_get v.entries i,
  has.entries.each i,
  sym (entry_words_at v.entries (entry_words v.entries) refl i small) ∙
      (sym (get_or-append-add (head_words (head_of v)) (entry_words v.entries) i 0) ∙
      (ap (λ z. get_or (head_words (head_of v) ++ entry_words v.entries) (z + i) 0) (length-head_words v) ∙
      (ap (λ z. get_or z (25 + i) 0) same ∙ ap (λ z. get_or (c.words (a_node n)) z 0) (let e : 25 + i ≡ 26 + i - 1 = omega arith in e) ∙ later))),
)
  where
    later : get_or (c.words (a_node n)) (26 + i - 1) 0 ≡ record_word c (a_node n) (26 + i)
    later = let e : 26 + i - 1 + 1 ≡ 26 + i = omega arith in sym (later_word c (a_node n) (26 + i - 1)) ∙ ap (record_word c (a_node n)) e
