-- Where all leaf records are long, each has room for each key.
use Rattle.hot_index.proofs.Common.{◌≡◌, ℕ, ◌-◌, ◌<◌, ◌≤◌, List, length, a_leaf, ap, sym, ◌∙◌, arith, nat_tests, key_of, IsKey, Layout, leaf_size, Key}
use Rattle.record_words.specs.declared.TheConstants.{LEAF_WORDS}
use Rattle.record_words.specs.Layout.{uncommitted_in}
use Rattle.rowex_table.specs.Committed.{IsCommitted, count_from, record_kind}
use Rattle.rowex_records.specs.Claims.{AreCommittedUpTo}
use Rattle.record_words.specs.Leaf.{words_for}
use Rattle.hot_index.specs.Statements.{AllLongFullMeansNoneFree}

long_size : (layout : Layout) (q : ℕ) → layout.long_from ≡ 0 → leaf_size layout q ≡ LEAF_WORDS
long_size layout q none = let order = layout.classes_in_order in grind (arith, nat_tests)

has_room : (key : Key) → IsKey key → words_for (length key) ≤ LEAF_WORDS
has_room key is_key = omega (arith, is_key.short)

-- so what stands before a committed one is committed, too
long_from : (layout : Layout) (q : ℕ) → layout.long_from ≡ 0 → (record_kind layout (a_leaf q) ≡ 5) × (count_from layout (a_leaf q) ≡ layout.leaves - q)
long_from layout q none = let order = layout.classes_in_order in grind (arith, nat_tests)

long_upto : (layout : Layout) (bounds : List ℕ) (words q : ℕ) → layout.long_from ≡ 0 → q < layout.leaves → IsCommitted layout (uncommitted_in bounds) (a_leaf q) → AreCommittedUpTo layout bounds words q
long_upto layout bounds words q none low committed other upto room =
    let (kind, last) = long_from layout q none in
    let (same, more) = long_from layout other none in
    let bound : uncommitted_in bounds (record_kind layout (a_leaf other)) ≡ uncommitted_in bounds (record_kind layout (a_leaf q)) = ap (uncommitted_in bounds) (same ∙ sym kind) in
    omega (arith, committed, last, more, bound, upto, low)

pub all_long_full_means_none_free : AllLongFullMeansNoneFree
all_long_full_means_none_free layout call k j none is_key cause = λ q low committed.
    cause q low (let size = long_size layout q none in let room = has_room (key_of call) is_key in omega (arith, size, room)) (long_upto layout k.seat.bounds (words_for (length (key_of call))) q none low committed)
