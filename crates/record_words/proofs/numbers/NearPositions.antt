-- The position of a near column, read of the index of its byte and of its mask.
use Rattle.record_words.proofs.Common.{ℕ, ◌≡◌, ◌≢◌, ◌+◌, ◌-◌, ◌/◌, ◌<◌, List, arith, get_or, length, sym, subst, ◌∙◌, IsLawfulNode, NodeView}
use Rattle.record_words.specs.HeadParts.{AreNumbersOf}
use Rattle.record_words.specs.Kinds.{bit_mask, first_byte, kind_of}
use Rattle.record_words.specs.declared.kind.HeadKind.TheVariants.{Wide}
use Rattle.record_words.specs.declared.numbers.HeadNumbers.{HeadNumbers}
use Rattle.record_words.proofs.near.NearLanes.{first_lowest, mask_some}
use Rattle.record_words.proofs.OfKinds.{KeepsAllButOneEntry, OfKind, is_middle, is_narrow, is_wide, of_kind}

-- each column of a near head is near
pub near_one : (columns : List ℕ) → kind_of columns ≢ Wide → (i : ℕ) → i < length columns → KeepsAllButOneEntry (first_byte columns) (get_or columns i 0)
near_one columns other i used = go (of_kind columns)
  where
    go : OfKind columns → KeepsAllButOneEntry (first_byte columns) (get_or columns i 0)
    go (is_wide e) = absurd (other e)
    go (is_narrow e near) = near.each i used
    go (is_middle e near) = near.each i used

-- a number that is the position for each index and mask is that of column j
pub near_is : (node : NodeView) → IsLawfulNode node → (numbers : HeadNumbers) → AreNumbersOf numbers node → numbers.kind ≢ Wide → (j position index mask : ℕ) → j < length node.columns →
    ((p : ℕ) → bit_mask p ≡ mask → 0 < mask → p / 9 ≡ numbers.first_byte + index → position ≡ p) →
    index ≡ get_or node.columns j 0 / 9 - first_byte node.columns → mask ≡ bit_mask (get_or node.columns j 0) → position ≡ get_or node.columns j 0
near_is node lawful numbers told near j position index mask used read index_is mask_is =
    let its = near_one node.columns (λ wide. near (told.kind_is ∙ wide)) j used in
    let from = first_lowest node.columns j lawful.positions.rise used in
    let first = told.first_is near in
    read (get_or node.columns j 0) (sym mask_is) (subst (λ m. 0 < m) (sym mask_is) (mask_some (get_or node.columns j 0) its.a_bit)) (omega (arith, first, index_is, from))
