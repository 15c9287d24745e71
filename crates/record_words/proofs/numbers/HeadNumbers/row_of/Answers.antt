-- A row is a part of its word, and past the last entry there is none.
use Rattle.record_words.proofs.Common.{ℕ, ◌≡◌, ◌+◌, ◌*◌, ◌/◌, ◌%◌, ◌^◌, ◌<◌, ◌-◌, ◌∙◌, ap, arith, bit_and, get_or, length, refl, sym, get_or_default, get_or_past, and_mask, same_count, IsLawfulNode, NodeView, head_of}
use Rattle.record_words.proofs.Lawful.{row-lt}
use Rattle.record_words.proofs.near.NearKinds.{IsNearKind, middle_kind, narrow_kind, row_bits}
use Rattle.record_words.proofs.HeadParts.{near_row_is, wide_row}
use Rattle.record_words.specs.HeadParts.{AreNumbersOf}
use Rattle.record_words.specs.Kinds.{rows_a_word, rows_from}
use Rattle.record_words.specs.Node.{head_words}
use Rattle.record_words.specs.declared.kind.HeadKind.{HeadKind}
use Rattle.record_words.specs.declared.kind.HeadKind.TheVariants.{Middle, Narrow, Wide}
use Rattle.record_words.specs.declared.numbers.HeadNumbers.{HeadNumbers}
use Rattle.record_words.proofs.numbers.HeadNumbers.row_of.Goals as goal

pub returns-then-slot-self : goal.returns-then-slot-self
returns-then-slot-self c = λ node lawful told same.
    sym (get_or_past node.rows c.args.slot 4294967295 (omega (arith, c.if-slot-self.true, told.count_is, same_count node lawful)))

-- an entry's row, whose word is that of a head
module _ (node : NodeView) (lawful : IsLawfulNode node) (numbers : HeadNumbers) (told : AreNumbersOf numbers node) (slot word : ℕ) (before : slot < numbers.count)
    (same : get_or (head_words (head_of node)) (rows_from numbers.kind + slot / rows_a_word numbers.kind) 0 ≡ word) where
  inside : slot < length node.rows
  inside = omega (arith, before, told.count_is, same_count node lawful)

  at : get_or node.rows slot 0 ≡ get_or node.rows slot 4294967295
  at = sym (get_or_default node.rows slot 4294967295 0 inside)

  word_in : (kind : HeadKind) → numbers.kind ≡ kind → get_or (head_words (head_of node)) (rows_from kind + slot / rows_a_word kind) 0 ≡ word
  word_in kind is = ap (λ k. get_or (head_words (head_of node)) (rows_from k + slot / rows_a_word k) 0) (sym is) ∙ same

  near_one : (kind : HeadKind) → IsNearKind kind → numbers.kind ≡ kind →
      bit_and (word / 2 ^ (row_bits kind * (slot % rows_a_word kind))) (2 ^ row_bits kind - 1) * 2 ^ (32 - row_bits kind) % 2 ^ 32 ≡ get_or node.rows slot 4294967295
  near_one kind near is =
      let w : ℕ = row_bits kind in
      let row : word / 2 ^ (w * (slot % rows_a_word kind)) % 2 ^ w * 2 ^ (32 - w) ≡ get_or node.rows slot 0 =
      ap (λ x. x / 2 ^ (w * (slot % rows_a_word kind)) % 2 ^ w * 2 ^ (32 - w)) (sym (word_in kind is)) ∙ near_row_is node lawful (head_words (head_of node)) refl kind near (sym told.kind_is ∙ is) slot inside in
      ap (λ x. x * 2 ^ (32 - w) % 2 ^ 32) (and_mask (word / 2 ^ (w * (slot % rows_a_word kind))) w) ∙ (ap (λ x. x % 2 ^ 32) row ∙ omega (arith, at, row-lt node lawful slot))

  wide : numbers.kind ≡ Wide → bit_and (word / 2 ^ (32 * (slot % 2))) 4294967295 ≡ get_or node.rows slot 4294967295
  wide is =
      and_mask (word / 2 ^ (32 * (slot % 2))) 32 ∙ (ap (λ w. w / 2 ^ (32 * (slot % 2)) % 2 ^ 32) (sym (word_in Wide is))
      ∙ wide_row node lawful (head_words (head_of node)) refl (sym told.kind_is ∙ is) slot (omega (arith, inside, same_count node lawful, lawful.room)))

pub returns-in-Wide : goal.returns-in-Wide
returns-in-Wide c = λ node lawful told same. wide node lawful c.args.self told c.args.slot c.args.word (omega (arith, c.if-slot-self.false)) same c.in-Wide.is

pub returns-in-Narrow : goal.returns-in-Narrow
returns-in-Narrow c = λ node lawful told same. near_one node lawful c.args.self told c.args.slot c.args.word (omega (arith, c.if-slot-self.false)) same Narrow narrow_kind c.in-Narrow.is

pub returns-in-Middle : goal.returns-in-Middle
returns-in-Middle c = λ node lawful told same. near_one node lawful c.args.self told c.args.slot c.args.word (omega (arith, c.if-slot-self.false)) same Middle middle_kind c.in-Middle.is
