-- By the kind: halves of words, or lanes of fewer bits that are moved up.
use Rattle.record_words.proofs.Common.{ℕ, ◌≡◌, ◌-◌, ◌*◌, ◌/◌, ◌%◌, ◌^◌, ◌<◌, ◌∙◌, ap, arith, drop, get_or, length, map, replicate, sym, w8, w16, take_all, get_or-chunk, length-chunk, same_count, IsLawfulNode, NodeView, head_of}
use Rattle.std.proofs.Common.{length-drop}
use lib.Lanes.{zip2}
use Rattle.record_words.specs.HeadParts.{AreNumbersOf}
use Rattle.record_words.specs.Kinds.{kind_of}
use Rattle.record_words.specs.Node.{head_words}
use Rattle.record_words.specs.Packed.{row_lanes}
use Rattle.record_words.specs.declared.kind.HeadKind.TheVariants.{Middle, Narrow, Wide}
use Rattle.record_words.proofs.Lawful.{row-lt}
use Rattle.record_words.proofs.search.NearHeads.{narrow_rows, near_rows}
use Rattle.record_words.proofs.near.NearKinds.{middle_kind}
use Rattle.record_words.proofs.search.NearRows.{lanes_long, moved_up, near_rows_read, row_by_lane, up}
use Rattle.record_words.proofs.OfKinds.{middle_few, narrow_few}
use Rattle.record_words.proofs.search.rows_in.Goals as goal
use Rattle.record_words.proofs.search.rows_in.Goals.{Joined-read_numbers, in-Wide, in-Narrow, in-Middle}

module _ (c : Joined-read_numbers) (node : NodeView) (lawful : IsLawfulNode node) (same : head_words (head_of node) ≡ c.args.words.now) where
  word : (n j : ℕ) → j < n → get_or c.args.words.now j 0 ≡ get_or (head_words (head_of node)) j 0
  word n j low = ap (λ ws. get_or ws j 0) (sym same)

  told : AreNumbersOf c.read_numbers.result node
  told = c.read_numbers.ensures.node node lawful (sym (word 1 0 (omega arith)))

  counted : c.read_numbers-count.result.count ≡ length node.entries
  counted = (c.read_numbers-count.ensures.node node lawful (sym (word 1 0 (omega arith)))).count_is

  inside : (i : ℕ) → i < length node.rows → i < 32
  inside i low = omega (arith, low, same_count node lawful, lawful.room)

pub returns : goal.returns
returns c = λ node lawful same. elim c.match-read_numbers.branch [
  | in-Wide w ↦
      let words = c.args.words.now in
      let kinded : kind_of node.columns ≡ Wide = sym (told c node lawful same).kind_is ∙ w.in-Wide.is in
      w.result-is ∙ w.wide_rows_in.ensures node lawful kinded (ap (drop 9) same ∙ sym (take_all (length words - 9) (drop 9 words) (omega (arith, length-drop 9 words))))
  | in-Narrow w ↦
      let words = c.args.words.now in
      let kinded : kind_of node.columns ≡ Narrow = sym (told c node lawful same).kind_is ∙ w.in-Narrow.is in
      let bytes : w.bytes_in.result ≡ row_lanes 24 node.rows =
      w.bytes_in.ensures ∙ narrow_rows node lawful kinded words (word c node lawful same 7) _ (length-chunk 3 4 words (omega (arith, c.requires.long))) (λ k low. get_or-chunk 3 4 words k 0 low) in
      w.result-is ∙ near_rows_read node lawful w.with_unused_from.result (zip2 up (map (λ a. a) w.bytes_in.result) (replicate 32 24)) c.read_numbers-count.result.count
      w.with_unused_from.ensures.whole (counted c node lawful same) w.with_unused_from.ensures.used w.with_unused_from.ensures.unused
      (λ i low. moved_up 24 w.bytes_in.result i (get_or node.rows i 0) (lanes_long node lawful w8 (narrow_few node.columns kinded) (omega arith) w.bytes_in.result bytes) (inside c node lawful same i low)
      (row_by_lane node lawful w8 (narrow_few node.columns kinded) (omega arith) w.bytes_in.result bytes i low) (row-lt node lawful i))
  | in-Middle w ↦
      let words = c.args.words.now in
      let kinded : kind_of node.columns ≡ Middle = sym (told c node lawful same).kind_is ∙ w.in-Middle.is in
      let halves : w.split_into_quarters.result ≡ row_lanes 16 node.rows =
      near_rows node lawful Middle middle_kind kinded words (word c node lawful same 13) w.split_into_quarters.result w.split_into_quarters.ensures.whole
      (λ i low. w.split_into_quarters.ensures.each i low ∙ ap (λ v. v / 2 ^ (16 * (i % 4)) % 2 ^ 16) (get_or-chunk 5 8 words (i / 4) 0 (omega (arith, low)))) in
      w.result-is ∙ near_rows_read node lawful w.with_unused_from-in-Middle.result (zip2 up (map (λ a. a) w.split_into_quarters.result) (replicate 32 16)) c.read_numbers-count.result.count
      w.with_unused_from-in-Middle.ensures.whole (counted c node lawful same) w.with_unused_from-in-Middle.ensures.used w.with_unused_from-in-Middle.ensures.unused
      (λ i low. moved_up 16 w.split_into_quarters.result i (get_or node.rows i 0) (lanes_long node lawful w16 (middle_few node.columns kinded) (omega arith) w.split_into_quarters.result halves) (inside c node lawful same i low)
      (row_by_lane node lawful w16 (middle_few node.columns kinded) (omega arith) w.split_into_quarters.result halves i low) (row-lt node lawful i))
]
