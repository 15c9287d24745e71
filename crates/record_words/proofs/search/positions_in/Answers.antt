-- By the kind: quarters of words, or the positions that near lanes spell.
use Rattle.record_words.proofs.Common.{ℕ, ◌≡◌, ◌≢◌, ◌*◌, ◌/◌, ◌%◌, ◌^◌, ◌<◌, ◌++◌, ◌∙◌, List, ap, arith, get_or, replicate, sym, get_or-chunk, IsLawfulNode, NodeView, head_of}
use Rattle.record_words.specs.HeadParts.{AreNumbersOf}
use Rattle.record_words.specs.Kinds.{first_byte, kind_of}
use Rattle.record_words.specs.Node.{head_words}
use Rattle.record_words.specs.declared.kind.HeadKind.TheVariants.{Middle, Narrow, Wide}
use Rattle.record_words.proofs.Lanes.{place_lanes_read, widened}
use Rattle.record_words.proofs.search.NearHeads.{middle_lanes, narrow_lanes}
use Rattle.record_words.proofs.OfKinds.{middle-not-wide, narrow-not-wide}
use Rattle.record_words.proofs.HeadParts.{wide_position}
use Rattle.record_words.proofs.search.positions_in.Goals as goal
use Rattle.record_words.proofs.search.positions_in.Goals.{Joined-read_numbers, in-Wide, in-Narrow, in-Middle}

module _ (c : Joined-read_numbers) (node : NodeView) (lawful : IsLawfulNode node) (same : head_words (head_of node) ≡ c.args.words.now) where
  word : (n j : ℕ) → j < n → get_or c.args.words.now j 0 ≡ get_or (head_words (head_of node)) j 0
  word n j low = ap (λ ws. get_or ws j 0) (sym same)

  told : AreNumbersOf c.read_numbers.result node
  told = c.read_numbers.ensures.node node lawful (sym (word 1 0 (omega arith)))

  first_told : AreNumbersOf c.read_numbers-first.result node
  first_told = c.read_numbers-first.ensures.node node lawful (sym (word 1 0 (omega arith)))

  first : kind_of node.columns ≢ Wide → c.read_numbers-first.result.first_byte ≡ first_byte node.columns
  first other = first_told.first_is (λ wide. other (sym first_told.kind_is ∙ wide))

pub returns : goal.returns
returns c = λ node lawful same. elim c.match-read_numbers.branch [
  | in-Wide w ↦
      let words = c.args.words.now in
      let kinded : kind_of node.columns ≡ Wide = sym (told c node lawful same).kind_is ∙ w.in-Wide.is in
      w.result-is ∙ place_lanes_read node lawful w.split_into_quarters.result w.split_into_quarters.ensures.whole
      (λ i low. w.split_into_quarters.ensures.each i low ∙ (ap (λ v. v / 2 ^ (16 * (i % 4)) % 2 ^ 16) (get_or-chunk 1 8 words (i / 4) 0 (omega (arith, low)))
      ∙ wide_position node lawful words same kinded i low))
  | in-Narrow w ↦
      let kinded : kind_of node.columns ≡ Narrow = sym (told c node lawful same).kind_is ∙ w.in-Narrow.is in
      let lanes = narrow_lanes node lawful kinded c.args.words.now (word c node lawful same 7) _ _ _ w.bytes_of_words.ensures.words w.bytes_of_words-in-Narrow.ensures.words
      (first c node lawful same (narrow-not-wide (kind_of node.columns) kinded)) in
      w.result-is ∙ (w.widen.ensures ∙ (ap (λ (xs : List ℕ). xs ++ replicate 16 65535) (w.near_positions.ensures node.columns lanes) ∙ widened node.columns lanes.has.few))
  | in-Middle w ↦
      let kinded : kind_of node.columns ≡ Middle = sym (told c node lawful same).kind_is ∙ w.in-Middle.is in
      let lanes = middle_lanes node lawful kinded c.args.words.now (word c node lawful same 13) _ _ _ w.bytes_of_words-in-Middle.ensures.words w.bytes_of_words-in-Middle-2.ensures.words
      (first c node lawful same (middle-not-wide (kind_of node.columns) kinded)) in
      w.result-is ∙ (w.widen-in-Middle.ensures ∙ (ap (λ (xs : List ℕ). xs ++ replicate 16 65535) (w.near_positions-in-Middle.ensures node.columns lanes) ∙ widened node.columns lanes.has.few))
]
