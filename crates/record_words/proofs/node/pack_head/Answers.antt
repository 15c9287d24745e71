-- They are the first words of a node with this head.
use Rattle.record_words.proofs.Common.{List, ℕ, ◌≡◌, ◌∙◌, ap, arith, length, refl, sym, take, length-take-le, take_at, HeadView}
use Rattle.record_words.proofs.HeadParts.HeadsByKind.{head_parts}
use Rattle.record_words.specs.Node.{head_words}
use Rattle.record_words.proofs.node.pack_head.Goals as goal

-- the words of the head are the first
few : (words : List ℕ) → length words ≡ 57 → 25 ≡ length (take 25 words)
few words whole = sym (length-take-le 25 words (omega (arith, whole)))

pub slice_bounds-copy_from_slice-end-2 : goal.slice_bounds-copy_from_slice-end-2
slice_bounds-copy_from_slice-end-2 c = few c.put_head.new.words c.put_head.array_long

pub copy_from_slice-requires : goal.copy_from_slice-requires
copy_from_slice-requires c = few c.put_head.new.words c.put_head.array_long

pub returns : goal.returns
returns c =
    let h : HeadView = c.args.head.now in
    let long : length (head_words h) ≡ 25 = (head_parts (length h.rows) h.height h.columns h.rows (head_words h) refl).whole in
    c.copy_from_slice.ensures.after ∙ (ap (take 25) c.put_head.ensures ∙ take_at (head_words h) _ 25 long)
