-- One line more.
use Rattle.hot_scripts.proofs.Common.{◌≡◌, ◌++◌, ℕ, List, sym, ◌∙◌, ap, append_assoc, flat_map, All-tail, IsKey}
use Rattle.hot_scripts.specs.Meaning.{pair_line}
use Rattle.hot_scripts.proofs.answer.push_scan.Goals as goal

one_more : (text text_after page kept page_after line rest all : List ℕ) → text_after ++ kept ≡ text ++ page → page_after ≡ kept ++ line
    → text ++ page ++ (line ++ rest) ≡ all → text_after ++ page_after ++ rest ≡ all
one_more text text_after page kept page_after line rest all same is whole =
    ap (λ z. text_after ++ z ++ rest) is ∙ (ap (λ z. z ++ rest) (sym (append_assoc text_after kept line)) ∙ (ap (λ z. z ++ line ++ rest) same
    ∙ (append_assoc (text ++ page) line rest ∙ whole)))

pub loop-key-preserved : goal.loop-key-preserved
loop-key-preserved c = let is = c.in-Some.ensures.steps in record {
  lines = one_more c.loop-key.text.items c.make_room.new.text.items c.loop-key.page c.make_room.new.page c.put_pair.new.page (pair_line (c.in-Some.key.now, c.in-Some.value))
      (flat_map pair_line c.next.new.self) _ c.in_ok-make_room.ensures.kept c.put_pair.ensures (rw is at c.loop-key.invariant.lines);
  keys = All-tail (λ pair. IsKey pair.0) (c.in-Some.key.now, c.in-Some.value) c.next.new.self (rw is at c.loop-key.invariant.keys);
}
