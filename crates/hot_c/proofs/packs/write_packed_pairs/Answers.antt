-- All heads and all bytes are copied.
use Rattle.hot_c.proofs.Common.{◌≡◌, ℕ, List, ◌++◌, length, drop, refl, ap, ◌∙◌, length-map, packed_head}
use Rattle.hot_c.proofs.packs.write_packed_pairs.Goals as goal

laid : {A : Type 0} (new part old goal : List A) (n : ℕ) → new ≡ part → part ≡ goal → length goal ≡ n → new ++ drop (length part) old ≡ goal ++ drop n old
laid new part old goal n copied same many = ap (λ l. l ++ drop (length part) old) (copied ∙ same) ∙ ap (λ m. goal ++ drop m old) (ap length same ∙ many)

pub returns : goal.returns
returns c = record {
  bytes = laid _ _ _ _ _ c.copy_from_slice-2.ensures.after c.parts.ensures.keys refl;
  heads = laid _ _ _ _ _ c.copy_from_slice.ensures.after c.parts.ensures.heads (length-map c.args.pairs.now packed_head);
}
