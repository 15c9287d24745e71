-- The number has the eight bytes that it was made of.
use Rattle.std.proofs.Common.{List, [], ap, arith, drop, get_or, suc, sym, take, zero, ℕ, ◌*◌, ◌+◌, ◌-◌, ◌<◌, ◌∙◌, ◌∷◌, ◌≡◌}
use Rattle.std.proofs.lemmas.List.{get_or-drop, length-drop, length-take-le}
use Rattle.std.proofs.lemmas.Nat.{be_bytes_8}
use Rattle.key_bits.proofs.eight_bytes_at.Goals as goal

-- the first n of bytes are bytes
bytes_taken : (n : ℕ) (xs : List ℕ) → ((i : ℕ) → get_or xs i 0 < 256) → (i : ℕ) → get_or (take n xs) i 0 < 256
bytes_taken zero xs small i = omega arith
bytes_taken (suc n) [] small i = omega arith
bytes_taken (suc n) (x ∷ xs) small zero = small zero
bytes_taken (suc n) (x ∷ xs) small (suc i) = bytes_taken n xs (λ k. small (suc k)) i

eight : (j : ℕ) → 8 * j + 8 - 8 * j ≡ 8
eight j = omega arith

pub copy_from_slice-requires : goal.copy_from_slice-requires
copy_from_slice-requires c = rw (eight c.args.j) (sym (length-take-le 8 (drop (8 * c.args.j) c.args.bytes.now) (omega (arith, length-drop (8 * c.args.j) c.args.bytes.now, c.requires))))

pub returns : goal.returns
returns c =
    let part : c.copy_from_slice.new.self ≡ take 8 (drop (8 * c.args.j) c.args.bytes.now) = c.copy_from_slice.ensures.after ∙ ap (λ k. take k (drop (8 * c.args.j) c.args.bytes.now)) (eight c.args.j) in
    be_bytes_8 c.copy_from_slice.new.self c.from_be_bytes.result c.copy_from_slice.ensures.len
    (rw part (bytes_taken 8 (drop (8 * c.args.j) c.args.bytes.now) (λ i. rw (get_or-drop (8 * c.args.j) c.args.bytes.now i 0) (c.type_inv.bytes (8 * c.args.j + i)).fits)))
    c.from_be_bytes.ensures
    ∙ part
