-- The bits in the bytes so far are told, from the first column's on.
use Rattle.partial_keys.proofs.Common.{ℕ, ◌≡◌, ◌+◌, ◌*◌, ◌/◌, ◌<◌, ◌&&◌, eqb, get_or, length, nat_lt, bit_of}
use Rattle.partial_keys.proofs.gathering.extract_by_windows.Given as goal

abbrev pub invariant-loop-part : goal.invariant-loop-part
invariant-loop-part l = (length l.missing ≡ 32) × ((i : ℕ) → i < 32 → eqb (get_or l.missing i 0) 0 ≡ bit_of l.key (get_or l.lanes i 0) && nat_lt (get_or l.lanes i 0 / 9) (l.first + 16 * l.part))
