-- The bytes of the last key are the last ones.
use Rattle.std.proofs.Common.{◌∙◌, arith, subst, sym}
use Rattle.key_bits.specs.Key.{IsKey}
use Rattle.packed_pairs.specs.Last.{IsLastKey}
use Rattle.packed_pairs.proofs.Last.{at_end_of, end_of}
use Rattle.packed_pairs.proofs.pairs.Pairs.last_key.Goals as goal

pub overflow_sub-len : goal.overflow_sub-len
overflow_sub-len c =
    let low = (at_end_of c.self.inside.heads _ _ _ c.self.inside.bytes c.self.invariant c.as_slice.ensures c.in_ok-head.ensures.cases.0).0.low in
    let len = c.len.ensures in
    omega (arith, low, len)

pub key_from_bytes-requires : goal.key_from_bytes-requires
key_from_bytes-requires c =
    let last = (at_end_of c.self.inside.heads _ _ _ c.self.inside.bytes c.self.invariant c.as_slice.ensures c.in_ok-head.ensures.cases.0).0 in
    subst IsKey (sym (end_of _ _ _ _ _ c.split_at.ensures.back c.as_slice-2.ensures (c.len.ensures))) last.is_key

pub returns : goal.returns
returns c =
    let last = at_end_of c.self.inside.heads _ _ _ c.self.inside.bytes c.self.invariant c.as_slice.ensures c.in_ok-head.ensures.cases.0 in
    let key = end_of _ _ _ _ _ c.split_at.ensures.back c.as_slice-2.ensures (c.len.ensures) in
    subst (λ pairs. IsLastKey pairs c.key_from_bytes.result) (sym last.1 ∙ c.self.view_is) (subst (IsLastKey _) (sym (c.key_from_bytes.ensures ∙ key)) last.0.last)
