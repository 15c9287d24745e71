-- The next key has a byte more, or one raised; of 255s alone there is none.
use Rattle.std.proofs.Common.{◌≡◌, ◌≤◌, ℕ, List, length, subst}
use Rattle.key_bits.specs.declared.TheConstants.{MAX_BYTES}
use Rattle.key_ranges.proofs.Ranges.Nexts.{cut, cut_more, next_longer, next_raised, no_next}
use Rattle.key_ranges.proofs.next_key.Goals as goal

full : (bytes key : List ℕ) → bytes ≡ key → MAX_BYTES ≤ length bytes → MAX_BYTES ≤ length key
full bytes key same le = subst (λ (l : List ℕ). MAX_BYTES ≤ length l) same le

pub returns-then-rest-lt-MAX_BYTES-clause-some : goal.returns-then-rest-lt-MAX_BYTES-clause-some
returns-then-rest-lt-MAX_BYTES-clause-some c =
    next_longer c.args.key.now c.as_bytes-rest.result.now c.key_with_last_byte.result c.as_bytes-rest.ensures.bytes c.as_bytes-rest.ensures.key c.if-rest-lt-MAX_BYTES.true c.key_with_last_byte.ensures

pub key_with_last_byte-requires-then-last-lt255-clause-key : goal.key_with_last_byte-requires-then-last-lt255-clause-key
key_with_last_byte-requires-then-last-lt255-clause-key c = (cut _ _ _ _ _ c.as_bytes-rest.ensures.key c.loop-last.invariant.1 c.in-Some.ensures.cases.0).is_key

pub returns-then-last-lt255-clause-some : goal.returns-then-last-lt255-clause-some
returns-then-last-lt255-clause-some c = next_raised _ _ _ _ _ c.as_bytes-rest.ensures.key (full _ _ c.as_bytes-rest.ensures.bytes c.if-rest-lt-MAX_BYTES.false) (cut _ _ _ _ _ c.as_bytes-rest.ensures.key c.loop-last.invariant.1 c.in-Some.ensures.cases.0) c.if-last-lt255.true c.key_with_last_byte-then-last-lt255.ensures

pub loop-last-preserved : goal.loop-last-preserved
loop-last-preserved c = cut_more _ _ _ _ (cut _ _ _ _ _ c.as_bytes-rest.ensures.key c.loop-last.invariant.1 c.in-Some.ensures.cases.0) c.if-last-lt255.false

pub returns-clause-none : goal.returns-clause-none
returns-clause-none c = λ none. no_next _ _ _ c.as_bytes-rest.ensures.key (full _ _ c.as_bytes-rest.ensures.bytes c.if-rest-lt-MAX_BYTES.false) c.loop-last.invariant.1 c.in_default.ensures.cases
