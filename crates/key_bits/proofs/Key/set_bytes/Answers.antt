-- The bytes stand at the front of the places, and zeros behind them.
use Rattle.std.proofs.Common.{ap, arith, length, refl, take, ◌∙◌, ◌≡◌}
use Rattle.std.proofs.lemmas.Bool.{false≢true}
use Rattle.key_bits.proofs.Holding.{front_of, holds, key_of}
use Rattle.key_bits.specs.Key.{HoldsKey, with_zeros}
use Rattle.key_bits.proofs.Key.set_bytes.Goals as goal
use Rattle.key_bits.proofs.Key.set_bytes.Goals.{After-write_key_bytes}

placed : (c : After-write_key_bytes) → c.write_key_bytes.new.array ≡ with_zeros c.args.bytes.now
placed c = c.write_key_bytes.ensures

held : (c : After-write_key_bytes) → HoldsKey c.write_key_bytes.new.array (length c.args.bytes.now)
held c = holds c.args.bytes.now c.write_key_bytes.new.array (key_of c.args.bytes.now c.if-bytes-gt-MAX_BYTES.false (λ i. (c.type_inv.bytes i).fits)) (placed c)

pub invariant_of-self : goal.invariant_of-self
invariant_of-self c = held c

pub returns-then-bytes-gt-MAX_BYTES-clause-fits : goal.returns-then-bytes-gt-MAX_BYTES-clause-fits
returns-then-bytes-gt-MAX_BYTES-clause-fits c = (λ t. absurd (false≢true t), λ few. absurd (omega (arith, few, c.if-bytes-gt-MAX_BYTES.true)))

pub returns-then-bytes-gt-MAX_BYTES-clause-ok : goal.returns-then-bytes-gt-MAX_BYTES-clause-ok
returns-then-bytes-gt-MAX_BYTES-clause-ok c = λ t. absurd (false≢true t)

pub returns-clause-fits : goal.returns-clause-fits
returns-clause-fits c = (λ t. c.if-bytes-gt-MAX_BYTES.false, λ few. refl)

pub returns-clause-ok : goal.returns-clause-ok
returns-clause-ok c = λ t. (ap (take (length c.args.bytes.now)) (placed c) ∙ front_of c.args.bytes.now, (held c).key)
