-- Byte order is bit order, by the lemmas of Order.
use Rattle.std.specs.Cmp.Lexicographic.{nat_list_cmp_total}
use Rattle.std.proofs.lemmas.Cmp.{tied_itself}
use Rattle.std.proofs.lemmas.Map.Lookups.{exact_bytes}
use Rattle.key_bits.proofs.Bits.Order.{less_by_first, greater_by_first}
use Rattle.key_bits.proofs.KeyOrd.cmp.Goals as goal

pub returns-clause-equal : goal.returns-clause-equal
returns-clause-equal c = rw (c.cmp.ensures, c.as_bytes.ensures.bytes, c.as_bytes-2.ensures.bytes)
    (exact_bytes c.args.self.now c.args.other.now, λ e. rw e (tied_itself nat_list_cmp_total c.args.other.now))

pub returns-clause-less : goal.returns-clause-less
returns-clause-less c = rw (c.cmp.ensures, c.as_bytes.ensures.bytes, c.as_bytes-2.ensures.bytes)
    (less_by_first c.args.self.now c.args.other.now c.as_bytes.ensures.key c.as_bytes-2.ensures.key)

pub returns-clause-greater : goal.returns-clause-greater
returns-clause-greater c = rw (c.cmp.ensures, c.as_bytes.ensures.bytes, c.as_bytes-2.ensures.bytes)
    (greater_by_first c.args.self.now c.args.other.now c.as_bytes.ensures.key c.as_bytes-2.ensures.key)
