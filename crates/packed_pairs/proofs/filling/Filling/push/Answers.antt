-- One pair more.
use Rattle.std.proofs.Common.{◌≡◌, ◌<◌, ◌≤◌, ℕ, List, length, take, arith, subst, sym}
use Rattle.std.proofs.lemmas.List.{length-take-le}
use Rattle.packed_pairs.specs.Filled.{Filled}
use Rattle.packed_pairs.proofs.Packed.{packed-push, unpacked-push}
use Rattle.packed_pairs.proofs.filling.Filling.push.Goals as goal

-- the key is so long
long : (n : ℕ) (places : List ℕ) → n ≤ length places → n ≡ length (take n places)
long n places fits = sym (length-take-le n places fits)

pub invariant_of-self : goal.invariant_of-self
invariant_of-self c =
    let (packed, room, heads) = c.self.invariant in let some = c.requires.room in let fits = c.requires.fits in let told = c.told-places in
    let same = c.copy_key.ensures.long in let more = c.put_head.ensures.long in
    let has : 0 < c.self.inside.room = subst (λ (f : Filled). 0 < f.room) (sym c.self.view_is) some in (
      rw (c.put_head.ensures.put, c.copy_key.ensures.copied)
          (packed-push (take c.args.length c.args.places.now) _ (long c.args.length c.args.places.now (omega (arith, fits, told))) (take c.self.inside.count c.self.inside.heads.items) (take c.self.inside.used c.self.inside.bytes.items) packed c.requires.key),
      omega (arith, room, has, same, fits),
      omega (arith, heads, has, more),
    )

pub returns-clause-pairs : goal.returns-clause-pairs
returns-clause-pairs c =
    let fits = c.requires.fits in let told = c.told-places in
    rw (c.put_head.ensures.put, c.copy_key.ensures.copied, ← c.self.view_is)
    (unpacked-push (take c.args.length c.args.places.now) _ (long c.args.length c.args.places.now (omega (arith, fits, told))) (take c.self.inside.count c.self.inside.heads.items) (take c.self.inside.used c.self.inside.bytes.items) c.self.invariant.0)
