-- The first pairs of the list stand in the two arrays.
use Rattle.hot_c.proofs.Common.{rules, ◌≡◌, ◌<◌, ◌^◌, ◌||◌, Bool, true, false, length, nat_lt, refl, ap, subst, ◌∙◌, arith, fitting, keys_in}
use Rattle.std.specs.Int.{from_bool}
use Rattle.packed_pairs.proofs.Fits.{few_fit, room_fits}
use Rattle.hot_c.specs.Orders.{IsFilledIn}
use Rattle.hot_c.specs.Packs.{IsListedByParts}
use Rattle.hot_c.proofs.Orders.{by_parts, count_here, few_here, listed, made_here}
use Rattle.hot_c.proofs.packs.list_packed_pairs.Goals as goal
use Rattle.hot_c.proofs.packs.list_packed_pairs.Goals.{in-Ok, in-Err, then-is_more, else-is_more}

-- one of two tests holds
first : (one other either : Bool) → one ≡ true → either ≡ one → either ≡ (one || other)
first one other either holds is = is ∙ rw holds refl

second : (one other either : Bool) → one ≡ false → either ≡ other → either ≡ (one || other)
second one other either fails is = is ∙ rw fails refl

pub write_packed_pairs-requires : goal.write_packed_pairs-requires
write_packed_pairs-requires c =
    let u = c.lend-opened.result.now in
    let room = length c.args.room.bytes.now in
    let few = few_fit room u.list in
    let all = few_here c.in-Ok.ensures.ok u c.lend-opened.ensures.value in
    let kept : c.fit.new.self ≡ fitting room u.list = c.fit.ensures in
    let many = ap length kept in
    let fits = room_fits room u.list in
    let same = ap (λ l. length (keys_in l)) kept in
    record { bytes = omega (arith, fits, same); heads = omega (arith, few, all, many) }

pub returns-clause-call : goal.returns-clause-call
returns-clause-call c = elim c.match-fill_list.branch [
  | in-Ok w ↦
      let h = w.in-Ok.ensures.ok in
      let u = w.lend-opened.result.now in
      let is = w.lend-opened.ensures.value in
      let many = count_here h u is in
      let small : length u.list < 2 ^ 63 = subst (λ n. n < 2 ^ 63) many w.in-Ok.ensures.short in
      let is_further : w.if-is_more.from ≡ (w.in-Ok.is_more || nat_lt w.len.result w.in-Ok.found) =
      elim w.if-is_more.branch [ then-is_more v ↦ first _ _ _ v.if-is_more.true v.from-is | else-is_more v ↦ second _ _ _ v.if-is_more.false v.from-is ] in
      rw (w.handle-is, w.count-is, w.more-is, w.bytes-is, w.heads-is, w.result-is)
      (listed (IsListedByParts (IsFilledIn c.args.query.now.order)) h u w.empty_list.new.self u.list is refl w.empty_list.ensures refl
      (by_parts c.args.query.now.order _ _ _ _ _ _ small (made_here h u is)) (record {
        written = w.fit.new.self;
        fit = w.fit.ensures;
        short = few_here h u is;
        bytes = w.write_packed_pairs.ensures.bytes;
        heads = w.write_packed_pairs.ensures.heads;
        count = w.len.ensures.count;
        more = w.from.ensures ∙ ap from_bool (is_further ∙ (ap (λ n. w.in-Ok.is_more || nat_lt n w.in-Ok.found) w.len.ensures.count ∙ ap (λ n. w.in-Ok.is_more || nat_lt (length w.fit.new.self) n) many));
      }))
  | in-Err w ↦ rw (w.handle-is, w.count-is, w.more-is, w.bytes-is, w.heads-is, w.result-is) (search rules)
]
