-- The pairs of the list stand in the array.
use Rattle.std.proofs.Common.{rules, ◌≡◌, ◌≤◌, ◌∙◌, length, drop, refl, subst, sym}
use Rattle.hot_c.specs.Orders.{IsListedIn, in_order}
use Rattle.hot_c.proofs.Orders.{as_many, count_here, few_here, in_its_order, listed, made_here}
use Rattle.hot_c.proofs.scans.list_pairs_of_query.Goals as goal

pub write_pairs_in_order-requires : goal.write_pairs_in_order-requires
write_pairs_in_order-requires c = few_here c.in-Ok.ensures.ok c.lend-opened.result.now c.lend-opened.ensures.value

pub returns-in-Ok-clause-call : goal.returns-in-Ok-clause-call
returns-in-Ok-clause-call c =
    let h = c.in-Ok.ensures.ok in
    let u = c.lend-opened.result.now in
    let is = c.lend-opened.ensures.value in
    let many = sym (as_many c.args.query.now.order u.list) in
    listed (IsListedIn c.args.query.now.order) h u c.empty_list.new.self (in_order c.args.query.now.order u.list) is refl c.empty_list.ensures refl
    (in_its_order c.args.query.now.order _ _ _ _ _ _ (made_here h u is)) (record {
      short = subst (λ n. n ≤ length c.args.room.now) many (few_here h u is);
      written = c.write_pairs_in_order.ensures.written;
      others = subst (λ n. drop n c.write_pairs_in_order.new.room ≡ drop n c.args.room.now) many c.write_pairs_in_order.ensures.others;
      count = count_here h u is ∙ many;
      more = search rules;
    })
