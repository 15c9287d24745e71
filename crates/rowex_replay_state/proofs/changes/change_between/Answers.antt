-- Behind the common front the first leaves differ.
use Rattle.rowex_replay_state.proofs.Common.{ℕ, ◌-◌, List, length, take, drop, map, sym, ◌∙◌, ap, subst, ◌≡◌, arith, length-map, drop-map, take_rest, AgreeByNumber}
use Rattle.rowex_replay_state.specs.Versions.{read_item}
use Rattle.rowex_replay_state.specs.declared.linked.Item.{Item}
use Rattle.rowex_replay_state.specs.Changed.{BeginApart, IsFoundChange}
use Rattle.rowex_replay_state.proofs.Changed.{found_from, apart_from}
use Rattle.rowex_replay_state.proofs.changes.change_between.Goals as goal

rest_is : (xs : List Item) (n : ℕ) → drop n (map read_item xs) ≡ map read_item (take (length xs - n) (drop n xs))
rest_is xs n = drop-map read_item n xs ∙ ap (map read_item) (sym (take_rest xs n))

pub change_from_first_difference-requires : goal.change_from_first_difference-requires
change_from_first_difference-requires c =
    let n = c.count_same_first_items-front.result in
    let l = length-map c.args.before.now read_item in
    let r = length-map c.args.after.now read_item in
    subst (λ x. BeginApart x (map read_item (take (length c.args.after.now - n) (drop n c.args.after.now)))) (rest_is c.args.before.now n)
    (subst (BeginApart (drop n (map read_item c.args.before.now))) (rest_is c.args.after.now n)
    (apart_from (map read_item c.args.before.now) (map read_item c.args.after.now) n (omega (arith, c.count_same_first_items-front.ensures.within)) (omega (arith, c.count_same_first_items-front.ensures.within_both))
    (λ h g. c.count_same_first_items-front.ensures.apart (omega arith) (omega arith))))

pub returns : goal.returns
returns c s =
    let n = c.count_same_first_items-front.result in
    let l = length-map c.args.before.now read_item in
    let r = length-map c.args.after.now read_item in
    found_from c.args.pass (map read_item c.args.before.now) (map read_item c.args.after.now) n c.change_from_first_difference.result s
    (omega (arith, c.count_same_first_items-front.ensures.within)) (omega (arith, c.count_same_first_items-front.ensures.within_both)) c.count_same_first_items-front.ensures.same
    (subst (λ x. AgreeByNumber x (drop n (map read_item c.args.after.now)) → IsFoundChange c.args.pass x (drop n (map read_item c.args.after.now)) c.change_from_first_difference.result) (sym (rest_is c.args.before.now n))
    (subst (λ y. AgreeByNumber (map read_item (take (length c.args.before.now - n) (drop n c.args.before.now))) y → IsFoundChange c.args.pass (map read_item (take (length c.args.before.now - n) (drop n c.args.before.now))) y c.change_from_first_difference.result) (sym (rest_is c.args.after.now n))
    c.change_from_first_difference.ensures))
