-- The list has one pair at most, and this is taken.
use Rattle.hot_index.proofs.Common.{◌≡◌, ◌≤◌, ℕ, List, length, refl, sym, subst, ◌∙◌, arith, err_from_is_err_and, option_to_list}
use Rattle.hot_index.proofs.index.Firsts.{one_at_most, only}
use Rattle.hot_index.proofs.Reading.{range_first, range_refused, range_uncopied}
use Rattle.hot_index.proofs.index.Index.find_first_pair.Goals as goal

pub returns-in_err-list_range : goal.returns-in_err-list_range
returns-in_err-list_range c = range_refused c.from_residual.result (err_from_is_err_and c.from_residual.result c.from_residual.ensures.1).1 c.in_err-list_range.ensures

pub returns-in_err-pairs : goal.returns-in_err-pairs
returns-in_err-pairs c = range_uncopied c.args.direction c.from_residual-in_err-pairs.result (err_from_is_err_and c.from_residual-in_err-pairs.result c.from_residual-in_err-pairs.ensures.1).1 c.in_ok-list_range.ensures c.in_err-pairs.ensures.memory c.in_err-pairs.ensures.short

pub returns : goal.returns
returns c =
    let items = c.in_ok-pairs.pairs.items in
    let few : length items ≤ 1 = subst (λ (l : List (List ℕ × ℕ)). length l ≤ 1) (sym c.in_ok-pairs.ensures.list) (one_at_most c.args.direction c.in_ok-list_range.ensures.ok (record { pairs = c.in_ok-pairs.pairs; more = c.in_ok-list_range.field-0 }) c.in_ok-pairs.ensures.list refl) in
    let taken : option_to_list c.pop.result ≡ c.list_range.new.pairs = only items c.pop.new.self.items c.pop.result c.pop.ensures.items few (λ inside. c.pop.ensures.variant.1 (let ok = c.in_ok-pairs.pairs.ok.0 in omega (arith, ok, inside))) ∙ c.in_ok-pairs.ensures.list in
    range_first c.in_ok-list_range.ensures c.pop.result taken
