-- A distance of less than sixteen bytes has an index and a bit.
use Rattle.std.proofs.Common.{ℕ, ◌≡◌, ◌∙◌, ◌-◌, ◌/◌, ◌<◌, List, ap, get_or}
use Rattle.record_words.specs.Kinds.{HasNearLanes, distance_from, first_byte, with_free_to_16}
use Rattle.record_words.proofs.near.NearSpelling.{distance_near, first_place, indexes_made, masks_made, ninths_fit, rests_fit, rests_ok}
use Rattle.record_words.proofs.near.near_lanes_of.Goals as goal

-- what is known of the distances
each_of : (columns positions ds : List ℕ) → HasNearLanes columns → positions ≡ with_free_to_16 columns →
    ((i : ℕ) → i < 16 → get_or ds i 0 ≡ distance_from (get_or positions 0 0 / 9) (get_or positions (15 - i) 0)) → (i : ℕ) → i < 16 → get_or ds i 0 ≡ distance_from (first_byte columns) (get_or positions (15 - i) 0)
each_of columns positions ds has same each i low = each i low ∙ ap (λ f. distance_from f (get_or positions (15 - i) 0)) (first_place columns has positions same)

pub overflow_cast-masks : goal.overflow_cast-masks
overflow_cast-masks c =
    let (columns, has, same) = c.requires in let ds = c.distances_of-distances.result in let long = c.distances_of-distances.ensures.whole in
    rests_fit ds long (distance_near columns has c.args.positions same ds long (each_of columns c.args.positions ds has same c.distances_of-distances.ensures.each))

pub swizzle-masks : goal.swizzle-masks
swizzle-masks c =
    let (columns, has, same) = c.requires in let ds = c.distances_of-distances.result in let long = c.distances_of-distances.ensures.whole in
    rests_ok ds long (distance_near columns has c.args.positions same ds long (each_of columns c.args.positions ds has same c.distances_of-distances.ensures.each))

pub overflow_cast-result : goal.overflow_cast-result
overflow_cast-result c =
    let (columns, has, same) = c.requires in let ds = c.distances_of-distances.result in let long = c.distances_of-distances.ensures.whole in
    ninths_fit ds long (distance_near columns has c.args.positions same ds long (each_of columns c.args.positions ds has same c.distances_of-distances.ensures.each))

pub returns : goal.returns
returns c = λ columns has same.
    let ds = c.distances_of-distances.result in let long = c.distances_of-distances.ensures.whole in
    let each = each_of columns c.args.positions ds has same c.distances_of-distances.ensures.each in
    (indexes_made columns has c.args.positions same ds long each, masks_made columns has c.args.positions same ds long each)
