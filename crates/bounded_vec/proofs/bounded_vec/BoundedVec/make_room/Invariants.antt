-- The elements that were moved are the first ones.
use Rattle.std.proofs.Common.{◌≡◌, take, vec_capacity}
use Rattle.bounded_vec.proofs.bounded_vec.BoundedVec.make_room.Given as goal

abbrev pub invariant-loop-place : goal.invariant-loop-place
invariant-loop-place g l = record {
  elements : l.elements.items ≡ l.initial.elements.items;
  moved : l.empty.items ≡ take l.place l.elements.items;
  room : vec_capacity l.empty ≡ vec_capacity l.initial.empty;
  small : vec_capacity l.elements ≡ vec_capacity l.initial.elements;
}
