-- A part of a list that is replaced.
use Rattle.std.proofs.Common.{List, add_assoc, arith, drop, length, map, refl, take, ℕ, ◌++◌, ◌+◌, ◌≡◌, ◌≤◌}
use Rattle.std.proofs.Math.Seq.{drop-append-add, take-append-add}
use Rattle.std.proofs.lemmas.List.{append-nil, append_assoc, drop-append-le, drop-map, drop_all, length-drop, map-append, take-append-le, take-map, take_all}
use Rattle.node_tries.specs.Growth.{edited}

module _ {X : Type 0} where
  pub edited-left : (f n : ℕ) (h : List X → List X) (xs ys : List X) → f + n ≤ length xs → edited f n h (xs ++ ys) ≡ edited f n h xs ++ ys
  edited-left f n h xs ys l =
      let a : f ≤ length xs = omega arith in
      let b : n ≤ length (drop f xs) = rw length-drop (omega arith) in
      rw (take-append-le f xs ys a, drop-append-le f xs ys a, take-append-le n (drop f xs) ys b, drop-append-le (f + n) xs ys l)
      (simp append_assoc)

  pub edited-right : (m f n : ℕ) (h : List X → List X) (xs ys : List X) → length xs ≡ m → edited (m + f) n h (xs ++ ys) ≡ xs ++ edited f n h ys
  edited-right m f n h xs ys e =
      rw (← e, take-append-add xs ys f, drop-append-add xs ys f, add_assoc (length xs) f n, drop-append-add xs ys (f + n)) (append_assoc xs (take f ys) (h (take n (drop f ys)) ++ drop (f + n) ys))

  pub edited-map : {Y : Type 0} (g : Y → X) (f n : ℕ) (h : List X → List X) (k : List Y → List Y) (ys : List Y) →
      h (map g (take n (drop f ys))) ≡ map g (k (take n (drop f ys))) → edited f n h (map g ys) ≡ map g (edited f n k ys)
  edited-map g f n h k ys same =
      rw (take-map g f ys, drop-map g f ys, take-map g n (drop f ys), same, drop-map g (f + n) ys, map-append g (take f ys) (k (take n (drop f ys)) ++ drop (f + n) ys), map-append g (k (take n (drop f ys))) (drop (f + n) ys)) refl

  pub edited_whole : (n : ℕ) (h : List X → List X) (xs : List X) → length xs ≡ n → edited 0 n h xs ≡ h xs
  edited_whole n h xs e = rw (take_all n xs (omega arith), drop_all (0 + n) xs (omega arith), append-nil (h xs)) refl
