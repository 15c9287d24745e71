-- The same forks with other things at the places.
use Rattle.std.proofs.Common.{List, map, refl, ℕ, ◌+◌, ◌≡◌}
use Rattle.std.proofs.lemmas.List.{map-append}
use Rattle.node_tries.specs.Piece.{Piece, Place, Fork, places, paths, RisesFrom, UsesOnly, uses}

-- the same forks, with other things at the places
abbrev pub map_places : {A B : Type 0} → (A → B) → Piece A → Piece B
map_places f (Place x) = Place (f x)
map_places f (Fork p a b) = Fork p (map_places f a) (map_places f b)

module _ {A B : Type 0} (f : A → B) where
  pub places-map_places : (P : Piece A) → places (map_places f P) ≡ map f (places P)
  places-map_places (Place x) = refl
  places-map_places (Fork p a b) = rw (places-map_places a, places-map_places b, map-append f (places a) (places b)) refl

  pub paths-map_places : (P : Piece A) → paths (map_places f P) ≡ paths P
  paths-map_places (Place x) = refl
  paths-map_places (Fork p a b) = rw (paths-map_places a, paths-map_places b) refl

  pub uses-map_places : (P : Piece A) (q : ℕ) → uses (map_places f P) q ≡ uses P q
  uses-map_places (Place x) q = refl
  uses-map_places (Fork p a b) q = rw (uses-map_places a q, uses-map_places b q) refl

  pub UsesOnly-map_places : (cs : List ℕ) (P : Piece A) → UsesOnly cs P → UsesOnly cs (map_places f P)
  UsesOnly-map_places cs (Place x) u = tt
  UsesOnly-map_places cs (Fork p a b) u = (u.0, UsesOnly-map_places cs a u.1, UsesOnly-map_places cs b u.2)

  pub RisesFrom-map_places : (low : ℕ) (P : Piece A) → RisesFrom low P → RisesFrom low (map_places f P)
  RisesFrom-map_places low (Place x) r = tt
  RisesFrom-map_places low (Fork p a b) r = (r.0, RisesFrom-map_places (p + 1) a r.1, RisesFrom-map_places (p + 1) b r.2)
