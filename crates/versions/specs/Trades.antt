-- Which records a publish links anew, and which it unlinks, by lists.
use Rattle.std.specs.Prelude.{◌≡◌, ◌⊎◌, List, [], ◌∷◌, Option}
use Rattle.tries.specs.Tree.{Tree}
use Rattle.versions.specs.State.{IsLinked}
use Rattle.record_words.specs.declared.records.Rec.{Rec}

-- the element stands in the list
abbrev pub IsOneOf : {X : Type 0} → X → List X → Type 0
IsOneOf x [] = ⊥
IsOneOf x (y ∷ ys) = (x ≡ y) ⊎ IsOneOf x ys

-- no element stands in the list twice
abbrev pub AreApart : {X : Type 0} → List X → Type 0
AreApart [] = Unit {0}
AreApart (x ∷ xs) = (¬ (IsOneOf x xs)) × AreApart xs

-- From the version `before` to the next one, `after`, just the records `new` are linked anew. Just the records `gone`, each listed once,
-- are unlinked. Either version may be empty.
pub record HasTraded (before after : Option Tree) (new gone : List Rec) : Type 0 where
  pub comes : (rec : Rec) → IsLinked after rec → IsLinked before rec ⊎ IsOneOf rec new
  pub came : (rec : Rec) → IsOneOf rec new → IsLinked after rec × (IsLinked before rec → ⊥)
  pub goes : (rec : Rec) → IsLinked before rec → IsLinked after rec ⊎ IsOneOf rec gone
  pub went : (rec : Rec) → IsOneOf rec gone → IsLinked before rec × (IsLinked after rec → ⊥)
  pub apart : AreApart gone
