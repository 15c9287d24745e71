-- What is told of a located record is told of the record by which it was located.
use Rattle.rowex_records.proofs.Common.{◌≡◌, ℕ, List, subst, sym, Rec, Fill, Event, Known, IsClaimed, Steps, TableView, SeatView}
use Rattle.rowex_records.specs.Records.{SetsMore}

module _ {r q : Rec} (is : r ≡ q) where
  pub claimed_at : (k : Known) → IsClaimed k q → IsClaimed k r
  claimed_at k held = subst (IsClaimed k) (sym is) held

  pub stores_of : {G : Type 0} {table : TableView} {becomes : G → Event → G → Type 0} {offset word : ℕ} {a b : SeatView × G} →
      Steps table becomes (Fill r offset word) a b → Steps table becomes (Fill q offset word) a b
  stores_of {table = table} {becomes = becomes} {offset = offset} {word = word} {a = a} {b = b} step = subst (λ z. Steps table becomes (Fill z offset word) a b) is step

  pub more_of : {G : Type 0} {table : TableView} {becomes : G → Event → G → Type 0} {a b : SeatView × G} (words : List ℕ) (i : ℕ) →
      SetsMore table becomes r words i 8 a b → SetsMore table becomes q words i 8 a b
  more_of {table = table} {becomes = becomes} {a = a} {b = b} words i sets = subst (λ z. SetsMore table becomes z words i 8 a b) is sets
