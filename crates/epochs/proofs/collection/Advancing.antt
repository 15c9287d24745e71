-- The epoch advance_steps, unless it is the last.
use Rattle.epochs.proofs.Common.{◌≡◌, ℕ, ◌+◌, ◌^◌, ◌<◌, ◌≤◌, [], ◌∷◌, Bool, true, false, nat_lt, if◌then◌else◌, sym, subst, lt-ltb, le-ltb, LoadEpoch, Advance, Event, Steps, Does, TableView, SeatView}
use Rattle.epochs.specs.Runs.{paced}
use Rattle.epochs.specs.Rounds.{AdvancesEpoch}
use Rattle.epochs.proofs.Runs.{does_one, does_two}

module _ {G : Type 0} (table : TableView) (becomes : G → Event → G → Type 0) where
  by_test : (epoch found : ℕ) (a b : SeatView × G) (t : Bool) → nat_lt (epoch + 1) (2 ^ 60) ≡ t → Does table becomes paced (LoadEpoch epoch ∷ (if t then Advance epoch found ∷ [] else [])) a b → AdvancesEpoch table becomes a b
  by_test epoch found a b t e does = (epoch, found, subst (λ z. Does table becomes paced (LoadEpoch epoch ∷ (if z then Advance epoch found ∷ [] else [])) a b) (sym e) does)

  pub advanced : (epoch found : ℕ) (a m b : SeatView × G) → epoch + 1 < 2 ^ 60 → Steps table becomes (LoadEpoch epoch) a m → Steps table becomes (Advance epoch found) m b → AdvancesEpoch table becomes a b
  advanced epoch found a m b low e f = by_test epoch found a b true (lt-ltb (epoch + 1) (2 ^ 60) low) (does_two table becomes (LoadEpoch epoch) (Advance epoch found) a m b tt tt e f)

  pub stayed : (epoch : ℕ) (a b : SeatView × G) → 2 ^ 60 ≤ epoch + 1 → Steps table becomes (LoadEpoch epoch) a b → AdvancesEpoch table becomes a b
  stayed epoch a b high e = by_test epoch 0 a b false (le-ltb (epoch + 1) (2 ^ 60) high) (does_one table becomes (LoadEpoch epoch) a b tt e)
