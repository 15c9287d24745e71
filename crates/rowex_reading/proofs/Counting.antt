-- How many steps were made by a run, and by loads.
use Rattle.rowex_reading.proofs.Common.{◌≡◌, ℕ, ◌+◌, ◌≤◌, List, [], ◌∷◌, length, ap, arith, Act, Event, Runs, Steps, TableView, SeatView}
use Rattle.rowex_table.proofs.Made.ActsLeave.{act_leaves}
use Rattle.rowex_reading.specs.Reads.{Looks, Reads}

module _ {G : Type 0} (table : TableView) (becomes : G → Event → G → Type 0) where
  -- one step
  pub step_count : (act : Act) (a b : SeatView × G) → Steps table becomes act a b → b.0.known.steps ≡ a.0.known.steps + 1
  step_count act a b s = (act_leaves table.layout a.0.known b.0.known act s.event).steps

  pub step_few : (act : Act) (a b : SeatView × G) → Steps table becomes act a b → b.0.known.steps ≤ a.0.known.steps + 1
  step_few act a b s = let z = step_count act a b s in omega (arith, z)

  pub runs_count : (acts : List Act) (a b : SeatView × G) → Runs table becomes acts a b → b.0.known.steps ≡ a.0.known.steps + length acts
  runs_count [] a b e = let z : b.0.known.steps ≡ a.0.known.steps = ap (λ (z : SeatView × G). z.0.known.steps) e in omega (arith, z)
  runs_count (act ∷ acts) a b (m, s, more) = let one = step_count act a m s in let rest = runs_count acts m b more in omega (arith, one, rest)

  -- loads
  pub reads_count : (e n : ℕ) (a b : SeatView × G) → Reads table becomes e n a b → b.0.known.steps ≡ a.0.known.steps + n
  reads_count e n a b r = let z = runs_count r.acts a b r.steps in omega (arith, z, r.count)

  pub looks_count : (e n : ℕ) (a b : SeatView × G) → Looks table becomes e n a b → b.0.known.steps ≡ a.0.known.steps + 1 + n
  looks_count e n a b l = let one = step_count _ a l.at l.root.1 in let rest = reads_count e n l.at b l.rest in omega (arith, one, rest)
