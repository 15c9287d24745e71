-- Loads and exchanges of the words that say how many records are uncommitted stand between steps, and no chain of steps tells them.
use Rattle.rowex_table.proofs.Common.{◌≡◌, ℕ, ◌≤◌, List, [], ◌∷◌, ⊎_elim, ◌<◌, length, set, get_or, refl, sym, ap, subst, ◌∙◌, arith, le_refl, le_trans, Act, Event, Known, Note}
use Rattle.std.proofs.lemmas.Bool.{cases_lt}
use Rattle.std.proofs.lemmas.List.{get_or-set_same, get_or_past, set_past}
use Rattle.rowex_table.proofs.Committed.{set_uncommitted}
use Rattle.record_words.specs.Layout.{uncommitted_in, uncommitted_word}
use Rattle.rowex_table.specs.Runs.{Runs, StepsWith, silent}
use Rattle.rowex_table.specs.Seats.{HasFoundBounds, SeatView, TableView, bounded_seat}

-- each load and each exchange is one of these
pub finds_bounds : (kind count : ℕ) (s : SeatView) → count ≤ uncommitted_in s.bounds kind → HasFoundBounds s (bounded_seat kind count s)
finds_bounds kind count s few = (
  set s.bounds (uncommitted_word kind) count,
  refl,
  λ other. ⊎_elim (λ (e : uncommitted_in (set s.bounds (uncommitted_word kind) count) other ≡ uncommitted_in s.bounds other). omega arith)
      (λ (h : (uncommitted_word other ≡ uncommitted_word kind) × (uncommitted_in (set s.bounds (uncommitted_word kind) count) other ≡ count)).
      let e = h.1 in let same : uncommitted_in s.bounds other ≡ uncommitted_in s.bounds kind = ap (λ i. get_or s.bounds i 0) h.0 in omega arith)
      (set_uncommitted s.bounds kind other count),
)

-- and what it leaves is a bound
pub bound_found : (bounds : List ℕ) (kind count : ℕ) → uncommitted_in (set bounds (uncommitted_word kind) count) kind ≤ count
bound_found bounds kind count = ⊎_elim
    (λ (low : uncommitted_word kind < length bounds). let e : uncommitted_in (set bounds (uncommitted_word kind) count) kind ≡ count = get_or-set_same bounds (uncommitted_word kind) count 0 low in omega arith)
    (λ (past : length bounds ≤ uncommitted_word kind). let e : uncommitted_in (set bounds (uncommitted_word kind) count) kind ≡ 0 =
    ap (λ (ws : List ℕ). uncommitted_in ws kind) (set_past bounds (uncommitted_word kind) count past) ∙ get_or_past bounds (uncommitted_word kind) 0 past in omega arith)
    (cases_lt (uncommitted_word kind) (length bounds))

pub found_none : (s : SeatView) → HasFoundBounds s s
found_none s = (s.bounds, refl, λ kind. le_refl (uncommitted_in s.bounds kind))

pub found_more : (s t u : SeatView) → HasFoundBounds s t → HasFoundBounds t u → HasFoundBounds s u
found_more s t u (first, is, less) (second, was, lower) = (
  second,
  was ∙ ap (λ (z : SeatView). record z { bounds = second }) is,
  λ kind. let a = less kind in let b = lower kind in let e : uncommitted_in t.bounds kind ≡ uncommitted_in first kind = ap (λ (z : SeatView). uncommitted_in z.bounds kind) is in omega arith,
)

module _ {G : Type 0} (table : TableView) (becomes : G → Event → G → Type 0) where
  -- before a step
  pub step_from : (act : Act) (said : Known → List Note) (s t : SeatView) (g : G) (b : SeatView × G) → HasFoundBounds s t → StepsWith table becomes act said (t, g) b → StepsWith table becomes act said (s, g) b
  step_from act said s t g b (bounds, is, less) step = go (subst (λ z. StepsWith table becomes act said (z, g) b) is step)
    where
      go : StepsWith table becomes act said (record s { bounds = bounds }, g) b → StepsWith table becomes act said (s, g) b
      go x = record { seat = (x.seat.0, x.seat.1, x.seat.2, x.seat.3, λ kind. le_trans (x.seat.4 kind) (less kind)); atomic = x.atomic; event = x.event; next = x.next; touches = x.touches; told = x.told }

  -- and after one
  step_to : (act : Act) (said : Known → List Note) (a : SeatView × G) (s t : SeatView) (g : G) → StepsWith table becomes act said a (s, g) → HasFoundBounds s t → StepsWith table becomes act said a (t, g)
  step_to act said a s t g x (bounds, is, less) = subst (λ z. StepsWith table becomes act said a (z, g)) (sym is)
      (record { seat = (x.seat.0, x.seat.1, x.seat.2, x.seat.3, λ kind. le_trans (less kind) (x.seat.4 kind)); atomic = x.atomic; event = x.event; next = x.next; touches = x.touches; told = x.told })

  -- so after a chain that has a step, too
  pub runs_then_bounds : (act : Act) (acts : List Act) (a : SeatView × G) (s t : SeatView) (g : G) → Runs table becomes (act ∷ acts) a (s, g) → HasFoundBounds s t → Runs table becomes (act ∷ acts) a (t, g)
  runs_then_bounds act [] a s t g (m, step, is) bounds = ((t, g), step_to act silent a s t g (subst (λ z. StepsWith table becomes act silent a z) (sym is) step) bounds, refl)
  runs_then_bounds act (next ∷ acts) a s t g (m, step, rest) bounds = (m, step, runs_then_bounds next acts m s t g rest bounds)

  pub bounds_then_runs : (act : Act) (acts : List Act) (s t : SeatView) (g : G) (b : SeatView × G) → HasFoundBounds s t → Runs table becomes (act ∷ acts) (t, g) b → Runs table becomes (act ∷ acts) (s, g) b
  bounds_then_runs act acts s t g b bounds (m, step, rest) = (m, step_from act silent s t g m bounds step, rest)
