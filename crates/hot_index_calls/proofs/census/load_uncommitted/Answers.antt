-- The word of one kind more.
use Rattle.hot_index_calls.proofs.Common.{◌≡◌, ◌≢◌, ◌<◌, ◌≤◌, ⊎_elim, ℕ, arith, subst, sym, ◌∙◌, refl, SeatView}
use Rattle.record_words.specs.Layout.{uncommitted_in, uncommitted_word}
use Rattle.record_words.specs.declared.TheConstants.{RECORD_KINDS}
use Rattle.rowex_table.proofs.Committed.{set_uncommitted, word_of_kind}
use Rattle.rowex_table.proofs.Committed.Chains.{bound_found, finds_bounds, found_more, found_none}
use Rattle.rowex_table.specs.Committed.{TakenAreCommitted}
use Rattle.rowex_table.specs.Seats.{HasFoundBounds}
use Rattle.std.proofs.lemmas.Bool.{cases_eq}
use Rattle.std.proofs.lemmas.List.{get_or-set_other, get_or-set_same, length-set}
use Rattle.std.specs.Prelude.{set}
use Rattle.hot_index_calls.proofs.census.load_uncommitted.Goals as goal

-- what is found is the bound of its kind then, and the others stay
bound_same : (s : SeatView) (kind count : ℕ) → count ≤ uncommitted_in s.bounds kind → uncommitted_in (set s.bounds (uncommitted_word kind) count) kind ≡ count
bound_same s kind count few =
    ⊎_elim (λ (same : uncommitted_in (set s.bounds (uncommitted_word kind) count) kind ≡ uncommitted_in s.bounds kind). let most = bound_found s.bounds kind count in omega (arith, same, most, few)) (λ h. h.1)
    (set_uncommitted s.bounds kind kind count)

bound_other : (s : SeatView) (kind other count : ℕ) → kind < RECORD_KINDS → other < RECORD_KINDS → other ≢ kind → uncommitted_in (set s.bounds (uncommitted_word kind) count) other ≡ uncommitted_in s.bounds other
bound_other s kind other count low below ne =
    get_or-set_other s.bounds (uncommitted_word kind) (uncommitted_word other) count 0 (λ e. ne (let one = word_of_kind kind low in let two = word_of_kind other below in omega (arith, one, two, e)))

pub loop-kind-init : goal.loop-kind-init
loop-kind-init c = record {
  found = found_none c.args.seat.now;
  long = refl;
  each = λ other low. absurd (omega (arith, low));
  taken = λ other low. absurd (omega (arith, low));
}

pub loop-kind-preserved : goal.loop-kind-preserved
loop-kind-preserved c =
    let i = c.loop-kind.invariant in
    let s = c.loop-kind.seat in
    let kind = c.loop-kind.kind in
    let count = c.load_uncommitted.result in
    let few = c.load_uncommitted.ensures.few in
    let low : kind < RECORD_KINDS = c.loop-kind-test.true in
    let is = c.load_uncommitted.ensures.seat in record {
      found = found_more c.args.seat.now s c.load_uncommitted.new.seat i.found (subst (HasFoundBounds s) (sym is) (finds_bounds kind count s few));
      long = length-set c.loop-kind.words kind count ∙ i.long;
      each = λ other below. rw is (⊎_elim
          (λ (same : other ≡ kind). rw same (get_or-set_same c.loop-kind.words kind count 0 (omega (arith, low, i.long)) ∙ sym (bound_same s kind count few)))
          (λ (ne : other ≢ kind). get_or-set_other c.loop-kind.words kind other count 0 ne ∙ i.each other (omega (arith, below, ne)) ∙ sym (bound_other s kind other count low (omega (arith, below, low)) ne))
          (cases_eq other kind));
      taken = λ other below. rw is (⊎_elim
          (λ (same : other ≡ kind). rw same (subst (TakenAreCommitted c.args.table.now.layout s.trace kind) (sym (bound_same s kind count few)) c.load_uncommitted.ensures.committed))
          (λ (ne : other ≢ kind). subst (TakenAreCommitted c.args.table.now.layout s.trace other) (sym (bound_other s kind other count low (omega (arith, below, low)) ne)) (i.taken other (omega (arith, below, ne))))
          (cases_eq other kind));
    }
