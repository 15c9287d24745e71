-- What loading the pins in turn comes to: the bound of a round.
use Rattle.epochs.proofs.Common.{◌≡◌, ℕ, ◌+◌, ◌<◌, ◌≤◌, List, [], ◌∷◌, ◌++◌, Bool, true, false, min, nat_eq, if◌then◌else◌, Option, Some, None, refl, sym, ap, subst, ◌∙◌, arith, eq-eqb, ⊎_elim, cases_lt, Layout, Pin, Round, has_seen, LoadEpoch, LoadPin, Known, pin_word, IsEvent, Event, silent, Steps, TableView, SeatView, in_turn_more}
use Rattle.versions.specs.Steps.{lowered}
use Rattle.epochs.specs.Rounds.{HasBound, FindsBound, LoadsPin}
use Rattle.epochs.proofs.Runs.{does_one, does_append}

module _ {G : Type 0} (table : TableView) (becomes : G → Event → G → Type 0) where
  pub finds_none : (epoch : ℕ) (a b : SeatView × G) → Steps table becomes (LoadEpoch epoch) a b → FindsBound table becomes 0 a b
  finds_none epoch a b e = (epoch, [], refl, does_one table becomes (LoadEpoch epoch) a b tt e)

  pub finds_more : (n word : ℕ) (a m b : SeatView × G) → FindsBound table becomes n a m → Steps table becomes (LoadPin n word) m b → FindsBound table becomes (n + 1) a b
  finds_more n word a m b finds e = (
    finds.0,
    finds.1 ++ LoadPin n word ∷ [],
    in_turn_more LoadsPin n finds.1 (LoadPin n word ∷ []) finds.2 (word, refl),
    does_append table becomes (LoadEpoch finds.0 ∷ finds.1) (LoadPin n word ∷ []) a m b finds.3 (does_one table becomes (LoadPin n word) m b tt e),
  )

pub bound_none : (layout : Layout) (epoch : ℕ) (k j : Known) → IsEvent layout (LoadEpoch epoch) silent k j → HasBound 0 epoch j
bound_none layout epoch k j e = record {
  least = ap (λ (z : Known). z.round.bound) e.learned_is ∙ sym e.legal.1;
  seen = λ o low. absurd (omega arith);
}

lowered_is : (b c w : ℕ) (p : Option Pin) → w ≡ pin_word p → ((x : Pin) → p ≡ Some x → 1 ≤ x.word) → (w ≡ 0 → c ≡ b) → (1 ≤ w → c ≡ min b w) → lowered b p ≡ c
lowered_is b c w None is low none some = sym (none is)
lowered_is b c w (Some x) is low none some = ap (λ z. min b z) (sym is) ∙ sym (some (subst (λ z. 1 ≤ z) (sym is) (low x refl)))

seen_more : (n : ℕ) (seen : List ℕ) → ((o : ℕ) → o < n → has_seen seen o ≡ true) → (o : ℕ) → o < n + 1 → has_seen (n ∷ seen) o ≡ true
seen_more n seen before o low = ⊎_elim
    (λ (h : o < n). either (nat_eq o n) (before o h))
    (λ (h : n ≤ o). let same : o ≡ n = omega arith in ap (λ b. if b then true else has_seen seen o) (eq-eqb o n same))
    (cases_lt o n)
  where
    either : (b : Bool) → has_seen seen o ≡ true → (if b then true else has_seen seen o) ≡ true
    either true e = refl
    either false e = e

-- one more pin, which lowers the bound unless it is 0
pub bound_more : (layout : Layout) (n b c word : ℕ) (i j : Known) → HasBound n b i → IsEvent layout (LoadPin n word) silent i j → (word ≡ 0 → c ≡ b) → (1 ≤ word → c ≡ min b word) → HasBound (n + 1) c j
bound_more layout n b c word i j has e none some =
    let round = ap (λ (z : Known). z.round) e.learned_is in
    record {
      least = ap (λ (z : Round). z.bound) round ∙ (ap (λ z. lowered z (e.core.pins n)) has.least ∙ lowered_is b c word (e.core.pins n) e.legal.1.1 (λ x is. (e.lawful.epochs.pinned n x is).1) none some);
      seen = λ o low. ap (λ (z : Round). has_seen z.seen o) round ∙ seen_more n i.round.seen has.seen o low;
    }
