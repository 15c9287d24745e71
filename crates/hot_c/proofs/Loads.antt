-- A load that was given a pair, and one that was ended.
use Rattle.hot_c.proofs.Common.{◌≡◌, ℕ, List, Option, Some, None, sym, ◌∙◌, subst, OpenLoad}
use Rattle.hot_c.specs.Calls.{FitsInKey}
use Rattle.hot_c.specs.Loads.{HasOpenedLoaded, KeepsLoadedPasses, LoadsPair, TellsPush}
use Rattle.hot_c.specs.declared.opened.Opened.{Opened}

none_held : (o : OpenLoad) → Some o ≡ None → ⊥
none_held o e = cc

one_held : (o p : OpenLoad) → Some o ≡ Some p → o ≡ p
one_held o p e = cc

-- the load was lent, and given the key that was asked for
pub given_pair : (key pushed : List ℕ) (value : ℕ) (old new : Option OpenLoad) (was now : OpenLoad) (status : ℕ) → old ≡ Some was → new ≡ Some now → pushed ≡ key → FitsInKey key →
    TellsPush pushed value was.load now.load status → LoadsPair key value old new status
given_pair key pushed value old new was now status has is same fits told = record {
  closed = λ none. absurd (none_held was (sym has ∙ none));
  long = λ some no. absurd (no fits);
  given = λ before found short. (
    now,
    is,
    subst (λ (o : OpenLoad). TellsPush key value o.load now.load status) (one_held was before (sym has ∙ found)) (subst (λ k. TellsPush k value was.load now.load status) same told),
  );
}

-- the load that was closed is the one that was held
pub ended_load : (old : Option OpenLoad) (was closed : OpenLoad) (keeper : Opened) (new : Option Opened) → old ≡ Some was → old ≡ Some closed → new ≡ Some keeper →
    KeepsLoadedPasses closed.load keeper → HasOpenedLoaded was.load new
ended_load old was closed keeper new has held is kept =
    (keeper, is, subst (λ (o : OpenLoad). KeepsLoadedPasses o.load keeper) (one_held closed was (sym held ∙ has)) kept)
