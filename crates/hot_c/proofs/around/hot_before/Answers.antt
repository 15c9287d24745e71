-- The key before this one is told, if this one fits.
use Rattle.hot_c.proofs.Common.{ℕ, List, IfSome, IfOk, IsOk, refl, subst, sym, ◌∙◌, IsPreviousKey}
use Rattle.hot_c.proofs.around.hot_before.Goals as goal

pub returns-in-Ok : goal.returns-in-Ok
returns-in-Ok c =
    let fits = c.from_bytes.ensures.fits.0 (subst IsOk (sym c.in-Ok.is) refl) in
    record {
      long = λ no. absurd (no fits);
      told = λ fit. (
        c.previous_key.result,
        c.write_key.ensures,
        subst (λ (k : List ℕ). IfSome c.previous_key.result (IsPreviousKey k)) c.in-Ok.ensures.ok c.previous_key.ensures.some,
        λ none. sym c.in-Ok.ensures.ok ∙ c.previous_key.ensures.none none,
      );
    }
