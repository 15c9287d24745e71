-- The key after this one is told, if this one fits.
use Rattle.hot_c.proofs.Common.{ℕ, List, IfSome, IfOk, IsOk, refl, subst, sym, IsNextKey, NoKeyAbove}
use Rattle.hot_c.proofs.around.hot_after.Goals as goal

pub returns-in-Ok : goal.returns-in-Ok
returns-in-Ok c =
    let fits = c.from_bytes.ensures.fits.0 (subst IsOk (sym c.in-Ok.is) refl) in
    record {
      long = λ no. absurd (no fits);
      told = λ fit. (
        c.next_key.result,
        c.write_key.ensures,
        subst (λ (k : List ℕ). IfSome c.next_key.result (IsNextKey k)) c.in-Ok.ensures.ok c.next_key.ensures.some,
        λ none. subst NoKeyAbove c.in-Ok.ensures.ok (c.next_key.ensures.none none),
      );
    }
