-- The range that is listed has exactly the keys with the prefix that are below the other one.
use Rattle.std.proofs.Common.{IsOk, refl, subst, sym}
use Rattle.hot_c.specs.Prefixes.{HasPrefixBelow}
use Rattle.hot_c.proofs.prefixes.Prefixes.{rest_listed}
use Rattle.hot_c.proofs.prefixes.hot_scan_prefix_before.Goals as goal

pub returns-clause-call : goal.returns-clause-call
returns-clause-call c =
    let first = c.from_bytes.ensures.fits.0 (subst IsOk (sym c.in-Ok-Ok.is-0) refl) in
    let second = c.from_bytes-2.ensures.fits.0 (subst IsOk (sym c.in-Ok-Ok.is-1) refl) in
    rest_listed HasPrefixBelow c.args.prefix.now c.args.before.now c.as_bytes.result.now c.as_bytes-2.result.now
    c.in-Ok-Ok.ensures.ok c.in-Ok-Ok.ensures'.ok c.as_bytes.ensures.bytes c.as_bytes-2.ensures.bytes first second
    c.ends_before-first.ensures.range c.ends_before-first.ensures.fit c.list_pairs_of_query.ensures.call
