-- The keys with a prefix are a range.
pub mod Above
pub mod Nexts
pub mod Places
pub mod Previous
use Rattle.std.proofs.Common.{◌≡◌, ◌≢◌, ℕ, ◌-◌, ◌<◌, ◌≤◌, List, [], ◌∷◌, ◌++◌, length, replicate, not, ◌&&◌, refl, sym, ap, subst, ◌∙◌, arith, length-append}
use Rattle.std.specs.Prelude.{IsTrue}
use Rattle.std.proofs.Math.Seq.{drop-append_seam}
use Rattle.std.proofs.lemmas.List.{append-nil}
use Rattle.std.proofs.lemmas.List.Elements.{All-drop}
use Rattle.std.specs.declared.cmp.Ordering.{Ordering}
use Rattle.std.specs.declared.cmp.Ordering.TheVariants.{Less, Equal, Greater}
use Rattle.std.specs.Ordering.{is_le, is_lt, nat_cmp, ordering_then}
use Rattle.std.specs.Cmp.{ranked}
use Rattle.key_bits.specs.Key.{IsKey}
use Rattle.key_bits.specs.declared.TheConstants.{MAX_BYTES}
use Rattle.finite_map.specs.Maps.{key_order}
use Rattle.finite_map.specs.Scans.{is_within}
use Rattle.key_ranges.specs.Ranges.{HasPrefix, last_with}
use Rattle.key_ranges.specs.Statements.{PrefixIsRange}
use Rattle.key_ranges.proofs.Ranges.Above.{AreBytes, none_above, none_below, same_front}

pub between : (o p : Ordering) → o ≢ Greater → p ≢ Less → IsTrue (is_le o && not (is_lt p))
between Greater p n m = absurd (n refl)
between Less Less n m = absurd (m refl)
between Less Equal n m = refl
between Less Greater n m = refl
between Equal Less n m = absurd (m refl)
between Equal Equal n m = refl
between Equal Greater n m = refl

pub not_below : (o p : Ordering) → IsTrue (is_le o && not (is_lt p)) → o ≢ Greater
not_below Greater p t e = cc
not_below Less p t e = cc
not_below Equal p t e = cc

pub not_over : (o p : Ordering) → IsTrue (is_le o && not (is_lt p)) → p ≢ Less
not_over Greater p t e = cc
not_over Less Less t e = cc
not_over Less Equal t e = cc
not_over Less Greater t e = cc
not_over Equal Less t e = cc
not_over Equal Equal t e = cc
not_over Equal Greater t e = cc

with_prefix : (prefix key rest : List ℕ) → IsKey key → key ≡ prefix ++ rest → IsTrue (is_within prefix (last_with prefix) key)
with_prefix prefix key rest is e =
    let low : key_order prefix (prefix ++ rest) ≡ key_order [] rest = subst (λ z. key_order z (prefix ++ rest) ≡ key_order [] rest) (append-nil prefix) (same_front prefix [] rest) in
    let high = same_front prefix (replicate (MAX_BYTES - length prefix) 255) rest in
    let whole = subst IsKey e is in
    let bytes : AreBytes rest = subst AreBytes (drop-append_seam prefix rest) (All-drop (λ byte. byte < 256) (length prefix) (prefix ++ rest) whole.are_bytes) in
    let few : length rest ≤ MAX_BYTES - length prefix = let n = length-append prefix rest in let s = whole.short in omega (arith, n, s) in
    subst (λ z. IsTrue (is_within prefix (last_with prefix) z)) (sym e)
    (between (key_order prefix (prefix ++ rest)) (key_order (last_with prefix) (prefix ++ rest)) (λ g. none_below rest (sym low ∙ g)) (λ l. none_above (MAX_BYTES - length prefix) rest bytes few (sym high ∙ l)))

prefix_of : (prefix more key : List ℕ) → key_order prefix key ≢ Greater → key_order (prefix ++ more) key ≢ Less → HasPrefix prefix key
prefix_of [] more key low high = (key, refl)
prefix_of (x ∷ prefix) more [] low high = absurd (low refl)
prefix_of (x ∷ prefix) more (y ∷ key) low high = by (nat_cmp x y) refl (prefix_of prefix more key) low high
  where
    by : (o : Ordering) → nat_cmp x y ≡ o → (key_order prefix key ≢ Greater → key_order (prefix ++ more) key ≢ Less → HasPrefix prefix key) →
        ordering_then o (key_order prefix key) ≢ Greater → ordering_then o (key_order (prefix ++ more) key) ≢ Less → HasPrefix (x ∷ prefix) (y ∷ key)
    by Less e later low high = absurd (high refl)
    by Equal e later low high =
        let h = later low high in
        let same : x ≡ y = ranked x y Equal (sym e) in
        (h.0, ap (λ z. z ∷ key) (sym same) ∙ ap (λ z. x ∷ z) h.1)
    by Greater e later low high = absurd (low refl)

pub prefix_is_range : PrefixIsRange
prefix_is_range prefix key is =
    let o = key_order prefix key in
    let p = key_order (last_with prefix) key in
    (λ h. with_prefix prefix key h.0 is h.1, λ t. prefix_of prefix (replicate (MAX_BYTES - length prefix) 255) key (not_below o p t) (not_over o p t))
