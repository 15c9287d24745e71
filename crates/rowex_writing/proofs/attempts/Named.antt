-- A leaf that is named under the pass's locks, and whose value it loads: the key has this value after all changes that it has seen then.
use Rattle.rowex_writing.proofs.Common.{◌≡◌, ℕ, ◌-◌, ◌≤◌, length, Option, Some, None, refl, sym, ap, subst, ◌∙◌, arith, le_refl, IsSome, length-append, take_all, Call, Map, value_at, Layout, Key, Tree, Holds, value_holds, content, Known, IsLater, HasFound, IsPossible, since, value_of, Found, Nothing, Leaf, later_trans, seen_told, KeepsLoaded}
use Rattle.finite_map.specs.Fronts.{map_of}
use Rattle.rowex_writing.specs.plan.Asking.{aim_of}
use Rattle.rowex_writing.specs.store.Values.{HasFoundOther, HasLoadedFound, HoldsFound, IsFoundAgain, revalued}
use Rattle.rowex_writing.specs.declared.plan.Aim.{Aim}
use Rattle.rowex_writing.proofs.attempts.Attempts.{aims_again, found_later, no_aim}

-- ---- the key's value after the changes that the pass has seen was found since its last load of the root
pub held_found : (layout : Layout) (k : Known) (key : Key) (w : ℕ) → IsPossible layout k → value_at (map_of k.front) key ≡ Some w → HasFound k key (Some w)
held_found layout k key w possible held c law recalls =
    let n : ℕ = length k.front in
    let told = (seen_told law recalls).content_is n (le_refl n) ∙ ap map_of (take_all n k.front (le_refl n)) in
    let (t, is, holds) = there (c.past.version n) (ap (λ (z : Map). value_at z key) told ∙ held) in
    (n, t, before, le_refl n, is, holds)
  where
    before : since k ≤ length k.front
    before = let (more, is) = possible.knows.seen.fresh in let l = length-append k.fresh.front more in omega (arith, ap length is, l)

    there : (o : Option Tree) → value_at (content o) key ≡ Some w → (t : Tree) × (o ≡ Some t) × Holds t key w
    there None e = absurd (let z : None ≡ Some w = e in cc)
    there (Some t) e = (t, refl, value_holds t key w e)

-- ---- the call's aim there
-- a call that has one keeps it
pub again_aims : (call : Call) (found : Found) (value : ℕ) (aim : Aim) → IsSome (aim_of call (value_of (revalued found value))) → aim_of call (value_of found) ≡ Some aim →
    aim_of call (value_of (revalued found value)) ≡ Some aim
again_aims call Nothing value aim some e = e
again_aims call (Leaf n v None) value aim some e = aims_again call v value aim e some
again_aims call (Leaf n v (Some p)) value aim some e = e

pub found_again : (call : Call) (found now : Found) (value : ℕ) → now ≡ revalued found value → IsSome (aim_of call (value_of now)) → IsFoundAgain call found now
found_again call found now value is some = record {
  value = value;
  is = is;
  aims = λ aim e. subst (λ f. aim_of call (value_of f) ≡ Some aim) (sym is) (again_aims call found value aim (subst (λ f. IsSome (aim_of call (value_of f))) is some) e);
}

-- one that has none has found another value
pub found_other : (layout : Layout) (k i j : Known) (call : Call) (key : Key) (found now : Found) (value : ℕ) → now ≡ revalued found value → IsSome (aim_of call (value_of found)) → aim_of call (value_of now) ≡ None →
    IsPossible layout i → HoldsFound i key now → IsLater k i → IsLater i j → since j ≡ since i → HasFoundOther k j call key now
found_other layout k i j call key found now value is some none possible held before after same = go found is some
  where
    later : IsLater k j
    later = later_trans before after

    go : (f : Found) → now ≡ revalued f value → IsSome (aim_of call (value_of f)) → HasFoundOther k j call key now
    go Nothing e s = no_aim (aim_of call None) s (ap (λ (z : Found). aim_of call (value_of z)) (sym e) ∙ none)
    go (Leaf n v (Some p)) e s = no_aim (aim_of call None) s (ap (λ (z : Found). aim_of call (value_of z)) (sym e) ∙ none)
    go (Leaf n v None) e s = record {
      later = later;
      value = value;
      is = ap value_of e;
      held = found_later i j key (Some value) after same (held_found layout i key value possible (held n value e));
      aimless = ap (λ (z : Found). aim_of call (value_of z)) (sym e) ∙ none;
    }

-- ---- what was loaded is known still
pub loaded_on : (k j : Known) (found : Found) → KeepsLoaded k j → HasLoadedFound k found → HasLoadedFound j found
loaded_on k j found keeps loaded number value is = keeps number value (loaded number value is)
