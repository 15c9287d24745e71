-- Calls on a map, one after the other.
use Rattle.finite_map.proofs.Common.{◌≡◌, List, [], ◌∷◌, ◌++◌, refl, ap, fold-append}
use Rattle.finite_map.specs.declared.Call.{Call}
use Rattle.finite_map.specs.Maps.{Map, reply_of, replies_of, map_after, map_after_all}

-- one more call
pub map_after_all-push : (m : Map) (calls : List Call) (call : Call) → map_after_all m (calls ++ call ∷ []) ≡ map_after (map_after_all m calls) call
map_after_all-push m calls call = fold-append map_after m calls (call ∷ [])

pub replies_of-push : (m : Map) (calls : List Call) (call : Call) → replies_of m (calls ++ call ∷ []) ≡ replies_of m calls ++ reply_of (map_after_all m calls) call ∷ []
replies_of-push m [] call = refl
replies_of-push m (c ∷ calls) call = ap (λ rs. reply_of m c ∷ rs) (replies_of-push (map_after m c) calls call)
