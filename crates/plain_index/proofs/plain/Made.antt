-- Calls on a map: what one answers, and what some first ones have made.
use Rattle.plain_index.proofs.Common.{◌≡◌, ℕ, ◌≤◌, List, [], ◌∷◌, ◌++◌, length, take, Option, sym, ap, ◌∙◌, subst, arith, length-append, append_assoc, take-append_seam, Map, value_at, key_of, step_where, reply_of, replies_of, map_after, map_after_all}
use Rattle.finite_map.specs.declared.Call.{Call}
use Rattle.finite_map.specs.declared.Reply.{Reply}
use Rattle.finite_map.proofs.Calls.Steps.{map_after_all-push, replies_of-push}

-- the reply, by what the map holds for the key
pub reply_where : (m n : Map) (call called : Call) (held : Option ℕ) → m ≡ n → called ≡ call → value_at m (key_of call) ≡ held → (step_where held m call).1 ≡ reply_of n called
reply_where m n call called held same is e = ap (λ o. (step_where o m call).1) (sym e) ∙ ap (λ x. reply_of x call) same ∙ ap (reply_of n) (sym is)

-- of the calls, these were made on the map m: they led to n, and had these replies
pub record HasMade (m : Map) (calls : List Call) (n : Map) (made rest : List Call) (replies : List Reply) : Type 0 where
  pub all : made ++ rest ≡ calls
  pub replies_are : replies ≡ replies_of m made
  pub map : n ≡ map_after_all m made

pub made_one_more : (m : Map) (calls : List Call) (n : Map) (made rest : List Call) (replies : List Reply) → HasMade m calls n made rest replies →
    (call : Call) (later : List Call) → rest ≡ call ∷ later → (reply : Reply) → reply ≡ reply_of n call → (after : Map) → after ≡ map_after n call →
    (more : List Reply) → more ≡ replies ++ reply ∷ [] → HasMade m calls after (made ++ call ∷ []) later more
made_one_more m calls n made rest replies h call later e reply r after a more is = record {
  all = append_assoc made (call ∷ []) later ∙ ap (λ cs. made ++ cs) (sym e) ∙ h.all;
  replies_are = is ∙ ap (λ rs. rs ++ reply ∷ []) h.replies_are ∙ ap (λ x. replies_of m made ++ x ∷ []) (r ∙ ap (λ x. reply_of x call) h.map) ∙ sym (replies_of-push m made call);
  map = a ∙ ap (λ x. map_after x call) h.map ∙ sym (map_after_all-push m made call);
}

-- the map is then the one after some first calls
pub made_some : (m : Map) (calls : List Call) (n : Map) (made rest : List Call) (replies : List Reply) → HasMade m calls n made rest replies →
    (k : ℕ) × (k ≤ length calls) × (n ≡ map_after_all m (take k calls))
made_some m calls n made rest replies h = (
  length made,
  subst (λ (cs : List Call). length made ≤ length cs) h.all (let l = length-append made rest in omega arith),
  h.map ∙ ap (map_after_all m) (sym (ap (take (length made)) (sym h.all) ∙ take-append_seam made rest)),
)
