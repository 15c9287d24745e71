-- Differences modulo 2^64, and what a call puts in and takes out.
use Rattle.hot_index.proofs.Common.{◌≡◌, ℕ, ◌+◌, ◌*◌, ◌/◌, ◌%◌, ◌^◌, List, [], ◌∷◌, ◌++◌, Bool, true, false, Option, Some, None, sum_by, filter_map, nat_eq, refl, sym, ap, ◌∙◌, subst, arith, sum_by-append, filter_map-append, Call, Insert, Upsert, Exchange, Add, Get, Remove, RemoveIf, Reply, Exchanged, Change, Note, Map, key_of, step_where, step_if, value_at, with_value, without, change_of, changes_of}
use Rattle.std.proofs.Common.{option_to_list}
use Rattle.std.proofs.Math.Nat.{mod-add-div}
use Rattle.finite_map.specs.declared.Reply.TheVariants.{Removed}
use Rattle.hot_index.specs.KeyCounts.{MayReply, IsDifference, IsNet, net_of, puts, takes}

pub differences_add : (x y u v m n : ℕ) → IsDifference x y m → IsDifference u v n → IsDifference (x + u) (y + v) ((m + n) % 2 ^ 64)
differences_add x y u v m n (a, b, e) (c, d, f) =
    let k = (m + n) / 2 ^ 64 in let split : (m + n) % 2 ^ 64 + 2 ^ 64 * k ≡ m + n = mod-add-div (m + n) (2 ^ 64) in
    (a + c + k, b + d, omega (arith, e, f, split))

pub nets_add : (xs ys : List Change) (m n : ℕ) → IsNet xs m → IsNet ys n → IsNet (xs ++ ys) ((m + n) % 2 ^ 64)
nets_add xs ys m n h i = subst (λ less. IsDifference (sum_by puts (xs ++ ys)) less ((m + n) % 2 ^ 64)) (sym (sum_by-append takes xs ys))
    (subst (λ more. IsDifference more (sum_by takes xs + sum_by takes ys) ((m + n) % 2 ^ 64)) (sym (sum_by-append puts xs ys)) (differences_add _ _ _ _ m n h i))

-- the note of this call
abbrev pub noted : ℕ → Call → Reply → Note
noted place call reply = record { place = place; call = call; reply = reply }

-- the change that the call makes, if any
abbrev changes_by : ℕ → ℕ → Call → Reply → List Change
changes_by q place call reply = option_to_list (change_of q (noted place call reply))

module _ (q place : ℕ) where
  where_held : (m : Map) (call : Call) (held : Option ℕ) → IsNet (changes_by q place call (step_where held m call).1) (net_of (step_where held m call).1)
  where_held m (Insert key value) None = (0, 0, refl)
  where_held m (Insert key value) (Some held) = (0, 0, refl)
  where_held m (Upsert key value) None = (0, 0, refl)
  where_held m (Upsert key value) (Some held) = (0, 0, refl)
  where_held m (Exchange key expected value) None = (0, 0, refl)
  where_held m (Exchange key expected value) (Some held) = by_test (nat_eq held expected)
    where
      by_test : (same : Bool) → let r = (step_if same m held (with_value m key value, Exchanged)).1 in
          IsNet (changes_by q place (Exchange key expected value) r) (net_of r)
      by_test true = (0, 0, refl)
      by_test false = (0, 0, refl)
  where_held m (Add key delta) None = (0, 0, refl)
  where_held m (Add key delta) (Some held) = (0, 0, refl)
  where_held m (Get key) None = (0, 0, refl)
  where_held m (Get key) (Some held) = (0, 0, refl)
  where_held m (Remove key) None = (0, 0, refl)
  where_held m (Remove key) (Some held) = (0, 1, refl)
  where_held m (RemoveIf key expected) None = (0, 0, refl)
  where_held m (RemoveIf key expected) (Some held) = by_test (nat_eq held expected)
    where
      by_test : (same : Bool) → let r = (step_if same m held (without m key, Removed held)).1 in
          IsNet (changes_by q place (RemoveIf key expected) r) (net_of r)
      by_test true = (0, 1, refl)
      by_test false = (0, 0, refl)

  pub of_answer : (call : Call) (reply : Reply) → MayReply call reply → IsNet (changes_by q place call reply) (net_of reply)
  of_answer call reply (m, is) = subst (λ r. IsNet (changes_by q place call r) (net_of r)) (sym is) (where_held m call (value_at m (key_of call)))

  pub one_more : (notes : List Note) (call : Call) (reply : Reply) (keys : ℕ) → MayReply call reply → IsNet (changes_of q notes) keys
      → IsNet (changes_of q (notes ++ noted place call reply ∷ [])) ((keys + net_of reply) % 2 ^ 64)
  one_more notes call reply keys is count =
      let last : changes_of q (noted place call reply ∷ []) ≡ changes_by q place call reply = lone (change_of q (noted place call reply)) in
      subst (λ cs. IsNet cs ((keys + net_of reply) % 2 ^ 64)) (ap (λ l. changes_of q notes ++ l) (sym last) ∙ sym (filter_map-append (change_of q) notes (noted place call reply ∷ [])))
      (nets_add (changes_of q notes) (changes_by q place call reply) keys (net_of reply) count (of_answer call reply is))
    where
      lone : (o : Option Change) → filter_map (λ (n : Note). o) (noted place call reply ∷ []) ≡ option_to_list o
      lone None = refl
      lone (Some c) = refl
