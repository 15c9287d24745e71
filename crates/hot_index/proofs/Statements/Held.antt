-- A new value of a held key is never refused as full, nor a removal of an absent one.
use Rattle.hot_index.proofs.Common.{◌≡◌, ℕ, List, length, take, Some, None, Result, Ok, Err, IsOk, refl, sym, ap, ◌∙◌, arith, IfErr, MatchResult, Call, Add, Exchange, Get, Insert, Remove, RemoveIf, Upsert, Change, Reply, map_of, key_of, value_at, Layout, TryFault, Busy, FullLeaves, FullNodes, Full, IsNoted, IsRefused, IsRefusedFor, MayTake, WasFound, last_try, PassView}
use Rattle.std.proofs.Math.Seq.{take-length}
use Rattle.rowex_writing.specs.attempts.Attempts.{IsFullFault}
use Rattle.rowex_writing.specs.build.Spare.{IsRemoval}
use Rattle.rowex_writing.specs.declared.plan.Full.TheVariants.{Nodes, Leaves}
use Rattle.hot_index_calls.proofs.Passes.Settled.{none_seen}
use Rattle.hot_index.specs.Statements.{AbsentIsNeverFull, IsNoRemoval, HeldIsNeverFull, OnePassRefusesOnlyNewKeys}
use Rattle.hot_index.proofs.Statements.Alone.{one_pass_is_never_busy}

-- a refusal that can't be as full is a busy one
busy_unless_full : (fault : TryFault) → (IsFullFault fault → ⊥) → fault ≡ Busy
busy_unless_full Busy never = refl
busy_unless_full FullNodes never = absurd (never tt)
busy_unless_full FullLeaves never = absurd (never tt)

-- one that may take a record, and is no removal, found its key absent
takes_new : (call : Call) (k j : PassView) → IsNoRemoval call → MayTake call k j → WasFound (key_of call) None k j
takes_new (Insert key value) k j gives was = was
takes_new (Upsert key value) k j gives was = was
takes_new (Exchange key expected value) k j gives was = absurd was
takes_new (Add key delta) k j gives was = absurd was
takes_new (Get key) k j gives was = absurd was
takes_new (Remove key) k j gives was = absurd gives
takes_new (RemoveIf key expected) k j gives was = absurd gives

pub held_is_never_full : HeldIsNeverFull
held_is_never_full layout call k j fault refused gives held =
    busy_unless_full fault (λ full. let was = takes_new call k j gives (refused.full full) in held was.place was.begun was.upto was.found)

-- a removal that may take a record found its key
takes_held : (call : Call) (k j : PassView) → IsRemoval call → MayTake call k j → (value : ℕ) × WasFound (key_of call) (Some value) k j
takes_held (Insert key value) k j removes was = absurd removes
takes_held (Upsert key value) k j removes was = absurd removes
takes_held (Exchange key expected value) k j removes was = absurd removes
takes_held (Add key delta) k j removes was = absurd removes
takes_held (Get key) k j removes was = absurd removes
takes_held (Remove key) k j removes was = was
takes_held (RemoveIf key expected) k j removes was = (expected, was)

pub absent_is_never_full : AbsentIsNeverFull
absent_is_never_full layout call k j fault refused removes absent =
    busy_unless_full fault (λ full. let (value, was) = takes_held call k j removes (refused.full full) in let none : Some value ≡ None = sym was.found ∙ absent was.place was.begun was.upto in absurd (cc))

-- a refusal of an index of one pass is as full
full_alone : (layout : Layout) (call : Call) (k j : PassView) (fault : TryFault) → layout.passes ≡ 1 → IsRefusedFor layout call k j fault → IsFullFault fault
full_alone layout call k j Busy one refused = absurd (one_pass_is_never_busy layout call k j one refused.cause)
full_alone layout call k j FullNodes one refused = tt
full_alone layout call k j FullLeaves one refused = tt

pub one_pass_refuses_only_new_keys : OnePassRefusesOnlyNewKeys
one_pass_refuses_only_new_keys layout call k j fault one mine legal refused gives =
    let was = takes_new call k j gives (refused.refused.full (full_alone layout call k j fault one refused)) in
    let same : j.front ≡ k.front = none_seen layout k j one mine legal refused.refused.unnoted in
    let at : was.place ≡ length k.front = (let begun = was.begun in let upto = was.upto in omega (arith, begun, upto, ap length same)) in
    sym (ap (λ (z : List Change). value_at (map_of z) (key_of call)) (ap (take was.place) same ∙ ap (λ n. take n k.front) at ∙ take-length k.front)) ∙ was.found

-- ---- calls that take no record
module _ (layout : Layout) (k j : PassView) (call : Call) (never : MayTake call k j → ⊥) where
  -- one that waits is made
  pub is_made : (r : Result Reply Full) → MatchResult (last_try r) (IsNoted layout k j call) (IsRefused layout call k j) → IsOk r
  is_made (Ok reply) made = refl
  is_made (Err Nodes) made = absurd (never (made.full tt))
  is_made (Err Leaves) made = absurd (never (made.full tt))

  -- and one that doesn't wait is refused only as busy
  pub is_busy : (r : Result Reply TryFault) → MatchResult r (IsNoted layout k j call) (IsRefused layout call k j) → IfErr r (λ fault. fault ≡ Busy)
  is_busy (Ok reply) made = tt
  is_busy (Err fault) made = busy_unless_full fault (λ full. never (made.full full))
