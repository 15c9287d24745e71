-- Which records a call must find not free before it lacks one: a removal each node record, another call those that it knows to be committed.
use Rattle.std.specs.Prelude.{ℕ, List}
use Rattle.finite_map.specs.declared.Call.{Call}
use Rattle.finite_map.specs.declared.Call.TheVariants.{Add, Exchange, Get, Insert, Remove, RemoveIf, Upsert}
use Rattle.record_words.specs.Layout.{uncommitted_in}
use Rattle.record_words.specs.declared.layout.Layout.{Layout}
use Rattle.record_words.specs.declared.records.Rec.{Rec}
use Rattle.rowex_core.specs.declared.known.Failed.{Failed}
use Rattle.rowex_table.specs.Committed.{AtMost}
use Rattle.rowex_writing.specs.attempts.Attempts.{bounds_for}
use Rattle.rowex_writing.specs.build.Changes.{LacksNodes}
use Rattle.hot_index_calls.proofs.Common.{arith, lacks_so, le_refl}

-- the fewer a pass knows to be uncommitted, the fewer its call leaves out
pub call_bounds_fall : (call : Call) (few many : List ℕ) → AtMost (uncommitted_in few) (uncommitted_in many) → AtMost (uncommitted_in (bounds_for call few)) (uncommitted_in (bounds_for call many))
call_bounds_fall (Insert key value) few many falls = falls
call_bounds_fall (Upsert key value) few many falls = falls
call_bounds_fall (Exchange key expected value) few many falls = falls
call_bounds_fall (Add key delta) few many falls = falls
call_bounds_fall (Get key) few many falls = falls
call_bounds_fall (Remove key) few many falls = λ kind. omega arith
call_bounds_fall (RemoveIf key expected) few many falls = λ kind. omega arith

-- it leaves out no more than those that its pass doesn't know to be committed
pub call_bounds_few : (call : Call) (bounds : List ℕ) → AtMost (uncommitted_in (bounds_for call bounds)) (uncommitted_in bounds)
call_bounds_few (Insert key value) bounds = λ kind. le_refl (uncommitted_in bounds kind)
call_bounds_few (Upsert key value) bounds = λ kind. le_refl (uncommitted_in bounds kind)
call_bounds_few (Exchange key expected value) bounds = λ kind. le_refl (uncommitted_in bounds kind)
call_bounds_few (Add key delta) bounds = λ kind. le_refl (uncommitted_in bounds kind)
call_bounds_few (Get key) bounds = λ kind. le_refl (uncommitted_in bounds kind)
call_bounds_few (Remove key) bounds = λ kind. omega arith
call_bounds_few (RemoveIf key expected) bounds = λ kind. omega arith

-- so it lacks those that its pass knows to be committed
pub call_lacks : (layout : Layout) (call : Call) (bounds : List ℕ) (pass : ℕ) (failed : List Failed) (since : ℕ) (own : List Rec) → LacksNodes layout (bounds_for call bounds) pass failed since own →
    LacksNodes layout bounds pass failed since own
call_lacks layout call bounds pass failed since own l = lacks_so layout (bounds_for call bounds) bounds pass failed failed since since own (call_bounds_few call bounds) l (λ Whose r missed. missed)
