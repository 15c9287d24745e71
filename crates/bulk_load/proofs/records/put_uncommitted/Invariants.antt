-- The counts so far stand there, and all other words are as before.
use Rattle.bulk_load.proofs.Common.{◌≡◌, ℕ, ◌⊎◌, ◌+◌, ◌<◌, ◌≤◌, get_or, length}
use Rattle.record_words.specs.declared.TheConstants.{FIRST_UNCOMMITTED, RECORD_KINDS}
use Rattle.bulk_load.proofs.records.put_uncommitted.Given as goal

abbrev pub invariant-loop-kind : goal.invariant-loop-kind
invariant-loop-kind l = record {
  size : length l.words ≡ length l.fn.words;
  counts : (kind : ℕ) → kind < l.kind → get_or l.words (FIRST_UNCOMMITTED + kind) 0 ≡ get_or l.counts kind 0;
  others : (k : ℕ) → (k < FIRST_UNCOMMITTED) ⊎ (FIRST_UNCOMMITTED + RECORD_KINDS ≤ k) → get_or l.words k 0 ≡ get_or l.fn.words k 0;
}
