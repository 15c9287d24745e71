-- The words are read one after another, and after a word 0 none is an entry's.
use Rattle.rowex_replay_state.proofs.Common.{◌≡◌, ◌≢◌, arith, sym, length, ◌∙◌, Bad, entry_words_at}
use Rattle.std.specs.Prelude.{slice_get}
use Rattle.rowex_replay_state.proofs.node.Entries.{none_so_far, one_more, none_more, no_entry_later, entries_read}
use Rattle.rowex_replay_state.proofs.leaf.Readings.{reads_none, reads_fault}
use Rattle.rowex_replay_state.proofs.node.unpack_entries.Goals as goal
use Rattle.rowex_replay_state.proofs.node.unpack_entries.Goals.{in-Some, in-None}

pub loop-i-init : goal.loop-i-init
loop-i-init c = rw c.new-entries.ensures (none_so_far c.args.words.now)

pub returns-in_err-entry : goal.returns-in_err-entry
returns-in_err-entry c =
    let i = c.loop-i.i in
    reads_fault _ c.from_residual.ensures.0 (λ entries has same.
    absurd (cc (c.in_err-entry.ensures.read (slice_get entries.items i) (has.each i) (sym (entry_words_at entries.items c.args.words.now same i (omega arith))))))

pub returns-in-Some-2 : goal.returns-in-Some-2
returns-in-Some-2 c =
    let read = rw c.in-Some.is at c.in_ok-entry.ensures.spelling in
    let apart : length c.loop-i.entries.items ≢ c.loop-i.i = λ here. c.if-len-i.false (c.len.ensures.value ∙ here) in
    reads_none Bad (λ entries has same.
    no_entry_later c.loop-i.entries.items entries.items c.args.words.now c.loop-i.i c.in-Some.entry c.loop-i.invariant (omega arith) apart read.1 has same)

pub loop-i-preserved : goal.loop-i-preserved
loop-i-preserved c =
    elim c.match-branch-2.branch [
      | in-Some w ↦
          let read = rw w.in-Some.is at c.in_ok-entry.ensures.spelling in
          rw (w.entries-is, w.push.ensures.items) (one_more c.loop-i.entries.items c.args.words.now c.loop-i.i w.in-Some.entry c.loop-i.invariant (sym w.len.ensures.value ∙ w.if-len-i.true) read.0 read.1)
      | in-None w ↦
          let read = rw w.in-None.is at c.in_ok-entry.ensures.spelling in
          rw w.entries-is (none_more c.loop-i.entries.items c.args.words.now c.loop-i.i c.loop-i.invariant (sym read.1))
    ]

pub returns : goal.returns
returns c =
    let all : c.loop-i.i ≡ 32 = omega arith in
    entries_read c.loop-i.entries c.args.words.now c.requires (rw all at c.loop-i.invariant)
