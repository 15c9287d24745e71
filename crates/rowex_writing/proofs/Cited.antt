-- The lemmas that crates above cite.
pub use Rattle.rowex_writing.proofs.build.Changes.{lacks_so, run_failed}
pub use Rattle.rowex_writing.proofs.build.Spare.{reads_plain, runs_split, step_lone}
pub use Rattle.rowex_writing.proofs.locks.Locks.{no_change_from_later}
pub use Rattle.rowex_writing.proofs.locks.Others.{met_between, runs_begin}
pub use Rattle.rowex_writing.proofs.locks.Runs.{act_front, of_attempt_pin}
