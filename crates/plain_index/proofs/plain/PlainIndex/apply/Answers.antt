-- What each call answers, by what the map's method tells of the value that was held.
use Rattle.plain_index.proofs.Common.{sym, ◌∙◌, err_from_is_err_and}
use Rattle.plain_index.proofs.plain.Made.{reply_where}
use Rattle.plain_index.proofs.plain.PlainIndex.apply.Goals as goal
use Rattle.plain_index.proofs.plain.PlainIndex.apply.Goals.{in-Some-2, in-None-2, in-Some-get, in-None-get, in-Some-remove, in-None-remove}

pub returns-in_err-insert-in-None-clause-memory : goal.returns-in_err-insert-in-None-clause-memory
returns-in_err-insert-in-None-clause-memory c = let p = err_from_is_err_and c.from_residual.result c.from_residual.ensures.1 in
    rw (p.1, c.in-Insert.is, ← c.self.view_is) c.in_err-insert-in-None.ensures.absent

pub returns-in_err-held-in-Upsert-clause-memory : goal.returns-in_err-held-in-Upsert-clause-memory
returns-in_err-held-in-Upsert-clause-memory c =
    let p = err_from_is_err_and c.from_residual-in_err-held-in-Upsert.result c.from_residual-in_err-held-in-Upsert.ensures.1 in
    rw (p.1, c.in-Upsert.is, ← c.self-in-Upsert.view_is) c.in_err-held-in-Upsert.ensures.absent

pub returns-after-branch-3-clause-reply : goal.returns-after-branch-3-clause-reply
returns-after-branch-3-clause-reply c = elim c.match-branch-3.branch [
  | in-Some-2 w ↦ rw w.result-is (reply_where _ _ _ _ _ c.self-in-Upsert.view_is c.in-Upsert.is (sym c.in_ok-held-in-Upsert.ensures.old ∙ w.in-Some-2.is))
  | in-None-2 w ↦ rw w.result-is (reply_where _ _ _ _ _ c.self-in-Upsert.view_is c.in-Upsert.is (sym c.in_ok-held-in-Upsert.ensures.old ∙ w.in-None-2.is))
]

pub returns-after-get-2-clause-reply : goal.returns-after-get-2-clause-reply
returns-after-get-2-clause-reply c = elim c.match-get-2.branch [
  | in-Some-get w ↦ rw w.result-is (reply_where _ _ _ _ _ c.self-in-Get.view_is c.in-Get.is (sym w.in-Some-get.ensures.value))
  | in-None-get w ↦ rw w.result-is (reply_where _ _ _ _ _ c.self-in-Get.view_is c.in-Get.is (sym w.in-None-get.ensures.value))
]

pub returns-after-remove-clause-reply : goal.returns-after-remove-clause-reply
returns-after-remove-clause-reply c = elim c.match-remove.branch [
  | in-Some-remove w ↦ rw w.result-is (reply_where _ _ _ _ _ c.self-in-Remove.view_is c.in-Remove.is (sym w.in-Some-remove.ensures.value))
  | in-None-remove w ↦ rw w.result-is (reply_where _ _ _ _ _ c.self-in-Remove.view_is c.in-Remove.is (sym w.in-None-remove.ensures.value))
]
