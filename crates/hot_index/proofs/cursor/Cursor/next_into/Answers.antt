-- The keys that are left are those that the scan was asked for.
use Rattle.hot_index.proofs.Common.{rules, ◌≡◌, Option, Some, None, Ok, Err, sym, ◌∙◌, range_from, IsListRead}
use Rattle.hot_index.specs.Cursors.{IsLeft}
use Rattle.hot_index.specs.declared.cursor.Rest.{Rest}
use Rattle.hot_index.proofs.cursor.Cursor.next_into.Goals as goal

of_the_same : (kept : Option Rest) (rest : Rest) (P : Rest → Type 0) → kept ≡ Some rest → P rest → (left : Rest) → kept ≡ Some left → P left
of_the_same kept rest P was told left is = search rules

not_ended : {A : Type 0} (kept : Option A) (rest : A) → kept ≡ Some rest → kept ≡ None → ⊥
not_ended kept rest was none = cc

pub returns-in-Ok-clause-ended : goal.returns-in-Ok-clause-ended
returns-in-Ok-clause-ended c = λ none. absurd (not_ended _ _ (sym c.self.view_is ∙ c.in-Some.is) none)

pub returns-in-Ok-clause-listed : goal.returns-in-Ok-clause-listed
returns-in-Ok-clause-listed c = of_the_same _ _
    (λ (r : Rest). IsListRead (range_from r.from r.upto c.args.limit) c.scan_into.new.pairs (Ok c.in-Ok.more) c.args.index.now c.args.pass.now c.scan_into.new.pass)
    (sym c.self.view_is ∙ c.in-Some.is) c.in-Ok.ensures

pub returns-in-Ok-clause-left : goal.returns-in-Ok-clause-left
returns-in-Ok-clause-left c = of_the_same _ _ (λ (r : Rest). IsLeft r c.scan_into.new.pairs c.in-Ok.more c.rest_after_part-self-inside.result)
    (sym c.self.view_is ∙ c.in-Some.is) c.rest_after_part-self-inside.ensures

pub returns-in-Err-clause-ended : goal.returns-in-Err-clause-ended
returns-in-Err-clause-ended c = λ none. absurd (not_ended _ _ (sym c.self.view_is ∙ c.in-Some.is) none)

pub returns-in-Err-clause-listed : goal.returns-in-Err-clause-listed
returns-in-Err-clause-listed c = of_the_same _ _
    (λ (r : Rest). IsListRead (range_from r.from r.upto c.args.limit) c.scan_into.new.pairs (Err c.in-Err.refused) c.args.index.now c.args.pass.now c.scan_into.new.pass)
    (sym c.self.view_is ∙ c.in-Some.is) c.in-Err.ensures
