-- The opening, and one section more.
use Rattle.std.proofs.Common.{rules, ◌≡◌, ℕ, List, ap, subst, sym, ◌∙◌}
use mathlib.Core.Option.{some}
use lib.ListN.{get_elem?}
use Rattle.sections.specs.Rule.{section_dealt, owner_of, next_section}
use Rattle.sections.specs.Sections.{IsNewSection, SectionsView, SectionView}
use Rattle.sections.proofs.Rule.Dealing.{deals, each_longer, opens}
use Rattle.sections.proofs.table.Sections.new.Goals as goal

pub of_words-requires : goal.of_words-requires
of_words-requires c = opens c.args.count c.as_slice.result.now (search rules)

pub split_seat-seat-requires : goal.split_seat-seat-requires
split_seat-seat-requires c = (search rules, search rules, deals c.in_ok-table.table.shared.key _ c.loop-number.number c.args.count _ (ap (λ m. m.0) c.loop-number.invariant.1))

pub loop-number-preserved : goal.loop-number-preserved
loop-number-preserved c =
    let was = ap (λ m. m.0) c.loop-number.invariant.1 in
    let none = ap (λ m. m.1) c.loop-number.invariant.1 in
    let split = c.split_seat-seat.ensures in
    let made : SectionsView = record { id = c.in_ok-table.table.shared.table_id; count = c.args.count } in (
      search rules,
      split.2 ∙ (λ i. (next_section (was i), none i)),
      search rules,
      subst (λ (l : List SectionView). (q : ℕ) (s : SectionView) → get_elem? l q ≡ some s → IsNewSection made q s) (sym c.in_ok-push.ensures.items)
          (each_longer (λ q (s : SectionView). IsNewSection made q s) c.loop-number.sections.items _ c.loop-number.number c.loop-number.invariant.2 c.loop-number.invariant.3
          (search rules, ap (λ m. owner_of m.0) split.4 ∙ ap (λ v. owner_of (section_dealt v)) was)),
    )
