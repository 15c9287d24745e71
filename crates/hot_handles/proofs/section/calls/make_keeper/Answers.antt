-- The first section, and the others behind it.
use Rattle.std.proofs.Common.{rules, ◌≡◌, All, sym, subst, ap}
use Rattle.sections.specs.Sections.{IsNewSection, IsSectionOf, SectionsView}
use Rattle.hot_handles.specs.SectionHandles.{KeepsSections}
use Rattle.hot_handles.specs.declared.section.opened.OpenSection.{OpenSection}
use Rattle.hot_handles.proofs.section.calls.Kept.{splits}
use Rattle.hot_handles.proofs.section.calls.make_keeper.Goals as goal

pub invariant_of-new : goal.invariant_of-new
invariant_of-new c =
    let made = c.in_ok-sections.ensures in
    let parts = splits c.in_ok-sections.sections c.args.count c.in_ok-sections.kept.items c.reverse.new.self.items c.pop.new.self.items c.in-Some.section made.sections (search rules) c.reverse.ensures.items (search rules) in
    let table : c.in_ok-sections-2.sections.value ≡ c.in_ok-sections.sections = search rules in
    record {
      own = subst (λ (t : SectionsView). IsSectionOf t c.in-Some.section) (sym table) (parts.new.0, ap (λ k. k.count) parts.new.1);
      kept_own = subst (λ (t : SectionsView). All (IsSectionOf t) c.pop.new.self.items) (sym table) parts.own;
    }

pub returns : goal.returns
returns c =
    let made = c.in_ok-sections.ensures in
    let parts = splits c.in_ok-sections.sections c.args.count c.in_ok-sections.kept.items c.reverse.new.self.items c.pop.new.self.items c.in-Some.section made.sections (search rules) c.reverse.ensures.items (search rules) in
    let table : c.in_ok-sections-2.sections.value ≡ c.in_ok-sections.sections = search rules in
    subst (λ (o : OpenSection). KeepsSections c.args.count o) (sym c.in_ok-new.ensures.ok)
    (record { count_is = search rules; kept = parts.length_is; new = subst (λ (t : SectionsView). IsNewSection t 0 c.in-Some.section) (sym table) parts.new })
