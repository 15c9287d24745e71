-- Where the root loses its only leaf nothing is made.
use Rattle.rowex_writing.proofs.Common.{[], ◌∷◌, ◌+◌, ◌≤◌, Some, Ok, refl, sym, ap, subst, arith, length, ◌≡◌, ◌∙◌, None, a_leaf, removed_change, item, Leaf}
use Rattle.rowex_writing.specs.build.Changes.{IsDeedChange, IsTakeChange, MayPublishOnceReady}
use Rattle.rowex_writing.specs.plan.Counts.{deed_steps, spare_steps}
use Rattle.rowex_writing.specs.build.Deeds.{MayReplace}
use Rattle.rowex_writing.specs.locks.Locks.{locks_of}
use Rattle.rowex_writing.specs.plan.Plans.{TakesLeaf}
use Rattle.rowex_writing.specs.build.Spare.{by_kept}
use Rattle.rowex_writing.specs.build.Walks.{nodes_among}
use Rattle.rowex_writing.proofs.locks.Going.{goes_none}
use Rattle.rowex_writing.proofs.build.deeds.Deeds.{just_leaf_gone}
use Rattle.rowex_writing.proofs.build.taking.Taking.{found_leaf, may_empty, only_records, take_all, take_only}
use Rattle.rowex_writing.proofs.build.deeds.carry_out_deed.Goals as goal
use Rattle.rowex_writing.specs.declared.plan.Full.{Full}

pub empty_root-requires : goal.empty_root-requires
empty_root-requires g c =
    let (m, aim, taken, planned) = c.requires.taken in
    record { found = found_leaf c.args.seat.now.known m c.args.job.now aim c.args.job.now.deed (subst TakesLeaf (sym c.in-Empty.is) tt) planned }

pub returns-in-Empty-clause-done : goal.returns-in-Empty-clause-done
returns-in-Empty-clause-done g c =
    let job = c.args.job.now in
    let table = c.args.table.now in
    let seat = c.args.seat.now in
    let (m, aim, taken, planned) = c.requires.taken in
    let takes = subst TakesLeaf (sym c.in-Empty.is) tt in
    let (number, value, same) = found_leaf seat.known m job aim job.deed takes planned in
    let (only, top, low) = take_only table seat m job aim job.deed takes taken planned number value None same (take_all seat.known m job aim job.deed takes planned c.in-Empty.is) in
    let x = removed_change seat.known.pass (item number job.key.now value) in
    let made = c.empty_root.new.build.made.items in
    let may : MayReplace table seat made job (record { entry = None; low = 0; leaf = Some number }) x (Some value) = record {
      from = omega (arith, top);
      upto = omega arith;
      most = omega (arith, low);
      leaf = only_records table seat number job.key.now value only;
      ends = λ spot over.
          subst (MayPublishOnceReady table seat made spot 0 x (Some value)) (sym (just_leaf_gone job.way.now job.span.end 0 (Some number) (sym top)))
          (subst (λ z. MayPublishOnceReady table seat z spot 0 x (Some value) (a_leaf number ∷ [])) (sym c.empty_root.ensures.made)
          (may_empty table seat number job.key.now value only job.way.now job.span.end top spot over));
      few = omega (arith, ap length c.empty_root.ensures.made);
      takes = λ leaf is. (let here : number ≡ leaf = cc in (value, same ∙ ap (λ n. Leaf n value None) here, refl));
    } in
    record {
      goes = goes_none table g.G.Gate.becomes (seat, c.args.gate.now);
      raised = (
        x,
        Some value,
        subst (λ d. IsDeedChange seat.known.pass d job.key.now job.value job.found x (Some value)) (sym c.in-Empty.is) (subst (λ f. IsTakeChange seat.known.pass job.key.now f x (Some value)) (sym same) (refl, refl)),
        subst (λ r. MayReplace table seat made job r x (Some value)) (sym (c.empty_root.ensures.same number value same)) may,
      );
      full = tt;
      few = subst (λ d. seat.known.steps + spare_steps d ≤ seat.known.steps + deed_steps {E = Full} table.layout (locks_of job.span) (Ok c.empty_root.result)) (sym c.in-Empty.is) (omega arith);
    }

pub returns-in-Empty-clause-spares : goal.returns-in-Empty-clause-spares
returns-in-Empty-clause-spares g c = λ was. by_kept was (ap nodes_among c.empty_root.ensures.made)
