-- A step leads from the core that shows the table's state to the one that shows the next.
use Rattle.index_laws.proofs.Common.{◌≡◌, ◌≢◌, ℕ, List, ◌++◌, set, get_or, refl, sym, ap, subst, ◌∙◌, ⊎_elim, arith, le_trans, IsInTable, address, Layout, Act, Event, Known, Core, Shows, word_at, Legal, after, location_of, writes, Knows, learned, opening, stays_lawful, IsTrueOf, found_by, apart_set, each_set, found_atomic, found_place, found_writes, learned_pass, still_true, true_after, led_more}
use mathlib.Core.Option.{some}
use lib.ListN.{get_elem?}
use Rattle.atomic_table.proofs.Lists.{at_set}
use Rattle.rowex_core.proofs.Events.{in_table, writes_one}
use Rattle.rowex_table.specs.declared.traces.TracedView.{TracedView}
use Rattle.rowex_table.specs.declared.traces.TracedView.TheVariants.{Pass}
use Rattle.record_words.specs.Layout.{uncommitted_in}
use Rattle.rowex_table.specs.Committed.{AtMost}
use Rattle.rowex_table.proofs.Committed.{committed_falls, found_committed, taken_more, takes_committed, uncommitted_apart, uncommitted_stays}
use Rattle.index_laws.proofs.laws.Shown.{is_step, stepped}
use Rattle.index_laws.specs.Steps.{StepsAreMoments, StepsFollow, known_after, made_at, run_after, view_after}

pub steps_follow : StepsFollow
steps_follow layout s r id k t here act notes plain may claims =
    let c : Core = r.core in
    let i : ℕ = address layout (location_of k.pass act) in
    let w : ℕ = get_or s.words i 0 in
    let at : ℕ = word_at c (location_of k.pass act) in
    let does : Act = made_at c k act in
    let known : Knows c k = (r.knows id (Pass k t) here).0 in
    let found : Legal c k.pass does = subst (λ z. Legal c k.pass (found_by act (word_at c z))) (found_place k.pass act 0) (may c r.lawful r.layout_is known) in
    let inside = subst (λ z. IsInTable c.layout z) (found_place k.pass act at) (in_table c k.pass does found) in
    let there : i ≡ address c.layout (location_of k.pass act) = ap (λ (z : Layout). address z (location_of k.pass act)) (sym r.layout_is) in
    let word : w ≡ at = ap (λ z. get_or s.words z 0) there ∙ r.shows.each (location_of k.pass act) inside in
    let j : Known = known_after c k act notes in
    let run : List Event = run_after r.run c k act in
    let v : TracedView = view_after r.run c k t act notes in
    let now : List ℕ = set s.words i (writes act w) in
    let less : AtMost (uncommitted_in now) (uncommitted_in s.words) = (λ kind. let e = uncommitted_stays s.words i (writes act w) kind (λ e. uncommitted_apart c.layout (location_of k.pass act) kind (e ∙ there)) in omega arith) in
    let bounds : AtMost (uncommitted_in now) (uncommitted_in t.bounds) = (λ kind. le_trans (less kind) ((r.knows id (Pass k t) here).2 kind)) in (
      found,
      record {
        core = after c k.pass does;
        lawful = stays_lawful c k.pass does r.lawful found;
        layout_is = r.layout_is;
        shows = subst (λ (z : ℕ × ℕ). Shows (after c k.pass does) (set s.words z.0 z.1))
            (λ e. ((ap (λ z. address c.layout z) (found_place k.pass act at) ∙ sym there) e, (found_writes act at (word_at c (location_of k.pass does)) ∙ (ap (λ z. writes act (word_at c z)) (found_place k.pass act at) ∙ ap (writes act) (sym word))) e))
            (writes_one c k.pass does s.words (found_atomic act at plain) r.lawful found r.shows);
        run = run;
        led = led_more (opening layout) r.run c k.pass does r.led found;
        committed = λ rec taken. ⊎_elim
            (λ old. committed_falls layout (uncommitted_in now) (uncommitted_in s.words) rec less (r.committed rec old))
            (λ new. takes_committed layout (uncommitted_in now) (uncommitted_in t.bounds) does rec (found_atomic act at plain) bounds (found_committed layout (uncommitted_in t.bounds) act at claims) new)
            (taken_more layout r.run (record { pass = k.pass; act = does }) rec taken);
        knows = λ m w e. ⊎_elim
            (λ (h : (m ≡ id) × (v ≡ w)). subst (IsTrueOf (after c k.pass does) run (uncommitted_in now)) h.1 (true_after c r.run k j t does r.lawful known found j.notes refl (uncommitted_in now) bounds))
            (λ (h : (m ≢ id) × (get_elem? s.views m ≡ some w)). still_true c r.run k.pass does w r.lawful found (λ o. h.0 (r.apart m id k.pass w (Pass k t) h.1 here o refl)) (uncommitted_in now) (uncommitted_in s.words) less (r.knows m w h.1))
            (at_set s.views id m v w e);
        apart = apart_set s.views id (Pass k t) v here (λ q o. sym (learned_pass c does k) ∙ o) r.apart;
        each = λ q low. each_set s.views id q (Pass k t) v here (λ o. learned_pass c does k ∙ o) (r.each q low);
      },
      refl,
      refl,
    )

pub steps_are_moments : StepsAreMoments
steps_are_moments layout s r id k t here act notes plain may claims a core known call called =
    let x = steps_follow layout s r id k t here act notes plain may claims in
    let q : ℕ = k.pass in
    let does : Act = made_at r.core k act in
    let step = is_step a q does notes call (subst (λ c. Legal c q does) (sym core) x.0) called in (
      x.1,
      stepped a q does notes,
      ap (λ c. after c q does) core ∙ sym x.2,
      step.own ∙ ap (λ c. record (learned c does (a.known q)) { notes = (a.known q).notes ++ notes }) core ∙ ap (λ (z : Known). record (learned r.core does z) { notes = z.notes ++ notes }) known,
      step,
    )
