-- How a scan ends: its pass clears the pin, and adds no note.
use Rattle.hot_index_calls.proofs.Common.{IfOk, OnErr, ◌≡◌, ℕ, Bool, List, [], ◌++◌, sym, ap, subst, ◌∙◌, ◌+◌, ◌≤◌, arith, append-nil, Note, LegalCalls, legal_longer, Layout, ClearPin, Known, IsEvent, StepsWith, silent, Pins, Event, SeatView, TableView, Key, seen, since, event_recalls}
use Rattle.std.specs.Prelude.{IsSome, Result, Ok, Err}
use Rattle.std.specs.declared.alloc.AllocError.{AllocError}
use Rattle.finite_map.specs.declared.Scan.{Scan}
use Rattle.key_bits.specs.Key.{IsKey}
use Rattle.version_laws.specs.Scan.{Pair, Range, in_order_taken}
use Rattle.hot_index_calls.specs.Passes.{PassView, IsSettled, pass_of}
use Rattle.version_laws.specs.Directions.{ScanLaw}
use Rattle.hot_index_calls.specs.Answers.{AreValuesListed, IsListed, IsListedBy, IsRangeCounted, IsScannedBy, IsUnnoted}
use Rattle.version_laws.specs.Directions.{IsAnswer, IsLawfulBy}
use Rattle.version_laws.proofs.Scan.Fronts.{length_in_order_taken}
use Rattle.rowex_scanning.specs.Scanning.{HasScanned, HasTaken}
use Rattle.rowex_scanning.specs.Tallies.{tally_of_number, tally_of_values}
use Rattle.packed_pairs.specs.declared.direction.Direction.{Direction}
use Rattle.packed_pairs.specs.declared.direction.Direction.TheVariants.{Upwards}
use Rattle.rowex_scanning.proofs.Scanned.{answer_short, lawful_scan, lawful_taken, values_of_pairs}
use Rattle.hot_index_calls.proofs.Noting.{HasLooked, goes_on, legal_front, settles}
use Rattle.rowex_reading.proofs.Seen.Loading.{pinned_by}

-- What follows of an answer, and of a refusal.

pub if_answered : {A : Type 0} (r : Result A AllocError) (P Q : A → Type 0) → ((answer : A) → P answer → Q answer) → IfOk r P → IfOk r Q
if_answered (Ok answer) P Q f h = f answer h
if_answered (Err e) P Q f h = h

pub if_refused : {A : Type 0} (r : Result A AllocError) (Q : Type 0) → Q → OnErr r Q
if_refused (Ok answer) Q h = tt
if_refused (Err e) Q h = h

-- A list has the pairs of a scan.
module _ {IsLawful : ScanLaw} {layout : Layout} {k j : PassView} {range : Range} {pairs : List (Key × ℕ)} {more : Bool} (h : IsListedBy IsLawful layout k j range pairs more) where
  pub listed_scanned : (scan : Scan) → scan.pairs.items ≡ pairs → scan.more ≡ more → IsScannedBy IsLawful layout k j range scan
  listed_scanned scan same last = record { on = h.on; notes = h.notes; lawful = h.lawful scan same last; legal = h.legal }

  pub listed_unnoted : IsUnnoted layout k j
  listed_unnoted = record { number = h.on.number; front = h.on.front; notes = h.notes; legal = h.legal; makers = h.on.makers }

-- The pass was settled, has looked since, and clears the pin now.
module _ {layout : Layout} {i : Known} (s t : SeatView) (settled : IsSettled s.known) (looks : HasLooked s.known i) (event : IsEvent layout ClearPin silent i t.known) where
  legal : LegalCalls i.front i.pass (i.notes ++ [])
  legal = subst (λ (z : ℕ × List Note). LegalCalls i.front z.0 z.1) (λ x. (sym looks.on.pass x, sym same x))
      (legal_longer s.known.front i.front s.known.pass s.known.notes settled.legal looks.others (legal_front s t looks.on event))
    where
      same : i.notes ++ [] ≡ s.known.notes
      same = append-nil i.notes ∙ looks.on.notes

  pub scan_settled : IsSettled t.known
  scan_settled = settles s t looks.on event legal

  notes_stay : t.known.notes ≡ s.known.notes
  notes_stay = ap (λ (z : Known). z.notes) event.learned_is ∙ (append-nil i.notes ∙ looks.on.notes)

  legal_then : LegalCalls t.known.front t.known.pass t.known.notes
  legal_then = subst (λ (z : Known). LegalCalls z.front z.pass z.notes) (sym event.learned_is) legal

  pub scan_refused : IsUnnoted layout (pass_of s) (pass_of t)
  scan_refused = let on = goes_on s t looks.on event in record { number = on.number; front = on.front; notes = notes_stay; legal = legal_then; makers = on.makers }

  pub scan_answered : (d : Direction) (g : Range) → IsKey g.from × IsKey g.upto → IsSome i.pin → (pairs : List (Key × ℕ)) (more : Bool) → HasScanned d i g pairs more →
      IsListedBy (IsLawfulBy d) layout (pass_of s) (pass_of t) g pairs more
  scan_answered d g keys is pairs more h = record {
    on = goes_on s t looks.on event;
    notes = notes_stay;
    lawful =
        λ scan same last.
        let p = pinned_by i.pin is in
        let listed = subst (λ z. HasScanned d i g z scan.more) (sym same) (subst (λ z. HasScanned d i g pairs z) (sym last) h) in
        subst (λ (z : Known). IsLawfulBy d z.fresh.front z.front g.from g.upto g.limit scan) (sym event.learned_is) (lawful_scan d i g scan layout silent t.known keys.0 keys.1 p.0 p.1 listed event);
    legal = legal_then;
  }

  -- Some pairs were taken.
  module _ (g : Range) (keys : IsKey g.from × IsKey g.upto) (is : IsSome i.pin) where
    listed_taken : (taken : List Pair) (more : Bool) → IsAnswer Upwards (seen event.core i) (since i) g taken more → IsListed layout (pass_of s) (pass_of t) g (in_order_taken taken) more
    listed_taken taken more answer = record {
      on = goes_on s t looks.on event;
      notes = notes_stay;
      lawful =
          λ scan same last.
          let p = pinned_by i.pin is in
          let listed = lawful_taken Upwards i g scan layout silent t.known keys.0 keys.1 p.0 p.1 event taken same (subst (λ z. IsAnswer Upwards (seen event.core i) (since i) g taken z) (sym last) answer) in
          subst (λ (z : Known). IsLawfulBy Upwards z.fresh.front z.front g.from g.upto g.limit scan) (sym event.learned_is) listed;
      legal = legal_then;
    }

    -- They were counted,
    pub scan_numbered : (number : ℕ) (more : Bool) → HasTaken Upwards i g (tally_of_number number) more → IsRangeCounted layout (pass_of s) (pass_of t) g number
    scan_numbered number more h =
        let (taken, tallied, answer) = h event.core event.lawful (event_recalls event) in
        let short = answer_short Upwards (seen event.core i) (since i) g taken more answer in let n = tallied.0 in
        record { few = omega (arith, short, n); pairs = in_order_taken taken; number_is = n ∙ sym (length_in_order_taken taken); more = more; listed = listed_taken taken more answer }

    -- or their values listed.
    pub scan_valued : (values : List ℕ) (more : Bool) → HasTaken Upwards i g (tally_of_values values) more → AreValuesListed layout (pass_of s) (pass_of t) g values more
    scan_valued values more h =
        let (taken, tallied, answer) = h event.core event.lawful (event_recalls event) in
        let short = answer_short Upwards (seen event.core i) (since i) g taken more answer in let n = tallied.0 in
        record { few = omega (arith, short, n); pairs = in_order_taken taken; values_are = tallied.1 ∙ values_of_pairs taken; listed = listed_taken taken more answer }

-- The steps of a scan: pinned by two, unpinned by one.
pub scan_counted : {G : Type 0} {table : TableView} {becomes : G → Event → G → Type 0} {a b c d : SeatView × G} {said : Known → List Note} (loads : ℕ) → Pins table becomes a b →
    c.0.known.steps ≤ b.0.known.steps + (1 + loads) → StepsWith table becomes ClearPin said c d → d.0.known.steps ≤ a.0.known.steps + (4 + loads)
scan_counted {a = a} {b = b} {c = c} {d = d} loads pins few end =
    let first : b.0.known.steps ≡ a.0.known.steps + 2 = ap (λ (z : Known). z.steps) pins.1.rest in
    let third : d.0.known.steps ≡ c.0.known.steps + 1 = ap (λ (z : Known). z.steps) end.event.learned_is in
    omega (arith, first, few, third)
