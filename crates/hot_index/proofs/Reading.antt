-- What a call that reads a range ensures, by what the list of its pairs became.
use Rattle.hot_index.proofs.Common.{◌≡◌, ◌≢◌, ℕ, ◌+◌, ◌<◌, ◌≤◌, ◌^◌, ◌∙◌, List, [], length, Bool, true, Option, sym, subst, IfOk, IsSome, OnErr, option_to_list, on_err_weaker, Scan, IsKey, Layout, ClearPin, Event, Looks, looked_at, looks_same, IsLawfulBy, HasScanned, HasScannedPart, HasTaken, HasTakenPart, limited, tally_of_number, tally_of_values, Upwards, Direction, StepsWith, silent, IsPassOf, IsSeatOf, SeatView, TableView, Range, Pins, Key, ScanLaw, AreValuesListed, IsFoundBy, IsListedBy, IsUnnoted, range_from, IsCountReadWith, IsListReadBy, IsRangeReadWith, IsScanReadBy, IsValuesReadWith, no_part, PassView, IsSettled, pass_of, fits_then, looked, has_walked}
use Rattle.std.specs.Prelude.{Result, Ok, Err}
use Rattle.std.specs.declared.alloc.AllocError.{AllocError}
use Rattle.rowex_scanning.specs.Counts.{Scans, limit_by, scan_loads}
use Rattle.hot_index.proofs.index.Found.{listed_found, part_found, taken_found}
use Rattle.hot_index.specs.Passes.{IsSettledWith}
use Rattle.hot_index.specs.declared.key_counts.KeyCount.{KeyCount}
use Rattle.hot_index.proofs.KeyCounts.Counted.{settled_on}
use Rattle.hot_index_calls.proofs.Noting.Scanned.{if_answered, if_refused, listed_scanned, listed_unnoted, scan_answered, scan_counted, scan_numbered, scan_refused, scan_settled, scan_valued}

module _ {G : Type 0} {range : Range} {index : TableView} {becomes : G → Event → G → Type 0} {a b : PassView × G} where
  -- whatever part is left
  pub range_whole : {A E : Type 0} {IsAnswer : Layout → PassView → PassView → A → Type 0} {IsPart : Layout → PassView → PassView → Type 0} (r : Result A E) → IsRangeReadWith IsAnswer IsPart range r index becomes a b →
      IsRangeReadWith IsAnswer no_part range r index becomes a b
  range_whole (Ok x) h = record { own = h.own; ok = h.ok; err = h.err; part = tt; memory = h.memory; steps = h.steps; read = h.read }
  range_whole (Err e) h = record { own = h.own; ok = h.ok; err = h.err; part = tt; memory = h.memory; steps = h.steps; read = h.read }

  -- it was refused for want of memory, and so is what it was for
  pub range_refused : {A B E F : Type 0} {IsAnswer : Layout → PassView → PassView → A → Type 0} {IsOther : Layout → PassView → PassView → B → Type 0} {IsPart : Layout → PassView → PassView → Type 0}
      {e : E} {f : F} (r : Result A F) → r ≡ Err f → IsRangeReadWith IsOther IsPart range (Err e) index becomes a b → IsRangeReadWith IsAnswer no_part range r index becomes a b
  range_refused {IsAnswer = IsAnswer} r is h =
      subst (λ z. IsRangeReadWith IsAnswer no_part range z index becomes a b) (sym is) (record { own = h.own; ok = tt; err = h.err; part = tt; memory = h.memory; steps = h.steps; read = h.read })

  -- its pairs are not copied, for want of memory
  pub range_uncopied : (d : Direction) {A E F : Type 0} {IsAnswer : Layout → PassView → PassView → A → Type 0} {pairs : List (Key × ℕ)} {more : Bool} {f : F} (r : Result A F) → r ≡ Err f →
      IsListReadBy {E = E} (IsLawfulBy d) range pairs (Ok more) index becomes a b → pairs ≢ [] → length pairs < 2 ^ 63 → IsRangeReadWith IsAnswer no_part range r index becomes a b
  range_uncopied d {IsAnswer = IsAnswer} r is h some small =
      subst (λ z. IsRangeReadWith IsAnswer no_part range z index becomes a b) (sym is)
      (record { own = h.own; ok = tt; err = listed_unnoted h.ok; part = tt; memory = listed_found d h.ok some small; steps = h.steps; read = h.read })

  -- they are copied
  pub range_copied : {IsLawful : ScanLaw} {E F : Type 0} {pairs : List (Key × ℕ)} {more : Bool} → IsListReadBy {E = E} IsLawful range pairs (Ok more) index becomes a b → (scan : Scan) → scan.pairs.items ≡ pairs →
      scan.more ≡ more → IsScanReadBy {E = F} IsLawful range (Ok scan) index becomes a b
  range_copied h scan same last = record { own = h.own; ok = listed_scanned h.ok scan same last; err = tt; part = tt; memory = tt; steps = h.steps; read = h.read }

-- and the only one is taken
pub range_first : {G : Type 0} {from upto : Key} {index : TableView} {becomes : G → Event → G → Type 0} {a b : PassView × G} {IsLawful : ScanLaw} {E F : Type 0} {pairs : List (Key × ℕ)} {more : Bool} →
    IsListReadBy {E = E} IsLawful (range_from from upto 1) pairs (Ok more) index becomes a b → (found : Option (Key × ℕ)) → option_to_list found ≡ pairs →
    IsRangeReadWith {E = F} (λ layout k j. IsFoundBy IsLawful layout k j from upto) no_part (range_from from upto 1) (Ok found) index becomes a b
range_first {from = from} {upto = upto} {index = index} {a = a} {b = b} {IsLawful = IsLawful} {more = more} h found taken = record {
  own = h.own;
  ok = (more, subst (λ pairs. IsListedBy IsLawful index.layout a.0 b.0 (range_from from upto 1) pairs more) (sym taken) h.ok);
  err = tt;
  part = tt;
  memory = tt;
  steps = h.steps;
  read = h.read;
}

-- A pass that was pinned, and has looked since, may clear the pin.
pub still_pinned : {G : Type 0} {table : TableView} {becomes : G → Event → G → Type 0} {e n : ℕ} {b c : SeatView × G} → Looks table becomes e n b c → IsPassOf table b.0 → IsSome b.0.known.pin → IsPassOf table c.0 × IsSome c.0.known.pin
still_pinned {table = table} {b = b} {c = c} looks fits pinned = (fits_then table b.0 c.0 (looks_same looks) fits, subst IsSome (sym (looked_at looks).later.pin) pinned)

-- Its count stays, with no note.
pub scanned_on : {G : Type 0} {table : TableView} {becomes : G → Event → G → Type 0} {n m : ℕ} {a b c e : SeatView × G} (count : KeyCount) → Pins table becomes a b → Looks table becomes n m b c → StepsWith table becomes ClearPin silent c e →
    IsSettledWith a.0.known count → IsSettledWith e.0.known count
scanned_on {table = table} {a = a} {e = e} count pins looks end was =
    let has = looked was.settled pins looks in
    settled_on table.layout a.0 e.0 count (scan_refused a.0 e.0 was.settled has end.event) (scan_settled a.0 e.0 was.settled has end.event) was

-- A pass that was settled has been pinned, has scanned into a list, and clears the pin now.
pub list_read : {G : Type 0} (table : TableView) (becomes : G → Event → G → Type 0) (d : Direction) (g : Range) (pairs : List (Key × ℕ)) (r : Result Bool AllocError) {a b c e : SeatView × G} → IsSettled a.0.known →
    Pins table becomes a b → IsSeatOf table b.0 → IsSome b.0.known.pin → Scans table becomes g.limit b c → IsKey g.from × IsKey g.upto → IfOk r (HasScanned d c.0.known g pairs) → OnErr r (HasScannedPart d c.0.known g pairs) →
    c.0.known.steps ≤ b.0.known.steps + (1 + scan_loads g.limit) → StepsWith table becomes ClearPin silent c e →
    IsListReadBy (IsLawfulBy d) g pairs r table becomes (pass_of a.0, a.1) (pass_of e.0, e.1)
list_read table becomes d g pairs r {a} {b} {c} {e} settled pins own pinned scans keys scanned cut few end =
    let looks = looked settled pins scans.3 in
    let still : IsSome c.0.known.pin = subst IsSome (sym (looked_at scans.3).later.pin) pinned in
    record {
      own = end.seat.0 ∙ ((looks_same scans.3).0 ∙ own);
      ok = if_answered r (HasScanned d c.0.known g pairs) (IsListedBy (IsLawfulBy d) table.layout (pass_of a.0) (pass_of e.0) g pairs) (scan_answered a.0 e.0 settled looks end.event d g keys still pairs) scanned;
      err = if_refused r (IsUnnoted table.layout (pass_of a.0) (pass_of e.0)) (scan_refused a.0 e.0 settled looks end.event);
      part = on_err_weaker r (λ h. (h.0, scan_answered a.0 e.0 settled looks end.event d (limited g (length pairs)) keys still pairs true h.1)) cut;
      memory = on_err_weaker r (part_found a.0 e.0 looks end.event g keys still d) cut;
      steps = scan_counted (scan_loads g.limit) pins few end;
      read = has_walked table becomes g.limit pins scans end;
    }

-- The same of a count, which needs no memory.
pub count_read : {G : Type 0} (table : TableView) (becomes : G → Event → G → Type 0) (g : Range) (number : ℕ) (more : Bool) {a b c e : SeatView × G} → IsSettled a.0.known → Pins table becomes a b → IsSeatOf table b.0 → IsSome b.0.known.pin →
    Scans table becomes (limit_by g.limit number) b c → IsKey g.from × IsKey g.upto → HasTaken Upwards c.0.known g (tally_of_number number) more → c.0.known.steps ≤ b.0.known.steps + (1 + scan_loads (limit_by g.limit number)) → StepsWith table becomes ClearPin silent c e →
    IsCountReadWith g number table becomes (pass_of a.0, a.1) (pass_of e.0, e.1)
count_read table becomes g number more {a} {b} {c} {e} settled pins own pinned scans keys counted few end =
    let looks = looked settled pins scans.3 in
    let still : IsSome c.0.known.pin = subst IsSome (sym (looked_at scans.3).later.pin) pinned in
    record {
      own = end.seat.0 ∙ ((looks_same scans.3).0 ∙ own);
      ok = scan_numbered a.0 e.0 settled looks end.event g keys still number more counted;
      err = tt;
      part = tt;
      memory = tt;
      steps = scan_counted (scan_loads (limit_by g.limit number)) pins few end;
      read = has_walked table becomes (limit_by g.limit number) pins scans end;
    }

-- The same of a scan of values alone.
pub values_read : {G : Type 0} (table : TableView) (becomes : G → Event → G → Type 0) (g : Range) (values : List ℕ) (r : Result Bool AllocError) {a b c e : SeatView × G} → IsSettled a.0.known → Pins table becomes a b → IsSeatOf table b.0 →
    IsSome b.0.known.pin → Scans table becomes g.limit b c → IsKey g.from × IsKey g.upto → IfOk r (HasTaken Upwards c.0.known g (tally_of_values values)) → OnErr r (HasTakenPart Upwards c.0.known g (tally_of_values values)) →
    c.0.known.steps ≤ b.0.known.steps + (1 + scan_loads g.limit) → StepsWith table becomes ClearPin silent c e → IsValuesReadWith g values r table becomes (pass_of a.0, a.1) (pass_of e.0, e.1)
values_read table becomes g values r {a} {b} {c} {e} settled pins own pinned scans keys scanned cut few end =
    let looks = looked settled pins scans.3 in
    let still : IsSome c.0.known.pin = subst IsSome (sym (looked_at scans.3).later.pin) pinned in
    record {
      own = end.seat.0 ∙ ((looks_same scans.3).0 ∙ own);
      ok = if_answered r (HasTaken Upwards c.0.known g (tally_of_values values)) (AreValuesListed table.layout (pass_of a.0) (pass_of e.0) g values) (scan_valued a.0 e.0 settled looks end.event g keys still values) scanned;
      err = if_refused r (IsUnnoted table.layout (pass_of a.0) (pass_of e.0)) (scan_refused a.0 e.0 settled looks end.event);
      part = on_err_weaker r (λ h. (h.0, scan_valued a.0 e.0 settled looks end.event (limited g (length values)) keys still values true h.1)) cut;
      memory = on_err_weaker r (taken_found a.0 e.0 looks end.event g keys still Upwards (tally_of_values values)) cut;
      steps = scan_counted (scan_loads g.limit) pins few end;
      read = has_walked table becomes g.limit pins scans end;
    }
