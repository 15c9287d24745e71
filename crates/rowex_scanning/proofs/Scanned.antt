-- What a scan gives is lawful.
use Rattle.rowex_scanning.proofs.Common.{◌≡◌, ℕ, ◌≤◌, List, [], ◌∷◌, ◌++◌, length, map, Bool, true, false, Some, refl, ap, sym, ◌∙◌, subst, arith, le_refl, append-nil, append_assoc, map-append, IsKey, Layout, KeepsFixedWordsSince, Past, Known, IsEvent, Key, Pair, Range, in_order_taken, seen, since, IsAnswer, IsLawfulBy, Direction, seen_told, seen_steady}
use Rattle.finite_map.specs.declared.Change.{Change}
use Rattle.finite_map.specs.declared.Note.{Note}
use Rattle.finite_map.specs.declared.Scan.{Scan}
use Rattle.versions.specs.declared.Pin.{Pin}
use Rattle.versions.specs.Told.{TellChanges}
use Rattle.rowex_core.specs.declared.event.Act.TheVariants.{ClearPin}
use Rattle.version_laws.proofs.Scan.Fronts.{scan_is_lawful}
use Rattle.rowex_scanning.specs.Scanning.{HasScanned, HasTaken}
use Rattle.rowex_scanning.specs.Tallies.{tally_of_pairs, values_taken}
use Rattle.rowex_reading.proofs.Seen.Later.{event_recalls}

-- What a scan has taken is lawful from the last load of the root to what the pass has seen.
module _ (d : Direction) (k : Known) (g : Range) (scan : Scan) (layout : Layout) (said : Known → List Note) (j : Known) (kf : IsKey g.from) (ku : IsKey g.upto) (p : Pin) (pin : k.pin ≡ Some p) (event : IsEvent layout ClearPin said k j) where
  told : TellChanges (seen event.core k) (k.fresh.front ++ event.knows.seen.fresh.0)
  told = subst (λ (z : List Change). TellChanges (seen event.core k) z) event.knows.seen.fresh.1 (seen_told event.lawful (event_recalls event))

  steady : KeepsFixedWordsSince (seen event.core k) p.version
  steady = seen_steady event.lawful (event_recalls event) (p, pin, le_refl p.version)

  pub lawful_taken : (taken : List Pair) → scan.pairs.items ≡ in_order_taken taken → IsAnswer d (seen event.core k) (since k) g taken scan.more → IsLawfulBy d k.fresh.front k.front g.from g.upto g.limit scan
  lawful_taken taken same answer =
      subst (λ (z : List Change). IsLawfulBy d k.fresh.front z g.from g.upto g.limit scan) (sym event.knows.seen.fresh.1)
      (scan_is_lawful (seen event.core k) k.fresh.front event.knows.seen.fresh.0 p.version steady told g kf ku taken scan same d scan.more refl answer)

pub lawful_scan : (d : Direction) (k : Known) (g : Range) (scan : Scan) (layout : Layout) (said : Known → List Note) (j : Known) → IsKey g.from → IsKey g.upto → (p : Pin) → k.pin ≡ Some p → HasScanned d k g scan.pairs.items scan.more → IsEvent layout ClearPin said k j →
    IsLawfulBy d k.fresh.front k.front g.from g.upto g.limit scan
lawful_scan d k g scan layout said j kf ku p pin h event = lawful_taken d k g scan layout said j kf ku p pin event h.taken h.pairs_are (h.answer event.core event.lawful (event_recalls event))

-- The pairs of a list, the newest first, on some others.
abbrev turned : List (Key × ℕ) → List Pair → List Pair
turned [] xs = xs
turned (e ∷ es) xs = turned es (record { key = e.0; value = e.1 } ∷ xs)

turned_append : (es fs : List (Key × ℕ)) (xs : List Pair) → turned (es ++ fs) xs ≡ turned fs (turned es xs)
turned_append [] fs xs = refl
turned_append (e ∷ es) fs xs = turned_append es fs (record { key = e.0; value = e.1 } ∷ xs)

turned_taken : (xs : List Pair) → turned (in_order_taken xs) [] ≡ xs
turned_taken [] = refl
turned_taken (x ∷ xs) = turned_append (in_order_taken xs) ((x.key, x.value) ∷ []) [] ∙ ap (λ z. x ∷ z) (turned_taken xs)

taken_turned : (es : List (Key × ℕ)) (xs : List Pair) → in_order_taken (turned es xs) ≡ in_order_taken xs ++ es
taken_turned [] xs = sym (append-nil (in_order_taken xs))
taken_turned (e ∷ es) xs = taken_turned es (record { key = e.0; value = e.1 } ∷ xs) ∙ append_assoc (in_order_taken xs) (e ∷ []) es

-- Pairs that were taken are known.
pub taken_scanned : {d : Direction} {k : Known} {g : Range} {pairs : List (Key × ℕ)} {more : Bool} → HasTaken d k g (tally_of_pairs pairs) more → HasScanned d k g pairs more
taken_scanned {d} {k} {g} {pairs} {more} h = record {
  taken = turned pairs [];
  pairs_are = sym (taken_turned pairs []);
  answer = λ c lawful recalls. let (taken, tallied, answer) = h c lawful recalls in
      subst (λ z. IsAnswer d (seen c k) (since k) g z more) (sym (turned_taken taken) ∙ ap (λ z. turned z []) (sym tallied.1)) answer;
}

-- It gives no more pairs than the limit.
pub answer_short : (d : Direction) (s : Past) (m : ℕ) (g : Range) (taken : List Pair) (more : Bool) → IsAnswer d s m g taken more → length taken ≤ g.limit
answer_short d s m g taken false answer = answer.short
answer_short d s m g taken true answer = let full = answer.full in omega (arith, full)

-- The values that were taken are those of the pairs.
pub values_of_pairs : (taken : List Pair) → values_taken taken ≡ map (λ (e : Key × ℕ). e.1) (in_order_taken taken)
values_of_pairs [] = refl
values_of_pairs (x ∷ xs) = ap (λ z. z ++ x.value ∷ []) (values_of_pairs xs) ∙ sym (map-append (λ (e : Key × ℕ). e.1) (in_order_taken xs) ((x.key, x.value) ∷ []))
