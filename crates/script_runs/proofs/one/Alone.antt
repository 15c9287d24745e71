-- What the only pass of an index knows: the map of its front is the one that its calls lead to.
use Rattle.script_runs.proofs.Common.{◌≡◌, ℕ, ◌<◌, List, [], ◌∷◌, ◌++◌, map, flat_map, refl, sym, ap, ap₂, subst, ◌∙◌, arith, All, map-append, append_cancel_left, flat_map-cons, All-nil, Note, Replied, Scan, LegalCalls, changes_of, IsRun, map_of, BeginsWith, reply_of, replies_of, map_after, map_after_all, IsScanOf, IsLawfulScan, begins_same, legal_at_first, Event, TableView, line, reply_text, IsScanned, IsUnnoted, range_from, PassView, AreByPasses, IsNewPass}
use Rattle.finite_map.proofs.Calls.Alone.{alone-run, own_changes-all}
use Rattle.finite_map.proofs.Scans.{lawful-scan_of}
use Rattle.finite_map.proofs.Calls.Steps.{map_after_all-push, replies_of-push}
use Rattle.script_runs.specs.Answers.{Answered, called, refused, listed, full_text, lines_of_answer}
use Rattle.script_runs.specs.Runs.{text_told}
use Rattle.script_runs.specs.Told.{AreTold, IsCalled}
use Rattle.script_runs.proofs.Answering.{lines_of_scan}

-- The index has one pass, and this is it: all that it knows of are its own changes, and its calls are legal.
pub record IsAlone (index : TableView) (pass : PassView) : Type 0 where
  pub one : index.layout.passes ≡ 1
  pub number : pass.number ≡ 0
  pub makers : AreByPasses index.layout pass.front
  pub legal : LegalCalls pass.front pass.number pass.notes

one_value : (x y : Replied) → x ∷ [] ≡ y ∷ [] → x ≡ y
one_value x y e = cc

module _ (index : TableView) where
  -- all changes are the pass's own
  own : (p : PassView) → IsAlone index p → All (λ c. c.pass ≡ p.number) p.front
  own p h k d l = let below = h.makers k d l in omega (arith, below, h.one, h.number)

  run_of : (p : PassView) → IsAlone index p → IsRun [] p.notes (map_of p.front)
  run_of p h = alone-run p.front p.number p.notes h.legal (own p h)

  -- the changes are those that its notes tell of
  front_of : (p : PassView) → IsAlone index p → p.front ≡ changes_of 0 p.notes
  front_of p h = sym (own_changes-all p.number p.front (own p h)) ∙ h.legal.own ∙ ap (λ q. changes_of q p.notes) h.number

  -- a pass that has made no call
  pub alone_at_first : (p : PassView) → index.layout.passes ≡ 1 → IsNewPass 0 p → IsAlone index p
  alone_at_first p one new = record {
    one = one;
    number = new.0;
    makers = rw new.1 (All-nil (λ x. x.pass < index.layout.passes));
    legal = rw (new.1, new.2) (legal_at_first p.number);
  }

  module _ (k j : PassView) (h : IsAlone index k) where
    -- after an answered call
    alone_called : (note : Note) → IsCalled index.layout k j note → IsAlone index j
    alone_called note n = record { one = h.one; number = n.number ∙ h.number; makers = n.makers; legal = n.legal }

    -- the call was answered as the map answers
    replied_alone : (note : Note) → IsCalled index.layout k j note →
        (note.reply ≡ reply_of (map_of k.front) note.call) × (map_of j.front ≡ map_after (map_of k.front) note.call)
    replied_alone note n =
        let call = note.call in
        let reply = note.reply in
        let before = run_of k h in
        let after : IsRun [] (k.notes ++ note ∷ []) (map_of j.front) = subst (λ ns. IsRun [] ns (map_of j.front)) n.notes (run_of j (alone_called note n)) in
        let made : map (λ (x : Note). x.call) (k.notes ++ note ∷ []) ≡ map (λ x. x.call) k.notes ++ call ∷ [] = map-append (λ x. x.call) k.notes (note ∷ []) in
        let replies : replies_of [] (map (λ x. x.call) k.notes) ++ reply ∷ [] ≡ replies_of [] (map (λ x. x.call) k.notes) ++ reply_of (map_after_all [] (map (λ x. x.call) k.notes)) call ∷ [] =
        ap (λ rs. rs ++ reply ∷ []) (sym before.replies) ∙ sym (map-append (λ x. x.reply) k.notes (note ∷ [])) ∙ after.replies ∙ ap (replies_of []) made
        ∙ replies_of-push [] (map (λ x. x.call) k.notes) call in
        let last = append_cancel_left (replies_of [] (map (λ x. x.call) k.notes)) (reply ∷ []) _ replies in (
          one_value reply _ last ∙ ap (λ m. reply_of m call) (sym before.map),
          after.map ∙ ap (map_after_all []) made ∙ map_after_all-push [] (map (λ x. x.call) k.notes) call ∙ ap (λ m. map_after m call) (sym before.map),
        )

    -- after a call that was not noted
    alone_unnoted : IsUnnoted index.layout k j → IsAlone index j
    alone_unnoted n = record { one = h.one; number = n.number ∙ h.number; makers = n.makers; legal = n.legal }

    -- the map is as it was
    same_unnoted : IsUnnoted index.layout k j → map_of j.front ≡ map_of k.front
    same_unnoted n = ap map_of (front_of j (alone_unnoted n) ∙ ap (changes_of 0) n.notes ∙ sym (front_of k h))

    module _ (from upto : List ℕ) (limit : ℕ) (scan : Scan) (n : IsScanned index.layout k j (range_from from upto limit) scan) where
      alone_scanned : IsAlone index j
      alone_scanned = record { one = h.one; number = n.on.number ∙ h.number; makers = n.on.makers; legal = n.legal }

      same_front : j.front ≡ k.front
      same_front = front_of j alone_scanned ∙ ap (changes_of 0) n.notes ∙ sym (front_of k h)

      -- nothing was changed since the last load of the root
      still : j.fresh.front ≡ j.front
      still = begins_same j.fresh.front j.front (subst (λ f. BeginsWith j.fresh.front f) (sym same_front) n.on.fresh) n.on.seen

      -- the map is as it was
      same_scanned : map_of j.front ≡ map_of k.front
      same_scanned = ap map_of same_front

      -- the scan gives the first pairs of the map's range
      first_alone : IsScanOf (map_of k.front) from upto limit scan
      first_alone =
          subst (λ f. IsScanOf (map_of f) from upto limit scan) same_front
          (lawful-scan_of j.front from upto limit scan (subst (λ f. IsLawfulScan f j.front from upto limit scan) still n.lawful))

  -- what its commands are answered
  pub told_alone : {G : Type 0} (becomes : G → Event → G → Type 0) (a b : PassView × G) → IsAlone index a.0 → (answers : List Answered)
      → AreTold index becomes a answers b → flat_map lines_of_answer answers ≡ text_told (map_of a.0.front) answers
  told_alone becomes a b h [] told = refl
  told_alone becomes a b h (called note ∷ answers) (m, c, steps, rest) =
      let replied = replied_alone a.0 m.0 h note c in
      flat_map-cons lines_of_answer (called note) answers
      ∙ ap₂ (λ reply text. line (reply_text reply) ++ text) replied.0
      (told_alone becomes m b (alone_called a.0 m.0 h note c) answers rest ∙ ap (λ n. text_told n answers) replied.1)
  told_alone becomes a b h (refused call full ∷ answers) (m, (may, u), steps, rest) =
      flat_map-cons lines_of_answer (refused call full) answers
      ∙ ap (λ text. line (full_text full) ++ text)
      (told_alone becomes m b (alone_unnoted a.0 m.0 h u.refused.unnoted) answers rest ∙ ap (λ n. text_told n answers) (same_unnoted a.0 m.0 h u.refused.unnoted))
  told_alone becomes a b h (listed range scan before after ∷ answers) (m, (s, first, last), steps, rest) =
      flat_map-cons lines_of_answer (listed range scan before after) answers
      ∙ ap₂ (λ lines text. lines ++ text) (lines_of_scan (map_of a.0.front) range scan (first_alone a.0 m.0 h range.from range.upto range.limit scan s))
      (told_alone becomes m b (alone_scanned a.0 m.0 h range.from range.upto range.limit scan s) answers rest
      ∙ ap (λ n. text_told n answers) (same_scanned a.0 m.0 h range.from range.upto range.limit scan s))
