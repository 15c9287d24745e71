-- The opening of a run, and calls whose contracts say how they ended as calls of a run.
pub mod Loaded
use Rattle.index_laws.proofs.Common.{◌≡◌, inl, inr, ℕ, zero, suc, ◌≤◌, List, [], ◌∷◌, ◌++◌, get_or, length, map, refl, sym, ap, subst, ◌∙◌, arith, ⊎_elim, le_refl, append-nil, cases_eq, All-cons, All-nil, All-weaker, Call, Note, Reply, LegalCalls, Layout, Known, opening, opening_is_lawful, SeatView, new_knows, IsNoted, pass_of, Continues, Happening, IsNotedBetween, IsResponse, IsWholeRun, Configuration, Pending, invokes, refuses, responds, shows, steps, linearizable}
use Rattle.std.specs.List.Sorted.{IsPermutation}
use Rattle.std.proofs.lemmas.List.Sorted.{IsPermutation-map, IsPermutation-refl}
use Rattle.index_laws.specs.Executions.{HasAnsweredMany, HasBulkLoaded, LeadsOn, IsExecution, IsQuiet, IsReturning, insertions}
use Rattle.index_laws.specs.Statements.{ExecutionsAreLinearizable, ExecutionsAreRuns, LackMayRefuse, OpeningIsNew, RefusedIsRefused, Responses, ReturnedResponds}
use Rattle.index_laws.proofs.Executions.Loaded.{insertion_calls, loader_legal}

pub opening_is_new : OpeningIsNew
opening_is_new layout = record {
  sound = record {
    layout_is = refl;
    lawful = (opening_is_lawful layout).0;
    named = λ q low. refl;
    knows = λ q low. new_knows (opening layout) q low ((opening_is_lawful layout).2 q (omega arith));
  };
  changes = refl;
  notes = λ q. refl;
  pending = λ q. refl;
}

pub legal_now : (q : ℕ) (k j : Known) → j ≡ k → j.pass ≡ q → LegalCalls j.front j.pass j.notes → LegalCalls k.front q k.notes
legal_now q k j is pass h = subst (λ (z : Known). LegalCalls z.front q z.notes) is (subst (λ p. LegalCalls j.front p j.notes) pass h)

noted_now : (k l j i : Known) (notes : List Note) → j ≡ k → i ≡ l → j.notes ≡ i.notes ++ notes → k.notes ≡ l.notes ++ notes
noted_now k l j i notes now before h = sym (ap (λ (z : Known). z.notes) now) ∙ h ∙ ap (λ (z : Known). z.notes ++ notes) before

-- a note's place is no lower than what a load of the root showed in the call
placed_since : (at : ℕ → Configuration) (q t : ℕ) (call : Pending) (s e : SeatView) → IsReturning at q t call s e → s.known.steps ≤ e.known.fresh.step → (n : Note) → length e.known.fresh.front ≤ n.place →
    IsNotedBetween at q call.since t n
placed_since at q t call s e ends loaded n low = record {
  shown = t;
  from = ends.later;
  upto = le_refl t;
  loaded = subst (λ (z : Known). z.steps ≤ ((at t).known q).fresh.step) ends.before (subst (λ (z : Known). s.known.steps ≤ z.fresh.step) ends.now loaded);
  low = subst (λ (z : Known). length z.fresh.front ≤ n.place) ends.now low;
}

pub noted_placed : (layout : Layout) (at : ℕ → Configuration) (q t : ℕ) (call : Pending) (s e : SeatView) → IsReturning at q t call s e → (asked : Call) (reply : Reply) →
    (noted : IsNoted layout (pass_of s) (pass_of e) asked reply) → IsNotedBetween at q call.since t (record { place = noted.place; call = asked; reply = reply })
noted_placed layout at q t call s e ends asked reply noted = placed_since at q t call s e ends noted.on.now.0 (record { place = noted.place; call = asked; reply = reply }) noted.low

noted_is_response : (layout : Layout) (at : ℕ → Configuration) (q t : ℕ) (call : Pending) (s e : SeatView) → IsReturning at q t call s e → (asked : Call) (reply : Reply) → call.calls ≡ asked ∷ [] →
    (noted : IsNoted layout (pass_of s) (pass_of e) asked reply) → IsResponse at t q call (record { place = noted.place; call = asked; reply = reply } ∷ [])
noted_is_response layout at q t call s e ends asked reply calls noted =
    let n : Note = record { place = noted.place; call = asked; reply = reply } in
    let since : ℕ = call.since in
    record {
      called = ends.pending;
      calls = subst (λ z. IsPermutation z (asked ∷ [])) (sym calls) (IsPermutation-refl (asked ∷ []));
      noted = noted_now ((at t).known q) ((at since).known q) e.known s.known (n ∷ []) ends.now ends.before noted.notes;
      placed = All-cons (IsNotedBetween at q since t) n [] (noted_placed layout at q t call s e ends asked reply noted) (All-nil (IsNotedBetween at q since t));
      legal = legal_now q ((at t).known q) e.known ends.now ends.pass noted.legal;
    }

calls_of : (ns : List Note) → map (λ (x : Call × Reply). x.0) (map (λ (n : Note). (n.call, n.reply)) ns) ≡ map (λ (n : Note). n.call) ns
calls_of [] = refl
calls_of (n ∷ ns) = ap (λ z. n.call ∷ z) (calls_of ns)

many_are_response : (layout : Layout) (at : ℕ → Configuration) (q t : ℕ) (call : Pending) (s e : SeatView) → IsReturning at q t call s e → (notes : List Note) →
    HasAnsweredMany layout call (pass_of s) (pass_of e) notes → IsResponse at t q call notes
many_are_response layout at q t call s e ends notes x =
    let noted = x.noted in
    subst (IsResponse at t q call) (sym x.notes_are)
    (record {
      called = ends.pending;
      calls = subst (λ (z : List Call × List Call). IsPermutation z.0 z.1) (λ i. (x.calls i, calls_of noted.added i))
          (IsPermutation-map (λ (y : Call × Reply). y.0) x.asked (map (λ (n : Note). (n.call, n.reply)) noted.added) noted.calls_are);
      noted = noted_now ((at t).known q) ((at call.since).known q) e.known s.known noted.added ends.now ends.before noted.notes;
      placed = All-weaker (λ n. length e.known.fresh.front ≤ n.place) (IsNotedBetween at q call.since t) (λ n low. placed_since at q t call s e ends noted.on.now.0 n low) noted.added noted.low;
      legal = legal_now q ((at t).known q) e.known ends.now ends.pass noted.legal;
    })

quiet_is_response : (layout : Layout) (at : ℕ → Configuration) (q t : ℕ) (call : Pending) (s e : SeatView) → IsReturning at q t call s e → (notes : List Note) →
    IsQuiet call (pass_of s) (pass_of e) notes → IsResponse at t q call []
quiet_is_response layout at q t call s e ends notes x = record {
  called = ends.pending;
  calls = subst (λ z. IsPermutation z []) (sym x.calls) (IsPermutation-refl []);
  noted = noted_now ((at t).known q) ((at call.since).known q) e.known s.known [] ends.now ends.before (x.same ∙ sym (append-nil s.known.notes));
  placed = All-nil (IsNotedBetween at q call.since t);
  legal = legal_now q ((at t).known q) e.known ends.now ends.pass x.legal;
}

loaded_is_response : (layout : Layout) (at : ℕ → Configuration) (q t : ℕ) (call : Pending) (s e : SeatView) → IsReturning at q t call s e → (notes : List Note) →
    HasBulkLoaded layout call.calls s.known e.known notes → IsResponse at t q call notes
loaded_is_response layout at q t call s e ends notes x = record {
  called = ends.pending;
  calls = subst (λ (z : List Call × List Call). IsPermutation z.0 z.1)
      (λ i. (sym x.calls_are i, sym (ap (map (λ (n : Note). n.call)) x.notes_are ∙ insertion_calls layout x.words) i)) (IsPermutation-refl (insertions layout x.words));
  noted = noted_now ((at t).known q) ((at call.since).known q) e.known s.known notes ends.now ends.before
      (ap (λ (z : Known). z.notes) x.loader ∙ sym x.notes_are ∙ sym (ap (λ (z : Known). z.notes ++ notes) x.new));
  placed = λ i d inside. placed_since at q t call s e ends (subst (λ (z : Known × Known). z.0.steps ≤ z.1.fresh.step) (λ i. (sym x.new i, sym x.loader i)) (le_refl 1))
      (get_or notes i d) (subst (λ (z : Known). length z.fresh.front ≤ (get_or notes i d).place) (sym x.loader) (let low : 0 ≤ (get_or notes i d).place = omega arith in low));
  legal = legal_now q ((at t).known q) e.known ends.now ends.pass
      (subst (λ (z : Known). LegalCalls z.front z.pass z.notes) (sym x.loader) (loader_legal layout x.words x.load));
}

pub returned_responds : ReturnedResponds
returned_responds layout last at happens run q t below within call notes (s, e, ends, inl x) =
    subst (IsResponse at t q call) (sym x.notes_are) (noted_is_response layout at q t call s e ends x.asked x.reply x.calls x.noted)
returned_responds layout last at happens run q t below within call notes (s, e, ends, inr (inl x)) =
    many_are_response layout at q t call s e ends notes x
returned_responds layout last at happens run q t below within call notes (s, e, ends, inr (inr (inr x))) =
    loaded_is_response layout at q t call s e ends notes x
returned_responds layout last at happens run q t below within call notes (s, e, ends, inr (inr (inl x))) =
    subst (IsResponse at t q call) (sym x.notes_are) (quiet_is_response layout at q t call s e ends notes x)

refused_is_refused : RefusedIsRefused
refused_is_refused layout at q t call (s, e, asked, fault, ends, calls, refused, may) = record {
  called = ends.pending;
  noted = sym (ap (λ (z : Known). z.notes) ends.now) ∙ refused.refused.unnoted.notes ∙ ap (λ (z : Known). z.notes) ends.before;
  legal = legal_now q ((at t).known q) e.known ends.now ends.pass refused.refused.unnoted.legal;
}

lack_may_refuse : LackMayRefuse
lack_may_refuse call full lack = lack

-- Executions

module _ (layout : Layout) (at : ℕ → Configuration) (happens : ℕ → Happening) where
  continues : (t : ℕ) → IsWholeRun layout t at happens → (h : Happening) → LeadsOn layout at t h → Continues layout at t h
  continues t run (steps q act notes) x = x
  continues t run (shows q front) x = x
  continues t run (invokes q calls) x = x
  continues t run (responds q notes) x = (x.0, returned_responds layout t at happens run q t x.2.pass (le_refl t) x.0 notes x.1, x.2)
  continues t run (refuses q) x = (x.0, refused_is_refused layout at q t x.0 x.1, x.2)

  runs_until : (last : ℕ) → IsExecution layout last at happens → (t : ℕ) → t ≤ last → IsWholeRun layout t at happens
  runs_until last x zero low = record { new = x.new; next = λ k lower. absurd (omega arith) }
  runs_until last x (suc t) low =
      let run = runs_until last x t (omega arith) in record {
        new = x.new;
        next = λ k lower. ⊎_elim (λ e. subst (λ j. Continues layout at j (happens j)) (sym e) (continues t run (happens t) (x.next t low))) (λ ne. run.next k (omega arith)) (cases_eq k t);
      }

pub executions_are_runs : ExecutionsAreRuns
executions_are_runs layout last at happens x = runs_until layout at happens last x last (le_refl last)

pub executions_are_linearizable : ExecutionsAreLinearizable
executions_are_linearizable layout last later at happens low x ends = linearizable layout last later at happens low (executions_are_runs layout later at happens x) ends

pub responses : Responses
responses = record { opening = opening_is_new; returned = returned_responds; refused = refused_is_refused; lacks = lack_may_refuse; runs = executions_are_runs }
