-- What a pass goes through by commands: its attempts, and where its answers stand in its front.
use denote.RawPtr.{null_ptr}
use Rattle.std.specs.Global.{Global}
use Rattle.script_runs.proofs.Common.{◌≡◌, ◌<◌, ◌^◌, ℕ, Bool, ◌≤◌, le_refl, List, [], ◌∷◌, ◌++◌, length, take, filter_map, Some, refl, sym, ap, ap₂, subst, ◌∙◌, arith, append_assoc, append-nil, flat_map-cons, All-append, All-cons, All-nil, All-pop, All, Change, Note, Replied, Scan, LegalCalls, StandsIn, place_after, BeginsWith, begins_itself, begins_on, place_after-within, Layout, Event, TableView, IsListed, IsNoted, IsScanned, range_from, PassView, AreByPasses, HasRead, HasMadeCallSteps, untold, Command, KeyRange, line, scan_lines}
use Rattle.std.proofs.Math.Seq.{take-append_seam}
use Rattle.finite_map.specs.declared.Call.{Call}
use Rattle.rowex_core.specs.declared.event.Act.{Act}
use Rattle.rowex_table.specs.Runs.{events_of}
use Rattle.rowex_table.proofs.Runs.{told_append}
use Rattle.hot_index_calls.proofs.Traces.{read_told, told_untold}
use Rattle.hot_index_calls.proofs.Noting.{longer}
use Rattle.hot_scripts.specs.declared.command.Command.TheVariants.{Call as Asks, Scan as Lists}
use Rattle.script_runs.specs.declared.answer.Answer.{Answer}
use Rattle.script_runs.specs.declared.answer.Answer.TheVariants.{Reply, Full as Refused}
use Rattle.script_runs.specs.Answers.{Answered, called, refused, listed, answer_text, lines_of_answer, note_of}
use Rattle.script_runs.specs.Progress.{HasAnsweredCommand, HasRunCommands, answered_as}
use Rattle.script_runs.specs.Scripts.{StandFrom}
use Rattle.script_runs.specs.Told.{AreTold, IsCalled, IsAnswerTold, IsToldOf}

-- Fronts

take_begins : (later front : List Change) → BeginsWith later front → take (length front) later ≡ front
take_begins later front b = ap (take (length front)) b.1 ∙ take-append_seam front b.0

-- a noted call
pub called_of : (layout : Layout) (k j : PassView) (call : Call) (reply : Replied) → IsNoted layout k j call reply
    → (place : ℕ) × IsCalled layout k j (record { place = place; call = call; reply = reply })
called_of layout k j call reply n =
    let first = longer j.fresh.front k.front n.on.fresh in (
      n.place,
      record {
        number = n.on.number;
        front = n.on.front;
        notes = n.notes;
        low = omega (arith, first, n.low);
        legal = n.legal;
        makers = n.on.makers;
      },
    )

-- Commands

module _ {G : Type 0} (index : TableView) (becomes : G → Event → G → Type 0) where
  -- no command, no answer
  pub HasRunCommands-none : (a : PassView × G) → HasRunCommands index becomes a [] a []
  HasRunCommands-none a = record { answers = []; commands_are = refl; text_is = refl; told = refl }

  module _ (a m b : PassView × G) (commands : List Command) (rest : List ℕ) (ran : HasRunCommands index becomes m commands b rest) where
    -- a command of a handle at the index, and then the others
    pub HasRunCommands-more : (here : TableView) → here ≡ index → (command : Command) (before after : List ℕ)
        → HasAnsweredCommand here becomes a command m before after
        → (lines : List ℕ) × (after ≡ before ++ lines) × HasRunCommands index becomes a (command ∷ commands) b (lines ++ rest)
    HasRunCommands-more here at command before after answered =
        let is : HasAnsweredCommand index becomes a command m before after =
        subst (λ (i : TableView). HasAnsweredCommand i becomes a command m before after) at answered in (
          lines_of_answer is.answer,
          is.text_is,
          record {
            answers = is.answer ∷ ran.answers;
            commands_are = ap₂ (λ c cs. c ∷ cs) is.command_is ran.commands_are;
            text_is = ap (λ more. lines_of_answer is.answer ++ more) ran.text_is ∙ sym (flat_map-cons lines_of_answer is.answer ran.answers);
            told = (m, is.told, is.steps, ran.told);
          },
        )

  -- the pass keeps its number
  number_kept : (k j : PassView) (answer : Answered) → IsAnswerTold index.layout k answer j → j.number ≡ k.number
  number_kept k j (called note) c = c.number
  number_kept k j (refused call full) (may, u) = u.refused.unnoted.number
  number_kept k j (listed range scan before after) (s, first, last) = s.on.number

  events_by : (q : ℕ) (acts : List Act) → All (λ e. e.pass ≡ q) (events_of q acts)
  events_by q [] = All-nil (λ (e : Event). e.pass ≡ q)
  events_by q (act ∷ acts) = All-cons (λ (e : Event). e.pass ≡ q) (record { pass = q; act = act }) (events_of q acts) refl (events_by q acts)

  -- the gate was told the pass's steps
  pub told_events : (a b : PassView × G) (answers : List Answered) → AreTold index becomes a answers b → IsToldOf becomes a.0.number (a.1, b.1)
  told_events a b [] told = ([], All-nil (λ (e : Event). e.pass ≡ a.0.number), ap (λ (c : PassView × G). c.1) told)
  told_events a b (answer ∷ answers) (m, is, steps, rest) =
      let q = a.0.number in
      let acts = steps.acts ++ steps.last ∷ [] in
      let later : IsToldOf becomes q (m.1, b.1) = subst (λ q. IsToldOf becomes q (m.1, b.1)) (number_kept a.0 m.0 answer is) (told_events m b answers rest) in (
        events_of q acts ++ later.0,
        All-append (λ (e : Event). e.pass ≡ q) (events_of q acts) later.0 (events_by q acts) later.1,
        told_append index becomes (events_of q acts) later.0 a.1 m.1 b.1 steps.told later.2,
      )

  -- nobody need be told
  pub AreTold-untold : (a b : PassView × G) (answers : List Answered) → AreTold index becomes a answers b
      → AreTold index untold (a.0, tt) answers (b.0, tt)
  AreTold-untold a b [] told = ap (λ (c : PassView × G). (c.0, tt)) told
  AreTold-untold a b (answer ∷ answers) (m, is, steps, rest) =
      ((m.0, tt), is, told_untold index becomes a m steps, AreTold-untold m b answers rest)

  pub HasRunCommands-untold : (a b : PassView × G) (commands : List Command) (text : List ℕ) → HasRunCommands index becomes a commands b text
      → HasRunCommands index untold (a.0, tt) commands (b.0, tt) text
  HasRunCommands-untold a b commands text ran = record {
    answers = ran.answers;
    commands_are = ran.commands_are;
    text_is = ran.text_is;
    told = AreTold-untold a b ran.answers ran.told;
  }

  -- a call that was answered so
  pub HasAnsweredCommand-call : (a m : PassView × G) (call : Call) (answer : Answer) (place : ℕ) (before after : List ℕ)
      → IsAnswerTold index.layout a.0 (answered_as call answer place) m.0 → HasMadeCallSteps index becomes a m → after ≡ before ++ line (answer_text answer)
      → HasAnsweredCommand index becomes a (Asks call) m before after
  HasAnsweredCommand-call a m call (Reply reply) place before after told steps text = record {
    answer = called (record { place = place; call = call; reply = reply });
    command_is = refl;
    told = told;
    steps = steps;
    text_is = text;
  }
  HasAnsweredCommand-call a m call (Refused full) place before after told steps text = record {
    answer = refused call full;
    command_is = refl;
    told = told;
    steps = steps;
    text_is = text;
  }

  -- a scan that was answered so
  pub HasAnsweredCommand-scan : (a m : PassView × G) (range : KeyRange) (scan : Scan) (before after : List ℕ)
      → IsScanned index.layout a.0 m.0 (range_from range.from range.upto range.limit) scan → HasRead index becomes a m
      → after ≡ before ++ scan_lines scan.pairs.items scan.more → HasAnsweredCommand index becomes a (Lists range) m before after
  HasAnsweredCommand-scan a m range scan before after is read text = record {
    answer = listed range scan (length m.0.fresh.front) (length m.0.front);
    command_is = refl;
    told = (is, refl, refl);
    steps = read_told index becomes a m read;
    text_is = text;
  }

  -- a scan that shows the pairs of a list
  abbrev scan_of : Global → (pairs : List (List ℕ × ℕ)) → length pairs < 2 ^ 63 → Bool → Scan
  scan_of alloc pairs short more = record {
    pairs = record { ptr = null_ptr; len = length pairs; cap = length pairs; alloc = alloc; items = pairs; ok = (refl, le_refl (length pairs)); small = short };
    more = more;
  }

  -- a scan into a list that was answered so
  pub HasAnsweredCommand-list : Global → (a m : PassView × G) (range : KeyRange) (pairs : List (List ℕ × ℕ)) → length pairs < 2 ^ 63 → (more : Bool) (before after : List ℕ)
      → IsListed index.layout a.0 m.0 (range_from range.from range.upto range.limit) pairs more → HasRead index becomes a m → after ≡ before ++ scan_lines pairs more
      → HasAnsweredCommand index becomes a (Lists range) m before after
  HasAnsweredCommand-list alloc a m range pairs short more before after is read text =
      let scan = scan_of alloc pairs short more in
      HasAnsweredCommand-scan a m range scan before after (record { on = is.on; notes = is.notes; lawful = is.lawful scan refl refl; legal = is.legal }) read text

  -- Where answers stand

  -- answers that stand from a place on stand from each place before it
  pub stand_lower : (front : List Change) (low higher : ℕ) (answers : List Answered) → low ≤ higher → StandFrom front higher answers
      → StandFrom front low answers
  stand_lower front low higher [] le s = tt
  stand_lower front low higher (called note ∷ answers) le s = (omega (arith, le, s.0), s.1)
  stand_lower front low higher (refused call full ∷ answers) le s = (s.0, stand_lower front low higher answers le s.1)
  stand_lower front low higher (listed range scan before after ∷ answers) le s = (omega (arith, le, s.0), s.1, s.2, s.3, s.4)

  -- The pass's calls are legal, and its answers stand in its front, behind all that it had seen before.
  pub record HasStood (k : PassView) (answers : List Answered) (j : PassView) : Type 0 where
    pub number : j.number ≡ k.number
    pub front : BeginsWith j.front k.front
    pub notes : j.notes ≡ k.notes ++ filter_map note_of answers
    pub legal : LegalCalls j.front j.number j.notes
    pub makers : AreByPasses index.layout j.front
    pub stand : StandFrom j.front (length k.front) answers

  -- the note of a call ends within the front
  note_within : (k m : PassView) (note : Note) → IsCalled index.layout k m note → place_after note ≤ length m.front
  note_within k m note c =
      place_after-within m.front m.number note (All-pop (StandsIn m.front m.number) m.notes k.notes (Some note) c.notes c.legal.each).1

  pub told_stood : (a b : PassView × G) (answers : List Answered) → LegalCalls a.0.front a.0.number a.0.notes → AreByPasses index.layout a.0.front
      → AreTold index becomes a answers b → HasStood a.0 answers b.0
  told_stood a b [] legal makers told =
      let k = a.0 in
      let all : HasStood k [] k = record {
        number = refl;
        front = begins_itself k.front;
        notes = sym (append-nil k.notes);
        legal = legal;
        makers = makers;
        stand = tt;
      } in
      subst (λ (c : PassView × G). HasStood k [] c.0) (sym told) all
  told_stood a b (called note ∷ answers) legal makers (n, c, steps, rest) =
      let k = a.0 in
      let m = n.0 in
      let j = b.0 in
      let later = told_stood n b answers c.legal c.makers rest in record {
        number = later.number ∙ c.number;
        front = begins_on k.front m.front j.front c.front later.front;
        notes = later.notes ∙ ap (λ ns. ns ++ filter_map note_of answers) c.notes ∙ append_assoc k.notes (note ∷ []) (filter_map note_of answers);
        legal = later.legal;
        makers = later.makers;
        stand = (c.low, stand_lower j.front (place_after note) (length m.front) answers (note_within k m note c) later.stand);
      }
  told_stood a b (refused call full ∷ answers) legal makers (n, (may, u), steps, rest) =
      let k = a.0 in
      let m = n.0 in
      let j = b.0 in
      let later = told_stood n b answers u.refused.unnoted.legal u.refused.unnoted.makers rest in record {
        number = later.number ∙ u.refused.unnoted.number;
        front = begins_on k.front m.front j.front u.refused.unnoted.front later.front;
        notes = later.notes ∙ ap (λ ns. ns ++ filter_map note_of answers) u.refused.unnoted.notes;
        legal = later.legal;
        makers = later.makers;
        stand = (may, stand_lower j.front (length k.front) (length m.front) answers (longer m.front k.front u.refused.unnoted.front) later.stand);
      }
  told_stood a b (listed range scan before after ∷ answers) legal makers (n, (s, first, last), steps, rest) =
      let k = a.0 in
      let m = n.0 in
      let j = b.0 in
      let later = told_stood n b answers s.legal s.on.makers rest in
      let short = take_begins j.front m.fresh.front (begins_on m.fresh.front m.front j.front s.on.seen later.front) in
      let long = take_begins j.front m.front later.front in
      let low = longer m.fresh.front k.front s.on.fresh in
      let grown = longer m.front m.fresh.front s.on.seen in
      let high = longer j.front m.front later.front in record {
        number = later.number ∙ s.on.number;
        front = begins_on k.front m.front j.front s.on.front later.front;
        notes = later.notes ∙ ap (λ ns. ns ++ filter_map note_of answers) s.notes;
        legal = later.legal;
        makers = later.makers;
        stand = rw (first, last) (low, grown, high, rw (short, long) s.lawful, later.stand);
      }
