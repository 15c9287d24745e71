-- Scripts that run at the same time and meet: their answers are lawful together.
use Rattle.script_runs.proofs.Common.{◌≡◌, ◌≢◌, ℕ, suc, ◌+◌, ◌≤◌, ◌<◌, List, [], ◌∷◌, ◌++◌, length, map, true, false, cond, Bool, refl, sym, ap, ap₂, subst, ◌∙◌, arith, append_assoc, append-nil, eqb, codes, All, zip, eq-eqb, append_cancel_left, length-map, All-nil, All-cons, All-weaker, filter-append, Change, Note, LegalCalls, own_changes, BeginsWith, begins_itself, begins_on, legal_front_part, nothing_before, legal_at_first, legal_longer, Event, TableView, handle_at, PassView, AreByPasses, IsNewPass, untold, Command, line}
use Rattle.std.proofs.lemmas.Slice.Zip.{seconds-zip}
use Rattle.finite_map.specs.Weaves.{AllLegal}
use Rattle.script_runs.specs.declared.answer.Done.{Done}
use Rattle.script_runs.specs.Progress.{AllThree, HasAnsweredLast, HasRunCommands, IsDone, IsNewPassOf, MeetInTurn}
use Rattle.script_runs.specs.Scripts.{AllFrom, AllTwoFrom, AreAllAnswered, IsLegalRun, LawfulScripts, RanScript, by_pass, commands_in, notes_in, sections, text_in}
use Rattle.script_runs.specs.Told.{IsOfSize, IsToldOf, WasToldAnew}
use Rattle.script_runs.proofs.together.Numbered.{AllFrom-append, first_with, seat_at, zip_at}
use Rattle.script_runs.proofs.Progress.{AreTold-untold, stand_lower, told_events, told_stood}

-- Calls between two fronts

-- a front without changes of a pass
others_from : (q : ℕ) (cs : List Change) → own_changes q cs ≡ [] → All (λ c. c.pass ≢ q) cs
others_from q [] e = All-nil (λ c. c.pass ≢ q)
others_from q (c ∷ cs) e = by (eqb c.pass q) refl (others_from q cs)
  where
    by : (b : Bool) → eqb c.pass q ≡ b → (own_changes q cs ≡ [] → All (λ c. c.pass ≢ q) cs) → All (λ c. c.pass ≢ q) (c ∷ cs)
    by true is rest =
        let listed : own_changes q (c ∷ cs) ≡ c ∷ own_changes q cs = ap (λ b. cond b (c ∷ own_changes q cs) (own_changes q cs)) is in
        let no : c ∷ own_changes q cs ≡ [] = sym listed ∙ e in
        cc
    by false is rest =
        let listed : own_changes q (c ∷ cs) ≡ own_changes q cs = ap (λ b. cond b (c ∷ own_changes q cs) (own_changes q cs)) is in
        let other : c.pass ≢ q = λ same. let no : true ≡ false = sym (eq-eqb c.pass q same) ∙ is in cc in
        All-cons (λ c. c.pass ≢ q) c cs other (rest (sym listed ∙ e))

-- calls that are legal in a front and in a later one are legal in each front between them
pub legal_between : (front mid later : List Change) (q : ℕ) (notes : List Note) → LegalCalls front q notes → LegalCalls later q notes
    → BeginsWith mid front → BeginsWith later mid → LegalCalls mid q notes
legal_between front mid later q notes h l g b =
    let own = own_changes q in
    let first : own mid ≡ own front ++ own g.0 = ap own g.1 ∙ filter-append (λ c. eqb c.pass q) front g.0 in
    let second : own later ≡ own mid ++ own b.0 = ap own b.1 ∙ filter-append (λ c. eqb c.pass q) mid b.0 in
    let whole : own front ++ (own g.0 ++ own b.0) ≡ own front ++ [] =
    sym (append_assoc (own front) (own g.0) (own b.0)) ∙ ap (λ cs. cs ++ own b.0) (sym first) ∙ sym second ∙ l.own ∙ sym h.own ∙ sym (append-nil (own front)) in
    let none : own g.0 ≡ [] = nothing_before (own g.0) (own b.0) (append_cancel_left (own front) (own g.0 ++ own b.0) [] whole) in
    legal_longer front mid q notes h (g.0, g.1, others_from q g.0 none) (legal_front_part mid later b l.legal)

-- The passes of scripts

other_numbers : (q first : ℕ) (rans : List RanScript) → q < first → All (λ other. other.0 ≢ q) (by_pass first rans)
other_numbers q first [] lt = All-nil (λ other. other.0 ≢ q)
other_numbers q first (ran ∷ rans) lt =
    let other : first ≢ q = λ e. omega (arith, e, lt) in
    All-cons (λ other. other.0 ≢ q) (first, notes_in ran) (by_pass (first + 1) rans) other (other_numbers q (first + 1) rans (omega (arith, lt)))

-- the calls of all passes are legal in one front
all_legal : (front : List Change) (first : ℕ) (rans : List RanScript) → AllFrom first (λ q ran. LegalCalls front q (notes_in ran)) rans
    → AllLegal front (by_pass first rans)
all_legal front first [] h = tt
all_legal front first (ran ∷ rans) h =
    (h.0, other_numbers first (first + 1) rans (omega arith), all_legal front (first + 1) rans h.1)

module _ (index : TableView) where
  -- Meetings in turn

  pub met_begins : (k j : PassView) (befores afters : List Done) → MeetInTurn index k befores j afters → BeginsWith j.front k.front
  met_begins k j [] [] h = subst (λ (j : PassView). BeginsWith j.front k.front) (sym h) (begins_itself k.front)
  met_begins k j [] (a ∷ afters) h = absurd h
  met_begins k j (b ∷ befores) [] h = absurd h
  met_begins k j (b ∷ befores) (a ∷ afters) (m, met, text, rest) = begins_on k.front m.front j.front met.first.front (met_begins m j befores afters rest)

  -- What a pass keeps through meetings.
  record HasRunItsOrder (k j : PassView) : Type 0 where
    pub number : j.number ≡ k.number
    pub notes : j.notes ≡ k.notes
    pub legal : LegalCalls j.front j.number j.notes
    pub makers : AreByPasses index.layout j.front

  met_kept : (k j : PassView) (befores afters : List Done) → LegalCalls k.front k.number k.notes → AreByPasses index.layout k.front
      → MeetInTurn index k befores j afters → HasRunItsOrder k j
  met_kept k j [] [] legal makers h =
      let same : HasRunItsOrder k k = record { number = refl; notes = refl; legal = legal; makers = makers } in subst (HasRunItsOrder k) (sym h) same
  met_kept k j [] (a ∷ afters) legal makers h = absurd h
  met_kept k j (b ∷ befores) [] legal makers h = absurd h
  met_kept k j (b ∷ befores) (a ∷ afters) legal makers (m, met, text, rest) =
      let later = met_kept m j befores afters met.first.legal met.first.makers rest in record {
        number = later.number ∙ met.first.number;
        notes = later.notes ∙ met.first.notes;
        legal = later.legal;
        makers = later.makers;
      }

  pub met_long : (k j : PassView) (befores afters : List Done) → MeetInTurn index k befores j afters → length afters ≡ length befores
  met_long k j [] [] h = refl
  met_long k j [] (a ∷ afters) h = absurd h
  met_long k j (b ∷ befores) [] h = absurd h
  met_long k j (b ∷ befores) (a ∷ afters) (m, met, text, rest) = ap suc (met_long m j befores afters rest)

  -- The scripts of files

  -- A script that a new pass ran.
  record RanFirst {G : Type 0} (becomes : G → Event → G → Type 0) (q : ℕ) (gate : G × G) (commands : List Command) (j : PassView) (text : List ℕ) : Type 0 where
    pub ran : RanScript
    pub front : ran.front ≡ j.front
    pub commands_are : commands_in ran ≡ commands
    pub text_is : text_in ran ≡ text
    pub number : j.number ≡ q
    pub notes : j.notes ≡ notes_in ran
    pub run : IsLegalRun q 0 ran
    pub told : WasToldAnew index becomes q gate ran.answers ran.front

  new_legal : (q : ℕ) (p : PassView) → IsNewPass q p → LegalCalls p.front p.number p.notes
  new_legal q p new = rw (new.1, new.2) (legal_at_first p.number)

  new_makers : (q : ℕ) (p : PassView) → IsNewPass q p → AreByPasses index.layout p.front
  new_makers q p new = rw new.1 (All-nil (λ x. x.pass < index.layout.passes))

  first_run : {G : Type 0} (becomes : G → Event → G → Type 0) (q : ℕ) (a b : PassView × G) (commands : List Command) (text : List ℕ)
      → IsNewPassOf index q a.0 → HasRunCommands index becomes a commands b text → RanFirst becomes q (a.1, b.1) commands b.0 text
  first_run becomes q a b commands text first run =
      let p = a.0 in
      let j = b.0 in
      let new = first.1 in
      let stood = told_stood index becomes a b run.answers (new_legal q p new) (new_makers q p new) run.told in
      let ran : RanScript = record { answers = run.answers; front = j.front } in
      let number : j.number ≡ q = stood.number ∙ new.0 in
      let notes : j.notes ≡ notes_in ran = stood.notes ∙ ap (λ ns. ns ++ notes_in ran) new.2 in
      record {
        ran = ran;
        front = refl;
        commands_are = run.commands_are;
        text_is = sym run.text_is;
        number = number;
        notes = notes;
        run = record {
          legal = subst (λ n. LegalCalls j.front n (notes_in ran)) number (subst (λ ns. LegalCalls j.front j.number ns) notes stood.legal);
          stand = stand_lower index becomes j.front 0 (length p.front) run.answers (omega arith) stood.stand;
        };
        told = record {
          told = record {
            first = p;
            last = j;
            own = first.0;
            number = new.0;
            begins = new.1;
            ends = refl;
            told = run.told;
          };
          new = new;
        };
      }

  -- The scripts of files, the first with the pass q, that all met before the last script and again after it.
  pub record HaveRun {G : Type 0} (becomes : G → Event → G → Type 0) (gates : List (G × G)) (met last : List Change) (q : ℕ)
      (scripts : List (List Command)) (texts : List (List ℕ)) : Type 0 where
    pub rans : List RanScript
    pub commands : map commands_in rans ≡ scripts
    pub texts_are : map text_in rans ≡ texts
    pub each : AllFrom q (λ q ran. IsLegalRun q 0 ran) rans
    pub begins : All (λ ran. BeginsWith met ran.front) rans
    pub shared : AllFrom q (λ q ran. LegalCalls last q (notes_in ran)) rans
    pub told : AllTwoFrom q (λ q gate ran. WasToldAnew index becomes q gate ran.answers ran.front) gates rans

  pub files_have_run : {G : Type 0} (becomes : G → Event → G → Type 0) (last : List Change) (q : ℕ) (seats : List (PassView × G)) (scripts : List (List Command)) (done : List (Done × G)) (met again : List Done) (k j k' j' : PassView)
      → AllFrom q (λ q a. IsNewPassOf index q a.0) seats → AllThree (IsDone becomes) (map (seat_at index) seats) scripts done
      → MeetInTurn index k (map (λ r. r.0) done) j met → MeetInTurn index k' met j' again
      → BeginsWith last j.front → BeginsWith k'.front last
      → HaveRun becomes (zip (map (λ a. a.1) seats) (map (λ r. r.1) done)) j.front last q scripts (map (λ d. d.text.items) again)
  files_have_run becomes last q [] [] [] [] [] k j k' j' new run first second b e = record {
    rans = [];
    commands = refl;
    texts_are = refl;
    each = tt;
    begins = All-nil (λ ran. BeginsWith j.front ran.front);
    shared = tt;
    told = tt;
  }
  files_have_run becomes last q [] [] [] [] (x ∷ again) k j k' j' new run first second b e = absurd second
  files_have_run becomes last q [] [] [] (x ∷ met) again k j k' j' new run first second b e = absurd first
  files_have_run becomes last q [] [] (x ∷ done) met again k j k' j' new run first second b e = absurd run
  files_have_run becomes last q [] (x ∷ scripts) done met again k j k' j' new run first second b e = absurd run
  files_have_run becomes last q (x ∷ seats) [] done met again k j k' j' new run first second b e = absurd run
  files_have_run becomes last q (x ∷ seats) (y ∷ scripts) [] met again k j k' j' new run first second b e = absurd run
  files_have_run becomes last q (x ∷ seats) (y ∷ scripts) (z ∷ done) [] again k j k' j' new run first second b e = absurd first
  files_have_run becomes last q (x ∷ seats) (y ∷ scripts) (z ∷ done) (w ∷ met) [] k j k' j' new run first second b e = absurd second
  files_have_run becomes last q (p ∷ seats) (commands ∷ scripts) (d ∷ done) (a ∷ met) (f ∷ again) k j k' j' new run (m, one, same, first) (m', two, same', second) b e =
      let pass = d.0.handle.pass in
      let ran = first_run becomes q p (pass, d.1) commands d.0.text.items new.0 run.0.1 in
      let others = files_have_run becomes last (q + 1) seats scripts done met again m j m' j' new.1 run.1 first second b
      (begins_on last k'.front m'.front e two.first.front) in
      let seen : BeginsWith j.front pass.front =
      begins_on pass.front m.front j.front (subst (λ cs. BeginsWith cs pass.front) (sym one.fronts) one.second.front) (met_begins m j (map (λ r. r.0) done) met first) in
      let later : BeginsWith f.handle.pass.front last = subst (λ cs. BeginsWith cs last) two.fronts (begins_on last k'.front m'.front e two.first.front) in
      let number : f.handle.pass.number ≡ q = two.second.number ∙ one.second.number ∙ ran.number in
      let notes : f.handle.pass.notes ≡ notes_in ran.ran = two.second.notes ∙ one.second.notes ∙ ran.notes in
      let end : LegalCalls f.handle.pass.front q (notes_in ran.ran) =
      subst (λ n. LegalCalls f.handle.pass.front n (notes_in ran.ran)) number (subst (λ ns. LegalCalls f.handle.pass.front f.handle.pass.number ns) notes two.second.legal) in
      let begin : LegalCalls pass.front q (notes_in ran.ran) = subst (λ cs. LegalCalls cs q (notes_in ran.ran)) ran.front ran.run.legal in
      record {
        rans = ran.ran ∷ others.rans;
        commands = ap₂ (λ c cs. c ∷ cs) ran.commands_are others.commands;
        texts_are = ap₂ (λ t ts. t ∷ ts) (ran.text_is ∙ ap (λ t. t.items) (sym same) ∙ ap (λ t. t.items) (sym same')) others.texts_are;
        each = (ran.run, others.each);
        begins = All-cons (λ (ran : RanScript). BeginsWith j.front ran.front) ran.ran others.rans (subst (λ cs. BeginsWith j.front cs) (sym ran.front) seen) others.begins;
        shared = (legal_between pass.front last f.handle.pass.front q (notes_in ran.ran) begin end (begins_on pass.front j.front last seen b) later, others.shared);
        told = (ran.told, others.told);
      }

  -- All scripts

  pub lawful_together : {G : Type 0} (becomes : G → Event → G → Type 0) (passes : List PassView) (gates : List G) (scripts : List (List Command))
      (commands : List Command) (done : List (Done × G)) (met : List Done) (pass k : PassView) (text : List ℕ) (nodes leaves : ℕ)
      → IsOfSize (length scripts + 1) nodes leaves index → length gates ≡ length passes
      → AllFrom 0 (IsNewPassOf index) passes → IsNewPassOf index (length scripts) pass
      → AllThree (IsDone becomes) (zip (map (handle_at index) passes) gates) scripts done → MeetInTurn index pass (map (λ r. r.0) done) k met
      → HasAnsweredLast (handle_at index k) met commands text → AreAllAnswered nodes leaves becomes (zip gates (map (λ r. r.1) done)) scripts commands text
  lawful_together becomes passes gates scripts commands done met pass k text nodes leaves sized many_gates new last run first answered =
      let j = answered.after in
      let ran = answered.ran in
      let kept = met_kept pass k (map (λ r. r.0) done) met (new_legal _ pass last.1) (new_makers _ pass last.1) first in
      let stood = told_stood index untold (k, tt) (j, tt) ran.answers kept.legal kept.makers ran.told in
      let whole : RanScript = record { answers = ran.answers; front = j.front } in
      let notes : j.notes ≡ notes_in whole = stood.notes ∙ ap (λ ns. ns ++ notes_in whole) (kept.notes ∙ last.1.2) in
      let began : k.number ≡ length scripts = kept.number ∙ last.1.0 in
      let number : j.number ≡ length scripts = stood.number ∙ began in
      let legal : LegalCalls j.front (length scripts) (notes_in whole) =
      subst (λ n. LegalCalls j.front n (notes_in whole)) number (subst (λ ns. LegalCalls j.front j.number ns) notes stood.legal) in
      let seats = zip passes gates in
      let files = files_have_run becomes j.front 0 seats scripts done met answered.again pass k j answered.last (first_with index 0 passes gates new)
      (subst (λ seats. AllThree (IsDone becomes) seats scripts done) (zip_at index passes gates) run) first answered.meet stood.front (begins_itself j.front) in
      let many : length files.rans ≡ length scripts = sym (length-map files.rans commands_in) ∙ ap length files.commands in
      let at : length scripts ≡ 0 + length files.rans = omega (arith, many) in
      record {
        lawful = record {
          files_ran = files.rans;
          last_ran = whole;
          met = k.front;
          commands = files.commands;
          last_commands = ran.commands_are;
          each = files.each;
          begins = files.begins;
          last_begins = stood.front;
          last_legal = record { legal = legal; stand = stood.stand };
          shared = all_legal j.front 0 (files.rans ++ whole ∷ [])
              (AllFrom-append (λ q ran. LegalCalls j.front q (notes_in ran)) 0 files.rans (whole ∷ []) files.shared (subst (λ n. LegalCalls j.front n (notes_in whole)) at legal, tt));
          makers = All-weaker (λ c. c.pass < index.layout.passes) (λ c. c.pass ≤ length scripts) (λ c below. omega (arith, below, sized.passes_are)) j.front stood.makers;
          text_is = answered.text_is ∙ ap₂ (λ files text. sections 1 files ++ line (codes "last") ++ text) (sym files.texts_are) ran.text_is;
        };
        index = index;
        sized = sized;
        files_told = subst (λ gates. AllTwoFrom 0 (λ q gate ran. WasToldAnew index becomes q gate ran.answers ran.front) (zip gates (map (λ r. r.1) done)) files.rans)
            (seconds-zip passes gates many_gates) files.told;
        last_told = record { first = k; last = j; own = answered.own; number = began; begins = refl; ends = refl; told = ran.told };
      }

-- What gates are told

-- each gate was told the steps of its file's pass
pub each_told : {G : Type 0} (index : TableView) (becomes : G → Event → G → Type 0) (first : ℕ) (gates : List (G × G)) (rans : List RanScript)
    → AllTwoFrom first (λ q gate ran. WasToldAnew index becomes q gate ran.answers ran.front) gates rans → AllFrom first (IsToldOf becomes) gates
each_told index becomes first [] rans told = tt
each_told index becomes first (gate ∷ gates) [] told = absurd told
each_told index becomes first (gate ∷ gates) (ran ∷ rans) told =
    let was = told.0.told in (
      subst (λ q. IsToldOf becomes q gate) was.number (told_events index becomes (was.first, gate.0) (was.last, gate.1) ran.answers was.told),
      each_told index becomes (first + 1) gates rans told.1,
    )

-- Nobody need be told

WasTold-untold : {G : Type 0} (index : TableView) (becomes : G → Event → G → Type 0) (q : ℕ) (gate : G × G) (ran : RanScript)
    → WasToldAnew index becomes q gate ran.answers ran.front → WasToldAnew index untold q (tt, tt) ran.answers ran.front
WasTold-untold index becomes q gate ran anew =
    let was = anew.told in
    record {
      told = record {
        first = was.first;
        last = was.last;
        own = was.own;
        number = was.number;
        begins = was.begins;
        ends = was.ends;
        told = AreTold-untold index becomes _ _ ran.answers was.told;
      };
      new = anew.new;
    }

files_untold : {G A : Type 0} (index : TableView) (becomes : G → Event → G → Type 0) (first : ℕ) (gates : List (G × G)) (files : List A) (rans : List RanScript)
    → length gates ≡ length files
    → AllTwoFrom first (λ q gate ran. WasToldAnew index becomes q gate ran.answers ran.front) gates rans
    → AllTwoFrom first (λ q gate ran. WasToldAnew index untold q gate ran.answers ran.front) (map (λ f. (tt, tt)) files) rans
files_untold index becomes first [] [] [] long told = tt
files_untold index becomes first [] [] (ran ∷ rans) long told = absurd told
files_untold index becomes first [] (file ∷ files) rans long told = absurd (omega (arith, long))
files_untold index becomes first (gate ∷ gates) [] rans long told = absurd (omega (arith, long))
files_untold index becomes first (gate ∷ gates) (file ∷ files) [] long told = absurd told
files_untold index becomes first (gate ∷ gates) (file ∷ files) (ran ∷ rans) long told =
    (WasTold-untold index becomes first gate ran told.0, files_untold index becomes (first + 1) gates files rans (omega (arith, long)) told.1)

pub scripts_untold : {G A : Type 0} (nodes leaves : ℕ) (becomes : G → Event → G → Type 0) (gates : List (G × G)) (files : List A) (scripts : List (List ℕ)) (script text : List ℕ)
    → length gates ≡ length files → LawfulScripts nodes leaves becomes gates scripts script text
    → LawfulScripts nodes leaves untold (map (λ f. (tt, tt)) files) scripts script text
scripts_untold nodes leaves becomes gates files scripts script text long h = record {
  scripts = h.scripts;
  last = h.last;
  files_are = h.files_are;
  short = h.short;
  last_is = h.last_is;
  answers = record {
    lawful = h.answers.lawful;
    index = h.answers.index;
    sized = h.answers.sized;
    files_told = files_untold h.answers.index becomes 0 gates files h.answers.lawful.files_ran long h.answers.files_told;
    last_told = h.answers.last_told;
  };
}
