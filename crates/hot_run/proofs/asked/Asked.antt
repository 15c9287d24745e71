-- What a run has answered, of one script or of several, and by what it may end.
use Rattle.std.proofs.Common.{◌≡◌, ◌⊎◌, inl, inr, ℕ, List, [], ◌∷◌, length, map, Option, Vec, vec_len, Bool, true, false, refl, ap, subst, sym, ◌∙◌, arith}
use Rattle.std.specs.Prelude.{◌==◌, Ok, Err, IsOk}
use Rattle.std.specs.Borrow.{Bor}
use Rattle.std.specs.Global.{Global}
use Rattle.std.proofs.lemmas.Bool.{eqb-true}
use Rattle.std.proofs.lemmas.List.{nil_from_length}
use Rattle.hot_index_calls.specs.Traces.{untold}
use Rattle.hot_scripts.specs.declared.command.Command.{Command}
use Rattle.hot_scripts.specs.declared.fault.RunFault.{RunFault}
use Rattle.hot_scripts.specs.declared.fault.RunFault.TheVariants.{Read, Write, Memory, Script, FileScript, Large}
use Rattle.hot_scripts.specs.Files.{AreFileStarts, IsFileFault}
use Rattle.hot_scripts.specs.Options.{DoParse, IsAsked}
use Rattle.hot_scripts.specs.declared.ending.Ending.{Ending}
use Rattle.hot_scripts.specs.declared.ending.Ending.TheVariants.{Usage, Fault}
use Rattle.hot_scripts.specs.InFiles.{IsParsed, commands_of_files}
use Rattle.hot_scripts.specs.Streams.{IsReadFault}
use Rattle.script_runs.specs.Scripts.{LawfulScripts, MayEndScriptsBy}
use Rattle.hot_run.specs.Asked.{AnswersAll, HasFaultAsAsked, MayEndAllBy, MayEndAsAsked}

-- files were named
module _ (bytes : List ℕ → Option (List ℕ)) where
  named_answers : (names files : List (List ℕ)) (nodes leaves : ℕ) (script text : List ℕ) → (names ≡ [] → ⊥) → AreFileStarts bytes names files
      → LawfulScripts nodes leaves untold (map (λ f. (tt, tt)) files) files script text → AnswersAll bytes names nodes leaves script text
  named_answers [] files nodes leaves script text some starts lawful = absurd (some refl)
  named_answers (name ∷ names) files nodes leaves script text some starts lawful = (files, starts, lawful)

  named_ends : (names files : List (List ℕ)) (old new : Option (List ℕ)) (fault : RunFault) → (names ≡ [] → ⊥) → AreFileStarts bytes names files → MayEndScriptsBy files old new fault
      → MayEndAllBy bytes names old new fault
  named_ends [] files old new fault some starts ended = absurd (some refl)
  named_ends (name ∷ names) files old new fault some starts ended = (files, starts, ended)

-- as many gates that are told nothing
units : {A B : Type 0} (f : A → B) (xs : List A)
    → map {A = A} {B = Unit {0} × Unit {0}} (λ x. (tt, tt)) xs ≡ map {A = B} {B = Unit {0} × Unit {0}} (λ y. (tt, tt)) (map f xs)
units f [] = refl
units f (x ∷ xs) = ap (λ (l : List (Unit {0} × Unit {0})). (tt, tt) ∷ l) (units f xs)

-- a vector that is tested to be empty
pub no_items : (v : Vec (Bor (List ℕ)) Global) (empty : Bool) → empty ≡ (vec_len v == 0) → empty ≡ true → v.items ≡ []
no_items v empty is on = nil_from_length v.items (omega (arith, v.ok.0, eqb-true (vec_len v) 0 (sym is ∙ on)))

-- a vector that is tested not to be empty
pub not_empty : (v : Vec (Bor (List ℕ)) Global) (empty : Bool) → empty ≡ (vec_len v == 0) → empty ≡ false → v.items ≡ [] → ⊥
not_empty v empty is off none =
    let zero : vec_len v ≡ 0 = omega (arith, v.ok.0, ap length none) in
    let yes : (vec_len v == 0) ≡ true = rw zero refl in
    let both : true ≡ false = sym yes ∙ (sym is ∙ off) in cc

some_named : (names : List (Bor (List ℕ))) → (names ≡ [] → ⊥) → map (λ n. n.now) names ≡ [] → ⊥
some_named [] some e = some refl
some_named (name ∷ names) some e = cc

-- The files of these names have been read.
module _ (bytes : List ℕ → Option (List ℕ)) (names : List (Bor (List ℕ))) (files : List (Vec ℕ Global)) (some : names ≡ [] → ⊥)
    (starts : AreFileStarts bytes (map (λ n. n.now) names) (map (λ f. f.items) files)) where
  -- the run has answered them
  pub files_answered : (nodes leaves : ℕ) (script text : List ℕ) → LawfulScripts nodes leaves untold (map (λ f. (tt, tt)) files) (map (λ f. f.items) files) script text
      → AnswersAll bytes (map (λ n. n.now) names) nodes leaves script text
  files_answered nodes leaves script text lawful =
      named_answers bytes (map (λ n. n.now) names) (map (λ f. f.items) files) nodes leaves script text (some_named names some) starts
      (subst (λ (gates : List (Unit {0} × Unit {0})). LawfulScripts nodes leaves untold gates (map (λ (f : Vec ℕ Global). f.items) files) script text) (units (λ (f : Vec ℕ Global). f.items) files) lawful)

  -- it has ended by a fault
  pub run_ended : (old new : Option (List ℕ)) (fault : RunFault) → MayEndScriptsBy (map (λ f. f.items) files) old new fault
      → MayEndAllBy bytes (map (λ n. n.now) names) old new fault
  run_ended old new fault ended = named_ends bytes (map (λ n. n.now) names) (map (λ f. f.items) files) old new fault (some_named names some) starts ended

-- what ends a run of several scripts before its first command
module _ (files : List (List ℕ)) (old new : Option (List ℕ)) where
  pub parse_ended : {A : Type 0} (view : A → List (List Command)) (fault : RunFault) → IsParsed view (Err fault) (commands_of_files 1 files)
      → MayEndScriptsBy files old new fault
  parse_ended view Read is = inl is
  parse_ended view Memory is = tt
  parse_ended view Write is = inl is
  parse_ended view (Script number reason) is = inl is
  parse_ended view (FileScript file number reason) is = inl is
  parse_ended view Large is = inl is

  pub read_ended : (scripts : List (List Command)) → commands_of_files 1 files ≡ Ok scripts → (fault : RunFault) → IsReadFault old new fault
      → MayEndScriptsBy files old new fault
  read_ended scripts parsed Read is = inr (subst IsOk (sym parsed) refl, is)
  read_ended scripts parsed Memory is = tt
  read_ended scripts parsed Write is = absurd is
  read_ended scripts parsed (Script number reason) is = absurd is
  read_ended scripts parsed (FileScript file number reason) is = absurd is
  read_ended scripts parsed Large is = inr (subst IsOk (sym parsed) refl, is)

-- The words were refused, or memory was.
pub words_ended : (bytes : List ℕ → Option (List ℕ)) (words : List (List ℕ)) (old new : Option (List ℕ)) (ending : Ending)
    → ((ending ≡ Usage) × (DoParse words → ⊥)) ⊎ (ending ≡ Fault Memory) → MayEndAsAsked bytes words old new ending
words_ended bytes words old new ending (inl (usage, none)) = rw usage none
words_ended bytes words old new ending (inr memory) = rw memory tt

-- A file could not be read, or memory was refused, or the run that was asked for has ended by a fault.
module _ (bytes : List ℕ → Option (List ℕ)) (words : List (List ℕ)) (nodes leaves : ℕ) (names : List (List ℕ)) (old new : Option (List ℕ)) where
  faulted : (fault : RunFault) → IsAsked words nodes leaves names → MayEndAllBy bytes names old new fault → HasFaultAsAsked bytes words old new fault
  faulted fault asked ended = record { nodes = nodes; leaves = leaves; names = names; asked = asked; ended = ended }

  pub asked_ended : (fault : RunFault) → IsAsked words nodes leaves names → IsFileFault fault ⊎ MayEndAllBy bytes names old new fault
      → MayEndAsAsked bytes words old new (Fault fault)
  asked_ended Read asked ended = asked.parse
  asked_ended Memory asked ended = tt
  asked_ended Write asked (inl is) = absurd is
  asked_ended Write asked (inr ended) = faulted Write asked ended
  asked_ended (Script number reason) asked (inl is) = absurd is
  asked_ended (Script number reason) asked (inr ended) = faulted (Script number reason) asked ended
  asked_ended (FileScript file number reason) asked (inl is) = absurd is
  asked_ended (FileScript file number reason) asked (inr ended) = faulted (FileScript file number reason) asked ended
  asked_ended Large asked (inl is) = absurd is
  asked_ended Large asked (inr ended) = faulted Large asked ended
