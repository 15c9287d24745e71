-- What the program writes, and how it may end.
use Rattle.std.specs.Prelude.{ℕ, List, [], ◌∷◌, map, Option}
use Rattle.std.specs.Io.KnownBytes.{Appends}
use Rattle.hot_scripts.specs.declared.fault.RunFault.{RunFault}
use Rattle.hot_scripts.specs.declared.fault.RunFault.TheVariants.{Read, Memory}
use Rattle.hot_scripts.specs.Streams.{TakesAll}
use Rattle.hot_index_calls.specs.Traces.{untold}
use Rattle.hot_scripts.specs.declared.ending.Ending.{Ending}
use Rattle.hot_scripts.specs.declared.ending.Ending.TheVariants.{Usage, Fault}
use Rattle.hot_scripts.specs.Files.{AreFileStarts}
use Rattle.hot_scripts.specs.Options.{DoParse, IsAsked}
use Rattle.script_runs.specs.Runs.{IsAnsweredScript, MayEndBy}
use Rattle.script_runs.specs.Scripts.{LawfulScripts, MayEndScriptsBy}

-- The text has the answers to the script. If files are named, it has before them the answers to the scripts in these files. `bytes` gives
-- the bytes of a name's file, if they are known.
abbrev pub AnswersAll : (bytes : List ℕ → Option (List ℕ)) (names : List (List ℕ)) (nodes leaves : ℕ) (script text : List ℕ) → Type 0
AnswersAll bytes [] nodes leaves script text = IsAnsweredScript nodes leaves script text
AnswersAll bytes (name ∷ names) nodes leaves script text =
    (files : List (List ℕ)) × AreFileStarts bytes (name ∷ names) files ×
    LawfulScripts nodes leaves untold (map (λ file. (tt, tt)) files) files script text

-- The program has answered what the words of the command line ask for. The script is all that the reader had left, and the text of the
-- answers was written. `old` and `new` are what the reader has left before and after, and `before` and `after` what was written by then, if
-- these are known.
pub record IsAnsweredAsAsked (bytes : List ℕ → Option (List ℕ)) (words : List (List ℕ)) (old new before after : Option (List ℕ)) : Type 0 where
  pub nodes : ℕ
  pub leaves : ℕ
  pub names : List (List ℕ)
  pub asked : IsAsked words nodes leaves names
  pub script : List ℕ
  pub text : List ℕ
  pub taken : TakesAll old new script
  pub answered : AnswersAll bytes names nodes leaves script text
  pub written : Appends before after text

-- A run of the script, and of the scripts in the named files, may end by this fault. `bytes` gives the bytes of a name's file, and `old`
-- and `new` what the reader has left before and after, if these are known.
abbrev pub MayEndAllBy : (bytes : List ℕ → Option (List ℕ)) (names : List (List ℕ)) (old new : Option (List ℕ)) (fault : RunFault) → Type 0
MayEndAllBy bytes [] old new fault = MayEndBy old new fault
MayEndAllBy bytes (name ∷ names) old new fault = (files : List (List ℕ)) × AreFileStarts bytes (name ∷ names) files × MayEndScriptsBy files old new fault

-- The run that the words of the command line ask for may end by this fault (`MayEndAllBy`). The words parse, and ask for so many records
-- and for the files of these names.
pub record HasFaultAsAsked (bytes : List ℕ → Option (List ℕ)) (words : List (List ℕ)) (old new : Option (List ℕ)) (fault : RunFault) : Type 0 where
  pub nodes : ℕ
  pub leaves : ℕ
  pub names : List (List ℕ)
  pub asked : IsAsked words nodes leaves names
  pub ended : MayEndAllBy bytes names old new fault

-- The program may end so without answers. It ends as wrong usage only if the words of the command line don't parse, and by a failed read
-- only if they parse. By another fault it ends only if the run that they ask for may. It may always end for want of memory.
abbrev pub MayEndAsAsked : (bytes : List ℕ → Option (List ℕ)) (words : List (List ℕ)) (old new : Option (List ℕ)) (ending : Ending) → Type 0
MayEndAsAsked bytes words old new Usage = DoParse words → ⊥
MayEndAsAsked bytes words old new (Fault Read) = DoParse words
MayEndAsAsked bytes words old new (Fault Memory) = Unit {0}
MayEndAsAsked bytes words old new (Fault fault) = HasFaultAsAsked bytes words old new fault
