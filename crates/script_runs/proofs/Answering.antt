-- The answers to commands, one command after another.
use Rattle.script_runs.proofs.Common.{◌≡◌, ◌≤◌, ℕ, List, [], ◌∷◌, ◌++◌, length, map, Ok, refl, sym, ap, ap₂, ◌∙◌, All, ltb_from_iff, le-ltb, All-head, All-tail, Scan, Map, map_after, reply_of, IsScanOf, Command, KeyRange, commands_of, line, reply_text, scan_lines, scan_text, script_meaning, text_from}
use Rattle.script_runs.specs.Answers.{Answered, called, refused, listed, IsGranted, answered_command}
use Rattle.script_runs.specs.Runs.{AreAnswered, IsAnsweredScript, text_told}

-- the lines of a scan are those that a script means
pub lines_of_scan : (m : Map) (range : KeyRange) (scan : Scan) → IsScanOf m range.from range.upto range.limit scan
    → scan_lines scan.pairs.items scan.more ≡ scan_text m range
lines_of_scan m range scan is = ap₂ scan_lines is.pairs (ltb_from_iff is.more)

-- where no command was refused, the answers are those that a script means
text_from-told : (m : Map) (answers : List Answered) → All IsGranted answers → text_told m answers ≡ text_from m (map answered_command answers)
text_from-told m [] none = refl
text_from-told m (called note ∷ answers) none =
    ap (λ text. line (reply_text (reply_of m note.call)) ++ text) (text_from-told (map_after m note.call) answers (All-tail IsGranted (called note) answers none))
text_from-told m (listed range scan before after ∷ answers) none =
    ap (λ text. scan_text m range ++ text) (text_from-told m answers (All-tail IsGranted (listed range scan before after) answers none))
text_from-told m (refused call full ∷ answers) none = absurd (All-head IsGranted (refused call full) answers none)

-- what a script of these commands means
script_meaning-commands : (script : List ℕ) (commands : List Command) → length script ≤ 1048576 → commands_of script ≡ Ok commands
    → script_meaning script ≡ Ok (text_from [] commands)
script_meaning-commands script commands short parsed = rw (le-ltb 1048576 (length script) short, parsed) refl

-- the answers to the commands of a script answer the script
pub IsAnsweredScript-script : (nodes leaves : ℕ) (script : List ℕ) (commands : List Command) (text : List ℕ) → length script ≤ 1048576
    → commands_of script ≡ Ok commands → AreAnswered nodes leaves commands text → IsAnsweredScript nodes leaves script text
IsAnsweredScript-script nodes leaves script commands text short parsed run = record {
  short = short;
  commands = commands;
  parsed = parsed;
  run = run;
  meaning = λ none.
      script_meaning-commands script commands short parsed
      ∙ ap Ok (sym (run.text_is ∙ text_from-told [] run.answers none ∙ ap (text_from []) run.commands_are));
}
