-- The sections that are left complete the texts.
use Rattle.std.proofs.Common.{◌≡◌, ◌++◌, ◌+◌, drop, map}
use Rattle.std.specs.Prelude.{flat_map}
use Rattle.script_runs.specs.Scripts.{sections}
use Rattle.script_runs.proofs.answer.make_sections.Given as goal

abbrev pub invariant-loop-file : goal.invariant-loop-file
invariant-loop-file l = record {
  number : l.number ≡ l.file-index + 1;
  left : drop l.file-index l.files ≡ drop l.file-index l.fn.files;
  whole : flat_map (λ t. t.items) l.texts.items ++ sections l.number (map (λ f. f.text.items) (drop l.file-index l.fn.files))
      ≡ sections 1 (map (λ f. f.text.items) l.fn.files);
}
