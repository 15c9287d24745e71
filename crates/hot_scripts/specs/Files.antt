-- What is read of the files that have scripts.
use Rattle.std.specs.Prelude.{◌≡◌, ℕ, ◌+◌, List, [], ◌∷◌, take, Option, IfSome}
use Rattle.hot_scripts.specs.declared.fault.RunFault.{RunFault}
use Rattle.hot_scripts.specs.declared.fault.RunFault.TheVariants.{Read, Memory}
use Rattle.hot_scripts.specs.Grammar.{most_bytes}

-- If the bytes of the file are known, `start` are all of them, or the first ones, one more than a script may have.
abbrev pub IsFileStart : (known : Option (List ℕ)) (start : List ℕ) → Type 0
IsFileStart known start = IfSome known (λ all. start ≡ take (most_bytes + 1) all)

-- `starts` are what was read of the files of these names, as `IsFileStart` says. `bytes` gives the bytes of a name's file, if they are
-- known.
abbrev pub AreFileStarts : (bytes : List ℕ → Option (List ℕ)) (names starts : List (List ℕ)) → Type 0
AreFileStarts bytes [] [] = Unit {0}
AreFileStarts bytes (name ∷ names) (start ∷ starts) = IsFileStart (bytes name) start × AreFileStarts bytes names starts
AreFileStarts bytes _ _ = ⊥

-- the fault is that of a file that can't be opened or read, or for which memory is refused
abbrev pub IsFileFault : RunFault → Type 0
IsFileFault Read = Unit {0}
IsFileFault Memory = Unit {0}
IsFileFault fault = ⊥
