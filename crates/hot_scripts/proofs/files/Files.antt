-- The starts of files, one after the other.
use Rattle.hot_scripts.proofs.Common.{◌≡◌, ℕ, ◌+◌, ◌<◌, List, [], ◌∷◌, ◌++◌, Option, Vec, map, length, get_or, take, map-append, take_more, Bor}
use Rattle.std.specs.Global.{Global}
use Rattle.hot_scripts.specs.Files.{AreFileStarts, IsFileStart}

-- one more
AreFileStarts-push : (bytes : List ℕ → Option (List ℕ)) (names starts : List (List ℕ)) (name start : List ℕ) → AreFileStarts bytes names starts → IsFileStart (bytes name) start
    → AreFileStarts bytes (names ++ name ∷ []) (starts ++ start ∷ [])
AreFileStarts-push bytes [] [] name start all one = (one, tt)
AreFileStarts-push bytes [] (s ∷ starts) name start all one = absurd all
AreFileStarts-push bytes (n ∷ names) [] name start all one = absurd all
AreFileStarts-push bytes (n ∷ names) (s ∷ starts) name start all one = (all.0, AreFileStarts-push bytes names starts name start all.1 one)

-- the next name, and the start of its file
pub AreFileStarts-pushed : (bytes : List ℕ → Option (List ℕ)) (names : List (Bor (List ℕ))) (i : ℕ) (d : Bor (List ℕ)) (files pushed : List (Vec ℕ Global)) (file : Vec ℕ Global)
    → i < length names → pushed ≡ files ++ file ∷ [] → AreFileStarts bytes (map (λ name. name.now) (take i names)) (map (λ v. v.items) files)
    → IsFileStart (bytes (get_or names i d).now) file.items → AreFileStarts bytes (map (λ name. name.now) (take (i + 1) names)) (map (λ v. v.items) pushed)
AreFileStarts-pushed bytes names i d files pushed file lt is all one =
    rw (is, take_more names i d lt, map-append, map-append) (AreFileStarts-push bytes _ _ _ _ all one)
