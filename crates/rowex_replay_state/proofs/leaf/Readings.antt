-- What reading words answers.
use Rattle.rowex_replay_state.proofs.Common.{◌≡◌, Result, Ok, Err, ap, IsErr, IsReading}

-- no value is spelled by the words
pub reads_none : {A W E : Type 0} {IsValue : A → Type 0} {spelled : A → W} {words : W} (fault : E) → ((x : A) → IsValue x → spelled x ≡ words → ⊥) → IsReading IsValue spelled words (Err fault)
reads_none fault none = record { read = λ x is same. absurd (none x is same); spelling = tt }

-- the one value that is
pub reads_one : {A W E : Type 0} {IsValue : A → Type 0} {spelled : A → W} {words : W} (x : A) → IsValue x → spelled x ≡ words → ((y : A) → IsValue y → spelled y ≡ words → x ≡ y) → IsReading {E = E} IsValue spelled words (Ok x)
reads_one x is same only = record { read = λ y other same_y. ap Ok (only y other same_y); spelling = (is, same) }

pub reads_fault : {A W E : Type 0} {IsValue : A → Type 0} {spelled : A → W} {words : W} (answer : Result A E) → IsErr answer → ((x : A) → IsValue x → spelled x ≡ words → ⊥) → IsReading IsValue spelled words answer
reads_fault (Ok x) fault none = cc
reads_fault (Err e) fault none = reads_none e none
