-- The grammar of a script: its lines, their words, and what a line asks for.
use Rattle.std.specs.Prelude.{ℕ, ◌≤◌, ◌+◌, ◌^◌, ◌==◌, ◌&&◌, nat_lt, nat_le, Bool, List, [], ◌∷◌, length, map, filter_map, Option, Some, None, Result, Ok, Err, if◌then◌else◌, codes}
use Rattle.std.specs.List.{slice_split, list_all}
use Rattle.std.specs.Str.{bytes_eq}
use Rattle.std.specs.Str.Parse.{digits_value}
use Rattle.std.specs.Char.{is_ascii_digit}
use Rattle.hex.specs.Hex.{decode_of}
use Rattle.hex.specs.declared.error.FromHexError.{FromHexError}
use Rattle.finite_map.specs.declared.Call.{Call}
use Rattle.finite_map.specs.declared.Call.TheVariants.{Get, Remove, Insert, Upsert}
use Rattle.finite_map.specs.Maps.{key_of}
use Rattle.hot_scripts.specs.declared.command.Command.{Command}
use Rattle.hot_scripts.specs.declared.command.Command.TheVariants.{Call as Asks, Scan}
use Rattle.hot_scripts.specs.declared.command.Version.{Version}
use Rattle.hot_scripts.specs.declared.command.Version.TheVariants.{First, Second}
use Rattle.hot_scripts.specs.declared.fault.Reason.{Reason}
use Rattle.hot_scripts.specs.declared.fault.Reason.TheVariants as bad

infixl 10 ◌>>=◌
-- the result of a second step for the value of the first one; the reason of the first step, if it failed
abbrev pub ◌>>=◌ : {A B : Type 0} → Result A Reason → (A → Result B Reason) → Result B Reason
Ok value >>= step = step value
Err reason >>= step = Err reason

-- the most bytes that a script may have
abbrev pub most_bytes : ℕ
most_bytes = 1048576

-- The lines of a script, each up to a line end, which is byte 10. What follows the last line end is a line too, even if it is empty.
abbrev pub lines_of : List ℕ → List (List ℕ)
lines_of script = slice_split (λ byte. byte == 10) script

-- the words of a line, each up to a space, which is byte 32; a word may be empty
abbrev pub line_words : List ℕ → List (List ℕ)
line_words line = slice_split (λ byte. byte == 32) line

-- the bytes that were decoded from hexadecimal digits, or the reason that the key is bad
abbrev pub decoded : Result (List ℕ) FromHexError → Result (List ℕ) Reason
decoded (Ok bytes) = Ok bytes
decoded (Err error) = Err bad.Key

-- how many hexadecimal digits a key may have in a script of this version
abbrev pub most_digits : Version → ℕ
most_digits First = 128
most_digits Second = 480

-- The key for which a word stands: a dash for the empty key, or two hexadecimal digits for each byte. Any other word is a bad key, and so
-- is one with too many digits for the version.
abbrev pub parsed_key : (version : Version) (word : List ℕ) → Result (List ℕ) Reason
parsed_key version word =
    if bytes_eq word (codes "-") then Ok []
    else if nat_le 2 (length word) && nat_le (length word) (most_digits version) then decoded (decode_of word)
    else Err bad.Key

-- whether the word has 1 to 20 decimal digits and nothing else
abbrev pub is_number : List ℕ → Bool
is_number word = nat_lt 0 (length word) && nat_le (length word) 20 && list_all is_ascii_digit word

-- the number for which the digits of a word stand; none if the word is no number below 2^64
abbrev pub number_of : List ℕ → Option ℕ
number_of word = if is_number word && nat_lt (digits_value 10 word) (2 ^ 64) then Some (digits_value 10 word) else None

-- the number as a result; if there is no number, this reason
abbrev pub ok_or_reason : (reason : Reason) (number : Option ℕ) → Result ℕ Reason
ok_or_reason reason (Some number) = Ok number
ok_or_reason reason None = Err reason

-- the value for which a word stands: any number below 2^64; any other word is a bad value
abbrev pub parsed_value : List ℕ → Result ℕ Reason
parsed_value word = ok_or_reason bad.Value (number_of word)

-- the limit for which a word stands: a number from 1 to 1,000,000; any other word is a bad limit
abbrev pub limit_of : List ℕ → Result ℕ Reason
limit_of word = ok_or_reason bad.Limit (number_of word) >>= λ limit. if nat_le 1 limit && nat_le limit 1000000 then Ok limit else Err bad.Limit

-- the command that makes this call of the key for which a word stands; if the word is no key, the reason
abbrev pub with_key : (version : Version) (call : List ℕ → Call) (key : List ℕ) → Result Command Reason
with_key version call key = parsed_key version key >>= λ bytes. Ok (Asks (call bytes))

-- the command that makes this call of the key and the value for which two words stand; if one is bad, the reason of the first such word
abbrev pub parsed_change : (version : Version) (call : List ℕ → ℕ → Call) (key value : List ℕ) → Result Command Reason
parsed_change version call key value = parsed_key version key >>= λ bytes. parsed_value value >>= λ number. Ok (Asks (call bytes number))

-- the command that scans the range, up to the limit, for which three words stand; if one is bad, the reason of the first such word
abbrev pub with_range : (version : Version) (from upto limit : List ℕ) → Result Command Reason
with_range version from upto limit =
    parsed_key version from >>= λ first. parsed_key version upto >>= λ last. limit_of limit >>= λ most.
    Ok (Scan (record { from = first; upto = last; limit = most }))

-- The command for which the words of a line stand: a name, and as many words as the name takes. `get` and `remove` take a key, `insert` and
-- `upsert` a key and a value, `scan` two keys and a limit. An unknown name or a wrong number of words is the first fault of the line. After
-- that, the first bad word is.
abbrev pub command_of : (version : Version) (words : List (List ℕ)) → Result Command Reason
command_of version (name ∷ key ∷ []) =
    if bytes_eq name (codes "get") then with_key version Get key
    else if bytes_eq name (codes "remove") then with_key version Remove key
    else Err bad.Command
command_of version (name ∷ key ∷ value ∷ []) =
    if bytes_eq name (codes "insert") then parsed_change version Insert key value
    else if bytes_eq name (codes "upsert") then parsed_change version Upsert key value
    else Err bad.Command
command_of version (name ∷ from ∷ upto ∷ limit ∷ []) =
    if bytes_eq name (codes "scan") then with_range version from upto limit
    else Err bad.Command
command_of version _ = Err bad.Command

-- What a line asks for: nothing if it is empty or begins with #, else the command for which its words stand. If they stand for none, it is
-- the reason.
abbrev pub reading_of : (version : Version) (line : List ℕ) → Result (Option Command) Reason
reading_of version [] = Ok None
reading_of version (byte ∷ bytes) =
    if byte == 35 then Ok None else command_of version (line_words (byte ∷ bytes)) >>= λ command. Ok (Some command)

-- What each line of a script asks for. A first line `hot 2` asks for nothing, and says that the script is of the second version.
abbrev pub readings_of : (lines : List (List ℕ)) → List (Result (Option Command) Reason)
readings_of [] = []
readings_of (first ∷ rest) =
    if bytes_eq first (codes "hot 2") then Ok None ∷ map (reading_of Second) rest
    else map (reading_of First) (first ∷ rest)

-- the command that a line asks for; none if it asks for none or is bad
abbrev pub asked : Result (Option Command) Reason → Option Command
asked (Ok command) = command
asked (Err reason) = None

-- The number of the first bad line, and the reason; none if no line is bad. The lines are numbered from `first` on.
abbrev pub first_bad : (first : ℕ) (readings : List (Result (Option Command) Reason)) → Option (ℕ × Reason)
first_bad first [] = None
first_bad first (Ok command ∷ readings) = first_bad (first + 1) readings
first_bad first (Err reason ∷ readings) = Some (first, reason)

-- the value as a result, or the fault if there is one
abbrev pub ok_unless_fault : {A : Type 0} → (fault : Option (ℕ × Reason)) (value : A) → Result A (ℕ × Reason)
ok_unless_fault (Some fault) value = Err fault
ok_unless_fault None value = Ok value

-- The commands that lines ask for. If a line is bad, it is the number of the first such line and the reason. The lines are numbered from
-- `first` on.
abbrev pub commands_from : (first : ℕ) (readings : List (Result (Option Command) Reason)) → Result (List Command) (ℕ × Reason)
commands_from first readings = ok_unless_fault (first_bad first readings) (filter_map asked readings)

-- the commands of a script, or the number of its first bad line, counted from 1, and the reason
abbrev pub commands_of : (script : List ℕ) → Result (List Command) (ℕ × Reason)
commands_of script = commands_from 1 (readings_of (lines_of script))

-- the key of the call that a command makes; the empty key for a scan
abbrev pub called_key : Command → List ℕ
called_key (Asks call) = key_of call
called_key (Scan range) = []

-- the key of the call that the command makes has at most `most` bytes
abbrev pub HasKeyUpTo : (most : ℕ) (command : Command) → Type 0
HasKeyUpTo most command = length (called_key command) ≤ most
