-- What a script means: the answers to its commands on a finite map, as lines.
use Rattle.std.specs.Prelude.{ℕ, ◌++◌, List, [], ◌∷◌, length, flat_map, nat_lt, take, Bool, Result, Ok, Err, if◌then◌else◌, codes, decimal}
use Rattle.hex.specs.Hex.{encode_lower}
use Rattle.finite_map.specs.declared.Reply.{Reply}
use Rattle.finite_map.specs.declared.Reply.TheVariants as reply
use Rattle.finite_map.specs.Maps.{Map, map_after, reply_of}
use Rattle.finite_map.specs.Scans.{range_of}
use Rattle.hot_scripts.specs.declared.command.Command.{Command}
use Rattle.hot_scripts.specs.declared.command.Command.TheVariants.{Call as Asks, Scan}
use Rattle.hot_scripts.specs.declared.command.KeyRange.{KeyRange}
use Rattle.hot_scripts.specs.declared.fault.RunFault.{RunFault}
use Rattle.hot_scripts.specs.declared.fault.RunFault.TheVariants.{Script, Large}
use Rattle.hot_scripts.specs.declared.fault.Reason.{Reason}
use Rattle.hot_scripts.specs.Grammar.{commands_of, most_bytes}

-- the text as a line: with the line end, byte 10, behind it
abbrev pub line : List ℕ → List ℕ
line text = text ++ 10 ∷ []

-- the text `word`, and behind it the number in decimal digits without leading zeros
abbrev pub with_number : (word : List ℕ) (number : ℕ) → List ℕ
with_number word number = word ++ decimal number

-- a key in lower case hexadecimal digits; a dash for the empty key
abbrev pub key_text : List ℕ → List ℕ
key_text [] = codes "-"
key_text (byte ∷ bytes) = encode_lower (byte ∷ bytes)

-- the text that answers a command whose call had this reply
abbrev pub reply_text : Reply → List ℕ
reply_text reply.Inserted = codes "inserted"
reply_text (reply.Exists value) = with_number (codes "exists ") value
reply_text reply.New = codes "new"
reply_text (reply.Was value) = with_number (codes "was ") value
reply_text reply.Exchanged = codes "exchanged"
reply_text (reply.Differs value) = with_number (codes "differs ") value
reply_text (reply.Value held) = with_number (codes "value ") held
reply_text reply.Absent = codes "none"
reply_text (reply.Removed value) = with_number (codes "removed ") value

-- the line of a pair that a scan lists: the word `pair`, its key and its value, with spaces between them
abbrev pub pair_line : List ℕ × ℕ → List ℕ
pair_line (key, value) = line (codes "pair " ++ key_text key ++ codes " " ++ decimal value)

-- the lines that answer a scan with these pairs: one for each pair, and a last one, which has `more` or `end` by whether there are more,
-- and the number of pairs
abbrev pub scan_lines : (pairs : Map) (more : Bool) → List ℕ
scan_lines pairs more = flat_map pair_line pairs ++ line (with_number (if more then codes "more " else codes "end ") (length pairs))

-- the lines that answer a scan of this range on the map: its first pairs in the range, up to the limit
abbrev pub scan_text : (pairs : Map) (range : KeyRange) → List ℕ
scan_text pairs range =
    let found = range_of pairs range.from range.upto in scan_lines (take range.limit found) (nat_lt range.limit (length found))

-- the lines that answer these commands, made one after the other, the first on the map `pairs`
abbrev pub text_from : (pairs : Map) (commands : List Command) → List ℕ
text_from pairs [] = []
text_from pairs (Asks call ∷ commands) = line (reply_text (reply_of pairs call)) ++ text_from (map_after pairs call) commands
text_from pairs (Scan range ∷ commands) = scan_text pairs range ++ text_from pairs commands

-- the lines that answer the commands of a script from the empty map on, or the fault of its first bad line
abbrev pub text_or_fault : Result (List Command) (ℕ × Reason) → Result (List ℕ) RunFault
text_or_fault (Ok commands) = Ok (text_from [] commands)
text_or_fault (Err (number, reason)) = Err (Script number reason)

-- What a script means: the lines that answer its commands, from the empty map on. If it is too long or has a bad line, it means a fault.
abbrev pub script_meaning : List ℕ → Result (List ℕ) RunFault
script_meaning script = if nat_lt most_bytes (length script) then Err Large else text_or_fault (commands_of script)
