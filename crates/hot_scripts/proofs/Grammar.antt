-- Decimal digits and what they stand for.
use Rattle.hot_scripts.proofs.Common.{◌≡◌, ℕ, ◌^◌, ◌<◌, ◌&&◌, true, List, [], ◌∷◌, length, nat_lt, Some, Result, Ok, Err, inl, inr, refl, ap, arith, rules, nat_le, list_all, IsAscii, IsUtf8, digits_value, ParsesUnsigned, and_parts, ltb-true, lt-ltb, le-ltb, cases_lt, common_steps}
use Rattle.std.specs.Result.{result_ok}
use Rattle.std.specs.Char.{is_ascii_digit}
use Rattle.std.proofs.lemmas.Str.{IsUtf8-from_ascii}
use Rattle.std.proofs.lemmas.Str.Ascii.{IsAscii-nil, IsAscii-cons}
use Rattle.std.proofs.lemmas.Str.Parse.{IsNumeralModel, numerals_by_value, parse_digits}
use Rattle.hot_scripts.specs.Grammar.{is_number, number_of}

-- digits are ASCII
IsAscii-digits : (word : List ℕ) → list_all is_ascii_digit word ≡ true → IsAscii word
IsAscii-digits [] h = IsAscii-nil
IsAscii-digits (c ∷ cs) h =
    let parts = and_parts (is_ascii_digit c) (list_all is_ascii_digit cs) h in
    let below : c < 128 = grind (arith, common_steps) in
    IsAscii-cons c cs below (IsAscii-digits cs parts.1)

own : IsNumeralModel (λ ds. list_all is_ascii_digit ds ≡ true) (digits_value 10)
own = numerals_by_value _ (search rules)

-- the parts of the test
number_parts : (word : List ℕ) → is_number word ≡ true → (0 < length word) × (list_all is_ascii_digit word ≡ true)
number_parts word h =
    let both = and_parts (nat_lt 0 (length word) && nat_le (length word) 20) (list_all is_ascii_digit word) h in
    let sizes = and_parts (nat_lt 0 (length word)) (nat_le (length word) 20) both.0 in
    (ltb-true 0 (length word) sizes.0, both.1)

-- a number is text
pub IsUtf8-number : (word : List ℕ) → is_number word ≡ true → IsUtf8 word
IsUtf8-number word h = IsUtf8-from_ascii word (IsAscii-digits word (number_parts word h).1)

-- what a parse answers of a number
pub parsed_number : {E : Type 0} (word : List ℕ) (r : Result ℕ E) → is_number word ≡ true → ParsesUnsigned 64 10 word r → result_ok r ≡ number_of word
parsed_number {E} word (Ok n) h p =
    let all = number_parts word h in
    let parsed = parse_digits own {E = E} 64 word (Ok n) p all.1 in
    let small = lt-ltb (digits_value 10 word) (2 ^ 64) parsed.0.1 in
    rw (h, small) (ap Some parsed.1)
parsed_number {E} word (Err e) h p =
    let all = number_parts word h in
    let refused = parse_digits own {E = E} 64 word (Err e) p all.1 in
    elim (cases_lt (digits_value 10 word) (2 ^ 64)) [
      | inl small ↦ absurd (refused (all.0, small))
      | inr large ↦ rw (h, le-ltb (digits_value 10 word) (2 ^ 64) large) refl
    ]
