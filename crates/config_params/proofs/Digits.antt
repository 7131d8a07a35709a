-- What std's reading of a number gives for a text of digits.
use Rattle.std.proofs.Common.{◌≡◌, ℕ, ◌+◌, ◌-◌, ◌*◌, ◌<◌, ◌≤◌, ◌^◌, ◌∙◌, List, [], length, take, Bool, true, false, Result, Ok, refl, sym, ap, rules, arith}
use Rattle.std.specs.Prelude.{if◌then◌else◌, Some, None, unwrap_or}
use Rattle.std.specs.Char.{is_ascii_digit}
use Rattle.std.specs.List.{list_all, position_or_len}
use Rattle.std.specs.Str.Parse.{ParsesUnsigned, digits_value}
use Rattle.std.proofs.lemmas.Bool.{lt-ltb, le-leb, ne_eqb}
use Rattle.std.proofs.lemmas.List.{take_all}
use Rattle.std.proofs.lemmas.Option.{none-some}
use Rattle.std.proofs.lemmas.Str.Parse.{IsNumeralModel, numerals_by_value, parse_gives, digits_value_short}
use Rattle.config_params.specs.Numbers.{is_number, unless_zero, is_point, whole_of, decimals_of, is_factor, factor_in}
use Rattle.config_params.proofs.Cuts.{is_there, not_there, nothing_behind}

own : IsNumeralModel (λ ds. list_all is_ascii_digit ds ≡ true) (digits_value 10)
own = numerals_by_value _ (search rules)

-- so many digits make a number below that power of ten
pub short : (ds : List ℕ) (most : ℕ) → list_all is_ascii_digit ds ≡ true → length ds ≤ most → digits_value 10 ds < 10 ^ most
short ds most h le = digits_value_short own ds most h le

nine : (ds : List ℕ) → list_all is_ascii_digit ds ≡ true → length ds ≤ 9 → digits_value 10 ds < 2 ^ 32
nine ds h le = omega (arith, short ds 9 h le)

-- a text of at most nine digits is read
pub digits_read : {E : Type 0} (ds : List ℕ) (r : Result ℕ E) → ParsesUnsigned 32 10 ds r → list_all is_ascii_digit ds ≡ true → 0 < length ds → length ds ≤ 9 → r ≡ Ok (digits_value 10 ds)
digits_read ds r h digits some le = parse_gives own 32 ds r h digits some (nine ds digits le)

-- such a text is a number
pub is_read : (most : ℕ) (ds : List ℕ) → list_all is_ascii_digit ds ≡ true → 0 < length ds → length ds ≤ most
    → (if is_number most ds then Some (digits_value 10 ds) else None) ≡ Some (digits_value 10 ds)
is_read most ds digits some few = rw (lt-ltb 0 (length ds) some, le-leb (length ds) most few, digits) refl

-- what a text that is read as a number says of it
number_parts : (b : Bool) (n x : ℕ) → Some n ≡ (if b then Some x else None) → (b ≡ true) × (n ≡ x)
number_parts true n x e = (refl, ap (λ o. unwrap_or o n) e)
number_parts false n x e = absurd (none-some n (sym e))

some_unless_zero : (n : ℕ) → 0 < n → unless_zero n ≡ Some n
some_unless_zero n h = rw (ne_eqb n 0 (λ e. omega (arith, e, h))) refl

-- a factor with decimals, and one without
pub factor_with : (text whole decimals : List ℕ) (w d : ℕ) → whole ≡ whole_of text → decimals ≡ decimals_of text → position_or_len is_point text < length text
    → Some w ≡ (if is_number 6 whole then Some (digits_value 10 whole) else None)
    → Some d ≡ (if is_number 4 decimals then Some (digits_value 10 decimals * 10 ^ (4 - length decimals)) else None)
    → 0 < w * 10000 + d → Some (w * 10000 + d) ≡ factor_in text
factor_with text whole decimals w d front back at is_whole is_decimals some =
    let p = number_parts (is_number 6 whole) w (digits_value 10 whole) is_whole in
    let q = number_parts (is_number 4 decimals) d (digits_value 10 decimals * 10 ^ (4 - length decimals)) is_decimals in
    let first : is_number 6 (whole_of text) ≡ true = ap (is_number 6) (sym front) ∙ p.0 in
    let second : is_number 4 (decimals_of text) ≡ true = ap (is_number 4) (sym back) ∙ q.0 in
    let factor : is_factor text ≡ true = rw (first, is_there is_point text at, second) refl in
    sym (some_unless_zero (w * 10000 + d) some)
    ∙ ap unless_zero (λ i. (p.1 ∙ ap (digits_value 10) front) i * 10000 + (q.1 ∙ ap (λ l. digits_value 10 l * 10 ^ (4 - length l)) back) i) ∙ rw factor refl

pub factor_without : (text : List ℕ) (w : ℕ) → position_or_len is_point text ≡ length text
    → Some w ≡ (if is_number 6 text then Some (digits_value 10 text) else None) → 0 < w * 10000 → Some (w * 10000) ≡ factor_in text
factor_without text w at is_whole some =
    let p = number_parts (is_number 6 text) w (digits_value 10 text) is_whole in
    let whole : whole_of text ≡ text = ap (λ n. take n text) at ∙ take_all (length text) text (omega arith) in
    let none : decimals_of text ≡ [] = nothing_behind is_point text at in
    let first : is_number 6 (whole_of text) ≡ true = ap (is_number 6) whole ∙ p.0 in
    let factor : is_factor text ≡ true = rw (first, not_there is_point text at) refl in
    let nothing : w * 10000 ≡ w * 10000 + 0 = omega arith in
    sym (some_unless_zero (w * 10000) some) ∙ ap unless_zero nothing
    ∙ ap unless_zero (λ i. (p.1 ∙ ap (digits_value 10) (sym whole)) i * 10000 + digits_value 10 (sym none i) * 10 ^ (4 - length (sym none i))) ∙ rw factor refl
