use Rattle.std.proofs.Common.{◌≡◌, ◌∙◌, ◌<◌, ◌≤◌, length, true, ap, sym, arith, Some}
use Rattle.std.specs.Char.{is_ascii_digit}
use Rattle.std.specs.List.{list_all}
use Rattle.std.specs.Result.{result_ok}
use Rattle.std.specs.Str.Parse.{digits_value}
use Rattle.config_params.proofs.Digits.{digits_read, is_read, short}
use Rattle.config_params.proofs.numbers.number_in.Goals as goal

-- the bytes are digits, few enough, and so std reads them
read : (c : goal.After-ok) → (list_all is_ascii_digit c.args.text.now ≡ true) × (0 < length c.args.text.now) × (length c.args.text.now ≤ c.args.most) × (c.ok.result ≡ Some (digits_value 10 c.args.text.now))
read c =
    let bytes = c.as_bytes-digits.ensures.value in
    let digits : list_all is_ascii_digit c.args.text.now ≡ true = grind arith in
    let some : 0 < length c.args.text.now = grind arith in
    let few : length c.args.text.now ≤ c.args.most = grind arith in
    (digits, some, few, c.ok.ensures.value ∙ ap result_ok (digits_read c.args.text.now c.parse.result c.parse.ensures.value.0 digits some (omega (arith, c.requires))))

pub returns-clause-value : goal.returns-clause-value
returns-clause-value c =
    let p = read c in
    p.3 ∙ sym (is_read c.args.most c.args.text.now p.0 p.1 p.2)

pub returns-clause-small : goal.returns-clause-small
returns-clause-small c =
    let p = read c in
    rw p.3 (short c.args.text.now c.args.most p.0 p.2)
