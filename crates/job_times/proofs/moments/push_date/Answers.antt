-- One piece behind the other.
use Rattle.std.proofs.Common.{◌∙◌, ◌++◌, ◌^◌, ◌<◌, ℕ, ℤ, unsigned_abs, ap, arith, w16, string_bytes}
use Rattle.std.proofs.lemmas.Result.{on_ok_weaker}
use Rattle.jiff_core.proofs.SignedLemmas.{back_small, one_part, signed_arith}
use Rattle.job_times.specs.MomentTexts.{two_digits, four_digits}
use Rattle.job_times.proofs.Growing.{then}
use Rattle.job_times.proofs.moments.push_date.Goals as goal

pub returns : goal.returns
returns c =
    let old = string_bytes c.args.text.now in
    let begun = string_bytes c.push_year.new.text in
    let parted = string_bytes c.push_str.new.self in
    let grown = string_bytes c.push_two.new.text in
    let last = string_bytes c.push_str-2.new.self in
    let small : unsigned_abs c.args.date.year < 2 ^ 15 = omega (arith, signed_arith, one_part c.args.date.year) in
    let year = c.in_ok-push_year.ensures ∙ ap (λ (n : ℕ). old ++ four_digits n) c.unsigned_abs.ensures.value ∙ ap (λ (z : ℤ). old ++ four_digits (unsigned_abs z)) (back_small w16 c.args.date.year small) in
    let month = c.in_ok-push_two.ensures ∙ ap (λ (n : ℕ). parted ++ two_digits n) c.from.ensures in
    on_ok_weaker c.push_two-2.result
    (λ day. then old _ _ year (then begun _ _ c.in_ok-push_str.ensures.bytes (then parted _ _ month (then grown _ _ c.in_ok-push_str-2.ensures.bytes (day ∙ ap (λ (n : ℕ). last ++ two_digits n) c.from-2.ensures)))))
    c.push_two-2.ensures
