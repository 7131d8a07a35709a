use Rattle.std.proofs.Common.{◌∙◌, ap, Some, None, subst, ◌<◌, lit<, arith}
use Rattle.std.proofs.lemmas.Str.Pattern.{split_once_first}
use Rattle.config_params.proofs.Digits.{factor_with, factor_without}
use Rattle.config_params.proofs.numbers.factor_in.Goals as goal
use Rattle.config_params.proofs.numbers.factor_in.Goals.{in-Some+in_ok-whole-in-Some+in_ok-ten_thousandths-in-Some, in-None+in_ok-factor-in-None}

pub returns-then-factor-gt0 : goal.returns-then-factor-gt0
returns-then-factor-gt0 c =
    let some : 0 < c.match-split_once.factor = omega arith in
    elim c.match-split_once.branch [
      | in-Some+in_ok-whole-in-Some+in_ok-ten_thousandths-in-Some w ↦
          let cut = split_once_first 46 c.args.text.now (Some (w.in-Some.whole, w.in-Some.decimals)) w.in-Some.ensures.cases (lit< tt) in
          ap Some w.factor-is
          ∙ factor_with c.args.text.now w.in-Some.whole.now w.in-Some.decimals.now w.in_ok-whole-in-Some.whole w.in_ok-ten_thousandths-in-Some.field-0 cut.1 cut.2 cut.0
          w.in_ok-whole-in-Some.ensures.value w.in_ok-ten_thousandths-in-Some.ensures.value (subst (λ n. 0 < n) w.factor-is some)
      | in-None+in_ok-factor-in-None w ↦
          ap Some w.factor-is
          ∙ factor_without c.args.text.now w.in_ok-factor-in-None.field-0 (split_once_first 46 c.args.text.now None w.in-None.ensures.cases (lit< tt)) w.in_ok-factor-in-None.ensures.value
          (subst (λ n. 0 < n) w.factor-is some)
    ]
