-- The first line that says something is judged as the first of all.
use Rattle.std.proofs.Common.{rules, ◌≡◌, ◌∙◌, ◌+◌, length, ap, sym, subst, refl, arith, true, false}
use Rattle.std.specs.Str.Iter.{lines_rest}
use Rattle.std.specs.Str.Lines.{lines}
use Rattle.config_params.proofs.Lines.{all_left, one_given, none_left, one_fewer, lines_few}
use Rattle.suite_text.specs.Reading.Judged.{MayRunOut}
use Rattle.suite_words.specs.Reading.Lines.{says_nothing}
use Rattle.suite_text.specs.Reading.Parts.{no_lines}
use Rattle.suite_text.specs.Suites.{suite_from}
use Rattle.suite_text.proofs.Reading.Judged.{skipped, skipped_out, first_judged}
use Rattle.suite_text.proofs.suite.first_line.judge_first.Goals as goal

pub loop-line-init : goal.loop-line-init
loop-line-init c = (tt, tt, (lines c.args.text.now, all_left _ c.args.text.now (ap lines_rest c.into_iter-line-iterator.ensures.into_iter_gives ∙ c.lines-line-items.ensures.rest), (λ limit. refl), (λ limit h. h), refl))

pub loop-line-preserved : goal.loop-line-preserved
loop-line-preserved c =
    let i = c.loop-line.invariant.2 in
    let g = one_given c.loop-line.line-iterator c.next.new.self c.in-Some.line i.0 i.1 c.in-Some.ensures.steps in
    let left : length i.0 ≡ 1 + length g.0 = one_fewer c.in-Some.line.now i.0 g.0 g.1 in
    let count : c.loop-line.number + length i.0 ≡ 1 + length (lines c.args.text.now) = i.4 in
    let says : says_nothing c.in-Some.line.now ≡ true = search rules in (
      tt,
      tt,
      (
        g.0,
        g.2,
        (λ limit. skipped limit c.loop-line.number c.in-Some.line.now g.0 _ says (ap (suite_from c.loop-line.number (no_lines limit)) (sym g.1) ∙ i.2 limit)),
        (λ limit out. i.3 limit (subst (MayRunOut c.loop-line.number (no_lines limit)) (sym g.1) (skipped_out limit c.loop-line.number c.in-Some.line.now g.0 says out))),
        omega (arith, left, count),
      ),
    )

pub returns-then-not-says_nothing-clause-refused : goal.returns-then-not-says_nothing-clause-refused
returns-then-not-says_nothing-clause-refused c =
    let i = c.loop-line.invariant.2 in
    let g = one_given c.loop-line.line-iterator c.next.new.self c.in-Some.line i.0 i.1 c.in-Some.ensures.steps in
    let says : says_nothing c.in-Some.line.now ≡ false = search rules in
    (first_judged c.loop-line.number c.in-Some.line.now g.0 (lines c.args.text.now) c.judge_words.result c.judge_words.ensures says (λ limit. ap (suite_from c.loop-line.number (no_lines limit)) (sym g.1) ∙ i.2 limit)
    (λ limit out. i.3 limit (subst (MayRunOut c.loop-line.number (no_lines limit)) (sym g.1) out))).refused

pub returns-then-not-says_nothing-clause-real : goal.returns-then-not-says_nothing-clause-real
returns-then-not-says_nothing-clause-real c =
    let i = c.loop-line.invariant.2 in
    let g = one_given c.loop-line.line-iterator c.next.new.self c.in-Some.line i.0 i.1 c.in-Some.ensures.steps in
    let says : says_nothing c.in-Some.line.now ≡ false = search rules in
    (first_judged c.loop-line.number c.in-Some.line.now g.0 (lines c.args.text.now) c.judge_words.result c.judge_words.ensures says (λ limit. ap (suite_from c.loop-line.number (no_lines limit)) (sym g.1) ∙ i.2 limit)
    (λ limit out. i.3 limit (subst (MayRunOut c.loop-line.number (no_lines limit)) (sym g.1) out))).real

pub returns-then-not-says_nothing-clause-judged : goal.returns-then-not-says_nothing-clause-judged
returns-then-not-says_nothing-clause-judged c =
    let i = c.loop-line.invariant.2 in
    let g = one_given c.loop-line.line-iterator c.next.new.self c.in-Some.line i.0 i.1 c.in-Some.ensures.steps in
    let says : says_nothing c.in-Some.line.now ≡ false = search rules in
    (first_judged c.loop-line.number c.in-Some.line.now g.0 (lines c.args.text.now) c.judge_words.result c.judge_words.ensures says (λ limit. ap (suite_from c.loop-line.number (no_lines limit)) (sym g.1) ∙ i.2 limit)
    (λ limit out. i.3 limit (subst (MayRunOut c.loop-line.number (no_lines limit)) (sym g.1) out))).judged

pub overflow_add-number : goal.overflow_add-number
overflow_add-number c =
    let i = c.loop-line.invariant.2 in
    let g = one_given c.loop-line.line-iterator c.next.new.self c.in-Some.line i.0 i.1 c.in-Some.ensures.steps in
    let few = lines_few c.args.text.now in
    let left : length i.0 ≡ 1 + length g.0 = one_fewer c.in-Some.line.now i.0 g.0 g.1 in
    let count : c.loop-line.number + length i.0 ≡ 1 + length (lines c.args.text.now) = i.4 in
    omega (arith, few, left, count)

pub returns-clause-judged : goal.returns-clause-judged
returns-clause-judged c =
    let i = c.loop-line.invariant.2 in
    λ limit. i.3 limit (subst (MayRunOut c.loop-line.number (no_lines limit)) (sym (none_left c.loop-line.line-iterator c.next.new.self i.0 i.1 c.in-None.ensures.steps)) tt)
