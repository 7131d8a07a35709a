-- One more character is bad, or is passed.
use Rattle.std.proofs.Common.{◌≡◌, ◌∙◌, ◌+◌, length, true, false, sym, ap, arith, encode_utf8, length-append}
use Rattle.std.specs.Str.{chars}
use Rattle.std.specs.Str.Iter.{chars_rest}
use Rattle.std.proofs.lemmas.Str.{IsUtf8-past_char}
use Rattle.tag_expr.specs.Tags.{is_bad, first_bad}
use Rattle.tag_expr.proofs.FirstBad.{first_bad_found, first_bad_next, first_bad_end}
use Rattle.tag_expr.proofs.characters.first_bad.Goals as goal

pub returns-then-is_bad : goal.returns-then-is_bad
returns-then-is_bad c =
    let bad : is_bad c.in-Some.c ≡ true = sym c.is_bad.ensures ∙ c.if-is_bad.true in
    sym (c.loop-c.invariant.0 ∙ first_bad_found _ _ c.in-Some.c c.loop-c.place c.loop-c.invariant.1 c.in-Some.ensures.steps.0 bad)

pub loop-c-preserved : goal.loop-c-preserved
loop-c-preserved c =
    let good : is_bad c.in-Some.c ≡ false = sym c.is_bad.ensures ∙ c.if-is_bad.false in
    let next = first_bad_next _ _ c.in-Some.c c.loop-c.place c.loop-c.invariant.1 c.in-Some.ensures.steps.0 good in
    let long : length (chars_rest c.loop-c.left) ≡ length (encode_utf8 c.in-Some.c) + length (chars_rest c.next.new.self) = ap length c.in-Some.ensures.steps.0 ∙ length-append (encode_utf8 c.in-Some.c) (chars_rest c.next.new.self) in (
      c.loop-c.invariant.0 ∙ next ∙ ap (λ n. first_bad (c.loop-c.place + n) (chars (chars_rest c.next.new.self))) (sym c.len_utf8-place.ensures.value),
      IsUtf8-past_char _ _ c.in-Some.c c.loop-c.invariant.1 c.in-Some.ensures.steps.0,
      omega (arith, long, c.loop-c.invariant.2, c.len_utf8-place.ensures.len),
    )

pub returns : goal.returns
returns c = sym (c.loop-c.invariant.0 ∙ first_bad_end _ c.loop-c.place c.in_default.ensures.steps.0.0)
