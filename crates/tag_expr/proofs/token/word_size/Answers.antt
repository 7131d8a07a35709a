-- One more character belongs to the word, or ends it.
use Rattle.std.proofs.Common.{◌≡◌, ◌∙◌, ◌+◌, length, true, false, ap, arith, encode_utf8, length-append}
use Rattle.std.specs.Str.Iter.{chars_rest}
use Rattle.std.proofs.lemmas.Grind.{common_steps}
use Rattle.std.proofs.lemmas.Str.{IsUtf8-past_char}
use Rattle.tag_expr.specs.Tokens.{is_word_character}
use Rattle.tag_expr.proofs.WordSizes.{word_size_next, word_size_stop, word_size_end}
use Rattle.tag_expr.proofs.token.word_size.Goals as goal

pub returns-then-not-is_word_character : goal.returns-then-not-is_word_character
returns-then-not-is_word_character c =
    let stop : is_word_character c.in-Some.c ≡ false = grind (arith, common_steps) in
    let none = word_size_stop _ _ c.in-Some.c c.loop-c.invariant.1 c.in-Some.ensures.steps.0 stop in
    omega (arith, none, c.loop-c.invariant.0)

pub loop-c-preserved : goal.loop-c-preserved
loop-c-preserved c =
    let yes : is_word_character c.in-Some.c ≡ true = grind (arith, common_steps) in
    let next = word_size_next _ _ c.in-Some.c c.loop-c.invariant.1 c.in-Some.ensures.steps.0 yes in
    let long : length (chars_rest c.loop-c.left) ≡ length (encode_utf8 c.in-Some.c) + length (chars_rest c.next.new.self) = ap length c.in-Some.ensures.steps.0 ∙ length-append (encode_utf8 c.in-Some.c) (chars_rest c.next.new.self) in (
      omega (arith, next, c.loop-c.invariant.0, c.len_utf8-size.ensures.value),
      IsUtf8-past_char _ _ c.in-Some.c c.loop-c.invariant.1 c.in-Some.ensures.steps.0,
      omega (arith, long, c.loop-c.invariant.2, c.len_utf8-size.ensures.len),
    )

pub returns : goal.returns
returns c = let none = word_size_end _ c.in_default.ensures.steps.0.0 in omega (arith, none, c.loop-c.invariant.0)
