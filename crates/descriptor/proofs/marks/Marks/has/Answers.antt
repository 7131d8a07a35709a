-- The mark is a bit of its word, if it is below the bound.
use Rattle.std.proofs.Common.{◌≡◌, ◌<◌, ◌/◌, ◌%◌, ◌==◌, ℕ, false, length, get_or, sym, ap, ◌∙◌, arith}
use Rattle.std.specs.Int.{bit_at}
use Rattle.std.proofs.lemmas.List.{get_or_default, get_or_past}
use Rattle.descriptor.proofs.Bits.{mark_at, marks_long}
use Rattle.descriptor.proofs.marks.Marks.has.Goals as goal

pub returns-then-number-self : goal.returns-then-number-self
returns-then-number-self c =
    let long : length c.args.self.now ≡ c.self.inside.many = sym (ap (λ l. length l) c.self.view_is) ∙ marks_long c.self.inside.many c.self.inside.words.items in
    sym (get_or_past c.args.self.now c.args.number false (omega (arith, long, c.if-number-self.true)))

pub returns : goal.returns
returns c =
    let words = c.self.inside.words.items in
    let n = c.args.number in
    let low : n < c.self.inside.many = omega (arith, c.if-number-self.false) in
    let inside : n / 64 < length words = omega (arith, low, c.self.invariant) in
    let word : c.index.result.now ≡ get_or words (n / 64) 0 = c.index.ensures ∙ get_or_default words (n / 64) _ 0 inside in
    ap (λ z. bit_at z (n % 64) == 1) word ∙ sym (mark_at c.self.inside.many words n low) ∙ ap (λ l. get_or l n false) c.self.view_is
