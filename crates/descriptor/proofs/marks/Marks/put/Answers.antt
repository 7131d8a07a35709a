-- One more bit is set, if it is below the bound.
use Rattle.std.proofs.Common.{◌≡◌, ◌<◌, ◌*◌, ◌^◌, ◌/◌, ◌%◌, ℕ, true, set, length, get_or, bit_or, sym, ap, ◌∙◌, arith}
use Rattle.std.proofs.lemmas.List.{get_or_default, set_past}
use Rattle.descriptor.specs.Inside.Marks.{marks_in}
use Rattle.descriptor.proofs.Bits.{marks_long, one_more}
use Rattle.descriptor.proofs.marks.Marks.put.Goals as goal

pub returns-then-number-self : goal.returns-then-number-self
returns-then-number-self c =
    let long : length c.args.self.now ≡ c.self.inside.many = sym (ap (λ l. length l) c.self.view_is) ∙ marks_long c.self.inside.many c.self.inside.words.items in
    sym (set_past c.args.self.now c.args.number true (omega (arith, long, c.if-number-self.true)))

pub returns : goal.returns
returns c =
    let words = c.self.inside.words.items in
    let n = c.args.number in
    let many = c.self.inside.many in
    let low : n < many = omega (arith, c.if-number-self.false) in
    let inside : n / 64 < length words = omega (arith, low, c.self.invariant) in
    let word : c.index_mut.result.now ≡ get_or words (n / 64) 0 = c.index_mut.ensures.value ∙ get_or_default words (n / 64) _ 0 inside in
    ap (λ (x : ℕ). marks_in many (set words (n / 64) (bit_or x (1 * 2 ^ (n % 64) % 18446744073709551616)))) word
    ∙ one_more many words n c.self.invariant low ∙ ap (λ l. set l n true) c.self.view_is
