-- One byte of both, and where they part.
use Rattle.std.proofs.Common.{◌≡◌, ◌+◌, [], length, refl, ◌∙◌, arith}
use Rattle.std.proofs.lemmas.Grind.{common_steps}
use Rattle.selectors.specs.NameEnds.{left_of, IsInName}
use Rattle.selectors.proofs.Reading.{at_star, differs, empty_by, one_more, read_all, runs_out}
use Rattle.selectors.proofs.pattern.to_star.Goals as goal

pub loop-byte-init : goal.loop-byte-init
loop-byte-init c = (c.requires.named, ([], tt, refl, refl))

pub returns-then-byte-eq42 : goal.returns-then-byte-eq42
returns-then-byte-eq42 c = (
  c.loop-byte.invariant.0,
  at_star c.args.tree.now c.args.pattern.now c.args.name c.loop-byte.pattern.now c.loop-byte.name c.loop-byte.invariant.1 c.in-Some.more.now c.in-Some.byte.now c.in-Some.ensures.cases.0 c.if-byte-eq42.true,
)

pub last_byte-requires-clause-named : goal.last_byte-requires-clause-named
last_byte-requires-clause-named c = c.loop-byte.invariant.0

pub returns-then-other-byte : goal.returns-then-other-byte
returns-then-other-byte c =
    differs c.args.tree.now c.args.pattern.now c.args.name c.loop-byte.pattern.now c.loop-byte.name c.loop-byte.invariant.1 c.in-Some.more.now c.in-Some.byte.now c.in-Some.ensures.cases.0
    c.if-byte-eq42.false c.in-Some-last_byte.other c.in-Some-last_byte.rest c.in-Some-last_byte.ensures.1 c.if-other-byte.true

pub loop-byte-smaller : goal.loop-byte-smaller
loop-byte-smaller c = let shorter : length c.in-Some.more.now + 1 ≡ length c.loop-byte.pattern.now = c.in-Some.ensures.cases.1 in omega arith

pub loop-byte-preserved : goal.loop-byte-preserved
loop-byte-preserved c = (
  c.in-Some-last_byte.ensures.0,
  one_more c.args.tree.now c.args.pattern.now c.args.name c.loop-byte.pattern.now c.loop-byte.name c.loop-byte.invariant.1 c.in-Some.more.now c.in-Some.byte.now c.in-Some.ensures.cases.0
      c.if-byte-eq42.false c.in-Some-last_byte.rest (let same : c.in-Some-last_byte.other ≡ c.in-Some.byte.now = grind (arith, common_steps) in rw same at c.in-Some-last_byte.ensures.1),
)

pub returns-in-None : goal.returns-in-None
returns-in-None c =
    runs_out c.args.tree.now c.args.pattern.now c.args.name c.loop-byte.pattern.now c.loop-byte.name c.loop-byte.invariant.1 c.in-Some.more.now c.in-Some.byte.now c.in-Some.ensures.cases.0
    c.if-byte-eq42.false c.in-None.ensures

pub last_byte-requires-2-clause-named : goal.last_byte-requires-2-clause-named
last_byte-requires-2-clause-named c = c.loop-byte.invariant.0

pub returns : goal.returns
returns c =
    let none : c.loop-byte.pattern.now ≡ [] = grind (arith, common_steps) in
    empty_by (λ n. IsInName c.args.tree.now n.number) c.last_byte-2.result (left_of c.args.tree.now c.loop-byte.name) (left_of c.args.tree.now) c.is_none.result c.last_byte-2.ensures c.is_none.ensures
    ∙ read_all c.args.tree.now c.args.pattern.now c.args.name c.loop-byte.pattern.now c.loop-byte.name c.loop-byte.invariant.1 none
