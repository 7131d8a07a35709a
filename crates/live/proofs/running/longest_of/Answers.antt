-- One test more: it runs longest, or the one that did so far.
use Rattle.std.proofs.Common.{◌≡◌, ◌∙◌, ◌+◌, ◌++◌, ◌∷◌, [], List, ap, get_or, subst, sym, take}
use Rattle.std.proofs.lemmas.List.{take_more}
use Rattle.live.specs.RunningTests.{IsLongest}
use Rattle.live.specs.declared.running.RunningTest.{RunningTest}
use Rattle.live.proofs.RunningTests.{alone, last_longest, still_longest}
use Rattle.live.proofs.running.longest_of.Goals as goal
use Rattle.live.proofs.running.longest_of.Goals.{then-began_before, else-began_before}

pub loop-test-init : goal.loop-test-init
loop-test-init c = alone c.args.first.now

pub loop-test-preserved : goal.loop-test-preserved
loop-test-preserved c =
    let others = c.args.others.now in
    let i = c.loop-test.test-index in
    let u = c.test-item.result in
    let so_far = c.args.first.now ∷ take i others in
    let more : c.args.first.now ∷ take (i + 1) others ≡ so_far ++ u ∷ [] =
    ap (λ (ts : List RunningTest). c.args.first.now ∷ ts) (take_more others i u c.loop-test-test.true ∙ ap (λ (t : RunningTest). take i others ++ t ∷ []) (sym c.test-item.is)) in
    elim c.if-began_before.branch [
      | then-began_before w ↦
          subst (λ l. IsLongest (c.args.first.now ∷ take (i + 1) others) l.now) (sym w.longest-is)
          (subst (λ ts. IsLongest ts u) (sym more) (last_longest so_far c.loop-test.longest.now u c.loop-test.invariant (c.began_before.ensures.before w.if-began_before.true)))
      | else-began_before w ↦
          subst (λ l. IsLongest (c.args.first.now ∷ take (i + 1) others) l.now) (sym w.longest-is)
          (subst (λ ts. IsLongest ts c.loop-test.longest.now) (sym more) (still_longest so_far c.loop-test.longest.now u c.loop-test.invariant (c.began_before.ensures.no_earlier w.if-began_before.false)))
    ]
