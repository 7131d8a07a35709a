-- One chunk more is read: the line goes on, or ends with it, or it goes on behind the line's end.
use Rattle.std.proofs.Common.{◌≡◌, ◌∙◌, ◌-◌, ◌<◌, ℕ, List, ◌∷◌, ◌++◌, [], false, true, length, take, subst}
use Rattle.host_bodies.specs.Lines.{has_feed}
use Rattle.host_bodies.proofs.Chunks.{range_is, read_more, flat_more, is_line, is_early}
use Rattle.host_bodies.proofs.line.read_line.Goals as goal

pub loop-at-preserved : goal.loop-at-preserved
loop-at-preserved g c =
    let was = c.loop-at.invariant in
    let more = c.in_ok-count.ensures in
    let goes_on = subst (λ (l : List ℕ). has_feed l ≡ false) (range_is c.read_more.new.room c.loop-at.at c.in_ok-count.count) (c.tail_of.ensures.open c.in-Open.is) in
    record {
      same = more.same ∙ was.same;
      inside = more.fits.1;
      flat = flat_more _ _ _ c.loop-at.room c.read_more.new.room c.loop-at.at c.in_ok-count.count more.front was.read more.ok was.flat goes_on;
      read = read_more _ _ _ c.loop-at.room c.read_more.new.room c.loop-at.at c.in_ok-count.count more.front was.read more.ok;
    }

pub returns-in-Whole-clause-line : goal.returns-in-Whole-clause-line
returns-in-Whole-clause-line g c =
    let was = c.loop-at.invariant in
    let more = c.in_ok-count.ensures in
    let whole = subst (λ (l : List ℕ). (0 < length l) × (has_feed (take (length l - 1) l) ≡ false) × (l ≡ take (length l - 1) l ++ 10 ∷ [])) (range_is c.read_more.new.room c.loop-at.at c.in_ok-count.count) (c.tail_of.ensures.whole c.in-Whole.is) in
    is_line _ _ _ c.loop-at.room c.read_more.new.room c.loop-at.at c.in_ok-count.count more.front was.read more.ok was.flat more.fits.1 more.fits.0 whole.1 whole.2

pub returns-in-Early-clause-cut_off : goal.returns-in-Early-clause-cut_off
returns-in-Early-clause-cut_off g c =
    let was = c.loop-at.invariant in
    let more = c.in_ok-count.ensures in
    let early = subst (λ (l : List ℕ). (0 < length l) × (has_feed (take (length l - 1) l) ≡ true)) (range_is c.read_more.new.room c.loop-at.at c.in_ok-count.count) (c.tail_of.ensures.early c.in-Early.is) in
    is_early _ _ _ c.loop-at.room c.read_more.new.room c.loop-at.at c.in_ok-count.count more.front was.read more.ok was.flat more.fits.1 more.fits.0 _ early.1
