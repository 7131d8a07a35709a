-- What is sent of the rest stands behind what was sent before.
use Rattle.std.proofs.Common.{ℕ, ◌<◌, ◌≤◌, ◌+◌, ◌-◌, List, length, take, drop, arith, length-take}
use Rattle.run_results.proofs.Sending.{send_more}
use Rattle.live.proofs.live_feed.LiveFeed.finish.Goals as goal

less : (xs : List ℕ) (done n : ℕ) → done ≤ length xs → n < length (take (length xs - done) (drop done xs)) → done + n < length xs
less xs done n inside fits = (let most = length-take (length xs - done) (drop done xs) in omega arith)

pub returns-in-Err-clause-whole : goal.returns-in-Err-clause-whole
returns-in-Err-clause-whole g c first printed =
    let fits = c.in-Err.ensures in (
      less c.args.whole.now c.args.self.now.sent c.in-Err.fault.sent c.requires.fits fits.0,
      (send_more _ _ _ c.args.whole.now c.args.self.now.sent c.in-Err.fault.sent c.requires.fits (omega (arith, fits.0)) printed fits.1).1,
    )
