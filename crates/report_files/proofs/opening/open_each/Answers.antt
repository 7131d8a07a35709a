-- The next report is opened, or none is any more.
use Rattle.std.proofs.Common.{◌∙◌, ◌+◌, ◌≤◌, ℕ, arith, sym, ap, map, length, subst, take}
use Rattle.launch_options.specs.ReportTexts.{parts_of}
use Rattle.report_files.specs.Deeds.{Does}
use Rattle.report_files.specs.FiledReports.{AreOpened, openings}
use Rattle.report_files.proofs.Filing.{does_nothing, opened_at, opened_none_at}
use Rattle.report_files.proofs.opening.open_each.Goals as goal

pub loop-index-init : goal.loop-index-init
loop-index-init g c = record {
  len = c.args.reports.now.ok.0 ∙ ap length c.requires.none;
  room = c.requires.room;
  many = ap length c.requires.none;
  opened = subst (λ l. AreOpened g.K.File.Write.contents l (map parts_of c.args.wanted.now)) (sym c.requires.none) tt;
  did = does_nothing (g.K.ReportFiles.deeds c.args.files.now);
}

pub open_next-requires : goal.open_next-requires
open_next-requires g c = omega (arith, c.loop-index.invariant.len, c.loop-index.invariant.room, c.loop-index-test.true)

pub loop-index-preserved : goal.loop-index-preserved
loop-index-preserved g c =
    let deeds = g.K.ReportFiles.deeds in
    let so = c.loop-index.invariant in
    let more =
    opened_at g.K.File.Write.contents c.args.wanted.now (deeds c.args.files.now) c.loop-index.reports.items c.open_next.new.reports.items (deeds c.loop-index.files) (deeds c.open_next.new.files) c.loop-index.index _ so.many so.opened so.did c.open_next.result c.if-not-open_next.false c.open_next.ensures.opened
    c.loop-index-test.true in
    record {
      len = c.open_next.ensures.count c.if-not-open_next.false ∙ ap (λ (n : ℕ). n + 1) so.len;
      room = subst (λ (n : ℕ). length c.args.wanted.now ≤ n) (sym c.open_next.ensures.capacity) so.room;
      many = more.0;
      opened = more.1;
      did = more.2;
    }

pub returns-then-not-open_next-clause-did : goal.returns-then-not-open_next-clause-did
returns-then-not-open_next-clause-did g c =
    let deeds = g.K.ReportFiles.deeds in
    let so = c.loop-index.invariant in
    (opened_none_at g.K.File.Write.contents c.args.wanted.now (deeds c.args.files.now) c.loop-index.reports.items c.open_next.new.reports.items (deeds c.loop-index.files) (deeds c.open_next.new.files) c.loop-index.index _ so.many so.opened so.did c.open_next.result c.if-not-open_next.true c.open_next.ensures.opened).2

pub returns-clause-did : goal.returns-clause-did
returns-clause-did g c =
    let deeds = g.K.ReportFiles.deeds in
    subst (λ (n : ℕ). Does (deeds c.args.files.now) (deeds c.loop-index.files) (openings (take n (map parts_of c.args.wanted.now)))) (sym c.loop-index.invariant.many) c.loop-index.invariant.did
