-- The words before the text of a node that the case is below.
use Rattle.std.proofs.Common.{◌≡◌, ◌++◌, OnOk, List, ℕ, codes, string_bytes, subst}
use Rattle.junit_report.specs.Junit.{reason_element}
use Rattle.junit_report.proofs.junit_case.push_end.Goals as goal

pub returns-in-Aborted : goal.returns-in-Aborted
returns-in-Aborted c =
    rw c.in-Aborted.is (subst (λ (words : List ℕ). OnOk c.push_reason-in-Aborted.result (string_bytes c.push_reason-in-Aborted.new.xml ≡ string_bytes c.args.xml.now ++ reason_element (codes "skipped") words c.args.text.now (codes "ABORTED")))
    c.words_above-words.ensures c.push_reason-in-Aborted.ensures)

pub returns-in-Skipped : goal.returns-in-Skipped
returns-in-Skipped c =
    rw c.in-Skipped.is (subst (λ (words : List ℕ). OnOk c.push_reason-in-Skipped.result (string_bytes c.push_reason-in-Skipped.new.xml ≡ string_bytes c.args.xml.now ++ reason_element (codes "skipped") words c.args.text.now (codes "SKIPPED")))
    c.words_above-words-in-Skipped.ensures c.push_reason-in-Skipped.ensures)

pub returns-in-NotRun : goal.returns-in-NotRun
returns-in-NotRun c = rw c.in-NotRun.is c.push_reason-in-NotRun.ensures
