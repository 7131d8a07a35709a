-- The object, and its end with that of the line.
use Rattle.std.proofs.Common.{◌++◌, List, ℕ, codes, ap, sym, append-nil, string_bytes}
use Rattle.std.proofs.lemmas.Result.{on_ok_weaker}
use Rattle.json.specs.Json.{string, no_members}
use Rattle.json.specs.Print.{quoted}
use Rattle.reports.specs.Json.{text_member}
use Rattle.reports.proofs.Growing.{then}
use Rattle.reports.proofs.JsonEvents.{note_reads}
use Rattle.reports.proofs.JsonWritten.{line_written}
use Rattle.reports.proofs.Pushing.{if_ok, pushed}
use Rattle.reports.proofs.json_lines.push_note.Goals as goal

pub returns-clause-text : goal.returns-clause-text
returns-clause-text c =
    let old = string_bytes c.args.json.now in
    let opened = string_bytes c.push_str.new.self in
    let what = quoted (codes "event") ++ (codes ":" ++ quoted c.args.what.now) in
    let named = quoted c.args.name.now ++ (codes ":" ++ quoted c.args.text.now) in
    let members = then opened what (codes "," ++ named) c.in_ok-push_member.ensures c.in_ok-push_further.ensures in
    on_ok_weaker c.push_str-2.result
    (λ last. line_written old (codes "event") (string c.args.what.now) (text_member c.args.name.now c.args.text.now no_members) (ap (λ (l : List ℕ). what ++ (codes "," ++ l)) (sym (append-nil named)))
    (then old (codes "{") ((what ++ (codes "," ++ named)) ++ codes "}\n") c.in_ok-push_str.ensures.bytes (then opened (what ++ (codes "," ++ named)) (codes "}\n") members last)))
    (pushed c.push_str-2.result (string_bytes c.push_str-2.new.self) (string_bytes c.push_further.new.json) (codes "}\n") c.push_str-2.ensures.bytes)

pub returns-clause-reads_back : goal.returns-clause-reads_back
returns-clause-reads_back c = if_ok c.push_str-2.result (note_reads c.args.what.now c.args.name.now c.args.text.now)
