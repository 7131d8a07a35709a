-- How the line of an after-body may be written, and what it means.
use Rattle.std.specs.Prelude.{◌≡◌, ℕ, ◌++◌, codes, List, Option, Some, None, option_map, option_to_list, true}
use Rattle.descriptor.specs.Bodies.{with_after, may_get_after_at}
use Rattle.descriptor.specs.Nodes.{Nodes}
use Rattle.plan_events.specs.declared.status.Status.{Status}
use Rattle.suite_words.specs.declared.script.Script.{Script}
use Rattle.suite_text.specs.declared.suite.builder.Opened.{Opened}
use Rattle.suite_words.specs.declared.suite.words.Word.TheVariants.{Class}
use Rattle.suite_words.specs.Reading.After.{after_body}
use Rattle.suite_text.specs.Reading.Parts.{Made}
use Rattle.suite_words.specs.Reading.Scripts.{ending}
use Rattle.suite_words.specs.Reading.Verdicts.{status_declared}
use Rattle.suite_text.specs.Writing.Lines.{indentation, Ending, IsEnding, ending_text}

-- a line of an after-body: its verdict, with its text, and so many spaces
pub record AfterLine : Type 0 where
  pub ending : Ending
  pub trailing : ℕ

-- its text on a level
abbrev pub after_text : ℕ → AfterLine → List ℕ
after_text level l = indentation level ++ (codes "after" ++ ending_text (Some l.ending) l.trailing)

-- the verdict may be written so, and is one that a body ends with
pub record IsAfterLine (l : AfterLine) : Type 0 where
  pub ending : IsEnding l.ending
  pub status : Status
  pub ends : status_declared (Some l.ending.verdict) ≡ Some status

-- the script of the after-body of node n
abbrev pub after_script : AfterLine → ℕ → Option Script
after_script l n = option_map (λ status. ending (after_body n) 0 None 0 status l.ending.text) (status_declared (Some l.ending.verdict))

-- with the after-body of node n, and its script
abbrev pub with_after_item : Made → ℕ → AfterLine → Made
with_after_item made n l = record {
  tree = with_after made.tree n (after_body n);
  scripts = made.scripts;
  afters = made.afters ++ option_to_list (after_script l n);
  properties = made.properties;
}

-- an open node takes such a line: it is a class, and has no after-body yet
abbrev pub TakesAfter : Nodes → Option Opened → Type 0
TakesAfter t None = ⊥
TakesAfter t (Some opened) = (opened.word ≡ Class) × (may_get_after_at t opened.node ≡ true)
