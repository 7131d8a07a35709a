-- The line `after`: the after-body of the class that the line stands in.
use Rattle.std.specs.Prelude.{ℕ, ◌&&◌, List, [], ◌∷◌, ◌++◌, Bool, true, false, if◌then◌else◌, Option, Some, None, Result, Ok, Err}
use Rattle.std.specs.Option.{is_none}
use Rattle.descriptor.specs.Bodies.{with_after}
use Rattle.descriptor.specs.Nodes.{Nodes, after_of}
use Rattle.descriptor.specs.Refusals.{after_refusal}
use Rattle.plan_events.specs.declared.status.Status.{Status}
use Rattle.suite_text.specs.declared.suite.builder.Opened.{Opened}
use Rattle.suite_words.specs.declared.suite.fault.SuiteFault.{SuiteFault}
use Rattle.suite_words.specs.declared.suite.fault.SuiteFault.TheVariants.{BadLine}
use Rattle.suite_words.specs.declared.suite.words.Word.{Word}
use Rattle.suite_words.specs.declared.suite.words.Word.TheVariants.{Class}
use Rattle.unique_id.specs.Answers.{◌>>=◌}
use Rattle.suite_text.specs.Reading.Nodes.{unless_refused}
use Rattle.suite_text.specs.Reading.Parts.{LinesRead, above}
use Rattle.suite_words.specs.Reading.Scripts.{ending}
use Rattle.suite_words.specs.Reading.After.{after_said, after_body}

-- whether a keyword is that of a class
abbrev pub is_class : Word → Bool
is_class Class = true
is_class word = false

-- the class that such a line belongs to: the node that a node's line would hang below there, which is a class and has no after-body yet
abbrev pub class_of : ℕ → Nodes → Option Opened → Result ℕ SuiteFault
class_of number t None = Err (BadLine number)
class_of number t (Some opened) = if is_class opened.word && is_none (after_of t opened.node) then Ok opened.node else Err (BadLine number)

-- with the after-body of node n, which ends so
abbrev pub with_after_body : LinesRead → ℕ → Status × List ℕ → LinesRead
with_after_body read n said = record {
  limit = read.limit;
  tree = with_after read.tree n (after_body n);
  path = read.path;
  scripts = read.scripts;
  afters = read.afters ++ ending (after_body n) 0 None 0 said.0 said.1 ∷ [];
  properties = read.properties;
}

-- what was read with the after-body of node n, unless the tree refuses that
abbrev pub given_after_body : ℕ → LinesRead → ℕ → Status × List ℕ → Result LinesRead SuiteFault
given_after_body number read n said = unless_refused number (after_refusal read.tree n (after_body n)) (with_after_body read n said)

-- with what follows the keyword `after` on a line of this level: the class is judged first, then the verdict
abbrev pub with_after_line : ℕ → LinesRead → ℕ → List ℕ → Result LinesRead SuiteFault
with_after_line number read level rest =
    class_of number read.tree (above read.path level) >>= (λ n. after_said number rest >>= (λ said. given_after_body number read n said))
