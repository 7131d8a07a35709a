-- The pulls of a factory: those that its line says, or one for each of its lines.
use Rattle.std.specs.Prelude.{ℕ, List, length, codes, Bool, false, if◌then◌else◌}
use Rattle.std.specs.Str.{bytes_eq}
use Rattle.descriptor.specs.Nodes.{Nodes, children_of}
use Rattle.suite_words.specs.declared.script.Script.{Script}
use Rattle.suite_words.specs.declared.suite.pulls.Pending.{Pending}
use Rattle.suite_words.specs.declared.suite.words.Word.{Word}
use Rattle.suite_words.specs.declared.suite.words.Word.TheVariants.{Engine, Class, Test, Factory, Dyn}

-- whether a token of a factory has the key `pulls`
abbrev pub is_pulls : Word → List ℕ → Bool
is_pulls Engine key = false
is_pulls Class key = false
is_pulls Test key = false
is_pulls Factory key = bytes_eq key (codes "pulls")
is_pulls Dyn key = false

-- the script with so many pulls
abbrev pub with_pulls : ℕ → Script → Script
with_pulls pulls script = record { body = script.body; spin = script.spin; slow = script.slow; reply = record { pulls = pulls; outcome = script.reply.outcome } }

-- a script, once all lines are in the tree; where its pulls are counted, there is one for each node right below its own
abbrev pub settled : Nodes → Pending → Script
settled t pending = if pending.counts then with_pulls (length (children_of t pending.script.body)) pending.script else pending.script
