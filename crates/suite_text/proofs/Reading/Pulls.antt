-- The scripts whose pulls follow from how many lines hang below a node.
use Rattle.std.proofs.Common.{◌≡◌, ℕ, Bool, true, false, if◌then◌else◌, List, [], ◌∷◌, ◌++◌, length, map, refl, ap, ◌∙◌}
use Rattle.std.proofs.lemmas.List.{map-append}
use Rattle.descriptor.specs.Nodes.{Nodes, children_of}
use Rattle.suite_words.specs.declared.script.Script.{Script}
use Rattle.suite_words.specs.declared.suite.pulls.Pending.{Pending}
use Rattle.suite_text.specs.Reading.Parts.{LinesRead, AreBodiesOf, bodies_answered, parts_of}
use Rattle.suite_text.specs.Inside.Paths.{IsSound, bodies_pending}
use Rattle.suite_words.specs.Reading.Pulls.{with_pulls, settled}

-- the body of a script stays where its pulls are counted
same_body : (t : Nodes) (script : Script) (counts : Bool) (pulls : ℕ) → (if counts then with_pulls pulls script else script).body ≡ script.body
same_body t script true pulls = refl
same_body t script false pulls = refl

settled_bodies : (t : Nodes) (scripts : List Pending) → bodies_answered (map (settled t) scripts) ≡ bodies_pending scripts
settled_bodies t [] = refl
settled_bodies t (p ∷ more) =
    ap (λ b. b ∷ bodies_answered (map (settled t) more)) (same_body t p.script p.counts (length (children_of t p.script.body)))
    ∙ ap (λ l. p.script.body ∷ l) (settled_bodies t more)

all_bodies : (t : Nodes) (scripts : List Pending) (afters : List Script) → bodies_answered (map (settled t) scripts ++ afters) ≡ bodies_pending scripts ++ bodies_answered afters
all_bodies t scripts afters = map-append (λ (s : Script). s.body) (map (settled t) scripts) afters ∙ ap (λ l. l ++ bodies_answered afters) (settled_bodies t scripts)

-- so each body and after-body has one script, in the order of the nodes, and then of the lines
pub all_answered : (read : LinesRead) → IsSound read → AreBodiesOf read.tree.nodes (bodies_answered (parts_of read).scripts)
all_answered read sound = record {
  afters = bodies_answered read.afters;
  order = all_bodies read.tree read.scripts read.afters ∙ ap (λ l. l ++ bodies_answered read.afters) sound.answered;
  each_after = sound.afters;
}
