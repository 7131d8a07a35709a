-- The node that was made does for the one that the line declares: it is refused as that one is, and else is that one.
use Rattle.std.proofs.Common.{◌≡◌, ◌++◌, ◌∷◌, [], Option, take, refl, subst, sym, ap, ap₂, ◌∙◌, option_to_list}
use Rattle.std.proofs.lemmas.Result.{err_from_is_err_and}
use Rattle.descriptor.specs.Nodes.{size}
use Rattle.suite_words.specs.declared.suite.pulls.Pending.{Pending}
use Rattle.suite_words.specs.declared.suite.words.Word.{Word}
use Rattle.suite_text.specs.Inside.Paths.{IsSound}
use Rattle.suite_words.specs.Reading.Nodes.{script_declared}
use Rattle.suite_text.specs.Reading.Parts.{LinesRead, node_of_opened}
use Rattle.suite_words.specs.Reading.Words.{declaration_of}
use Rattle.suite_text.proofs.Reading.FewLocks.{refused_on, grown_is}
use Rattle.suite_text.proofs.Reading.Outcomes.{grown_sound}
use Rattle.suite_text.proofs.suite.builder.SuiteBuilder.add.Goals as goal

pub returns-in_err-grow-clause-refused : goal.returns-in_err-grow-clause-refused
returns-in_err-grow-clause-refused c =
    let is = refused_on c.args.self.now _ c.args.level (declaration_of c.args.declared) c.node_or_plan-parent.result c.in_ok-made.made.node c.self.view_is
    (c.node_or_plan-parent.ensures ∙ ap node_of_opened c.above.ensures.above) c.in_ok-made.ensures.node c.in_ok-made.ensures.accepted in
    let p = err_from_is_err_and c.from_residual-in_err-grow.result c.from_residual-in_err-grow.ensures.1 in
    rw (p.1, p.2) (λ other. is ∙ c.in_err-grow.ensures.refused other)

pub returns-clause-accepted : goal.returns-clause-accepted
returns-clause-accepted c =
    refused_on c.args.self.now _ c.args.level (declaration_of c.args.declared) c.node_or_plan-parent.result c.in_ok-made.made.node c.self.view_is
    (c.node_or_plan-parent.ensures ∙ ap node_of_opened c.above.ensures.above) c.in_ok-made.ensures.node c.in_ok-made.ensures.accepted ∙ c.in_ok-grow.ensures.accepted

pub returns-clause-added : goal.returns-clause-added
returns-clause-added c =
    let read = c.args.self.now in
    let level = c.args.level in
    let path : c.grow.new.path.items ≡ take level read.path ++ record { node = size read.tree; word = c.args.declared.word } ∷ [] =
    c.in_ok-grow.ensures.path ∙ ap₂ (λ (r : LinesRead) (w : Word). take level r.path ++ record { node = size r.tree; word = w } ∷ []) c.self.view_is c.in_ok-made.ensures.word in
    let scripts : c.grow.new.scripts.items ≡ read.scripts ++ option_to_list (script_declared (declaration_of c.args.declared) (size read.tree)) =
    c.in_ok-grow.ensures.scripts ∙ ap₂ (λ (r : LinesRead) (s : Option Pending). r.scripts ++ option_to_list s) c.self.view_is c.in_ok-made.ensures.script in
    grown_is read _ level (declaration_of c.args.declared) c.node_or_plan-parent.result c.in_ok-made.made.node c.self.view_is
    (c.node_or_plan-parent.ensures ∙ ap node_of_opened c.above.ensures.above) c.in_ok-made.ensures.node _ refl c.in_ok-grow.ensures.accepted c.in_ok-grow.ensures.tree path scripts refl refl

pub invariant_of-self-2 : goal.invariant_of-self-2
invariant_of-self-2 c =
    subst IsSound (sym (returns-clause-added c))
    (grown_sound c.args.self.now c.args.level (declaration_of c.args.declared) (subst IsSound c.self.view_is c.self.invariant) c.in_ok-made.ensures.tree c.requires (returns-clause-accepted c))
