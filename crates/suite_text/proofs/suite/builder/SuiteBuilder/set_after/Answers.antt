-- What holds after each line holds with the after-body.
use Rattle.std.proofs.Common.{◌≡◌, ap, refl, subst, sym, ◌∙◌, None}
use Rattle.descriptor.specs.Refusals.{after_refusal}
use Rattle.suite_words.specs.Reading.After.{after_body}
use Rattle.suite_text.specs.Reading.Parts.{LinesRead}
use Rattle.suite_text.specs.Inside.Paths.{IsSound}
use Rattle.suite_text.proofs.Reading.Afters.{after_sound, after_is}
use Rattle.suite_text.proofs.suite.builder.SuiteBuilder.set_after.Goals as goal

pub returns-clause-set : goal.returns-clause-set
returns-clause-set c =
    after_is c.args.self.now _ _ c.args.class c.args.status c.args.text.now c.self.view_is refl c.in_ok-give_after.ensures.tree refl refl c.in_ok-give_after.ensures.afters refl

pub invariant_of-self-2 : goal.invariant_of-self-2
invariant_of-self-2 c =
    let read = c.args.self.now in
    let taken : after_refusal read.tree c.args.class (after_body c.args.class) ≡ None =
    ap (λ (r : LinesRead). after_refusal r.tree c.args.class (after_body c.args.class)) (sym c.self.view_is) ∙ c.in_ok-give_after.ensures.accepted in
    subst IsSound (sym (returns-clause-set c)) (after_sound read c.args.class c.args.status c.args.text.now (subst IsSound c.self.view_is c.self.invariant) taken)
