use Rattle.std.proofs.Common.{None, lit<}
use Rattle.std.proofs.lemmas.Str.Pattern.{strip_prefix_char}
use Rattle.config_params.proofs.Ends.{front_spaces, front_tabs}
use Rattle.config_params.proofs.blanks.after_blank.Goals as goal

pub returns-in-Spaces : goal.returns-in-Spaces
returns-in-Spaces c = rw c.in-Spaces.is (front_spaces c.args.text.now (strip_prefix_char 32 c.args.text.now None c.in-None.ensures.cases (lit< tt)))

pub returns-in-SpacesAndTabs : goal.returns-in-SpacesAndTabs
returns-in-SpacesAndTabs c =
    rw c.in-SpacesAndTabs.is (front_tabs c.args.text.now _ (strip_prefix_char 32 c.args.text.now None c.in-None.ensures.cases (lit< tt))
    (strip_prefix_char 9 c.args.text.now _ c.strip_prefix-in-SpacesAndTabs.ensures.cases (lit< tt)))
