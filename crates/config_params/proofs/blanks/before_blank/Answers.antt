use Rattle.std.proofs.Common.{None, lit<}
use Rattle.std.proofs.lemmas.Str.Pattern.{strip_suffix_char}
use Rattle.config_params.proofs.Ends.{end_tabs}
use Rattle.config_params.proofs.blanks.before_blank.Goals as goal

pub returns-in-SpacesAndTabs : goal.returns-in-SpacesAndTabs
returns-in-SpacesAndTabs c =
    rw c.in-SpacesAndTabs.is (end_tabs c.args.text.now _ (strip_suffix_char 32 c.args.text.now None c.in-None.ensures.cases (lit< tt))
    (strip_suffix_char 9 c.args.text.now _ c.strip_suffix-in-SpacesAndTabs.ensures.cases (lit< tt)))
