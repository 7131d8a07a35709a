-- Each theme has one of the names.
use Rattle.launch_options.proofs.Named.{each_theme}
use Rattle.launch_options.proofs.themes.theme_names.Goals as goal

pub returns-clause-every : goal.returns-clause-every
returns-clause-every c = each_theme
