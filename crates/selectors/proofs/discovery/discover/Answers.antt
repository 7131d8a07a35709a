-- The laws of covering, ids, patterns, class names, tags and staying.
use Rattle.selectors.specs.ClassNames.{method_name}
use Rattle.selectors.specs.Selections.{is_selected}
use Rattle.selectors.proofs.Answer.{covers_is, tagged_is}
use Rattle.selectors.proofs.ClassName.{class_name_up}
use Rattle.selectors.proofs.Patterns.{like}
use Rattle.selectors.proofs.Staying.{stays_is}
use Rattle.selectors.proofs.Uids.{names_id}
use Rattle.selectors.proofs.discovery.discover.Goals as goal

pub returns-clause-covered : goal.returns-clause-covered
returns-clause-covered c = λ selector n inside. covers_is c.args.tree c.len.ensures.tree selector n inside

pub returns-clause-ids : goal.returns-clause-ids
returns-clause-ids c = λ id n inside. names_id c.args.tree c.len.ensures.tree id n

pub returns-clause-patterns : goal.returns-clause-patterns
returns-clause-patterns c = λ pattern n inside. like pattern (method_name c.args.tree n)

pub returns-clause-class_names : goal.returns-clause-class_names
returns-clause-class_names c = λ n above inside. class_name_up c.args.tree c.len.ensures.tree n above inside

pub returns-clause-tags : goal.returns-clause-tags
returns-clause-tags c = λ tag n inside. tagged_is c.args.tree c.len.ensures.tree tag n inside

pub returns-clause-stays : goal.returns-clause-stays
returns-clause-stays c = λ n inside. stays_is c.args.tree c.len.ensures.tree (is_selected c.args.tree c.args.request.now) n inside
