-- The sentence that a refusal's message begins with.
use Rattle.std.specs.Prelude.{ℕ, List, codes}
use Rattle.config_params.specs.declared.fault.ParamsFault.{ParamsFault}
use Rattle.config_params.specs.declared.fault.ParamsFault.TheVariants as params
use Rattle.config_params.specs.declared.settings_fault.SettingsFault.{SettingsFault}
use Rattle.config_params.specs.declared.settings_fault.SettingsFault.TheVariants as settings
use Rattle.descriptor.specs.declared.fault.TreeFault.{TreeFault}
use Rattle.descriptor.specs.declared.fault.TreeFault.TheVariants as trees
use Rattle.launch_options.specs.declared.fault.CutCause.{CutCause}
use Rattle.launch_options.specs.declared.fault.CutCause.TheVariants as cuts
use Rattle.launch_options.specs.declared.fault.LaunchFault.{LaunchFault}
use Rattle.launch_options.specs.declared.fault.LaunchFault.TheVariants as launches
use Rattle.messages.specs.declared.subject.Subject.{Subject}
use Rattle.messages.specs.declared.subject.Subject.TheVariants.{Suite, Tests}
use Rattle.selectors.specs.declared.selector_fault.SelectorFault.{SelectorFault}
use Rattle.selectors.specs.declared.selector_fault.SelectorFault.TheVariants as selectors
use Rattle.suite_words.specs.declared.suite.fault.SuiteFault.{SuiteFault}
use Rattle.suite_words.specs.declared.suite.fault.SuiteFault.TheVariants as suites
use Rattle.tag_expr.specs.declared.fault.TagFault.{TagFault}
use Rattle.tag_expr.specs.declared.fault.TagFault.TheVariants as tags

-- of a node that a tree refuses
abbrev pub of_tree : TreeFault → List ℕ
of_tree trees.NoMemory = codes "there was not enough memory"
of_tree trees.TooMany = codes "the suite has too many nodes"
of_tree trees.TooDeep = codes "a node of the suite stands too deep"
of_tree trees.DoubleId = codes "two nodes of the suite have the same unique id"
of_tree trees.ParentIsTest = codes "a test of the suite holds another node"
of_tree trees.EngineLock = codes "an engine of the suite has a mode, a lock or isolation"
of_tree trees.BodyTwice = codes "two nodes of the suite have the same body"
of_tree trees.SpareOutsideFactory = codes "a dynamic test of the suite stands outside a factory, or another node in one"
of_tree trees.OverLimit = codes "a line of the suite is over a limit"
of_tree trees.AfterMisplaced = codes "an after-body of the suite stands where there may be none"

-- of a property, in a suite or as an option
abbrev pub of_params : ParamsFault → List ℕ
of_params params.NoMemory = codes "there was not enough memory"
of_params (params.NoEquals place) = codes "a property has no equals sign"
of_params (params.EmptyKey place) = codes "a property has no key"

-- of a text that is no suite
abbrev pub of_suite : SuiteFault → List ℕ
of_suite suites.NoMemory = codes "there was not enough memory"
of_suite (suites.BadLine place) = codes "a line of the suite cannot be read"
of_suite (suites.BadIndent place) = codes "a line of the suite is indented wrongly"
of_suite (suites.MissingVerdict place) = codes "a line of the suite has no verdict"
of_suite suites.TooLarge = codes "the suite is too large"
of_suite (suites.Refused fault line) = of_tree fault
of_suite (suites.BadProperty fault) = of_params fault

-- of a text that is no tag expression
abbrev pub of_tags : TagFault → List ℕ
of_tags tags.NoMemory = codes "there was not enough memory"
of_tags tags.Empty = codes "a tag expression is empty"
of_tags (tags.BadTag place) = codes "a tag expression has a character that no tag has"
of_tags (tags.OperandMissing place) = codes "a tag expression lacks a tag"
of_tags (tags.OperatorMissing place) = codes "a tag expression lacks an operator"
of_tags (tags.ParenOpen place) = codes "a parenthesis of a tag expression is never closed"
of_tags (tags.ParenClose place) = codes "a parenthesis of a tag expression closes none"
of_tags tags.TooDeep = codes "a tag expression is over a limit"

-- of a text that is no selector
abbrev pub of_selector : SelectorFault → List ℕ
of_selector selectors.NoMemory = codes "there was not enough memory"
of_selector selectors.BadSelector = codes "a selector cannot be read"
of_selector selectors.EmptyPattern = codes "a pattern of names is empty"

-- of a configuration that gives no settings
abbrev pub of_settings : SettingsFault → List ℕ
of_settings settings.BadStrategy = codes "the strategy of parallel execution is not known"
of_settings settings.BadParallelism = codes "the number of workers is missing, or is none"
of_settings settings.BadFactor = codes "the factor of workers for a processor is none"
of_settings settings.BadSlow = codes "the milliseconds from which on a test is slow are none"
of_settings settings.BadHolders = codes "the number of holders of a lock is none"
of_settings settings.UnknownLock = codes "a lock is limited that no node names, or that can have no limit"

-- of an output that was cut short
abbrev pub of_cut : CutCause → List ℕ
of_cut cuts.Writer = codes "standard output did not take all that was written"
of_cut cuts.Memory = codes "there was not enough memory to go on"

-- of each refusal where a suite is run
abbrev pub sentence_of : LaunchFault → List ℕ
sentence_of launches.NoMemory = codes "there was not enough memory"
sentence_of (launches.Suite fault) = of_suite fault
sentence_of launches.BadWords = codes "nothing was run"
sentence_of (launches.BadStep place) = codes "a word of the replay names no step"
sentence_of (launches.BadSelector refused) = of_selector refused.fault
sentence_of (launches.BadTags fault) = of_tags fault
sentence_of (launches.BadPair fault) = of_params fault
sentence_of (launches.BadSettings fault) = of_settings fault
sentence_of (launches.NothingMatches place) = codes "a selector matches nothing in the suite"
sentence_of launches.TooManyKeys = codes "the nodes that are to run declare too many keys of locks"
sentence_of launches.TooManyWorkers = codes "the configuration asks for too many workers"
sentence_of launches.NoWorker = codes "no thread could be started"
sentence_of launches.Reading = codes "the suite could not be read"
sentence_of (launches.BadReport number) = codes "the file of a report could not be opened"
sentence_of (launches.CutReport number) = codes "a report could not be written whole"
sentence_of launches.UnreadRun = codes "the saved run could not be read"
sentence_of (launches.BadSavedLine line) = codes "a line of the saved run is none of a feed"
sentence_of (launches.UnreadWords number) = codes "a file of words could not be read"
sentence_of (launches.Writing cut) = of_cut cut.cause

-- and where tests of a program's own are
abbrev pub tests_sentence_of : LaunchFault → List ℕ
tests_sentence_of (launches.NothingMatches place) = codes "a selector matches none of the tests"
tests_sentence_of fault = sentence_of fault

-- the sentence of each refusal
abbrev pub Sentences : Type 0
Sentences = LaunchFault → List ℕ

-- the sentences of what is run
abbrev pub sentence_by : Subject → Sentences
sentence_by (Suite bytes) = sentence_of
sentence_by (Tests said) = tests_sentence_of
