-- What is done with arguments that were read, or refused, whatever is launched.
use Rattle.std.proofs.Common.{◌≡◌, ◌∙◌, ℕ, Bool, List, map, Option, IfOk, Result, Ok, Err, inl, inr, refl, subst}
use Rattle.command_words.specs.Words.{ReadsWords, reports_wanted, suite_wanted}
use Rattle.launch_options.specs.Given.{Text}
use Rattle.launch_options.specs.declared.asked.Options.{Options}
use Rattle.launch_options.specs.declared.fault.LaunchFault.{LaunchFault}
use Rattle.launch_options.specs.declared.fault.LaunchFault.TheVariants.{BadWords, NoMemory}
use Rattle.messages.specs.Sentences.{Sentences}
use Rattle.report_files.specs.FiledReports.{Wanted}
use Rattle.word_files.specs.declared.facts.Facts.{Facts}
use Rattle.command_line.specs.Commands.{AnswersWords, IsCommandRun, IsWordsRun, RefusesCommand}
use Rattle.command_line.specs.Infos.{EndsUnread, RefusesWords}
use Rattle.command_line.specs.Runs.{Closes}
use Rattle.command_line.specs.declared.closing.Ending.{Ending}
use Rattle.command_line.proofs.Running.{cause_is, not_refused}
use Rattle.command_line.proofs.Unread.{reads_nothing}

module _ {R V W E K : Type 0} (sentence : Sentences) (contents : W → Option (List ℕ)) (said : E → Option (List ℕ)) (Conducts : Options → (suite : Option Text) → List Wanted → (before after : R) → (begun ended : V) → (old new : W) → (first last : E) → (was now : K) → Ending → Type 0) where
  -- arguments that ask for something
  pub asked_for : (words : List Text) (options : Options) (suite : Option Text) (wanted : List Wanted) (before after : R) (begun ended : V) (old new : W) (first last : E) (was now : K) (ending : Ending) → ReadsWords words (Ok options) → suite ≡ suite_wanted words → wanted ≡ reports_wanted words
      → Conducts options suite wanted before after begun ended old new first last was now ending → AnswersWords sentence contents said Conducts words before after begun ended old new first last was now ending
  asked_for words options suite wanted before after begun ended old new first last was now ending reads is_suite are runs = inr (record {
    options = Ok options;
    reads = reads;
    unasked = λ same. absurd (not_refused (Ok options) options refl same);
    runs =
        subst (λ (ws : List Wanted). Conducts options (suite_wanted words) ws before after begun ended old new first last was now ending) are
        (subst (λ (s : Option Text). Conducts options s wanted before after begun ended old new first last was now ending) is_suite runs);
  })

  -- this is said of arguments that are refused
  refused : (words : List Text) (cause : LaunchFault) (before : R) (begun : V) (old new : W) (first last : E) (was : K) (ending : Ending) → ReadsWords words (Err cause) → RefusesWords sentence contents said words cause old new first last ending
      → IsWordsRun sentence contents said Conducts words before before begun begun old new first last was was ending
  refused words cause before begun old new first last was ending reads refuses = record {
    options = Err cause;
    reads = reads;
    unasked = λ same. refuses.unasked (cause_is (Err cause) cause refl same);
    runs = record { unread = refl; unseen = refl; untouched = refl; closes = refuses.closes };
  }

  -- arguments that ask for help are told it, and of others the refusal is said
  pub unread_words : (words : List Text) (fault : LaunchFault) (before : R) (begun : V) (old new : W) (first last : E) (was : K) (ending : Ending) → ReadsWords words (Err fault) → EndsUnread sentence contents said words fault old new first last ending
      → AnswersWords sentence contents said Conducts words before before begun begun old new first last was was ending
  unread_words words fault before begun old new first last was ending reads (inl told) = inl (record { unread = refl; unseen = refl; untouched = refl; silent = told.0; answers = told.1 })
  unread_words words fault before begun old new first last was ending reads (inr (inl refuses)) = inr (refused words fault before begun old new first last was ending reads refuses)
  unread_words words fault before begun old new first last was ending reads (inr (inr refuses)) = inr (refused words NoMemory before begun old new first last was ending (reads_nothing words) refuses)

  module _ {G X F : Type 0} (facts : Facts) (given : G → List X) (text : X → Text) where
    -- the arguments that were listed are those that were given
    pub told_words : (words : Result G F) (all listed : List X) (before after : R) (begun ended : V) (old new : W) (first last : E) (was now : K) (ending : Ending) → IfOk words (λ some. all ≡ given some) → listed ≡ all
        → IsCommandRun sentence contents said Conducts facts (map text listed) before after begun ended old new first last was now ending → IfOk words (λ some. IsCommandRun sentence contents said Conducts facts (map text (given some)) before after begun ended old new first last was now ending)
    told_words (Ok some) all listed before after begun ended old new first last was now ending same value is =
        subst (λ (words : List X). IsCommandRun sentence contents said Conducts facts (map text words) before after begun ended old new first last was now ending) (value ∙ same) is
    told_words (Err error) all listed before after begun ended old new first last was now ending same value is = tt

    -- there was no memory to list them
    pub told_no_words : (words : Result G F) (fault : LaunchFault) (before : R) (begun : V) (old new : W) (first last : E) (was : K) (ending : Ending) → IfOk words (λ some. fault ≡ NoMemory) → Closes sentence contents said (Err fault) old new first last ending
        → IfOk words (λ some. IsCommandRun sentence contents said Conducts facts (map text (given some)) before before begun begun old new first last was was ending)
    told_no_words (Ok some) fault before begun old new first last was ending memory closed = record { expanded = Err fault; expands = λ other. absurd (other memory); runs = record { unread = refl; unseen = refl; untouched = refl; closes = closed } }
    told_no_words (Err error) fault before begun old new first last was ending memory closed = tt

-- what is closed with the sentences of what is launched
pub closes_as : {W E : Type 0} (contents : W → Option (List ℕ)) (said : E → Option (List ℕ)) (a b : Sentences) (fault : LaunchFault) (old new : W) (first last : E) (ending : Ending) → a ≡ b → Closes a contents said (Err fault) old new first last ending → Closes b contents said (Err fault) old new first last ending
closes_as contents said a b fault old new first last ending same = subst (λ (s : Sentences). Closes s contents said (Err fault) old new first last ending) same

pub unread_as : {W E : Type 0} (contents : W → Option (List ℕ)) (said : E → Option (List ℕ)) (a b : Sentences) (words : List Text) (fault : LaunchFault) (old new : W) (first last : E) (ending : Ending) → a ≡ b → EndsUnread a contents said words fault old new first last ending → EndsUnread b contents said words fault old new first last ending
unread_as contents said a b words fault old new first last ending same = subst (λ (s : Sentences). EndsUnread s contents said words fault old new first last ending) same
