-- From what clap found to what the arguments give, and to why they are refused.
use Rattle.std.proofs.Common.{◌≡◌, ◌≢◌, ◌≤◌, List, [], ◌∷◌, length, arith, ◌⊎◌, inl, inr, true, Option, None, Some, IfOk, Result, Ok, Err, IfErr, ap, sym, subst, ◌∙◌, refl}
use Rattle.std.specs.Result.{IsErrAnd}
use Rattle.clap.specs.Words.{App, HasMatchesOf, IsAmong, Kinds, Text, fault_of, found_of, is_simple, is_simple_and_free, matches_of, rows_of}
use Rattle.clap.specs.declared.error.kind.ErrorKind.{ErrorKind}
use Rattle.clap.specs.declared.error.kind.ErrorKind.TheVariants as kinds
use Rattle.clap.specs.declared.parser.matches.ArgMatches.{ArgMatches}
use Rattle.clap.proofs.OnLiterals.{clap_on_literals}
use Rattle.launch_options.specs.declared.fault.LaunchFault.{LaunchFault}
use Rattle.launch_options.specs.declared.fault.LaunchFault.TheVariants.{NoMemory, BadWords}
use Rattle.command_words.specs.Infos.{IsInfoAsked, request_of}
use Rattle.command_words.specs.Words.{IsWordsFault}
use Rattle.command_words.specs.declared.info.InfoRequest.{InfoRequest}
use Rattle.launch_options.specs.Asked.{refusal_of}
use Rattle.command_words.specs.Commands.{program}
use Rattle.command_words.specs.Found.{nothing_given, values_in}
use Rattle.command_words.specs.Words.{values_given, where_faultless, words_refusal}

program_is_simple : is_simple program ≡ true
unfolding clap_on_literals
program_is_simple = refl

program_is_free : is_simple_and_free program ≡ true
unfolding clap_on_literals
program_is_free = refl

-- the program's name alone gives no option
pub no_option : (words : List Text) → length words ≤ 1 → nothing_given ≡ values_given words
unfolding clap_on_literals
no_option [] few = refl
no_option (name ∷ []) few = refl
no_option (name ∷ word ∷ more) few = absurd (omega arith)

-- and is refused for nothing
pub no_fault : (words : List Text) → length words ≤ 1 → fault_of program words ≡ []
unfolding clap_on_literals
no_fault [] few = refl
no_fault (name ∷ []) few = refl
no_fault (name ∷ word ∷ more) few = absurd (omega arith)

-- what clap found is what the arguments give
pub given_by : (app : App) (words : List Text) (m : ArgMatches) → app ≡ program → HasMatchesOf app words m → values_in (rows_of (found_of m)) ≡ values_given words
given_by app words m is has = ap values_in ((has (ap is_simple is ∙ program_is_simple)).0 ∙ ap (λ a. matches_of a words) is)

-- arguments that clap takes have no fault
pub faultless : (app : App) (words : List Text) → app ≡ program → (is_simple_and_free app ≡ true → fault_of app words ≡ []) → fault_of program words ≡ []
faultless app words is kinds = ap (λ a. fault_of a words) (sym is) ∙ kinds (ap is_simple_and_free is ∙ program_is_free)

by_kind : (k : ErrorKind) (fault : LaunchFault) → IsWordsFault k fault → (fault ≡ NoMemory) ⊎ ((fault ≡ BadWords) × (k ≢ kinds.OutOfMemory))
by_kind kinds.OutOfMemory fault is = inl is
by_kind _ fault is = inr (is, λ same. cc)

faulty_by : (words : List Text) (k : ErrorKind) (fault : LaunchFault) → (k ≡ kinds.OutOfMemory) ⊎ IsAmong k (fault_of program words) → (fault ≡ NoMemory) ⊎ ((fault ≡ BadWords) × (k ≢ kinds.OutOfMemory))
    → fault ≢ NoMemory → (fault ≡ BadWords) × (fault_of program words ≢ [])
faulty_by words k fault kind (inl memory) other = absurd (other memory)
faulty_by words k fault (inl memory) (inr bad) other = absurd (bad.1 memory)
faulty_by words k fault (inr among) (inr bad) other = (bad.0, λ none. absurd (subst (IsAmong k) none among))

-- arguments that clap refuses are faulty, and are refused as such
pub faulty : (app : App) (words : List Text) (k : ErrorKind) (fault : LaunchFault) → app ≡ program
    → (is_simple_and_free app ≡ true → (k ≡ kinds.OutOfMemory) ⊎ IsAmong k (fault_of app words)) → IsWordsFault k fault
    → fault ≢ NoMemory → (fault ≡ BadWords) × (fault_of program words ≢ [])
faulty app words k fault is kind fault_is =
    let among = subst (λ (a : App). (k ≡ kinds.OutOfMemory) ⊎ IsAmong k (fault_of a words)) is (kind (ap is_simple_and_free is ∙ program_is_free)) in
    faulty_by words k fault among (by_kind k fault fault_is)

bad_where_faulty : (found : Kinds) (refusal : Option LaunchFault) → found ≢ [] → where_faultless found refusal ≡ Some BadWords
bad_where_faulty [] refusal some = absurd (some refl)
bad_where_faulty (x ∷ xs) refusal some = refl

-- faulty arguments are refused
pub refused : {X : Type 0} (words : List Text) (cause : LaunchFault) (result : Result X LaunchFault) → IsErrAnd result (λ e. e ≡ cause)
    → (cause ≢ NoMemory → (cause ≡ BadWords) × (fault_of program words ≢ [])) → IfErr result (λ fault. fault ≢ NoMemory → words_refusal words ≡ Some fault)
refused words cause (Ok options) same is = absurd same
refused words cause (Err fault) same is =
    λ other. let found = is (λ none. other (same ∙ none)) in
    bad_where_faulty (fault_of program words) (refusal_of (values_given words)) found.1 ∙ ap Some (sym (same ∙ found.0))

asks_by : (words : List Text) (k : ErrorKind) (request : Option InfoRequest) → IsAmong k (fault_of program words) → request ≡ request_of k → IsInfoAsked words request
asks_by words k None among is = inr (k, among, sym is)
asks_by words k (Some request) among is = (k, among, sym is)

-- what keeps clap from reading the arguments says what they ask for
pub asks : (app : App) (words : List Text) (k : ErrorKind) (request : Option InfoRequest) → app ≡ program
    → (is_simple_and_free app ≡ true → (k ≡ kinds.OutOfMemory) ⊎ IsAmong k (fault_of app words)) → k ≢ kinds.OutOfMemory → request ≡ request_of k → IsInfoAsked words request
asks app words k request is kind other asked =
    elim (subst (λ (a : App). (k ≡ kinds.OutOfMemory) ⊎ IsAmong k (fault_of a words)) is (kind (ap is_simple_and_free is ∙ program_is_free))) [
      | inl memory ↦ absurd (other memory)
      | inr among ↦ asks_by words k request among asked
    ]

-- what keeps clap from reading the arguments, as a request was made of it, if there was memory for that
pub asks_if : {X E : Type 0} (request : X → Option InfoRequest) (result : Result X E) (app : App) (words : List Text) (k : ErrorKind) → app ≡ program
    → (is_simple_and_free app ≡ true → (k ≡ kinds.OutOfMemory) ⊎ IsAmong k (fault_of app words)) → IfOk result (λ x. (k ≢ kinds.OutOfMemory) × (request x ≡ request_of k)) → IfOk result (λ x. IsInfoAsked words (request x))
asks_if request (Ok x) app words k is kind has = asks app words k (request x) is kind has.0 has.1
asks_if request (Err error) app words k is kind has = tt
