-- The arguments that arguments stand for, one argument after the other.
use Rattle.std.proofs.Common.{◌≡◌, ◌≢◌, ℕ, ◌+◌, ◌<◌, List, [], ◌∷◌, ◌++◌, length, take, drop, get_or, map, Result, Ok, Err, IfErr, MatchResult, sym, ap, ◌∙◌, subst}
use Rattle.std.specs.Result.{IsErrAnd}
use Rattle.std.proofs.lemmas.List.{drop_more, map-append, take-append-drop}
use Rattle.launch_options.specs.declared.fault.LaunchFault.{LaunchFault}
use Rattle.launch_options.specs.declared.fault.LaunchFault.TheVariants.{NoMemory}
use Rattle.word_files.specs.Reading.{Text}
use Rattle.word_files.proofs.Texts.{texts_more}
use Rattle.command_words.specs.Expansions.{StandFor, none_yet, one_more, IsNoRun, IsUnreadRun, MeansWords}
use Rattle.command_words.specs.Roles.{Meaning, Saved, before_of, role_of}
use Rattle.command_words.specs.declared.rerun_role.Before.{Before}
use Rattle.command_words.specs.declared.rerun_role.Before.TheVariants.{Nothing}

module _ {X : Type 0} (text : X → Text) (words : List X) (i : ℕ) (d : X) (inside : i < length words) where
  -- one argument more
  pub stand_more : (before next : Before) (all now : List Text) (meaning : Meaning) → StandFor (map text (take i words)) before all
      → meaning ≡ role_of before (text (get_or words i d)) → ((more : List Text) × MeansWords meaning more × (now ≡ all ++ more)) → next ≡ before_of before (text (get_or words i d))
      → StandFor (map text (take (i + 1) words)) next now
  stand_more before next all now meaning so_far is_meaning pieces is_next =
      let word = text (get_or words i d) in
      let more = one_more so_far word pieces.0 (subst (λ (m : Meaning). MeansWords m pieces.0) is_meaning pieces.1) in
      let one = subst (λ (ws : List Text). StandFor ws (before_of before word) (all ++ pieces.0)) (sym (texts_more text words i d inside)) more in
      let two = subst (λ (b : Before). StandFor (map text (take (i + 1) words)) b (all ++ pieces.0)) (sym is_next) one in
      subst (λ (ws : List Text). StandFor (map text (take (i + 1) words)) next ws) (sym pieces.2) two

  -- the next argument names what is no saved run
  pub unread : (before : Before) (all : List Text) (meaning : Meaning) (fault : LaunchFault) → StandFor (map text (take i words)) before all
      → meaning ≡ role_of before (text (get_or words i d)) → ((file : Text) × (meaning ≡ Saved file) × IsNoRun fault) → IsUnreadRun (map text words) fault
  unread before all meaning fault so_far is_meaning refused = record {
    front = map text (take i words);
    word = text (get_or words i d);
    rest = map text (drop (i + 1) words);
    is =
        ap (map text) (sym (take-append-drop i words) ∙ ap (λ ws. take i words ++ ws) (drop_more words i d inside))
        ∙ map-append text (take i words) (get_or words i d ∷ drop (i + 1) words);
    before = before;
    all = all;
    stand = so_far;
    file = refused.0;
    names = sym is_meaning ∙ refused.1;
    why = refused.2;
  }

-- no argument stands for none
pub stand_none : {X : Type 0} (text : X → Text) (all : List X) → all ≡ [] → StandFor [] Nothing (map text all)
stand_none text [] is = none_yet
stand_none text (x ∷ xs) is = cc

-- who is refused for a saved run has named one
pub names_saved : {T : Type 0} (result : Result T LaunchFault) (meaning : Meaning) (file : Text) → meaning ≡ Saved file → IfErr result (λ fault. fault ≢ NoMemory → IsNoRun fault)
    → IfErr result (λ fault. fault ≢ NoMemory → (x : Text) × (meaning ≡ Saved x) × IsNoRun fault)
names_saved (Ok x) meaning file is refused = tt
names_saved (Err fault) meaning file is refused = λ other. (file, is, refused other)

-- the refusal is handed on
pub refused_as : {T : Type 0} (P : T → Type 0) (Q : LaunchFault → Type 0) (fault : LaunchFault) (result : Result T LaunchFault) → IsErrAnd result (λ e. e ≡ fault) → (fault ≢ NoMemory → Q fault)
    → MatchResult result P (λ e. e ≢ NoMemory → Q e)
refused_as P Q fault (Ok all) is gives = absurd is
refused_as P Q fault (Err e) is gives = λ other. subst Q (sym is) (gives (λ same. other (is ∙ same)))
