-- The arguments that arguments stand for, one argument after the other.
use Rattle.std.proofs.Common.{◌≡◌, ◌≢◌, ℕ, ◌+◌, ◌<◌, ◌≤◌, List, [], ◌∷◌, ◌++◌, length, take, drop, get_or, map, Option, Some, None, Result, Ok, Err, MatchResult, refl, sym, ap, ◌∙◌, subst, arith, append_assoc}
use Rattle.std.specs.Result.{IsErrAnd}
use Rattle.std.proofs.lemmas.List.{drop_more, map-append, take-append-drop}
use Rattle.launch_options.specs.declared.fault.LaunchFault.{LaunchFault}
use Rattle.launch_options.specs.declared.fault.LaunchFault.TheVariants.{NoMemory, UnreadWords}
use Rattle.word_files.specs.Expansions.{StandFor, none_yet, one_more, pieces, IsExpansion, IsUnread}
use Rattle.word_files.specs.Reading.{Text}
use Rattle.word_files.specs.Roles.{Meaning, Itself, WordsOf, Joined, before_of, files_of, role_of}
use Rattle.word_files.specs.Told.{with_told}
use Rattle.word_files.specs.declared.facts.Facts.{Facts}
use Rattle.word_files.specs.declared.role.Before.{Before}
use Rattle.word_files.specs.declared.role.Before.TheVariants.{Nothing}
use Rattle.word_files.proofs.Texts.{texts_more}

module _ {X : Type 0} (text : X → Text) (words : List X) (i : ℕ) (d : X) (inside : i < length words) where
  -- one argument more, by the text of its file
  pub stand_more : (before next : Before) (all pieces_now now : List Text) (files counted : ℕ) (meaning : Meaning) (read : Option Text) → StandFor (map text (take i words)) before all files
      → meaning ≡ role_of before (text (get_or words i d)) → Some pieces_now ≡ pieces meaning read → next ≡ before_of (text (get_or words i d)) → now ≡ all ++ pieces_now → counted ≡ files + files_of meaning
      → StandFor (map text (take (i + 1) words)) next now counted
  stand_more before next all pieces_now now files counted meaning read so_far is_meaning is_pieces is_next is_now is_counted =
      let word = text (get_or words i d) in
      let more = one_more so_far word read pieces_now (ap (λ m. pieces m read) (sym is_meaning) ∙ sym is_pieces) in
      let one = subst (λ (ws : List Text). StandFor ws (before_of word) (all ++ pieces_now) (files + files_of (role_of before word))) (sym (texts_more text words i d inside)) more in
      let two = subst (λ (b : Before). StandFor (map text (take (i + 1) words)) b (all ++ pieces_now) (files + files_of (role_of before word))) (sym is_next) one in
      let three = subst (λ (ws : List Text). StandFor (map text (take (i + 1) words)) next ws (files + files_of (role_of before word))) (sym is_now) two in
      subst (λ (n : ℕ). StandFor (map text (take (i + 1) words)) next now n) (sym (is_counted ∙ ap (λ m. files + files_of m) is_meaning)) three

  -- the file of the next argument cannot be read, or is none of arguments
  pub unread : (before : Before) (all : List Text) (files counted : ℕ) (meaning : Meaning) (read : Option Text) (fault : LaunchFault) → StandFor (map text (take i words)) before all files
      → meaning ≡ role_of before (text (get_or words i d)) → None ≡ pieces meaning read → counted ≡ files + files_of meaning → fault ≡ UnreadWords counted
      → IsUnread (map text words) fault
  unread before all files counted meaning read fault so_far is_meaning is_pieces is_counted is_fault = record {
    front = map text (take i words);
    word = text (get_or words i d);
    rest = map text (drop (i + 1) words);
    is =
        ap (map text) (sym (take-append-drop i words) ∙ ap (λ ws. take i words ++ ws) (drop_more words i d inside))
        ∙ map-append text (take i words) (get_or words i d ∷ drop (i + 1) words);
    before = before;
    all = all;
    files = files;
    stand = so_far;
    text = read;
    fails = ap (λ m. pieces m read) (sym is_meaning) ∙ sym is_pieces;
    number = is_fault ∙ ap UnreadWords (is_counted ∙ ap (λ m. files + files_of m) is_meaning);
  }

-- no argument stands for none
pub stand_none : {X : Type 0} (text : X → Text) (all : List X) → all ≡ [] → StandFor [] Nothing (map text all) 0
stand_none text [] is = none_yet
stand_none text (x ∷ xs) is = cc

-- there was no memory
pub no_memory : {T : Type 0} (P : T → Type 0) (Q : LaunchFault → Type 0) (result : Result T LaunchFault) → IsErrAnd result (λ fault. fault ≡ NoMemory) → MatchResult result P (λ fault. fault ≢ NoMemory → Q fault)
no_memory P Q (Ok all) is = absurd is
no_memory P Q (Err fault) is = λ other. absurd (other is)

-- what the system tells stands behind the arguments of files
pub told_behind : {X : Type 0} (text : X → Text) (facts : Facts) (words : List Text) (all more : List X) → ((last : Before) × (number : ℕ) × StandFor words last (map text all) number) → map text more ≡ with_told facts (map text all)
    → IsExpansion facts words (map text more)
told_behind text facts words all more stand told = record { last = stand.0; files = stand.1; all = map text all; stand = stand.2; told = told }

-- an argument names one file at most
pub files_few : (meaning : Meaning) → files_of meaning ≤ 1
files_few (Itself word) = omega arith
files_few (WordsOf file) = omega arith
files_few (Joined front file) = omega arith
