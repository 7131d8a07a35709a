-- The line of an after-body is read as it is written.
use Rattle.std.proofs.Common.{◌≡◌, ℕ, zero, suc, ◌+◌, ◌≤◌, ◌||◌, ◌==◌, List, ◌++◌, length, drop, true, false, Some, Ok, codes, refl, ap, ◌∙◌, arith, rules}
use Rattle.std.specs.Str.{bytes_eq}
use Rattle.std.proofs.lemmas.Bool.{ne_eqb}
use Rattle.suite_words.specs.declared.suite.words.Word.TheVariants.{Test}
use Rattle.unique_id.specs.Answers.{◌>>=◌}
use Rattle.suite_words.specs.Reading.After.{is_after, ended, after_said}
use Rattle.suite_words.specs.Reading.Lines.{without_front, first_word, after_word, indentation_of, level_of, says_nothing, begins_with_sign}
use Rattle.suite_words.specs.Reading.Verdicts.{verdict_of, status_declared}
use Rattle.suite_words.specs.Reading.Properties.{is_property}
use Rattle.suite_text.specs.Writing.AfterLines.{AfterLine, after_text, IsAfterLine}
use Rattle.suite_text.specs.Writing.Lines.{spaces, IsWord, ending_text}
use Rattle.suite_text.proofs.Writing.Lines.{level_by, indents, text_back, verdict_read, follows_end}
use Rattle.suite_text.proofs.Writing.Words.{first_is, after_is, front_is, prefix_spaces}

is_word : IsWord (codes "after")
is_word = (omega arith, search rules)

no_sign : (n : ℕ) (rest : List ℕ) → begins_with_sign (spaces n ++ (codes "after" ++ rest)) ≡ false
no_sign zero rest = refl
no_sign (suc n) rest = refl

module _ (level : ℕ) (l : AfterLine) where
  abbrev pub behind : List ℕ
  behind = ending_text (Some l.ending) l.trailing

  abbrev words : List ℕ
  words = codes "after" ++ behind

  shape : after_text level l ≡ spaces (level + level) ++ words
  shape = ap (λ t. t ++ words) (indents level)

  pub after_says : says_nothing (after_text level l) ≡ false
  after_says =
      ap says_nothing shape
      ∙ ap (λ b. b || (length (without_front (spaces (level + level) ++ words)) == 0)) (no_sign (level + level) behind)
      ∙ ap (λ t. length t == 0) (front_is (level + level) (codes "after") behind is_word (follows_end (Some l.ending) l.trailing))
      ∙ ne_eqb (length words) 0 (λ e. omega (arith, e))

  pub after_level : (number deepest : ℕ) → level ≤ deepest → level_of number deepest (after_text level l) ≡ Ok level
  after_level number deepest h =
      let found = prefix_spaces (level + level) words in
      ap (level_of number deepest) shape ∙ level_by number deepest level (indentation_of (spaces (level + level) ++ words)) (omega (arith, found)) h

  pub after_no_property : is_property (after_text level l) ≡ false
  after_no_property = ap is_property shape ∙ ap (λ t. bytes_eq t (codes "property")) (first_is (level + level) (codes "after") behind is_word (follows_end (Some l.ending) l.trailing))

  pub after_is_after : is_after (after_text level l) ≡ true
  after_is_after = ap is_after shape ∙ ap (λ t. bytes_eq t (codes "after")) (first_is (level + level) (codes "after") behind is_word (follows_end (Some l.ending) l.trailing))

  pub after_behind : after_word (after_text level l) ≡ drop 1 behind
  after_behind = ap after_word shape ∙ after_is (level + level) (codes "after") behind is_word (follows_end (Some l.ending) l.trailing)

  pub after_back : (number : ℕ) (is : IsAfterLine l) → after_said number (drop 1 behind) ≡ Ok (is.status, l.ending.text)
  after_back number is =
      ap (λ t. verdict_of number Test (first_word (drop 1 behind)) t >>= (λ v. ended number (status_declared v) t)) (text_back number Test l.trailing (Some l.ending) is.ending)
      ∙ ap (λ r. r >>= (λ v. ended number (status_declared v) l.ending.text)) (verdict_read number Test l.trailing (Some l.ending) is.ending)
      ∙ ap (λ s. ended number s l.ending.text) is.ends
