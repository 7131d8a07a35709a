-- One more line of a suite.
use Rattle.std.proofs.Common.{◌≤◌, ◌≡◌, ℕ, ◌+◌, ◌<◌, List, ◌∷◌, map, drop, length, get_or, arith, Option, Result, Ok, sym, subst, ap, ◌∙◌, refl}
use Rattle.std.specs.Prelude.{nat_lt, Bool, false, IfErr}
use Rattle.std.proofs.lemmas.Bool.{le-ltb}
use Rattle.std.proofs.lemmas.List.{drop-map, drop_more, drop_all, length-map}
use Rattle.std.specs.Str.Lines.{lines}
use denote.Ref.{Bor}
use Rattle.suite_words.specs.declared.suite.fault.SuiteFault.{SuiteFault}
use Rattle.suite_words.specs.Limits.{node_limit, byte_limit}
use Rattle.suite_words.specs.Reading.Faults.{Fails}
use Rattle.unique_id.specs.Answers.{◌>>=◌, texts}
use Rattle.suite_text.specs.Reading.Parts.{LinesRead}
use Rattle.suite_text.specs.Suites.{with_declared, with_node_words, with_line, suite_from, suite_of_lines, suite_of}
use Rattle.suite_text.specs.Reading.Nodes.{word_on}
use Rattle.suite_words.specs.Reading.Words.{Declaration, declared_as}
use Rattle.suite_words.proofs.Reading.Steps.{fails_then, fails_as}

pub texts_drop : (xs : List (Bor (List ℕ))) (i : ℕ) (d : Bor (List ℕ)) → i < length xs → drop i (texts xs) ≡ (get_or xs i d).now ∷ drop (i + 1) (texts xs)
texts_drop xs i d h =
    let now : Bor (List ℕ) → List ℕ = λ x. x.now in
    drop-map now i xs ∙ ap (map now) (drop_more xs i d h) ∙ ap (λ t. now (get_or xs i d) ∷ t) (sym (drop-map now (i + 1) xs))

module _ (xs : List (Bor (List ℕ))) (i : ℕ) (d : Bor (List ℕ)) (old : LinesRead) (all : Result LinesRead SuiteFault)
    (inside : i < length xs) (so_far : suite_from (i + 1) old (drop i (texts xs)) ≡ all) where
  line_read : (with_line (i + 1) old (get_or xs i d).now >>= (λ next. suite_from (i + 1 + 1) next (drop (i + 1) (texts xs)))) ≡ all
  line_read = sym (ap (suite_from (i + 1) old) (texts_drop xs i d inside)) ∙ so_far

  pub line_next : (new : LinesRead) → with_line (i + 1) old (get_or xs i d).now ≡ Ok new → suite_from (i + 1 + 1) new (drop (i + 1) (texts xs)) ≡ all
  line_next new read = sym (ap (λ r. r >>= (λ next. suite_from (i + 1 + 1) next (drop (i + 1) (texts xs)))) read) ∙ line_read

  pub line_fails : (fault : SuiteFault) → Fails fault (with_line (i + 1) old (get_or xs i d).now) → Fails fault all
  line_fails fault h = fails_as fault _ all line_read (fails_then fault (with_line (i + 1) old (get_or xs i d).now) (λ next. suite_from (i + 1 + 1) next (drop (i + 1) (texts xs))) h)

-- where no line is left, all were read
pub lines_done : (xs : List (Bor (List ℕ))) (i : ℕ) (read : LinesRead) (all : Result LinesRead SuiteFault) → length xs ≤ i → suite_from (i + 1) read (drop i (texts xs)) ≡ all → all ≡ Ok read
lines_done xs i read all past so_far =
    let now : Bor (List ℕ) → List ℕ = λ x. x.now in
    let len : length (texts xs) ≡ length xs = length-map xs now in
    sym so_far ∙ ap (suite_from (i + 1) read) (drop_all i (texts xs) (omega (arith, len, past)))

-- the suite of a text that is not too large
small : (most : Option ℕ) (text : List ℕ) (b : Bool) → nat_lt (byte_limit most) (length text) ≡ b → b ≡ false → suite_of most text ≡ suite_of_lines (node_limit most) (lines text)
small most text b is e = rw (is ∙ e) refl

pub suite_small : (most : Option ℕ) (text : List ℕ) → length text ≤ byte_limit most → suite_of most text ≡ suite_of_lines (node_limit most) (lines text)
suite_small most text h = small most text (nat_lt (byte_limit most) (length text)) refl (le-ltb (byte_limit most) (length text) h)

-- a node's line that is read fails as its node does
pub node_fails : (number level : ℕ) (read : LinesRead) (first rest : List ℕ) (d : Declaration) (result : Result (Unit {0}) SuiteFault) → declared_as number (word_on read level) first rest ≡ Ok d
    → IfErr result (λ fault. Fails fault (with_declared number read level d)) → IfErr result (λ fault. Fails fault (with_node_words number read level first rest))
node_fails number level read first rest d result says =
    subst (λ (r : Result LinesRead SuiteFault). IfErr result (λ fault. Fails fault r)) (sym (ap (λ r. r >>= (λ x. with_declared number read level x)) says))
