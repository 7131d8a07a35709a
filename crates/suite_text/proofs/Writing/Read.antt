-- What is read may be written: each text that is read is one that may be written for what was read.
use Rattle.std.proofs.Common.{◌≡◌, ◌≢◌, ℕ, zero, suc, ◌+◌, ◌-◌, ◌<◌, ◌≤◌, List, [], ◌∷◌, ◌++◌, length, take, slice_index, Bool, true, false, cond, nat_lt, Option, Result, Ok, Err, IfOk, refl, ap, ap₂, sym, subst, ◌∙◌, arith, append-nil}
use Rattle.std.specs.Prelude.{◌==◌, if◌then◌else◌}
use Rattle.std.specs.List.{AllByRecursion, slice_split, onto_first}
use Rattle.std.specs.Str.{is_utf8}
use Rattle.std.specs.Str.Lines.{lines, lines_of_parts}
use Rattle.std.proofs.lemmas.Bool.{false≢true, ltb-false}
use Rattle.std.proofs.lemmas.Bool.Decides.{Decides-eqb}
use Rattle.std.proofs.lemmas.List.{append_assoc}
use Rattle.config_params.specs.Parameters.{nothing_said}
use Rattle.descriptor.specs.Nodes.{IsTree, size}
use Rattle.suite_text.specs.declared.suite.Suite.{Suite}
use Rattle.suite_words.specs.declared.suite.fault.SuiteFault.{SuiteFault}
use Rattle.suite_words.specs.declared.suite.fault.SuiteFault.TheVariants.{TooLarge, BadLine}
use Rattle.suite_text.specs.Reading.Bytes.{suite_read, line_of_fault}
use Rattle.suite_words.specs.Limits.{node_limit, byte_limit}
use Rattle.suite_words.specs.Reading.Bytes.{without_mark}
use Rattle.suite_words.specs.Reading.Faults.{Gives}
use Rattle.suite_text.specs.Reading.Parts.{SuiteParts, LinesRead, no_lines, parts_of, suite_made}
use Rattle.suite_text.specs.Suites.{suite_from, suite_of_lines, suite_of, suite_parts}
use Rattle.suite_text.specs.Writing.Suites.{Line, Feed, ReturnFeed, TextEnd, text_of_lines, AreLines, Written, text_of_written, meant, IsWritten, IsSuite}
use Rattle.suite_text.proofs.Writing.Said.{ok_then, ok_else, ok_same}
use Rattle.suite_text.proofs.Writing.Stacks.{AreShort, Opening, opened}
use Rattle.suite_text.proofs.Writing.Texts.{is_feed, HasNoFeed, texts_of, last_line}

-- A text is its parts, with a line feed between two.
abbrev joined : List (List ℕ) → List ℕ
joined [] = []
joined (x ∷ []) = x
joined (x ∷ y ∷ more) = x ++ 10 ∷ joined (y ∷ more)

record AreParts (text : List ℕ) (parts : List (List ℕ)) : Type 0 where
  pub whole : text ≡ joined parts
  pub none : AllByRecursion HasNoFeed parts
  pub some : 0 < length parts

onto_parts : (b : ℕ) (bs : List ℕ) (parts : List (List ℕ)) → is_feed b ≡ false → AreParts bs parts → AreParts (b ∷ bs) (onto_first b parts)
onto_parts b bs [] e are = absurd (let some = are.some in omega (arith, some))
onto_parts b bs (x ∷ []) e are = record { whole = ap (λ l. b ∷ l) are.whole; none = ((e, are.none.0), tt); some = omega arith }
onto_parts b bs (x ∷ y ∷ more) e are = record { whole = ap (λ l. b ∷ l) are.whole; none = ((e, are.none.0), are.none.1); some = omega arith }

feed_parts : (bs : List ℕ) (parts : List (List ℕ)) → AreParts bs parts → AreParts (10 ∷ bs) ([] ∷ parts)
feed_parts bs [] are = absurd (let some = are.some in omega (arith, some))
feed_parts bs (x ∷ more) are = record { whole = ap (λ l. 10 ∷ l) are.whole; none = (tt, are.none); some = omega arith }

parts_by : (b : ℕ) (bs : List ℕ) (z : Bool) → is_feed b ≡ z → AreParts bs (slice_split is_feed bs) → AreParts (b ∷ bs) (cond z ([] ∷ slice_split is_feed bs) (onto_first b (slice_split is_feed bs)))
parts_by b bs true e are = subst (λ (x : ℕ). AreParts (x ∷ bs) ([] ∷ slice_split is_feed bs)) (sym ((Decides-eqb b 10).0 e)) (feed_parts bs (slice_split is_feed bs) are)
parts_by b bs false e are = onto_parts b bs (slice_split is_feed bs) e are

parts_of_text : (text : List ℕ) → AreParts text (slice_split is_feed text)
parts_of_text [] = record { whole = refl; none = (tt, tt); some = omega arith }
parts_of_text (b ∷ bs) = parts_by b bs (is_feed b) refl (parts_of_text bs)

-- Lines, each with its end.
record AreWritten (text : List ℕ) (texts : List (List ℕ)) : Type 0 where
  pub lines : List Line
  pub whole : text ≡ text_of_lines lines
  pub are : AreLines lines
  pub texts_are : texts ≡ texts_of lines

last_is : (b c : ℕ) (xs : List ℕ) → slice_index (b ∷ xs) (length xs) ≡ c → b ∷ xs ≡ take (length xs) (b ∷ xs) ++ c ∷ []
last_is b c [] e = ap (λ x. x ∷ []) e
last_is b c (d ∷ xs) e = ap (λ l. b ∷ l) (last_is d c xs e)

return_last : (x : List ℕ) → slice_index x (length x - 1) ≡ 13 → x ≡ take (length x - 1) x ++ 13 ∷ []
return_last [] e = absurd (omega (arith, e))
return_last (b ∷ xs) e =
    let at : length (b ∷ xs) - 1 ≡ length xs = omega arith in
    last_is b 13 xs (ap (slice_index (b ∷ xs)) (sym at) ∙ e) ∙ ap (λ k. take k (b ∷ xs) ++ 13 ∷ []) (sym at)

no_feed_taken : (n : ℕ) (x : List ℕ) → HasNoFeed x → HasNoFeed (take n x)
no_feed_taken zero x h = tt
no_feed_taken (suc n) [] h = tt
no_feed_taken (suc n) (b ∷ x) h = (h.0, no_feed_taken n x h.1)

not_13 : (n : ℕ) → (n == 13) ≡ false → n ≢ 13
not_13 n e same = false≢true (sym e ∙ ap (λ k. k == 13) same)

line_by : (x : List ℕ) (text : List ℕ) (texts : List (List ℕ)) (z : Bool) → (slice_index x (length x - 1) == 13) ≡ z → HasNoFeed x → AreWritten text texts
    → AreWritten (x ++ 10 ∷ text) ((if z then take (length x - 1) x else x) ∷ texts)
line_by x text texts true e none more =
    let own : Line = record { text = take (length x - 1) x; end = ReturnFeed } in
    let last = return_last x ((Decides-eqb (slice_index x (length x - 1)) 13).0 e) in
    record {
      lines = own ∷ more.lines;
      whole = ap₂ (λ l m. l ++ 10 ∷ m) last more.whole ∙ append_assoc own.text (13 ∷ []) (10 ∷ text_of_lines more.lines) ∙ sym (append_assoc own.text (13 ∷ 10 ∷ []) (text_of_lines more.lines));
      are = (no_feed_taken (length x - 1) x none, tt, more.are);
      texts_are = ap (λ l. take (length x - 1) x ∷ l) more.texts_are;
    }
line_by x text texts false e none more =
    let own : Line = record { text = x; end = Feed } in
    record {
      lines = own ∷ more.lines;
      whole = ap (λ m. x ++ 10 ∷ m) more.whole ∙ sym (append_assoc x (10 ∷ []) (text_of_lines more.lines));
      are = (none, not_13 (slice_index x (length x - 1)) e, more.are);
      texts_are = ap (λ l. x ∷ l) more.texts_are;
    }

one_line : (x : List ℕ) → HasNoFeed x → AreWritten x (lines_of_parts (x ∷ []))
one_line [] none = record { lines = []; whole = refl; are = tt; texts_are = refl }
one_line (b ∷ x) none = record {
  lines = record { text = b ∷ x; end = TextEnd } ∷ [];
  whole = sym (append-nil ((b ∷ x) ++ []) ∙ append-nil (b ∷ x));
  are = (none, (refl, omega arith), tt);
  texts_are = last_line (b ∷ x) (omega arith);
}

lines_of_all : (parts : List (List ℕ)) → AllByRecursion HasNoFeed parts → 0 < length parts → AreWritten (joined parts) (lines_of_parts parts)
lines_of_all [] none some = absurd (omega (arith, some))
lines_of_all (x ∷ []) none some = one_line x none.0
lines_of_all (x ∷ y ∷ more) none some = line_by x (joined (y ∷ more)) (lines_of_parts (y ∷ more)) (slice_index x (length x - 1) == 13) refl none.0 (lines_of_all (y ∷ more) none.1 (omega arith))

written_lines : (text : List ℕ) → AreWritten text (lines text)
written_lines text =
    let parts = parts_of_text text in
    let all = lines_of_all (slice_split is_feed text) parts.none parts.some in
    record { lines = all.lines; whole = parts.whole ∙ all.whole; are = all.are; texts_are = all.texts_are }

-- The suite.
module _ (most : Option ℕ) (text : List ℕ) (parts : SuiteParts) (read : suite_of most text ≡ Ok parts) (tree : IsTree parts.tree) (few : size parts.tree ≤ node_limit most + 1) where
  abbrev limit : ℕ
  limit = node_limit most

  small : (nat_lt (byte_limit most) (length text) ≡ false) × (suite_of_lines limit (lines text) ≡ Ok parts)
  small = ok_else (nat_lt (byte_limit most) (length text)) _ (suite_of_lines limit (lines text)) parts read

  made : (got : LinesRead) × (suite_from 1 (no_lines limit) (lines text) ≡ Ok got) × (parts ≡ parts_of got)
  made = let got = ok_then (suite_from 1 (no_lines limit) (lines text)) (λ r. Ok (parts_of r)) parts small.1 in (got.0, got.1, ok_same _ (parts_of got.0) parts refl got.2)

  all : AreWritten text (lines text)
  all = written_lines text

  opening : Opening limit nothing_said made.0 [] all.lines
  opening = opened all.lines limit 1 nothing_said made.0 [] tt (ap (suite_from 1 (no_lines limit)) (sym all.texts_are) ∙ made.1)

  abbrev written : Written
  written = record { properties = opening.properties; engines = opening.engines; after = opening.end }

  meant_is : parts ≡ meant written
  meant_is = made.2 ∙ ap suite_made opening.made_is

  text_is : text ≡ text_of_written written
  text_is = all.whole ∙ ap text_of_lines opening.lines_are

  short : AreShort (meant written).tree.nodes
  short = subst AreShort (ap (λ (p : SuiteParts). p.tree.nodes) (sym made.2 ∙ meant_is)) opening.short

  is_written : IsWritten most written
  is_written = record {
    properties = opening.may;
    items = opening.are;
    after = opening.nothing;
    lines = subst AreLines opening.lines_are all.are;
    tree = subst (λ (p : SuiteParts). IsTree p.tree) meant_is tree;
    few = subst (λ (p : SuiteParts). size p.tree ≤ limit + 1) meant_is few;
    ids = short;
    short = subst (λ (l : List ℕ). length l ≤ byte_limit most) text_is (ltb-false (byte_limit most) (length text) small.0);
  }

  may_be_written : IsSuite most text parts
  may_be_written = record { written = written; is_written = is_written; text_is = text_is; parts_are = meant_is }

pub given_written : (most : Option ℕ) (text : List ℕ) (result : Result Suite SuiteFault) → Gives suite_parts result (suite_of most text) → IfOk result (λ suite. IsTree suite.tree)
    → IfOk result (λ suite. size suite.tree ≤ node_limit most + 1) → IfOk result (λ suite. IsSuite most text (suite_parts suite))
given_written most text (Ok suite) read tree few = may_be_written most text (suite_parts suite) read tree few
given_written most text (Err fault) read tree few = tt

-- and so for bytes
utf8_read : (most : Option ℕ) (text : List ℕ) (parts : SuiteParts) (b : Bool) (fault : SuiteFault) → (if b then suite_of most text else Err fault) ≡ Ok parts → suite_of most text ≡ Ok parts
utf8_read most text parts true fault e = e
utf8_read most text parts false fault e = absurd (cc)

text_read : (most : Option ℕ) (bytes : List ℕ) (parts : SuiteParts) → suite_read most bytes ≡ Ok parts → suite_of most (without_mark bytes) ≡ Ok parts
text_read most bytes parts e =
    utf8_read most (without_mark bytes) parts (is_utf8 bytes) (BadLine (line_of_fault bytes))
    (ok_else (nat_lt (byte_limit most) (length bytes)) TooLarge (if is_utf8 bytes then suite_of most (without_mark bytes) else Err (BadLine (line_of_fault bytes))) parts e).1

pub given_bytes_written : (most : Option ℕ) (bytes : List ℕ) (result : Result Suite SuiteFault) → Gives suite_parts result (suite_read most bytes) → IfOk result (λ suite. IsTree suite.tree)
    → IfOk result (λ suite. size suite.tree ≤ node_limit most + 1) → IfOk result (λ suite. IsSuite most (without_mark bytes) (suite_parts suite))
given_bytes_written most bytes (Ok suite) read tree few = may_be_written most (without_mark bytes) (suite_parts suite) (text_read most bytes (suite_parts suite) read) tree few
given_bytes_written most bytes (Err fault) read tree few = tt
