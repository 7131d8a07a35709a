-- What is judged of a line before memory is taken is refused as the line is, and is not at fault if memory runs out.
use Rattle.std.proofs.Common.{◌≡◌, ◌≢◌, inl, inr, ℕ, ◌+◌, ◌<◌, ◌==◌, Bool, true, false, List, ◌∷◌, length, drop, get_or, Option, Some, None, Result, Ok, Err, IfOk, refl, ap, sym, subst, ◌∙◌}
use Rattle.std.specs.Prelude.{IfErr, if◌then◌else◌}
use denote.Ref.{Bor}
use Rattle.config_params.specs.declared.fault.ParamsFault.{ParamsFault}
use Rattle.config_params.specs.Pairs.{Pair, property_of}
use Rattle.config_params.specs.Parameters.{Parameters}
use Rattle.suite_words.specs.declared.suite.fault.SuiteFault.{SuiteFault}
use Rattle.suite_words.specs.declared.suite.fault.SuiteFault.TheVariants.{NoMemory, BadLine}
use Rattle.suite_words.specs.declared.suite.words.Word.{Word}
use Rattle.unique_id.specs.Answers.{◌>>=◌, texts}
use Rattle.suite_words.specs.Reading.After.{is_after, after_said}
use Rattle.suite_text.specs.Reading.After.{class_of, given_after_body, with_after_line}
use Rattle.suite_words.specs.Reading.Judged.{Judged, judged_pair, judged_property, judged_name, judged_node}
use Rattle.suite_text.specs.Reading.Judged.{judged_after, judged_on, judged_words, TakesMemory, MayRunOut}
use Rattle.suite_words.specs.Reading.Lines.{says_nothing, first_word, after_word, level_of}
use Rattle.suite_text.specs.Reading.Nodes.{word_on}
use Rattle.suite_text.specs.Reading.Parts.{LinesRead, no_lines, parts_of, above}
use Rattle.suite_words.specs.Reading.Properties.{with_said, with_property}
use Rattle.suite_words.specs.Reading.Words.{Declaration, word_of, placed, with_attributes, with_name, declared_as}
use Rattle.suite_text.specs.Suites.{is_property_in, with_declared, with_node_words, with_declaration, with_properties, with_pair, with_words_on, with_words, with_line, suite_from, suite_of_lines}
use Rattle.suite_text.proofs.Reading.Never.{lines_never}
use Rattle.suite_text.proofs.Reading.Steps.{texts_drop}

-- a fault of the first is the fault of the second
abbrev Leads : {A B : Type 0} → Result A SuiteFault → Result B SuiteFault → Type 0
Leads r s = (fault : SuiteFault) → r ≡ Err fault → s ≡ Err fault

leads_then : {A B C : Type 0} (r : Result A SuiteFault) (f : A → Result B SuiteFault) (g : A → Result C SuiteFault) → ((x : A) → Leads (f x) (g x)) → Leads (r >>= f) (r >>= g)
leads_then (Ok x) f g h = h x
leads_then (Err own) f g h = λ fault e. let same : own ≡ fault = cc in ap Err same

leads_by : {A B : Type 0} (b : Bool) (r s : Result A SuiteFault) (t u : Result B SuiteFault) → Leads r t → Leads s u → Leads (if b then r else s) (if b then t else u)
leads_by true r s t u h k = h
leads_by false r s t u h k = k

leads_on : {A B C : Type 0} (r : Result A SuiteFault) (s : Result B SuiteFault) (f : B → Result C SuiteFault) → Leads r s → Leads r (s >>= f)
leads_on r s f h = λ fault e. ap (λ x. x >>= f) (h fault e)

none_leads : {A B : Type 0} (x : A) (s : Result B SuiteFault) → Leads (Ok x) s
none_leads x s = λ fault e. absurd (cc)

same_leads : {A B : Type 0} (own : SuiteFault) → Leads {A = A} {B = B} (Err own) (Err own)
same_leads own = λ fault e. let same : own ≡ fault = cc in ap Err same

pair_leads : (params : Parameters) (said : Result (Option Pair) ParamsFault) → Leads (judged_pair said) (with_said params said)
pair_leads params (Ok None) = none_leads tt _
pair_leads params (Ok (Some pair)) = none_leads tt _
pair_leads params (Err fault) = same_leads _

property_leads : (number : ℕ) (read : LinesRead) (line : List ℕ) → Leads (judged_property number line) (with_pair number read line)
property_leads number read line =
    leads_on (judged_property number line) (with_property number read.properties line) (λ properties. Ok (with_properties read properties)) (pair_leads read.properties (property_of number (after_word line)))

after_leads : (number : ℕ) (read : LinesRead) (level : ℕ) (rest : List ℕ) → Leads (judged_after number read level rest) (with_after_line number read level rest)
after_leads number read level rest =
    leads_then (class_of number read.tree (above read.path level)) (λ n. after_said number rest >>= (λ said. Ok tt)) (λ n. after_said number rest >>= (λ said. given_after_body number read n said))
    (λ n. leads_then (after_said number rest) (λ said. Ok tt) (λ said. given_after_body number read n said) (λ said. none_leads tt _))

node_leads : (number : ℕ) (read : LinesRead) (level : ℕ) (first rest : List ℕ) → Leads (judged_node number (word_on read level) first rest) (with_node_words number read level first rest)
node_leads number read level first rest =
    leads_on (judged_node number (word_on read level) first rest) (declared_as number (word_on read level) first rest) (λ d. with_declared number read level d)
    (leads_then (placed number (word_on read level) (word_of first)) (λ word. judged_name number rest) (λ word. with_name number word rest)
    (λ word. leads_by (length (first_word rest) == 0) _ _ _ (with_attributes number word (first_word rest) (after_word rest)) (same_leads _) (none_leads tt _)))

pub words_lead : (number : ℕ) (read : LinesRead) (line : List ℕ) (fault : SuiteFault) → judged_words number read line ≡ Err fault → with_words number read line ≡ Err fault
words_lead number read line =
    leads_then (level_of number (length read.path) line) (λ level. judged_on number read level line) (λ level. with_words_on number read level line)
    (λ level. leads_by (is_property_in read line) _ _ _ (with_declaration number read level line) (property_leads number read line)
    (leads_by (is_after line) _ _ _ _ (after_leads number read level (after_word line)) (node_leads number read level (first_word line) (after_word line))))

-- a node's line that declares a node has a keyword that may stand there, and a name
abbrev pub no_fault : Judged
no_fault = Ok tt

abbrev named_by : ℕ → Bool → Judged
named_by number b = if b then Err (BadLine number) else Ok tt

name_judged : (number : ℕ) (word : Word) (rest : List ℕ) (d : Declaration) (b : Bool) → (if b then Err (BadLine number) else with_attributes number word (first_word rest) (after_word rest)) ≡ Ok d → named_by number b ≡ no_fault
name_judged number word rest d true e = absurd (cc)
name_judged number word rest d false e = refl

placed_judged : (number : ℕ) (rest : List ℕ) (d : Declaration) (word : Result Word SuiteFault) → (word >>= (λ w. with_name number w rest)) ≡ Ok d → (word >>= (λ w. judged_name number rest)) ≡ no_fault
placed_judged number rest d (Ok word) e = name_judged number word rest d (length (first_word rest) == 0) e
placed_judged number rest d (Err fault) e = absurd (cc)

pub node_judged : (number : ℕ) (above : Option Word) (first rest : List ℕ) (d : Declaration) → declared_as number above first rest ≡ Ok d → judged_node number above first rest ≡ no_fault
node_judged number above first rest d e = placed_judged number rest d (placed number above (word_of first)) e

-- what holds anyway holds if memory runs out
pub if_err : {A : Type 0} {Q : Type 0} (result : Result A SuiteFault) → Q → IfErr result (λ fault. fault ≡ NoMemory → Q)
if_err (Ok x) q = tt
if_err (Err fault) q = λ none. q

-- The first line that says something, before which lines say nothing.
pub skipped : (limit number : ℕ) (line : List ℕ) (more : List (List ℕ)) (all : Result LinesRead SuiteFault) → says_nothing line ≡ true → suite_from number (no_lines limit) (line ∷ more) ≡ all
    → suite_from (number + 1) (no_lines limit) more ≡ all
skipped limit number line more all says is = sym (ap (λ b. (if b then Ok (no_lines limit) else with_words number (no_lines limit) line) >>= (λ next. suite_from (number + 1) next more)) says) ∙ is

pub skipped_out : (limit number : ℕ) (line : List ℕ) (more : List (List ℕ)) → says_nothing line ≡ true → MayRunOut (number + 1) (no_lines limit) more → MayRunOut number (no_lines limit) (line ∷ more)
skipped_out limit number line more says out = inr (no_lines limit, ap (λ b. if b then Ok (no_lines limit) else with_words number (no_lines limit) line) says, out)

pub record IsJudged (r : Judged) (text : List (List ℕ)) : Type 0 where
  pub refused : IfErr r (λ fault. (limit : ℕ) → suite_of_lines limit text ≡ Err fault)
  pub real : IfErr r (λ fault. fault ≢ NoMemory)
  pub judged : IfOk r (λ _. (limit : ℕ) → MayRunOut 1 (no_lines limit) text)

pub first_judged : (number : ℕ) (line : List ℕ) (more all : List (List ℕ)) (r : Judged) → ((limit : ℕ) → r ≡ judged_words number (no_lines limit) line) → says_nothing line ≡ false
    → ((limit : ℕ) → suite_from number (no_lines limit) (line ∷ more) ≡ suite_from 1 (no_lines limit) all) → ((limit : ℕ) → MayRunOut number (no_lines limit) (line ∷ more) → MayRunOut 1 (no_lines limit) all) → IsJudged r all
first_judged number line more all (Ok x) e says is out = record { refused = tt; real = tt; judged = λ limit. out limit (inl (says, sym (e limit))) }
first_judged number line more all (Err fault) e says is out =
    let refused : (limit : ℕ) → suite_of_lines limit all ≡ Err fault =
    λ limit. ap (λ r. r >>= (λ read. Ok (parts_of read)))
    (sym (is limit) ∙ ap (λ b. (if b then Ok (no_lines limit) else with_words number (no_lines limit) line) >>= (λ next. suite_from (number + 1) next more)) says
    ∙ ap (λ r. r >>= (λ next. suite_from (number + 1) next more)) (words_lead number (no_lines limit) line fault (sym (e limit)))) in
    record { refused = refused; real = λ none. lines_never 0 all (refused 0 ∙ ap Err none); judged = tt }

-- Lines that are read one by one.
module _ (xs : List (Bor (List ℕ))) (i : ℕ) (d : Bor (List ℕ)) (old : LinesRead) (inside : i < length xs) where
  pub out_here : TakesMemory (i + 1) old (get_or xs i d).now → MayRunOut (i + 1) old (drop i (texts xs))
  out_here takes = subst (MayRunOut (i + 1) old) (sym (texts_drop xs i d inside)) (inl takes)

  pub out_later : (new : LinesRead) → with_line (i + 1) old (get_or xs i d).now ≡ Ok new → MayRunOut (i + 1 + 1) new (drop (i + 1) (texts xs)) → MayRunOut (i + 1) old (drop i (texts xs))
  out_later new read out = subst (MayRunOut (i + 1) old) (sym (texts_drop xs i d inside)) (inr (new, read, out))
