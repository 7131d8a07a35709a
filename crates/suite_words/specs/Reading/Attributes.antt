-- The attributes of a line, which stand before its verdict: `#TAG`; on a test and a dynamic one `spin=N` and `@slow=MS`; on a factory `pulls=N`; and, but for an engine and a dynamic test, `@concurrent`, `@same_thread`, `lock=KEY`
-- and `isolated`.
use Rattle.std.specs.Prelude.{ℕ, ◌&&◌, Bool, true, false, codes, List, [], ◌∷◌, if◌then◌else◌, Option, Some, None, Result, Ok, Err}
use Rattle.std.specs.List.{after_first}
use Rattle.std.specs.Option.{is_some, option_map_or}
use Rattle.std.specs.Str.{trim, bytes_eq}
use Rattle.descriptor.specs.declared.mode.Mode.{Mode}
use Rattle.descriptor.specs.declared.mode.Mode.TheVariants.{SameThread, Concurrent}
use Rattle.tag_expr.specs.Tags.{tag_refusal}
use Rattle.tag_expr.specs.TagSets.{with_tag}
use Rattle.suite_words.specs.declared.suite.words.Word.{Word}
use Rattle.suite_words.specs.declared.suite.words.Word.TheVariants.{Engine, Class, Test, Factory, Dyn}
use Rattle.suite_words.specs.declared.suite.attributes.Attribute.{Attribute}
use Rattle.suite_words.specs.declared.suite.attributes.Attribute.TheVariants.{Tag, Spin, Slow, Pulls, Runs, Lock, Isolated}
use Rattle.suite_words.specs.declared.suite.attributes.Attributes.{Attributes}
use Rattle.suite_words.specs.declared.suite.fault.SuiteFault.{SuiteFault}
use Rattle.suite_words.specs.declared.suite.fault.SuiteFault.TheVariants.{BadLine}
use Rattle.suite_words.specs.Words.{words_in}
use Rattle.unique_id.specs.Answers.{◌>>=◌}
use Rattle.suite_words.specs.Reading.Lines.{is_number_sign, begins_with_sign, after_word}
use Rattle.suite_words.specs.Reading.Locks.{with_lock_of}
use Rattle.suite_words.specs.Reading.Pulls.{is_pulls}
use Rattle.suite_words.specs.Reading.Slow.{is_slow, limit_of}
use Rattle.suite_words.specs.Reading.Spins.{key_of, value_of, is_spin, count_of}

-- what follows the first number sign of a token
abbrev pub after_sign : List ℕ → List ℕ
after_sign text = after_first is_number_sign text

-- whether a node of this keyword may declare a mode, locks and isolation
abbrev pub may_declare : Word → Bool
may_declare Engine = false
may_declare Class = true
may_declare Test = true
may_declare Factory = true
may_declare Dyn = false

-- the attribute by which a token with this key declares how a node is executed, if it is one
abbrev pub declaration_in : List ℕ → List ℕ → Option Attribute
declaration_in text key =
    if bytes_eq text (codes "@concurrent") then Some (Runs Concurrent)
    else (if bytes_eq text (codes "@same_thread") then Some (Runs SameThread)
    else (if bytes_eq text (codes "isolated") then Some Isolated else (if bytes_eq key (codes "lock") then Some Lock else None)))

-- whether a line of this keyword may have tags: one of a dynamic test has none
abbrev pub takes_tags : Word → Bool
takes_tags Dyn = false
takes_tags word = true

-- the attribute that a token of a line is, if it is one that a node of this keyword may have
abbrev pub attribute_of : Word → List ℕ → Option Attribute
attribute_of word text =
    if takes_tags word && begins_with_sign text then Some Tag else (
    if is_spin word (key_of text) then Some Spin else (
    if is_slow word (key_of text) then Some Slow else (
    if is_pulls word (key_of text) then Some Pulls else (
    if may_declare word then declaration_in text (key_of text) else None))))

-- before the first attribute
abbrev pub no_attributes : Attributes
no_attributes = record { tags = []; spin = None; slow = None; pulls = None; mode = None; locks = []; isolated = false }

-- with the tag that a text is; a text that is none is a faulty line
abbrev pub with_tag_of : ℕ → Attributes → List ℕ → Result Attributes SuiteFault
with_tag_of number said text = if is_some (tag_refusal text) then Err (BadLine number) else Ok (record said { tags = with_tag said.tags (trim text) })

-- with how far the body counts first, at most to 1,000,000, which a line may say once
abbrev pub with_spin_of : ℕ → Attributes → List ℕ → Result Attributes SuiteFault
with_spin_of number said value =
    if is_some said.spin then Err (BadLine number) else (count_of number 1000000 value >>= (λ spin. Ok (record said { spin = Some spin })))

-- with from how many milliseconds on the body is slow, which a line may say once
abbrev pub with_slow_of : ℕ → Attributes → List ℕ → Result Attributes SuiteFault
with_slow_of number said value = if is_some said.slow then Err (BadLine number) else (limit_of number value >>= (λ limit. Ok (record said { slow = Some limit })))

-- with how many tests the body registers, at most 4,096, which a line may say once
abbrev pub with_pulls_of : ℕ → Attributes → List ℕ → Result Attributes SuiteFault
with_pulls_of number said value =
    if is_some said.pulls then Err (BadLine number) else (count_of number 4096 value >>= (λ pulls. Ok (record said { pulls = Some pulls })))

-- with the mode in which the node is executed, which a line may say once
abbrev pub with_mode : ℕ → Attributes → Mode → Result Attributes SuiteFault
with_mode number said mode = if is_some said.mode then Err (BadLine number) else Ok (record said { mode = Some mode })

-- with the lock that a value names
abbrev pub with_lock : ℕ → Attributes → List ℕ → Result Attributes SuiteFault
with_lock number said value = with_lock_of number said.locks value >>= (λ locks. Ok (record said { locks = locks }))

-- with what an attribute says, which is this token of the line
abbrev pub with_attribute : ℕ → Attributes → List ℕ → Attribute → Result Attributes SuiteFault
with_attribute number said text Tag = with_tag_of number said (after_sign text)
with_attribute number said text Spin = with_spin_of number said (value_of text)
with_attribute number said text Slow = with_slow_of number said (value_of text)
with_attribute number said text Pulls = with_pulls_of number said (value_of text)
with_attribute number said text (Runs mode) = with_mode number said mode
with_attribute number said text Lock = with_lock number said (value_of text)
with_attribute number said text Isolated = Ok (record said { isolated = true })

-- the attributes at the front of these tokens, after those that were read, and what then follows in the text of the tokens
abbrev pub attributes_from : ℕ → Word → Attributes → List (List ℕ) → List ℕ → Result (Attributes × List ℕ) SuiteFault
attributes_from number word said [] left = Ok (said, left)
attributes_from number word said (text ∷ more) left =
    option_map_or (λ attribute. with_attribute number said text attribute >>= (λ next. attributes_from number word next more (after_word left))) (attribute_of word text) (Ok (said, left))

-- the attributes at the front of a text, and what follows them
abbrev pub attributes_of : ℕ → Word → List ℕ → Result (Attributes × List ℕ) SuiteFault
attributes_of number word text = attributes_from number word no_attributes (words_in text) text

-- how far the body counts first: where nothing is said, not at all
abbrev pub spin_said : Attributes → ℕ
spin_said said = option_map_or (λ spin. spin) said.spin 0

-- how many tests the body registers: where nothing is said, none
abbrev pub pulls_said : Attributes → ℕ
pulls_said said = option_map_or (λ pulls. pulls) said.pulls 0
