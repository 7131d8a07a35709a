-- The parameters of three sources, and what they answer.
use Rattle.std.specs.Prelude.{ℕ, List, [], Option, None}
use Rattle.std.specs.Option.{option_or}
use Rattle.config_params.specs.declared.source.Source.{Source}
use Rattle.config_params.specs.declared.source.Source.TheVariants.{Request, System, File}
use Rattle.config_params.specs.Pairs.{Pair}
use Rattle.config_params.specs.Tables.{with_pair, value_in}

-- what each source says, each key once
pub record Parameters : Type 0 where
  pub request : List Pair
  pub system : List Pair
  pub file : List Pair

-- before anything is said
abbrev pub nothing_said : Parameters
nothing_said = record { request = []; system = []; file = [] }

-- what one source says
abbrev pub table_at : Parameters → Source → List Pair
table_at params Request = params.request
table_at params System = params.system
table_at params File = params.file

-- with another table for one source
abbrev pub with_table : Parameters → Source → List Pair → Parameters
with_table params Request table = record { request = table; system = params.system; file = params.file }
with_table params System table = record { request = params.request; system = table; file = params.file }
with_table params File table = record { request = params.request; system = params.system; file = table }

-- with one more pair of a source; the key's value there is replaced
abbrev pub with_value : Parameters → Source → Pair → Parameters
with_value params source pair = with_table params source (with_pair (table_at params source) pair)

-- what the sources before this one answer for a key
abbrev pub answer_before : Parameters → Source → List ℕ → Option (List ℕ)
answer_before params Request key = None
answer_before params System key = value_in params.request key
answer_before params File key = option_or (value_in params.request key) (value_in params.system key)

-- the value of a key: that of the first source that has the key
abbrev pub answer : Parameters → List ℕ → Option (List ℕ)
answer params key = option_or (answer_before params File key) (value_in params.file key)

-- the value of a key where some parameters stand over others: theirs, or else that of the others
unfoldable pub answer_over : Parameters → Parameters → List ℕ → Option (List ℕ)
answer_over over under key = option_or (answer over key) (answer under key)
