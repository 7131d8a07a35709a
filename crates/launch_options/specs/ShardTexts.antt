-- What `--shard` asks for.
use Rattle.std.specs.Prelude.{ℕ, ◌==◌, codes, Bool, if◌then◌else◌, Option, Some, None, option_map}
use Rattle.std.specs.List.{list_any, before_first, after_first}
use Rattle.std.specs.Str.{bytes_eq}
use Rattle.selectors.specs.declared.dealing.Dealing.{Dealing}
use Rattle.selectors.specs.declared.dealing.Dealing.TheVariants.{InTurn, ByHash}
use Rattle.selectors.specs.Shards.{Part, part_of}
use Rattle.suite_words.specs.Numbers.{number_up_to}
use Rattle.launch_options.specs.Given.{Text}

abbrev pub is_slash : ℕ → Bool
is_slash byte = byte == 47

abbrev pub is_colon : ℕ → Bool
is_colon byte = byte == 58

-- shard K of N by two texts, where each is a number from 0 to 4,095 and there is such a shard
abbrev pub shard_by : Dealing → Option ℕ → Option ℕ → Option Part
shard_by dealing None count = None
shard_by dealing (Some number) None = None
shard_by dealing (Some number) (Some count) = part_of number count dealing

-- the shard that a text K/N names, if there is one
abbrev pub dealt_in : Dealing → Text → Option Part
dealt_in dealing text =
    if list_any is_slash text
    then shard_by dealing (number_up_to 4095 (before_first is_slash text)) (number_up_to 4095 (after_first is_slash text))
    else None

-- the shard that a text K/N or hash:K/N names, if there is one
abbrev pub shard_in : Text → Option Part
shard_in text =
    if list_any is_colon text
    then (if bytes_eq (before_first is_colon text) (codes "hash") then dealt_in ByHash (after_first is_colon text) else None)
    else dealt_in InTurn text

-- what `--shard` asks for: this shard, or, where it is not given, all
abbrev pub shard_named : Option Text → Option (Option Part)
shard_named None = Some None
shard_named (Some text) = option_map Some (shard_in text)
