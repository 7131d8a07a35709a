-- What the characters so far make.
use Rattle.std.proofs.Common.{◌≡◌, fold, map, string_bytes}
use Rattle.word_files.specs.Reading.{Read, at_start, read_char}
use Rattle.word_files.proofs.reading.read_words.Given as goal

abbrev pub invariant-loop-c : goal.invariant-loop-c
invariant-loop-c l =
    let so_far : Read = record { place = l.place; word = string_bytes l.word; words = map string_bytes l.words.items } in
    so_far ≡ fold read_char at_start l.yielded
