-- The text of the file is the one that there is.
use Rattle.std.proofs.Common.{Some, ap, ◌∙◌, string_bytes}
use Rattle.word_files.specs.Reading.{words_in}
use Rattle.word_files.proofs.Texts.{if_read}
use Rattle.word_files.proofs.files.words_of_file.Goals as goal

pub returns-in-Some : goal.returns-in-Some
returns-in-Some g c = if_read c.words_in.result c.words_in.ensures.exact (λ words is. (Some (string_bytes c.in-Some.text), is ∙ ap words_in c.as_str.ensures.value))
