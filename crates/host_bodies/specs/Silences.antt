-- What is told of a test to which there is no answer.
use Rattle.std.specs.Prelude.{ℕ, List, codes}
use Rattle.host_bodies.specs.declared.silence.Silence.{Silence}
use Rattle.host_bodies.specs.declared.silence.Silence.TheVariants.{NoHost, Unsent, Ended, Unread, TooLong, Unasked, NoAnswer, NoMemory}

abbrev pub silence_text : Silence → List ℕ
silence_text NoHost = codes "there is no host"
silence_text Unsent = codes "the host takes nothing"
silence_text Ended = codes "the host has ended"
silence_text Unread = codes "the host is unreadable"
silence_text TooLong = codes "the answer is too long"
silence_text Unasked = codes "the host said too much"
silence_text NoAnswer = codes "no answer to this test"
silence_text NoMemory = codes "no memory"
