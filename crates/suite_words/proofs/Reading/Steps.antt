-- What one step of a line refuses, all of it refuses.
use Rattle.std.proofs.Common.{◌≡◌, Result, sym, ap, ◌∙◌}
use Rattle.suite_words.specs.declared.suite.fault.SuiteFault.{SuiteFault}
use Rattle.suite_words.specs.Reading.Faults.{Fails}
use Rattle.unique_id.specs.Answers.{◌>>=◌}

-- a fault of the first step is one of both
pub fails_then : {A B : Type 0} (fault : SuiteFault) (r : Result A SuiteFault) (f : A → Result B SuiteFault) → Fails fault r → Fails fault (r >>= f)
fails_then fault r f h = λ other. ap (λ x. x >>= f) (h other)

-- and of what equals them
pub fails_as : {A : Type 0} (fault : SuiteFault) (r s : Result A SuiteFault) → r ≡ s → Fails fault r → Fails fault s
fails_as fault r s e h = λ other. sym e ∙ h other
