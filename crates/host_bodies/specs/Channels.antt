-- What a channel to a host is, and what becomes of it when it is asked for a test.
use Rattle.std.specs.Prelude.{◌≡◌, ℕ, ◌<◌, ◌⊎◌, false, List, [], ◌∷◌, ◌++◌, length, take, Option, Some, None, Result, Err, MatchResult}
use Rattle.std.specs.Str.{IsUtf8}
use Rattle.std.specs.Io.KnownBytes.{Appends, Consumes}
use Rattle.host_bodies.specs.Answers.{ending_of, Tells}
use Rattle.host_bodies.specs.Lines.{has_feed, IsCutOff}
use Rattle.host_bodies.specs.declared.channel.Channel.{Channel}
use Rattle.host_bodies.specs.declared.heard.Answer.{Answer}
use Rattle.host_bodies.specs.declared.silence.Silence.{Silence}
use Rattle.host_bodies.specs.declared.silence.Silence.TheVariants.{Unsent, NoAnswer, NoMemory}

-- what a host was told, and what it has still to say, where these are known; and why the channel is closed, if it is
pub record Link : Type 0 where
  pub told : Option (List ℕ)
  pub left : Option (List ℕ)
  pub closed : Option Silence

module _ {R W : Type 0} (contents : W → Option (List ℕ)) (remaining : R → Option (List ℕ)) where
  abbrev pub link_of : Channel R W → Link
  link_of c = record { told = contents c.writer; left = remaining c.reader; closed = c.closed }

-- the request was written whole, once, and then this line was read, and its line feed
pub record IsExchange (request line : List ℕ) (old new : Link) : Type 0 where
  pub written : Appends old.told new.told request
  pub flat : has_feed line ≡ false
  pub read : Consumes old.left new.left (line ++ 10 ∷ [])

-- the writer took the first bytes of the request and no more, and nothing was read
pub record IsUnsent (request : List ℕ) (why : Silence) (old new : Link) : Type 0 where
  pub is : why ≡ Unsent
  pub sent : ℕ
  pub fewer : sent < length request
  pub written : Appends old.told new.told (take sent request)
  pub unread : new.left ≡ old.left

-- the request was written whole, once, and no line was read
pub record IsUnread (request : List ℕ) (most : ℕ) (why : Silence) (old new : Link) : Type 0 where
  pub written : Appends old.told new.told request
  pub cut_off : IsCutOff why most old.left new.left

-- why a line is no answer to the test of this id
abbrev pub IsNoAnswer : (what id line : List ℕ) → Silence → Type 0
IsNoAnswer what id line why = ((why ≡ NoAnswer) × (IsUtf8 line → ending_of what id line ≡ None)) ⊎ (why ≡ NoMemory)

-- a line was read that is no answer
pub record IsMisread (request what id : List ℕ) (why : Silence) (old new : Link) : Type 0 where
  pub line : List ℕ
  pub exchange : IsExchange request line old new
  pub is_none : IsNoAnswer what id line why

-- there is no answer, for this reason
abbrev pub IsFailed : (request what id : List ℕ) → (most : ℕ) → Silence → (old new : Link) → Type 0
IsFailed request what id most why old new = IsUnsent request why old new ⊎ IsUnread request most why old new ⊎ IsMisread request what id why old new

-- the line that was read is kept, and by it is told what it says of the test
pub record IsAnswered (request what id : List ℕ) (answer : Answer) (old new : Link) : Type 0 where
  pub exchange : IsExchange request answer.line old new
  pub tells : Tells what id answer.line answer.outcome
  pub is_open : new.closed ≡ None

-- An open channel is asked: there is an answer, and it stays open, or there is none, and it is closed with the reason. A closed one is left alone.
abbrev pub IsAsked : (request what id : List ℕ) → (most : ℕ) → (old new : Link) → Result Answer Silence → Type 0
IsAsked request what id most old new result = go old.closed
  where
    go : Option Silence → Type 0
    go (Some why) = (new ≡ old) × (result ≡ Err why)
    go None = MatchResult result (λ answer. IsAnswered request what id answer old new) (λ why. (new.closed ≡ Some why) × IsFailed request what id most why old new)
