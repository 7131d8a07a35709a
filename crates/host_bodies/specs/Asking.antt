-- What becomes of a channel: it stays the one that came, asked for one test after the other.
use Rattle.std.specs.Prelude.{◌≡◌, ℕ, List, Option, length, refl}
use Rattle.host_bodies.specs.Channels.{link_of, Link}
use Rattle.host_bodies.specs.HostJobs.{IsAskedFor}
use Rattle.host_bodies.specs.declared.channel.Channel.{Channel}
use Rattle.host_bodies.specs.declared.heard.Heard.{Heard}

-- the link is the first one, or one that was asked for a test more, of which this was heard
pub data IsAskedOn (most : ℕ) (first : Link) : Link → Type 0 where
  unasked : IsAskedOn most first first
  asked : {old new : Link} (request what id : List ℕ) (heard : Heard) → IsAskedOn most first old → IsAskedFor request what id most old new heard → IsAskedOn most first new

module _ {R W : Type 0} (contents : W → Option (List ℕ)) (remaining : R → Option (List ℕ)) where
  -- the first channel is this one as it came, with as much room for a line
  pub record HasLedTo (first now : Channel R W) : Type 0 where
    pub room : length now.room.items ≡ length first.room.items
    pub on : IsAskedOn (length first.room.items) (link_of contents remaining first) (link_of contents remaining now)

  pub unasked_channel : (channel : Channel R W) → HasLedTo channel channel
  unasked_channel channel = record { room = refl; on = unasked }
