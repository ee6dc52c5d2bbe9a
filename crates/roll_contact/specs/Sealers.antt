-- What is kept of a key.
use Rattle.sha2.specs.Hashers.{Holds256}
use Rattle.sha2.specs.declared.Sha256.{Sha256}
use Rattle.roll_contact.specs.Keys.{padded}
use Rattle.roll_contact.specs.declared.key.Key.{Key}
use Rattle.roll_contact.specs.declared.seal.TheConstants.{INNER, OUTER}

-- what SHA-256 is at after a key's two pads
pub record AreStatesOf (key : Key) (first second : Sha256) : Type 0 where
  pub inner : Holds256 first (padded INNER key)
  pub outer : Holds256 second (padded OUTER key)
