-- The text has a byte at the spot, and it is the byte that was asked for; or not.
use Rattle.std.proofs.Common.{sym}
use Rattle.text.proofs.Stands.{byte-off, byte-there}
use Rattle.text.proofs.read.has_byte.Goals as goal

pub returns-in-Some : goal.returns-in-Some
returns-in-Some c = let b = c.in-Some.ensures.lookup in sym (byte-there _ _ _ b.3.0 (b.3.1 0))

pub returns-in-None : goal.returns-in-None
returns-in-None c = let n = c.in-None.ensures.lookup in sym (byte-off _ _ _ n.3)
