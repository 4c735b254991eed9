-- "The reader of a job holds the text it was lent and the spot it has reached."
use Rattle.std.specs.Prelude.{ℕ, List}
use Rattle.std.specs.Borrow.{Bor}
use Rattle.job.specs.declared.reader.Reader.{Reader}

abbrev pub holding : Bor (List ℕ) → ℕ → Reader
holding text spot = record { text = text; spot = spot }
