-- For inner functions alone: the code's version and its number.
use Rattle.std.specs.Prelude.{ℕ}
use Rattle.gerber.specs.declared.versions.Version.{Version}
use Rattle.gerber.specs.declared.versions.Version.TheVariants.{Comments, Attributes}

abbrev pub number_of : Version → ℕ
number_of Comments = 1
number_of Attributes = 2
