-- The plus at pitch 1,000,000 and origin 0, 0, and at an origin left of and below panel zero: document 02's three lines, by evaluation.
use mathlib.Core.Path.{◌≡◌, refl}
use mathlib.Core.List.{List, [], ◌∷◌}
use lib.IntN.{pos, negsuc}
use Rattle.grid.specs.Squares.{Rectangle}
use Rattle.text.specs.Decimal.{digits, decimal, last_digits}
use Rattle.text.specs.Signed.{signed}
use Rattle.gerber.specs.File.{bytes, added, used, place_of, millimetres, aperture_line, select_line, flash_line, centre, aperture_lines, flash_lines, first_line, gerber_file}

abbrev pub plus : List Rectangle
plus = record { first = 0; last = 2; bottom = 1; top = 1 } ∷ record { first = 1; last = 1; bottom = 0; top = 2 } ∷ []

pub plus-file : gerber_file 2 1000000 (pos 0) (pos 0) plus
    ≡ bytes "%TF.FileFunction,Copper,L1,Top*%\n%FSLAX46Y46*%\n%MOMM*%\n%ADD10R,3.000000X1.000000*%\n%ADD11R,1.000000X3.000000*%\nD10*\nX1500000Y1500000D03*\nD11*\nX1500000Y1500000D03*\nM02*\n"
unfolding digits decimal signed first_line added used place_of last_digits millimetres aperture_line select_line flash_line centre aperture_lines flash_lines gerber_file
plus-file = refl

pub small-file : gerber_file 1 2 (negsuc 3) (negsuc 9999999999) plus
    ≡ bytes "G04 #@! TF.FileFunction,Copper,L1,Top*\n%FSLAX46Y46*%\n%MOMM*%\n%ADD10R,0.000006X0.000002*%\n%ADD11R,0.000002X0.000006*%\nD10*\nX-1Y-9999999997D03*\nD11*\nX-1Y-9999999997D03*\nM02*\n"
unfolding digits decimal signed first_line added used place_of last_digits millimetres aperture_line select_line flash_line centre aperture_lines flash_lines gerber_file
small-file = refl
