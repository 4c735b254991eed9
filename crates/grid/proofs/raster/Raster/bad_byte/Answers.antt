-- `bad_byte` meets its contract: the place of the first bad byte by remainder and quotient, where there is one.
use mathlib.Core.Path.{sym, ap, ◌∙◌}
use Rattle.grid.specs.Code.{place_of}
use Rattle.grid.specs.Raster.{in_raster}
use Rattle.grid.proofs.Next.{bad-some, bad-none}
use Rattle.grid.proofs.raster.Raster.bad_byte.Goals as goal

pub returns-in_err-i : goal.returns-in_err-i
returns-in_err-i c =
    rw c.from_residual.ensures (sym (ap (λ o. place_of (in_raster c.args.self.size.width o)) (bad-none c.args.self.bytes.now (sym c.first_bad.ensures ∙ c.in_err-i.was))))

pub returns : goal.returns
returns c = sym (ap (λ o. place_of (in_raster c.args.self.size.width o)) (bad-some c.args.self.bytes.now (sym c.first_bad.ensures ∙ c.in_ok-i.was)))
