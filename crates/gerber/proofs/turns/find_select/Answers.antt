-- Each aperture is looked for by its number.
use Rattle.std.proofs.Common.{rules, arith}
use mathlib.Core.Path.{◌≡◌, ap, ◌∙◌}
use mathlib.Core.Bool.{Bool}
use Prim.Native.Nat.{ℕ, ◌+◌, ◌-◌}
use lib.ListN.{length}
use Rattle.lists.specs.Lists.{first, from}
use Rattle.gerber.specs.Parts.{found_of, number_line, number_stands, found_select}
use Rattle.gerber.proofs.Compared.{found-all}
use Rattle.gerber.proofs.turns.find_select.Goals as goal

pub returns : goal.returns
unfolding found_select
returns c = let a = c.args in
    let test : ℕ → Bool = number_stands a.text.now a.spot a.s in
    let past : ℕ → ℕ = λ k. a.spot + length (number_line k) in
    let all : c.min.result ≡ a.count = omega (arith, c.min.ensures, c.requires) in
    c.find_first.ensures test past (λ k o l u p. search rules) ∙ ap (λ n. found_of (first test (from 0 (n - 0))) past) all ∙ found-all test past a.count
