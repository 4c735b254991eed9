-- The text from the spot on has as many bytes as the word, and each of them is the word's; or not.
use Rattle.std.proofs.Common.{arith, rules, length, refl, sym, ◌∙◌}
use Rattle.std.proofs.lemmas.Iterator.{YieldsList-from_range}
use Rattle.std.proofs.lemmas.Iterator.Search.{all_from_yields_List}
use Rattle.text.proofs.Stands.{same, some-found, word-short, word-each}
use Rattle.text.proofs.read.read_word.Goals as goal

pub returns-in_err-front : goal.returns-in_err-front
returns-in_err-front c = let n = c.in_err-front.ensures.lookup in c.from_residual.ensures ∙ sym (word-short _ _ _ c.rest.ensures (grind arith))

pub returns : goal.returns
returns c =
    let f = c.in_ok-front.ensures.lookup in
    let p = same c.args.word.now c.in_ok-front.front.now in
    let a = all_from_yields_List p _ _ c.all.result c.all.ensures.ran (YieldsList-from_range 0 (length c.args.word.now) _ refl (omega arith)) (λ x b q k. search rules) in
    c.then_some.ensures ∙ some-found _ _ ∙ sym (word-each _ _ _ c.rest.ensures f.0.1 f.0.2 a)
