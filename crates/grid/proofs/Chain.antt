-- The chain of checks: the first that refuses is the answer, or all have passed.
-- Each check is one case of its number. Every entry point and every demand takes a chain apart by these laws alone.
use mathlib.Core.Path.{◌≡◌, refl, sym, ap, subst, ◌∙◌}
use mathlib.Core.Bool.{Bool, true, false}
use mathlib.Core.List.{List, [], ◌∷◌, ◌++◌}
use mathlib.Core.Logic.{by_cases}
use mathlib.Core.Option.{Option, none, some}
use Prim.Native.Nat.{ℕ, suc, ◌≤◌}
use native.Mathlib.Decide.{ℕ_discrete}
use native.Mathlib.Omega.{arith}
use borrow.Author.Tests.{eq-eqb, ne_eqb}
use Rattle.grid.specs.Squares.{Square}
use Rattle.std.specs.Prelude.{Result, Ok, Err}
use Rattle.grid.specs.Answers.{answer, done, refused, check, check_at, or_else, first_refusal, answer_of, answered}
use Rattle.grid.specs.declared.answers.Answer.{Answer}
use Rattle.grid.specs.declared.answers.Refusal.{Refusal}
use Rattle.grid.proofs.Refusals.{refuses}

-- a check passes where its answer refuses nothing
abbrev pub Passes : Answer → Type 0
Passes a = a.number ≡ 0

-- of each answer of a list
abbrev pub Each : (Answer → Type 0) → List Answer → Type 0
Each P [] = Unit {0}
Each P (a ∷ later) = P a × Each P later

-- an answer that refuses, and one that does not
module _ (a next : Answer) where
  pub stands : (Passes a → ⊥) → or_else a next ≡ a
  unfolding or_else
  stands n = rw (ne_eqb a.number 0 n)

  pub gives_way : Passes a → or_else a next ≡ next
  unfolding or_else
  gives_way e = rw (eq-eqb a.number 0 e)

-- the same of the first check of a list
module _ (a : Answer) (later : List Answer) where
  pub passed-first : Passes a → first_refusal (a ∷ later) ≡ first_refusal later
  unfolding first_refusal
  passed-first e = gives_way a (first_refusal later) e

  pub refused-first : (Passes a → ⊥) → first_refusal (a ∷ later) ≡ a
  unfolding first_refusal
  refused-first n = stands a (first_refusal later) n

-- the two cases of an answer
pub pcase {ℓ} : {C : Type ℓ} (a : Answer) → (Passes a → C) → ((Passes a → ⊥) → C) → C
pcase a pass refuse = by_cases (ℕ_discrete a.number 0) pass refuse

-- the elimination law: what holds of each refusal, and of done where every check passes, holds of the chain
pub chain : (P : Answer → Type 0) (cs : List Answer) → Each (λ a. (Passes a → ⊥) → P a) cs → (Each Passes cs → P done) → P (first_refusal cs)
unfolding first_refusal
chain P [] each all = all tt
chain P (a ∷ later) each all =
    pcase a
    (λ e. subst P (sym (gives_way a (first_refusal later) e)) (chain P later each.1 (λ rest. all (e, rest))))
    (λ n. subst P (sym (stands a (first_refusal later) n)) (each.0 n))

-- a chain that passes has passed each check, and back
pub chain-passed : (cs : List Answer) → Passes (first_refusal cs) → Each Passes cs
chain-passed cs =
    chain (λ r. Passes r → Each Passes cs) cs (refusing cs) (λ all e. all)
  where
    refusing : (bs : List Answer) → Each (λ a. (Passes a → ⊥) → Passes a → Each Passes cs) bs
    refusing [] = tt
    refusing (b ∷ bs) = (λ n e. absurd (n e), refusing bs)

pub passed-chain : (cs : List Answer) → Each Passes cs → first_refusal cs ≡ done
unfolding first_refusal
passed-chain [] all = refl
passed-chain (a ∷ later) all = gives_way a (first_refusal later) all.0 ∙ passed-chain later all.1

-- one chain behind the other
pub chain-append : (cs bs : List Answer) → first_refusal (cs ++ bs) ≡ or_else (first_refusal cs) (first_refusal bs)
unfolding first_refusal
chain-append [] bs = sym (gives_way done (first_refusal bs) refl)
chain-append (a ∷ cs) bs =
    pcase a
    (λ e. gives_way a _ e ∙ chain-append cs bs ∙ ap (λ z. or_else z (first_refusal bs)) (sym (gives_way a (first_refusal cs) e)))
    (λ n. stands a _ n ∙ sym (ap (λ z. or_else z (first_refusal bs)) (stands a (first_refusal cs) n) ∙ stands a (first_refusal bs) n))

pub chain_skip : (cs bs : List Answer) → Each Passes cs → first_refusal (cs ++ bs) ≡ first_refusal bs
chain_skip cs bs all = chain-append cs bs ∙ gives_way (first_refusal cs) _ (ap (λ (a : Answer). a.number) (passed-chain cs all))

-- what a check that passes has seen, and which number one that refuses has
pub check-passed : (b : Bool) (n : ℕ) → Passes (check b (suc n)) → b ≡ true
check-passed true n e = refl
check-passed false n e = absurd (omega arith)

pub passed-check : (b : Bool) (n : ℕ) → b ≡ true → Passes (check b n)
passed-check b n e = rw e

pub check_at-passed : (o : Option Square) (n : ℕ) → Passes (check_at o (suc n)) → o ≡ none
check_at-passed none n e = refl
check_at-passed (some s) n e = absurd (omega arith)

pub passed-check_at : (o : Option Square) (n : ℕ) → o ≡ none → Passes (check_at o n)
passed-check_at o n e = rw e

pub check-low : (b : Bool) (n most : ℕ) → n ≤ most → (check b n).number ≤ most
check-low true n most h = omega arith
check-low false n most h = h

pub check_at-low : (o : Option Square) (n most : ℕ) → n ≤ most → (check_at o n).number ≤ most
check_at-low none n most h = omega arith
check_at-low (some s) n most h = h

-- an answer that refuses nothing has no place either: every check is so
abbrev pub Plain : Answer → Type 0
Plain a = Passes a → a ≡ done

pub check-plain : (b : Bool) (n : ℕ) → Plain (check b (suc n))
check-plain true n e = refl
check-plain false n e = absurd (omega arith)

pub check_at-plain : (o : Option Square) (n : ℕ) → Plain (check_at o (suc n))
check_at-plain none n e = refl
check_at-plain (some s) n e = absurd (omega arith)

-- as the code asks: check after check, each behind what stands already
abbrev pub in_turn : Answer → List Answer → Answer
in_turn a [] = a
in_turn a (b ∷ later) = in_turn (or_else a b) later

turn_last : (a : Answer) (cs : List Answer) (b : Answer) → in_turn a (cs ++ (b ∷ [])) ≡ or_else (in_turn a cs) b
turn_last a [] b = refl
turn_last a (c ∷ later) b = turn_last (or_else a c) later b

-- one check more
pub asked : (cs : List Answer) {r s b c : Answer} → r ≡ in_turn done cs → s ≡ or_else r b → b ≡ c → s ≡ in_turn done (cs ++ (c ∷ []))
asked cs {c = c} e f g = f ∙ (λ i. or_else (e i) (g i)) ∙ sym (turn_last done cs c)

module _ (a : Answer) (n : Passes a → ⊥) where
  kept : (cs : List Answer) → in_turn a cs ≡ a
  kept [] = refl
  kept (b ∷ later) = ap (λ z. in_turn z later) (stands a b n) ∙ kept later

turn-from : (a : Answer) (cs : List Answer) → Plain a → Each Plain cs → in_turn a cs ≡ or_else a (first_refusal cs)
unfolding first_refusal
turn-from a [] p all = pcase a (λ e. p e ∙ sym (gives_way a done e)) (λ n. sym (stands a done n))
turn-from a (b ∷ later) p all =
    pcase a
    (λ e. ap (λ z. in_turn z later) (gives_way a b e) ∙ turn-from b later all.0 all.1 ∙ sym (gives_way a _ e))
    (λ n. ap (λ z. in_turn z later) (stands a b n) ∙ kept a n later ∙ sym (stands a _ n))

pub in_turn_lem : (cs : List Answer) → Each Plain cs → in_turn done cs ≡ first_refusal cs
in_turn_lem cs all = turn-from done cs (λ e. refl) all ∙ gives_way done _ refl

-- behind a `?`: a function that was refused answers for the whole chain, and behind one that passed the rest of the chain answers
module _ {T : Type 0} {x : Result T Refusal} (cs bs : List Answer) (e : answered x ≡ first_refusal cs) where
  pub chain-stops : {r : Refusal} → x ≡ Err r → answer_of r ≡ first_refusal (cs ++ bs)
  chain-stops {r} q =
      let f : answer_of r ≡ first_refusal cs = sym (ap answered q) ∙ e in
      sym (chain-append cs bs ∙ ap (λ z. or_else z (first_refusal bs)) (sym f) ∙ stands (answer_of r) (first_refusal bs) (refuses r))

  pub chain-past : {t : T} → x ≡ Ok t → Each Passes cs
  chain-past q = chain-passed cs (ap (λ (a : Answer). a.number) (sym e ∙ ap answered q))

  pub chain-goes-on : {t : T} → x ≡ Ok t → first_refusal (cs ++ bs) ≡ first_refusal bs
  chain-goes-on q = chain_skip cs bs (chain-past q)

-- of a list whose first check passed, and of one whose first check did not
pub check-goes-on : (b : Bool) (n : ℕ) (later : List Answer) → b ≡ true → first_refusal (check b n ∷ later) ≡ first_refusal later
check-goes-on b n later t = ap (λ (v : Bool). first_refusal (check v n ∷ later)) t ∙ passed-first done later refl

pub check-stops : (b : Bool) (n : ℕ) (later : List Answer) → b ≡ false → first_refusal (check b (suc n) ∷ later) ≡ refused (suc n)
check-stops b n later f = ap (λ (v : Bool). first_refusal (check v (suc n) ∷ later)) f ∙ refused-first (refused (suc n)) later (λ e. omega arith)

pub check_at-goes-on : (o : Option Square) (n : ℕ) (later : List Answer) → o ≡ none → first_refusal (check_at o n ∷ later) ≡ first_refusal later
check_at-goes-on o n later t = ap (λ (v : Option Square). first_refusal (check_at v n ∷ later)) t ∙ passed-first done later refl

pub check_at-stops : (o : Option Square) (n : ℕ) (later : List Answer) {s : Square} → o ≡ some s → first_refusal (check_at o (suc n) ∷ later) ≡ answer (suc n) s.column s.row
check_at-stops o n later {s} f = ap (λ (v : Option Square). first_refusal (check_at v (suc n) ∷ later)) f ∙ refused-first (answer (suc n) s.column s.row) later (λ e. omega arith)
