-- Counts by line that change by several intervals, one after the other. Each count by cases on the way it goes; `enter`, `leave` and the loops around them use it.
use mathlib.Core.Path.{◌≡◌, refl, sym, ap, subst, ◌∙◌}
use mathlib.Core.Bool.{Bool, true, false, cond, ◌||◌, or-true, false≢true}
use mathlib.Core.List.{List, [], ◌∷◌, ◌++◌}
use Prim.Native.Nat.{ℕ, ◌+◌, ◌<◌, min}
use native.Mathlib.Omega.{arith}
use lib.Dec.{eqb}
use lib.ListN.{length, get_or}
use borrow.Author.Tests.{eq-eqb}
use Rattle.lists.proofs.Counting.{count-append}
use Rattle.lists.proofs.Members.{any_append}
use Rattle.method.specs.Intervals.{Interval as Span, same, member}
use Rattle.lists.proofs.Truth.{bcase}
use Rattle.method.proofs.Lines.{path_same, same_path}
use Rattle.counts.specs.Tally.{Tallied, Fits, Counted, AllFit, beginning, ending, Changed, CanChange, Since}

-- one count
module _ (more : Bool) where
  pub tallied_none : (h : ℕ) → Tallied more h 0 h
  tallied_none h = elim more as (λ b. Tallied b h 0 h) [ true ↦ omega arith | false ↦ omega arith ]

pub tallied_then : (more : Bool) (h j h₁ k h₂ : ℕ) → Tallied more h j h₁ → Tallied more h₁ k h₂ → Tallied more h (j + k) h₂
tallied_then true h j h₁ k h₂ p q = omega arith
tallied_then false h j h₁ k h₂ p q = omega arith

pub fits-first : (more : Bool) (h j k : ℕ) → Fits more h (j + k) → Fits more h j
fits-first true h j k p = omega arith
fits-first false h j k p = omega arith

pub fits-then : (more : Bool) (h j h₁ k : ℕ) → Fits more h (j + k) → Tallied more h j h₁ → Fits more h₁ k
fits-then true h j h₁ k p q = omega arith
fits-then false h j h₁ k p q = omega arith

-- by equally many
pub tallied_as : (more : Bool) (h j k h₁ : ℕ) → j ≡ k → Tallied more h j h₁ → Tallied more h k h₁
tallied_as more h j k h₁ e p = rw e at p

-- every line's
module _ (more : Bool) (held : List ℕ) where
  pub counted_none : (f : ℕ → ℕ) → ((x : ℕ) → f x ≡ 0) → Counted more held f held
  counted_none f e = record { as_long = refl; each = λ x h. tallied_as more (get_or held x 0) 0 (f x) (get_or held x 0) (sym (e x)) (tallied_none more (get_or held x 0)) }

  pub counted_as : (f g : ℕ → ℕ) (held' : List ℕ) → ((x : ℕ) → f x ≡ g x) → Counted more held f held' → Counted more held g held'
  counted_as f g held' e C = record { as_long = C.as_long; each = λ x h. tallied_as more (get_or held x 0) (f x) (g x) (get_or held' x 0) (e x) (C.each x h) }

  -- first f, then g
  module _ (f g : ℕ → ℕ) (held₁ : List ℕ) (C : Counted more held f held₁) where
    pub counted-then : (held₂ : List ℕ) → Counted more held₁ g held₂ → Counted more held (λ x. f x + g x) held₂
    counted-then held₂ D =
        record {
          as_long = D.as_long ∙ C.as_long;
          each = λ x h.
              tallied_then more (get_or held x 0) (f x) (get_or held₁ x 0) (g x) (get_or held₂ x 0) (C.each x h) (D.each x (omega (arith, C.as_long)));
        }

    pub all-fit-then : AllFit more held (λ x. f x + g x) → AllFit more held₁ g
    all-fit-then F x h =
        fits-then more (get_or held x 0) (f x) (get_or held₁ x 0) (g x) (F x (omega (arith, C.as_long))) (C.each x (omega (arith, C.as_long)))

  pub all-fit-first : (f g : ℕ → ℕ) → AllFit more held (λ x. f x + g x) → AllFit more held f
  all-fit-first f g F x h = fits-first more (get_or held x 0) (f x) (g x) (F x h)

  pub all-fit_as : (f g : ℕ → ℕ) → ((x : ℕ) → f x ≡ g x) → AllFit more held f → AllFit more held g
  all-fit_as f g e F x h = subst (Fits more (get_or held x 0)) (e x) (F x h)

-- one count changed by one
module _ (more : Bool) (held : List ℕ) (l : ℕ) (f : ℕ → ℕ) (one : (x : ℕ) → f x ≡ cond (eqb l x) 1 0) where
  here : f l ≡ 1
  here = one l ∙ rw (eq-eqb l l refl)

  pub one-fits : l < length held → AllFit more held f → Fits more (get_or held l 0) 1
  one-fits h F = subst (Fits more (get_or held l 0)) here (F l h)

-- one interval
module _ (i : Span) where
  pub one-begins : (x : ℕ) → beginning (i ∷ []) x ≡ cond (eqb i.left x) 1 0
  one-begins x = omega arith

  pub one-ends : (x : ℕ) → ending (i ∷ []) x ≡ cond (eqb i.right x) 1 0
  one-ends x = omega arith

  module _ (more : Bool) (begins ends : List ℕ) (C : CanChange more begins ends (i ∷ [])) where
    pub one_short : (i.left < length begins) × (i.right < length ends)
    one_short = C.short i (rw (path_same i i refl))

    pub begin_fits : Fits more (get_or begins i.left 0) 1
    begin_fits = one-fits more begins i.left (beginning (i ∷ [])) one-begins one_short.0 C.begun

    pub end_fits : Fits more (get_or ends i.right 0) 1
    end_fits = one-fits more ends i.right (ending (i ∷ [])) one-ends one_short.1 C.ended

-- the least line at which one of a list begins, while it is gone through
pub record Seeking (l₀ : ℕ) (all : List Span) (l : ℕ) (rest : List Span) : Type 0 where
  pub on : (f : ℕ) → Since l rest f → Since l₀ all f

pub seeking_start : (l : ℕ) (all : List Span) → Seeking l all l all
seeking_start l all = record { on = λ f S. S }

module _ {l₀ l : ℕ} {all rest : List Span} (S : Seeking l₀ all l rest) where
  pub seeking_over : rest ≡ [] → Since l₀ all l
  seeking_over e = S.on l (record { given = omega arith; begun = λ j m. absurd (false≢true (sym (ap (member j) e) ∙ m)) })

  pub seeking_as : {rest' : List Span} → rest ≡ rest' → Seeking l₀ all l rest'
  seeking_as e = subst (Seeking l₀ all l) e S

  pub seeking_next : (i : Span) (rest' : List Span) → rest ≡ i ∷ rest' → {r : ℕ} → r ≡ min l i.left → Seeking l₀ all r rest'
  seeking_next i rest' e {r} q =
      record {
        on = λ f L.
            S.on f
            (record {
              given = omega (arith, L.given);
              begun = λ j m.
                  bcase (same j i)
                  (λ t. omega (arith, L.given, ap (λ (k : Span). k.left) (same_path j i t)))
                  (λ t. L.begun j (rw t at (sym (ap (member j) e) ∙ m)));
            });
      }

-- counts that have changed by some intervals of a list, and are to change by the rest
pub record Going (more : Bool) (begins₀ ends₀ : List ℕ) (all : List Span) (begins ends : List ℕ) (rest : List Span) : Type 0 where
  pub begins-long : length begins ≡ length begins₀
  pub ends-long : length ends ≡ length ends₀
  pub can : CanChange more begins ends rest
  pub on : (b e : List ℕ) → Changed more begins ends rest b e → Changed more begins₀ ends₀ all b e

pub going_start : (more : Bool) (begins ends : List ℕ) (all : List Span) → CanChange more begins ends all → Going more begins ends all begins ends all
going_start more begins ends all C = record { begins-long = refl; ends-long = refl; can = C; on = λ b e D. D }

module _ {more : Bool} {begins₀ ends₀ begins ends : List ℕ} {all rest : List Span} (G : Going more begins₀ ends₀ all begins ends rest) where
  pub going_over : rest ≡ [] → Changed more begins₀ ends₀ all begins ends
  going_over e =
      G.on begins ends
      (record {
        begun = counted_none more begins (beginning rest) (λ x. ap (λ s. beginning s x) e);
        ended = counted_none more ends (ending rest) (λ x. ap (λ s. ending s x) e);
      })

  -- the same rest
  pub going_as : {rest' : List Span} → rest ≡ rest' → Going more begins₀ ends₀ all begins ends rest'
  going_as e = subst (Going more begins₀ ends₀ all begins ends) e G

  -- the next part of the list
  module _ (part rest' : List Span) (e : rest ≡ part ++ rest') where
    begin_then : (x : ℕ) → beginning rest x ≡ beginning part x + beginning rest' x
    begin_then x = ap (λ s. beginning s x) e ∙ count-append (λ i. eqb i.left x) part rest'

    end-then : (x : ℕ) → ending rest x ≡ ending part x + ending rest' x
    end-then x = ap (λ s. ending s x) e ∙ count-append (λ i. eqb i.right x) part rest'

    begins-fit : AllFit more begins (λ x. beginning part x + beginning rest' x)
    begins-fit = all-fit_as more begins (beginning rest) (λ x. beginning part x + beginning rest' x) begin_then G.can.begun

    ends-fit : AllFit more ends (λ x. ending part x + ending rest' x)
    ends-fit = all-fit_as more ends (ending rest) (λ x. ending part x + ending rest' x) end-then G.can.ended

    either : (j : Span) → member j rest ≡ (member j part || member j rest')
    either j = ap (member j) e ∙ any_append (same j) part rest'

    pub next_can : CanChange more begins ends part
    next_can =
        record {
          short = λ j m. G.can.short j (either j ∙ rw m);
          begun = all-fit-first more begins (beginning part) (beginning rest') begins-fit;
          ended = all-fit-first more ends (ending part) (ending rest') ends-fit;
        }

    pub going_next : {b₁ e₁ : List ℕ} → Changed more begins ends part b₁ e₁ → Going more begins₀ ends₀ all b₁ e₁ rest'
    going_next {b₁} {e₁} C =
        record {
          begins-long = C.begun.as_long ∙ G.begins-long;
          ends-long = C.ended.as_long ∙ G.ends-long;
          can = record {
            short = λ j m. let s = G.can.short j (either j ∙ rw (m, or-true (member j part))) in (omega (arith, C.begun.as_long), omega (arith, C.ended.as_long));
            begun = all-fit-then more begins (beginning part) (beginning rest') b₁ C.begun begins-fit;
            ended = all-fit-then more ends (ending part) (ending rest') e₁ C.ended ends-fit;
          };
          on = λ b' e' D.
              G.on b' e'
              (record {
                begun =
                    counted_as more begins (λ x. beginning part x + beginning rest' x) (beginning rest) b' (λ x. sym (begin_then x))
                    (counted-then more begins (beginning part) (beginning rest') b₁ C.begun b' D.begun);
                ended =
                    counted_as more ends (λ x. ending part x + ending rest' x) (ending rest) e' (λ x. sym (end-then x))
                    (counted-then more ends (ending part) (ending rest') e₁ C.ended e' D.ended);
              });
        }
