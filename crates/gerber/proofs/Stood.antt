-- What stands at a spot of a file, line by line: a line that stands there is passed, and no other line of its kind stands there.
-- A kind of line is told by its first byte; within a kind, printed numbers are apart. Reading a file back uses it.
use mathlib.Core.Path.{◌≡◌, refl, sym, ap, ◌∙◌}
use mathlib.Core.Bool.{true}
use mathlib.Core.List.{List, ◌++◌, append_assoc}
use mathlib.Core.Logic.{by_cases}
use Prim.Native.Nat.{ℕ, suc, ◌+◌, ◌-◌, ◌*◌, ◌/◌, ◌%◌, ◌≤◌, ◌<◌}
use native.Mathlib.Nat.{mul-le-mul, mul_comm, le_refl}
use native.Mathlib.Decide.{ℕ_discrete}
use native.Mathlib.Omega.{arith}
use lib.Dec.{leb, eqb}
use lib.IntN.{ℤ, pos, neg_ℤ, nat_abs, ◌+ℤ◌, +ℤ_assoc, +ℤ_invl, +ℤ_idl}
use lib.ListN.{length, drop}
use lib.Seq.{drop-drop, drop-append_seam}
use borrow.Author.Tests.{leb-true}
use Rattle.lists.proofs.Truth.{and_left}
use Rattle.text.specs.Decimal.{decimal, run}
use Rattle.text.specs.Signed.{signed}
use Rattle.text.specs.Words.{stands}
use Rattle.text.proofs.Stands.{stands-front}
use Rattle.gerber.specs.File.{bytes, first_number, millimetres, aperture_line, select_line, flash_line, centre, pitch_in_range, pitch_fits}
use Rattle.gerber.specs.declared.sizes.Size.{Size}
use Rattle.gerber.proofs.Apart.{parted, number-apart, length-apart, coordinate_apart}

-- past a line
pub passed : (t : List ℕ) (i : ℕ) (w rest : List ℕ) → drop i t ≡ w ++ rest → drop (i + length w) t ≡ rest
passed t i w rest e = sym (drop-drop (length w) i t) ∙ ap (drop (length w)) e ∙ drop-append_seam w rest

-- another word at the spot of a line
also : (t : List ℕ) (i : ℕ) (v w rest : List ℕ) → stands t i v ≡ true → drop i t ≡ w ++ rest → v ++ drop (i + length v) t ≡ w ++ rest
also t i v w rest s e = sym (stands-front t i v s) ∙ e

pub least_pitch : (pitch : ℕ) → pitch_fits pitch ≡ true → 2 ≤ pitch
least_pitch pitch t = leb-true 2 pitch (and_left (leb 2 pitch) (leb pitch 1000000) (and_left (pitch_in_range pitch) (eqb (pitch % 2) 0) t))

-- equal products with one positive factor
times-apart : (p m n : ℕ) → 1 ≤ p → m * p ≡ n * p → m ≡ n
times-apart p m n h e =
    by_cases (ℕ_discrete m n)
    (λ d. d)
    (λ d. absurd (differ d))
  where
    less : (a b : ℕ) → a < b → a * p ≡ b * p → ⊥
    less a b l e =
        let u : suc a * p ≤ b * p = mul-le-mul (omega arith) (le_refl p) in
        let v : suc a * p ≡ p + a * p = omega arith in
        omega arith

    differ : (m ≡ n → ⊥) → ⊥
    differ d = by_cases (ℕ_discrete (m - n) 0) (λ z. less m n (omega arith) e) (λ z. less n m (omega arith) (sym e))

-- an aperture line's size
abbrev sides_behind : ℕ → Size → List ℕ → List ℕ
sides_behind pitch y p = bytes "R," ++ (millimetres (y.wide * pitch) ++ (bytes "X" ++ (millimetres (y.high * pitch) ++ (bytes "*%\n" ++ p))))

aperture_opened : (pitch k : ℕ) (y : Size) (p : List ℕ) → aperture_line pitch k y ++ p ≡ bytes "%ADD" ++ (decimal (first_number + k) ++ sides_behind pitch y p)
unfolding aperture_line
aperture_opened pitch k y p =
    ap (bytes "%ADD" ++◌)
    (append_assoc (decimal (first_number + k)) (bytes "R," ++ (millimetres (y.wide * pitch) ++ (bytes "X" ++ (millimetres (y.high * pitch) ++ bytes "*%\n")))) p
    ∙ ap (λ (l : List ℕ). decimal (first_number + k) ++ (bytes "R," ++ l))
    (append_assoc (millimetres (y.wide * pitch)) (bytes "X" ++ (millimetres (y.high * pitch) ++ bytes "*%\n")) p
    ∙ ap (λ (l : List ℕ). millimetres (y.wide * pitch) ++ (bytes "X" ++ l)) (append_assoc (millimetres (y.high * pitch)) (bytes "*%\n") p)))

sides_apart : (pitch : ℕ) (y z : Size) (p q : List ℕ) → 1 ≤ pitch → sides_behind pitch y p ≡ sides_behind pitch z q → y ≡ z
sides_apart pitch y z p q h e =
    let a = length-apart (y.wide * pitch) (z.wide * pitch) (bytes "X" ++ (millimetres (y.high * pitch) ++ (bytes "*%\n" ++ p)))
    (bytes "X" ++ (millimetres (z.high * pitch) ++ (bytes "*%\n" ++ q))) (ap (drop 2) e) in
    let b = length-apart (y.high * pitch) (z.high * pitch) (bytes "*%\n" ++ p) (bytes "*%\n" ++ q) (ap (drop 1) a.1) in
    let w = times-apart pitch y.wide z.wide h a.0 in
    let r = times-apart pitch y.high z.high h b.0 in
    (λ j. record { wide = w j; high = r j })

apertures-apart : (pitch k : ℕ) (y z : Size) (p q : List ℕ) → 1 ≤ pitch → aperture_line pitch k y ++ p ≡ aperture_line pitch k z ++ q → y ≡ z
apertures-apart pitch k y z p q h e =
    let f : decimal (first_number + k) ++ sides_behind pitch y p ≡ decimal (first_number + k) ++ sides_behind pitch z q =
    ap (drop 4) (sym (aperture_opened pitch k y p) ∙ e ∙ aperture_opened pitch k z q) in
    sides_apart pitch y z p q h (parted (decimal (first_number + k)) (decimal (first_number + k)) (sides_behind pitch y p) (sides_behind pitch z q) refl f).1

pub aperture_apart : (t : List ℕ) (i pitch k : ℕ) (y z : Size) (rest : List ℕ) → 1 ≤ pitch → drop i t ≡ aperture_line pitch k z ++ rest → stands t i (aperture_line pitch k y) ≡ true → y ≡ z
aperture_apart t i pitch k y z rest h e s = apertures-apart pitch k y z (drop (i + length (aperture_line pitch k y)) t) rest h (also t i (aperture_line pitch k y) (aperture_line pitch k z) rest s e)

-- a select's number
selects-apart : (j k : ℕ) (p q : List ℕ) → select_line j ++ p ≡ select_line k ++ q → j ≡ k
unfolding select_line run
selects-apart j k p q e =
    let f : decimal (first_number + j) ++ (bytes "*\n" ++ p) ≡ decimal (first_number + k) ++ (bytes "*\n" ++ q) = sym (append_assoc (decimal (first_number + j)) (bytes "*\n") p)
    ∙ ap (drop 1) e ∙ append_assoc (decimal (first_number + k)) (bytes "*\n") q in
    omega (arith, (number-apart (first_number + j) (first_number + k) (bytes "*\n" ++ p) (bytes "*\n" ++ q) refl refl f).0)

pub select_apart : (t : List ℕ) (i j k : ℕ) (rest : List ℕ) → drop i t ≡ select_line k ++ rest → stands t i (select_line j) ≡ true → j ≡ k
select_apart t i j k rest e s = selects-apart j k (drop (i + length (select_line j)) t) rest (also t i (select_line j) (select_line k) rest s e)

-- a flash's coordinates
abbrev upward_behind : ℤ → List ℕ → List ℕ
upward_behind y p = bytes "Y" ++ (signed y ++ (bytes "D03*\n" ++ p))

flash-opened : (x y : ℤ) (p : List ℕ) → flash_line x y ++ p ≡ bytes "X" ++ (signed x ++ upward_behind y p)
unfolding flash_line
flash-opened x y p =
    ap (bytes "X" ++◌)
    (append_assoc (signed x) (bytes "Y" ++ (signed y ++ bytes "D03*\n")) p
    ∙ ap (λ (l : List ℕ). signed x ++ (bytes "Y" ++ l)) (append_assoc (signed y) (bytes "D03*\n") p))

flashes-apart : (x y v w : ℤ) (p q : List ℕ) → flash_line x y ++ p ≡ flash_line v w ++ q → (x ≡ v) × (y ≡ w)
unfolding run
flashes-apart x y v w p q e =
    let a = coordinate_apart x v (upward_behind y p) (upward_behind w q) refl refl (ap (drop 1) (sym (flash-opened x y p) ∙ e ∙ flash-opened v w q)) in
    let b = coordinate_apart y w (bytes "D03*\n" ++ p) (bytes "D03*\n" ++ q) refl refl (ap (drop 1) a.1) in
    (a.0, b.0)

pub flash-apart : (t : List ℕ) (i : ℕ) (x y v w : ℤ) (rest : List ℕ) → drop i t ≡ flash_line v w ++ rest → stands t i (flash_line x y) ≡ true → (x ≡ v) × (y ≡ w)
flash-apart t i x y v w rest e s = flashes-apart x y v w (drop (i + length (flash_line x y)) t) rest (also t i (flash_line x y) (flash_line v w) rest s e)

-- a centre's square, for a side of so many squares
sum-apart : (o : ℤ) (m n : ℕ) → o +ℤ pos m ≡ o +ℤ pos n → m ≡ n
sum-apart o m n e = ap nat_abs (sym (back m) ∙ ap (neg_ℤ o +ℤ◌) e ∙ back n)
  where
    back : (m : ℕ) → neg_ℤ o +ℤ (o +ℤ pos m) ≡ pos m
    back m = sym (+ℤ_assoc (neg_ℤ o) o (pos m)) ∙ ap (◌+ℤ pos m) (+ℤ_invl o) ∙ +ℤ_idl (pos m)

pub centre-apart : (pitch : ℕ) (o : ℤ) (a b n : ℕ) → 2 ≤ pitch → 1 ≤ n → centre pitch o a (a + n - 1) ≡ centre pitch o b (b + n - 1) → a ≡ b
unfolding centre
centre-apart pitch o a b n h l e =
    let m : pitch / 2 * (a + suc (a + n - 1)) ≡ pitch / 2 * (b + suc (b + n - 1)) = sum-apart o (pitch / 2 * (a + suc (a + n - 1))) (pitch / 2 * (b + suc (b + n - 1))) e in
    let f : (a + suc (a + n - 1)) * (pitch / 2) ≡ (b + suc (b + n - 1)) * (pitch / 2) = mul_comm (a + suc (a + n - 1)) (pitch / 2) ∙ m ∙ mul_comm (pitch / 2) (b + suc (b + n - 1)) in
    let g : a + suc (a + n - 1) ≡ b + suc (b + n - 1) = times-apart (pitch / 2) (a + suc (a + n - 1)) (b + suc (b + n - 1)) (omega arith) f in
    omega arith
