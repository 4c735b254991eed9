-- A list noted in a room, and read back.
use mathlib.Core.Path.{◌≡◌, refl, ap, ap₂, ◌∙◌}
use mathlib.Core.List.{List, [], ◌∷◌, ◌++◌, map}
use Prim.Native.Nat.{ℕ, suc, ◌+◌, ◌-◌, ◌*◌}
use native.Mathlib.Omega.{arith}
use lib.ListN.{length, get_or, drop}
use Rattle.lists.specs.Lists.{gather, from}
use Rattle.lists.proofs.Maps.{map-map, map_same, from_shift}
use Rattle.method.specs.Intervals.{Interval as Span}
use Rattle.method.proofs.Lines.{interval_path}
use Rattle.grid.specs.Limits.{bracket_record}
use Rattle.grid.specs.Rooms.{written}
use Rattle.grid.proofs.Writing.{from_start}
use Rattle.intervals.specs.Finished.{bracket_bytes}
use Rattle.counts.specs.Spans.{span_in, spans_in}
use Rattle.counts.proofs.SpanLaws.{spans_next, spans_none}

pub bytes-length : (s : List Span) → length (gather bracket_bytes s) ≡ length s * bracket_record
bytes-length [] = refl
bytes-length (i ∷ s) = omega (arith, bytes-length s)

-- a list that was noted, read back
later : (x y : ℕ) (room : List ℕ) (k n : ℕ) → spans_in (x ∷ y ∷ room) (k + 1) (n + 1) ≡ spans_in room k n
unfolding spans_in
later x y room k n =
    let e : (n + 1) - (k + 1) ≡ n - k = omega arith in
    let f : k + 1 ≡ 1 + k = omega arith in
    ap₂ (λ u v. map (span_in (x ∷ y ∷ room)) (from u v)) f e
    ∙ ap (map (span_in (x ∷ y ∷ room))) (from_shift 1 k (n - k))
    ∙ map-map (span_in (x ∷ y ∷ room)) (λ r. 1 + r) (from k (n - k))
    ∙ map_same (λ r. span_in (x ∷ y ∷ room) (1 + r)) (span_in room) (from k (n - k))
    (λ r m.
    let a : (1 + r) * bracket_record ≡ suc (suc (r * bracket_record)) = omega arith in
    let b : (1 + r) * bracket_record + 1 ≡ suc (suc (r * bracket_record + 1)) = omega arith in
    interval_path (span_in (x ∷ y ∷ room) (1 + r)) (span_in room r) (ap (λ z. get_or (x ∷ y ∷ room) z 0) a) (ap (λ z. get_or (x ∷ y ∷ room) z 0) b))

bytes_read : (s : List Span) (more : List ℕ) → spans_in (gather bracket_bytes s ++ more) 0 (length s) ≡ s
bytes_read [] more = spans_none more 0 0 (omega arith)
bytes_read (i ∷ s) more =
    let e : suc (length s) ≡ length s + 1 = omega arith in
    let room = gather bracket_bytes s ++ more in
    ap (spans_in (i.left ∷ i.right ∷ room) 0) e
    ∙ spans_next (i.left ∷ i.right ∷ room) 0 (length s + 1) (omega arith)
    ∙ ap (λ (z : List Span). i ∷ z) (later i.left i.right room 0 (length s) ∙ bytes_read s more)

pub noted_read : (s : List Span) (room : List ℕ) {n : ℕ} {room' : List ℕ} → n ≡ length s → room' ≡ written room 0 (gather bracket_bytes s) → spans_in room' 0 n ≡ s
noted_read s room {n} {room'} e f =
    ap₂ (λ (z : List ℕ) k. spans_in z 0 k) (f ∙ from_start room (gather bracket_bytes s)) e
    ∙ bytes_read s (drop (length (gather bracket_bytes s)) room)
