-- The words of a row's line one after the other: each is written where the one before ended, and together they are the line.
use Rattle.std.proofs.Common.{arith}
use mathlib.Core.List.{List, [], ◌∷◌, ◌++◌, map}
use Prim.Native.Nat.{ℕ}
use lib.ListN.{length-append}
use Rattle.text.specs.Words.{tab, feed, glyph}
use Rattle.text.specs.Decimal.{field}
use Rattle.grid.proofs.Writing.{then-written}
use Rattle.std.proofs.lemmas.List.{length-map}
use Rattle.job.specs.JobText.{row_word, row_head, row_line}
use Rattle.job.proofs.Lengths.{length-head, length-row}
use Rattle.job.proofs.write.put_row.Goals as goal

pub put_bytes-first-requires : goal.put_bytes-first-requires
put_bytes-first-requires c = let a = c.args in
    omega (arith, length-row a.row.0 a.squares.now, length-head a.row.0)

pub put_field-second-requires : goal.put_field-second-requires
put_field-second-requires c = let a = c.args in
    omega (arith, length-row a.row.0 a.squares.now, length-head a.row.0)

pub put_byte-body-requires : goal.put_byte-body-requires
put_byte-body-requires c = let a = c.args in
    omega (arith, length-row a.row.0 a.squares.now, length-head a.row.0)

pub put_body-end-requires : goal.put_body-end-requires
put_body-end-requires c = let a = c.args in
    omega (arith, length-row a.row.0 a.squares.now, length-head a.row.0)

pub put_byte-requires : goal.put_byte-requires
put_byte-requires c = let a = c.args in
    omega (arith, length-row a.row.0 a.squares.now, length-head a.row.0, length-map a.squares.now glyph)

pub returns : goal.returns
unfolding row_line row_head
returns c = let a = c.args in
    let squares : List ℕ = a.squares.now in
    let end : List ℕ = feed ∷ [] in
    let part : List ℕ = tab ∷ [] in
    let fits = c.requires in
    let l = length-row a.row.0 squares in
    let h = length-head a.row.0 in
    let m = length-map squares glyph in
    let x = length-append (field a.row.0) part in
    let y = length-append (map glyph squares) end in
    let p1 = c.put_bytes-first.ensures.past in
    let p2 = c.put_field-second.ensures.past in
    let p3 = c.put_byte-body.ensures.past in
    let k1 = c.put_bytes-first.auto.room in
    let k2 = c.put_field-second.auto.room in
    let k3 = c.put_byte-body.auto.room in
    then-written a.room.now a.spot (row_word ++ (field a.row.0 ++ part)) (map glyph squares ++ end) (omega arith)
    (then-written a.room.now a.spot row_word (field a.row.0 ++ part) (omega arith) c.put_bytes-first.ensures
    (then-written c.put_bytes-first.new.room c.put_bytes-first.result (field a.row.0) part (omega arith) c.put_field-second.ensures c.put_byte-body.ensures))
    (then-written c.put_byte-body.new.room c.put_byte-body.result (map glyph squares) end (omega arith) c.put_body-end.ensures c.put_byte.ensures)
