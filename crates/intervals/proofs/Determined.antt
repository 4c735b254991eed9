-- Every public function's contract determines its outcome: no second result fits, and no second table.
-- Each `ensures` is an equation of the result, or of the table as it is left, with a definition, or says of every bit of a word whether it is on.
use denote.Param.Laws.{Laws}
use denote.RattleType.{RattleType}
use mir.Syntax.{Dict}
use mathlib.Core.Path.{◌≡◌, refl, sym, ◌∙◌}
use mathlib.Core.List.{List}
use Prim.Native.Nat.{ℕ}
use Rattle.grid.specs.declared.lines.Line.{Line}
use Rattle.grid.proofs.Outcome.{Determined}
use Rattle.words.proofs.Words.{bits_determine}
use Rattle.intervals.specs.declared.Table.{Table}
use Rattle.intervals.specs.declared.final_set.Search.{Ghosts}
use Rattle.intervals.proofs.SameTables.{same-table}
use Rattle.intervals.proofs.Table.empty
use Rattle.intervals.proofs.Table.has
use Rattle.intervals.proofs.Table.put
use Rattle.intervals.proofs.Table.take
use Rattle.intervals.proofs.Table.row
use Rattle.intervals.proofs.Table.next_end
use Rattle.intervals.proofs.Table.begun_from
use Rattle.intervals.proofs.Table.cut
use Rattle.intervals.proofs.Table.ends_beyond
use Rattle.intervals.proofs.Table.size
use Rattle.intervals.proofs.Table.doubled
use Rattle.intervals.proofs.Table.held
use Rattle.intervals.proofs.Table.least
use Rattle.intervals.proofs.Table.strike
use Rattle.intervals.proofs.dependent.dependent
use Rattle.intervals.proofs.bracket.bracket_from
use Rattle.intervals.proofs.bracket.bracket
use Rattle.intervals.proofs.reduce.furthest
use Rattle.intervals.proofs.reduce.reduce
use Rattle.intervals.proofs.final_set.note_bracket
use Rattle.intervals.proofs.final_set.final_set
use Rattle.intervals.proofs.final_set.Search.finish
use Rattle.intervals.proofs.final_set.finish_unnoted
use Rattle.intervals.proofs.final_set.final_copy
use Rattle.intervals.proofs.sweep.final_set_swept

-- one table left, by its rows and its last line
one : (x y : Table) {t : List ℕ} {l : Line} → (x.rows ≡ t) × (x.last ≡ l) → (y.rows ≡ t) × (y.last ≡ l) → x ≡ y
one x y p q = same-table x y (p.0 ∙ sym q.0) (p.1 ∙ sym q.1)

pub empty-determined : Determined empty.Kinds.ps empty.Kinds.r empty.Reads.Pre empty.Reads.Post
empty-determined κs a pre x y v w p q = (one x y p q, refl)

pub has-determined : Determined has.Kinds.ps has.Kinds.r has.Reads.Pre has.Reads.Post
has-determined κs a pre x y v w p q = (p ∙ sym q, refl)

pub put_determined : Determined put.Kinds.ps put.Kinds.r put.Reads.Pre put.Reads.Post
put_determined κs a pre x y v w p q = (refl, λ i. (one v.0 w.0 p q i, v.1))

pub take-determined : Determined take.Kinds.ps take.Kinds.r take.Reads.Pre take.Reads.Post
take-determined κs a pre x y v w p q = (refl, λ i. (one v.0 w.0 p q i, v.1))

pub row-determined : Determined row.Kinds.ps row.Kinds.r row.Reads.Pre row.Reads.Post
row-determined κs a pre x y v w p q = (p ∙ sym q, refl)

pub next-end-determined : Determined next_end.Kinds.ps next_end.Kinds.r next_end.Reads.Pre next_end.Reads.Post
next-end-determined κs a pre x y v w p q = (p ∙ sym q, refl)

pub begun-from-determined : Determined begun_from.Kinds.ps begun_from.Kinds.r begun_from.Reads.Pre begun_from.Reads.Post
begun-from-determined κs a pre x y v w p q = (p ∙ sym q, refl)

pub cut-determined : Determined cut.Kinds.ps cut.Kinds.r cut.Reads.Pre cut.Reads.Post
cut-determined κs a pre x y v w p q = (refl, λ i. (one v.0 w.0 p q i, v.1))

pub ends-beyond-determined : Determined ends_beyond.Kinds.ps ends_beyond.Kinds.r ends_beyond.Reads.Pre ends_beyond.Reads.Post
ends-beyond-determined κs a pre x y v w p q = (p ∙ sym q, refl)

pub size_determined : Determined size.Kinds.ps size.Kinds.r size.Reads.Pre size.Reads.Post
size_determined κs a pre x y v w p q = (p ∙ sym q, refl)

pub doubled_determined : Determined doubled.Kinds.ps doubled.Kinds.r doubled.Reads.Pre doubled.Reads.Post
doubled_determined κs a pre x y v w p q = (bits_determine x y p q, refl)

pub held-determined : Determined held.Kinds.ps held.Kinds.r held.Reads.Pre held.Reads.Post
held-determined κs a pre x y v w p q = (p ∙ sym q, refl)

pub least-determined : Determined least.Kinds.ps least.Kinds.r least.Reads.Pre least.Reads.Post
least-determined κs a pre x y v w p q = (p ∙ sym q, refl)

pub strike-determined : Determined strike.Kinds.ps strike.Kinds.r strike.Reads.Pre strike.Reads.Post
strike-determined κs a pre x y v w p q = (refl, λ i. (one v.0 w.0 p q i, v.1))

pub dependent-determined : Determined dependent.Kinds.ps dependent.Kinds.r dependent.Reads.Pre dependent.Reads.Post
dependent-determined κs a pre x y v w p q = (p ∙ sym q, refl)

pub bracket_from-determined : Determined bracket_from.Kinds.ps bracket_from.Kinds.r bracket_from.Reads.Pre bracket_from.Reads.Post
bracket_from-determined κs a pre x y v w p q = (p ∙ sym q, refl)

pub bracket_determined : Determined bracket.Kinds.ps bracket.Kinds.r bracket.Reads.Pre bracket.Reads.Post
bracket_determined κs a pre x y v w p q = (p ∙ sym q, refl)

pub furthest_determined : Determined furthest.Kinds.ps furthest.Kinds.r furthest.Reads.Pre furthest.Reads.Post
furthest_determined κs a pre x y v w p q = (p ∙ sym q, refl)

pub reduce-determined : Determined reduce.Kinds.ps reduce.Kinds.r reduce.Reads.Pre reduce.Reads.Post
reduce-determined κs a pre x y v w p q = (refl, λ i. (one v.0 w.0 p q i, v.1))

pub note_bracket_determined : Determined note_bracket.Kinds.ps note_bracket.Kinds.r note_bracket.Reads.Pre note_bracket.Reads.Post
note_bracket_determined κs a pre x y v w p q = (refl, λ i. ((p ∙ sym q) i, v.1))

-- the final sets: the set, the count, and every byte of the room
pub final-set-determined : Determined final_set.Kinds.ps final_set.Kinds.r final_set.Reads.Pre final_set.Reads.Post
final-set-determined κs a pre x y v w p q =
    let s = one v.0 w.0 (p.0.set, p.1) (q.0.set, q.1) in
    let r = p.0.noted ∙ sym q.0.noted in
    (p.0.counted ∙ sym q.0.counted, λ i. (s i, (r i, tt)))

pub final-set_swept_determined : Determined final_set_swept.Kinds.ps final_set_swept.Kinds.r final_set_swept.Reads.Pre final_set_swept.Reads.Post
final-set_swept_determined κs a pre x y v w p q =
    let s = one v.0 w.0 (p.0.set, p.1) (q.0.set, q.1) in
    let r = p.0.noted ∙ sym q.0.noted in
    (p.0.counted ∙ sym q.0.counted, λ i. (s i, (r i, tt)))

-- by whichever search
module _ (T : RattleType) (L : Laws T) (S : Ghosts T.Denot) (d : Dict) where
  pub finish-determined : Determined (finish.Kinds.ps T L) (finish.Kinds.r T L) (finish.Reads.Pre T L S d) (finish.Reads.Post T L S d)
  finish-determined κs a pre x y v w p q =
      let s = one v.0 w.0 (p.0.set, p.1) (q.0.set, q.1) in
      let r = p.0.noted ∙ sym q.0.noted in
      (p.0.counted ∙ sym q.0.counted, λ i. (s i, (r i, tt)))

  pub finish_unnoted-determined : Determined (finish_unnoted.Kinds.ps T L) (finish_unnoted.Kinds.r T L) (finish_unnoted.Reads.Pre T L S d) (finish_unnoted.Reads.Post T L S d)
  finish_unnoted-determined κs a pre x y v w p q = (refl, λ i. (one v.0 w.0 p q i, v.1))

  pub final_copy_determined : Determined (final_copy.Kinds.ps T L) (final_copy.Kinds.r T L) (final_copy.Reads.Pre T L S d) (final_copy.Reads.Post T L S d)
  final_copy_determined κs a pre x y v w p q = (one x y p q, refl)
