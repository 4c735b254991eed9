-- The set that a table holds, as clauses name it.
use Rattle.std.specs.Prelude.{List}
use Rattle.method.specs.Intervals.{Interval as Span}
use Rattle.intervals.specs.Table.{set_of}
use Rattle.intervals.specs.declared.Table.{Table}

abbrev pub spans : Table → List Span
spans t = set_of t.last.0 t.rows
