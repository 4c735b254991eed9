-- `misfit` meets its contract: the tests one after the other.
use Rattle.std.proofs.Common.{arith}
use borrow.Author.Tests.{eq-eqb, ne_eqb}
use Rattle.columns.proofs.checks.misfit.Goals as goal

pub returns-then-byte-eq0 : goal.returns-then-byte-eq0
returns-then-byte-eq0 c = (rw (eq-eqb _ _ c.if-byte-eq0.true), omega arith)

pub returns-then-byte-ne1 : goal.returns-then-byte-ne1
returns-then-byte-ne1 c = (rw (ne_eqb _ _ c.if-byte-eq0.false, ne_eqb _ _ c.if-byte-ne1.true), omega arith)

pub returns-then-end-eq0 : goal.returns-then-end-eq0
returns-then-end-eq0 c = (rw (ne_eqb _ _ c.if-byte-eq0.false, eq-eqb _ _ c.if-byte-ne1.false, eq-eqb _ _ c.if-end-eq0.true), omega arith)

pub returns-then-end-y : goal.returns-then-end-y
returns-then-end-y c = (rw (ne_eqb _ _ c.if-byte-eq0.false, eq-eqb _ _ c.if-byte-ne1.false, ne_eqb _ _ c.if-end-eq0.false, eq-eqb _ _ c.if-end-y.true), omega arith)

pub returns : goal.returns
returns c = (rw (ne_eqb _ _ c.if-byte-eq0.false, eq-eqb _ _ c.if-byte-ne1.false, ne_eqb _ _ c.if-end-eq0.false, ne_eqb _ _ c.if-end-y.false), omega arith)
