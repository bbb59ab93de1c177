use Rattle.std.proofs.Common.{◌≡◌, ℕ, ◌<◌, ◌≤◌, length, get_or, take, drop, None}
use Rattle.std.specs.Slice.Iter.{iter_rest}
use Rattle.machine.specs.Facts.{row_of}
use Rattle.theory.specs.Ports.{below_from}
use Rattle.machine.proofs.tables.below_rows.Given as goal

-- the rows that are not left are below their premises
abbrev pub invariant-loop-r : goal.invariant-loop-r
invariant-loop-r l = record {
  size : length l.below ≡ 128;
  from : l.r-iterator.iter.count ≡ 0;
  few : length (iter_rest l.r-iterator.iter.iter) ≤ length l.rows;
  left : iter_rest l.r-iterator.iter.iter ≡ take (length (iter_rest l.r-iterator.iter.iter)) l.rows;
  under : (q : ℕ) → q < 128 → get_or l.below q None ≡ row_of (length l.rows) (below_from (length (iter_rest l.r-iterator.iter.iter)) (drop (length (iter_rest l.r-iterator.iter.iter)) l.rows) q);
}
