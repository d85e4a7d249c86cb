-- To be believed: the faults of a readings file, at a row and a column or at none.
use Rattle.std.specs.Prelude.{ℕ}
use Rattle.series_rows.specs.declared.fault.TableCause.{TableCause}
use Rattle.series_rows.specs.declared.fault.TableCause.TheVariants.{Memory}
use Rattle.series_rows.specs.declared.fault.TableFault.{TableFault}

-- a fault at a row and a column, both counted from 1; the header is row 0, and column 0 is none
abbrev pub fault_at : ℕ → ℕ → TableCause → TableFault
fault_at row col cause = record { cause = cause; row = row; col = col }

-- a fault of no row and no column
abbrev pub of_the_file : TableCause → TableFault
of_the_file cause = fault_at 0 0 cause

-- want of memory, wherever it came from
abbrev pub of_memory : TableFault
of_memory = of_the_file Memory
