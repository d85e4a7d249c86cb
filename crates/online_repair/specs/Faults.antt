-- To be believed: the refusal of a readings file as one of the online repair.
use Rattle.series_rows.specs.declared.fault.TableCause.{TableCause}
use Rattle.series_rows.specs.declared.fault.TableCause.TheVariants as cause
use Rattle.series_rows.specs.declared.fault.TableFault.{TableFault}
use Rattle.online_repair.specs.declared.fault.OnlineFault.{OnlineFault}
use Rattle.online_repair.specs.declared.fault.OnlineFault.TheVariants.{Memory, Table}

-- want of memory stands by itself
abbrev pub fault_by : TableFault → TableCause → OnlineFault
fault_by fault cause.Memory = Memory
fault_by fault other = Table fault

abbrev pub fault_of : TableFault → OnlineFault
fault_of fault = fault_by fault fault.cause
