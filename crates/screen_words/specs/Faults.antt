-- To be believed: how a command ends at each fault of its steps.
use Rattle.bound_maker.specs.declared.maker.MakeFault.{MakeFault}
use Rattle.bound_maker.specs.declared.maker.MakeFault.TheVariants as make
use Rattle.cert_check.specs.declared.fault.CertFault.{CertFault}
use Rattle.cert_check.specs.declared.fault.CertFault.TheVariants.{FileTooLong}
use Rattle.global_repair.specs.declared.fault.RepairFault.{RepairFault}
use Rattle.global_repair.specs.declared.fault.RepairFault.TheVariants as repair
use Rattle.online_repair.specs.declared.fault.OnlineFault.{OnlineFault}
use Rattle.online_repair.specs.declared.fault.OnlineFault.TheVariants as online
use Rattle.rule_file.specs.Fault.{of_the_file as of_the_rules}
use Rattle.rule_file.specs.declared.fault.RuleCause.TheVariants as rules
use Rattle.rule_file.specs.declared.fault.RuleFault.{RuleFault}
use Rattle.series_rows.specs.Faults.{of_the_file as of_the_readings}
use Rattle.series_rows.specs.declared.fault.TableFault.{TableFault}
use Rattle.series_rows.specs.declared.fault.TableCause.TheVariants as readings
use Rattle.screen_words.specs.declared.status.Ending.{Ending}
use Rattle.screen_words.specs.declared.status.Ending.TheVariants as ending
use Rattle.screen_words.specs.declared.status.Outcome.TheVariants.{RulesRefused, NotOnline, ReadingsRefused, TooManyBounds, WindowFull, NoWholeStep, LeavesRange, CertRefused}
use Rattle.screen_words.specs.declared.step.StepFault.{StepFault}
use Rattle.screen_words.specs.declared.step.StepFault.TheVariants.{TooLong, Refused, Failed, Memory}

-- how a command ends at a fault of its rules
abbrev pub rules_ending : StepFault RuleFault → Ending
rules_ending TooLong = ending.Ended (RulesRefused (of_the_rules rules.FileTooLong))
rules_ending (Refused fault) = ending.Ended (RulesRefused fault)
rules_ending Failed = ending.ReadFault
rules_ending Memory = ending.Memory

-- at a fault of its readings
abbrev pub readings_ending : StepFault TableFault → Ending
readings_ending TooLong = ending.Ended (ReadingsRefused (of_the_readings readings.FileTooLong))
readings_ending (Refused fault) = ending.Ended (ReadingsRefused fault)
readings_ending Failed = ending.ReadFault
readings_ending Memory = ending.Memory

-- at a fault of its certificate
abbrev pub cert_ending : StepFault CertFault → Ending
cert_ending TooLong = ending.Ended (CertRefused FileTooLong)
cert_ending (Refused fault) = ending.Ended (CertRefused fault)
cert_ending Failed = ending.ReadFault
cert_ending Memory = ending.Memory

-- at a fault of the bounds
abbrev pub make_ending : MakeFault → Ending
make_ending make.TooManyBounds = ending.Ended TooManyBounds
make_ending make.Memory = ending.Memory

-- at a fault of the repair of a table
abbrev pub repair_ending : RepairFault → Ending
repair_ending repair.TooManyBounds = ending.Ended TooManyBounds
repair_ending repair.Memory = ending.Memory

-- at a refusal of the repair of a stream
abbrev pub online_ending : OnlineFault → Ending
online_ending (online.NotOnline rule) = ending.Ended (NotOnline rule)
online_ending (online.Table fault) = ending.Ended (ReadingsRefused fault)
online_ending (online.WindowFull row) = ending.Ended (WindowFull row)
online_ending (online.NoWholeStep row col) = ending.Ended (NoWholeStep row col)
online_ending (online.LeavesRange row col) = ending.Ended (LeavesRange row col)
online_ending online.Memory = ending.Memory
